-- The whole plan taken apart: vehicles, then F words. Assumes nothing.
use Prim.Native.Nat.{ℕ, zero, suc, ◌+◌, ◌≤◌, ◌<◌}
use mathlib.Core.Path.{◌≡◌, refl, sym, ap, ap₂, ◌∙◌}
use mathlib.Core.Bool.{false, not, ◌&&◌, false≢true}
use mathlib.Core.List.{List, [], ◌∷◌, ◌++◌, map, append_assoc}
use native.Mathlib.Omega.{arith}
use lib.ListN.{length, length-append}
use lib.Dec.{ltb, eqb}
use borrow.Author.Tests.{ltb-true, eqb-true}
use Rattle.rules.specs.Answers.{given}
use Rattle.rules.specs.Lists.{Every, unmet, Rising}
use Rattle.rules.specs.Fields.{stops}
use Rattle.rules.specs.PlanWords.{Word, vehicle, left, vehicle_word, back_word, left_word, word_of, read_plan}
use Rattle.rules.specs.Plan.{Round, task_word, round_words, rounds_words, stops_on, stops_on_all, Known}
use Rattle.rules.specs.Cargo.{cargo_after}
use Rattle.rules.specs.Check.{within, well_formed, met_after, tally_after, Walk, walk_after, check_from}
use Rattle.laws.specs.Lists.{collect, Fresh}
use Rattle.laws.proofs.Fresh.{collect_append, fresh_append}
use Rattle.laws.proofs.Tests.{both_true}
use Rattle.plan_laws.specs.Vehicles.{Clear, walk_round}
use Rattle.plan_laws.proofs.Parsing.{inside_needed, InRound, inside_parse, InLefts, none_missing, left_first, lefts_parse}
use Rattle.plan_laws.proofs.Passing.{Passes, answer_passes}
use Rattle.plan_laws.proofs.RoundWalks.{after_round}
use Rattle.plan_laws.proofs.SameReading.{read_length, read_behind}
use Rattle.plan_words.proofs.WordForms.{vehicle_form, left_form, Apart, is_vehicle, is_stop, is_tip, is_rest, is_back, is_left, is_stray, apart}

-- the rest of a plan, where no vehicle is out and no stop was left out yet
pub record InPlan (day : List ℕ) (s : Walk) (ws : List ℕ) : Type 0 where
  pub rounds : List Round
  pub lefts : List ℕ
  pub text : read_plan ws ≡ read_plan (rounds_words s.tally.vehicles rounds ++ map left_word lefts)
  pub known : Every (Every (Known day)) rounds
  pub busy : Every (λ tasks. 0 < length (stops_on tasks)) rounds
  pub clear : Every (Clear day) rounds
  pub rising : Rising 0 lefts
  pub others : Every (λ k. k ≤ stops day) lefts
  pub fresh : Fresh s.met (stops_on_all rounds ++ lefts)
  pub missing : unmet (stops day) (collect s.met (stops_on_all rounds ++ lefts)) ≡ 0

module _ (day : List ℕ) (a b c : ℕ) where
  -- no vehicle: F words alone
  only_lefts : (ws : List ℕ) (s : Walk) → s.tally.last ≡ 0 → InLefts day a b c s ws → InPlan day s ws
  unfolding rounds_words stops_on_all Every
  only_lefts ws s l r =
      record {
        rounds = [];
        lefts = r.lefts;
        text = r.text;
        known = tt;
        busy = tt;
        clear = tt;
        rising = rw l at r.rising;
        others = r.others;
        fresh = r.fresh;
        missing = r.missing;
      }

  -- a vehicle, and what comes behind it
  vehicle_first : (w : ℕ) (ws : List ℕ) (s : Walk) → word_of w ≡ word_of (vehicle_word (suc s.tally.vehicles))
      → (r : InRound day (walk_after day s (vehicle (s.tally.vehicles + 1))) ws (given (a ∷ b ∷ c ∷ [])))
      → InPlan day (walk_round day s r.tasks) r.behind → InPlan day s (w ∷ ws)
  unfolding round_words rounds_words stops_on_all Every met_after cargo_after
  vehicle_first w ws s x r q =
      let f = after_round day s r.tasks in
      let tasks = r.tasks in
      let number : (walk_round day s tasks).tally.vehicles ≡ suc s.tally.vehicles = omega (arith, f.vehicles) in
      let others = rounds_words (suc s.tally.vehicles) q.rounds in
      let lefts = map left_word q.lefts in
      let behind : read_plan r.behind ≡ read_plan (others ++ lefts) = rw number at q.text in
      let words = map task_word tasks in
      let met : (walk_round day s tasks).met ≡ collect s.met (stops_on tasks) = f.met in
      record {
        rounds = tasks ∷ q.rounds;
        lefts = q.lefts;
        text =
            ap₂ (λ (v : Word) (l : List Word). v ∷ l) x
            (r.text
            ∙ read_behind words (back_word ∷ r.behind) (back_word ∷ (others ++ lefts)) (read_behind (back_word ∷ []) r.behind (others ++ lefts) behind)
            ∙ ap read_plan (sym (ap (λ (l : List ℕ). l ++ lefts) (append_assoc words (back_word ∷ []) others) ∙ append_assoc words (back_word ∷ others) lefts)));
        known = (r.known, q.known);
        busy = (omega (arith, r.busy), q.busy);
        clear = (record { cargo = r.cargo; trip = r.trip }, q.clear);
        rising = q.rising;
        others = q.others;
        fresh = rw append_assoc (fresh_append s.met (stops_on tasks) (stops_on_all q.rounds ++ q.lefts) r.fresh (rw met at q.fresh));
        missing = rw (append_assoc, collect_append) (rw met at q.missing);
      }

  -- one word where no vehicle is out
  outside_word : (w : ℕ) (ws : List ℕ) (i : ℕ) (s : Walk) {u : Word} → Apart w u → s.tally.inside ≡ false → s.tally.last ≡ 0 → Passes day s u
      → check_from day ws (suc i) (walk_after day s u) ≡ given (a ∷ b ∷ c ∷ [])
      → ((vs : List ℕ) (j : ℕ) (t : Walk) → length vs < length ws → t.tally.inside ≡ false → t.tally.last ≡ 0
      → check_from day vs j t ≡ given (a ∷ b ∷ c ∷ []) → InPlan day t vs)
      → InPlan day s (w ∷ ws)
  unfolding well_formed tally_after walk_round
  outside_word w ws i s (is_vehicle k h d x) e l p q next =
      let f = both_true (not s.tally.inside && eqb s.tally.last 0) (eqb k (s.tally.vehicles + 1)) p.formed in
      let number : k ≡ s.tally.vehicles + 1 = eqb-true _ _ f.1 in
      let s' = walk_after day s (vehicle (s.tally.vehicles + 1)) in
      let r = inside_parse day a b c ws (suc i) s' refl (rw number at q) in
      let g = after_round day s r.tasks in
      let all = map task_word r.tasks ++ (back_word ∷ r.behind) in
      let shorter : length r.behind < length ws = omega (arith, read_length ws all r.text, length-append (map task_word r.tasks) (back_word ∷ r.behind)) in
      let next-number : k ≡ suc s.tally.vehicles = omega arith in
      let first : word_of w ≡ word_of (vehicle_word (suc s.tally.vehicles)) = x ∙ sym (vehicle_form k h) ∙ ap (λ (j : ℕ). word_of (vehicle_word j)) next-number in
      vehicle_first w ws s first r (next r.behind r.at (walk_round day s r.tasks) shorter g.outside (g.last ∙ l) r.answered)
  outside_word w ws i s (is_stop k h d x) e l p q next = absurd (inside_needed s.tally.inside _ e p.formed)
  outside_word w ws i s (is_tip k h d x) e l p q next = absurd (inside_needed s.tally.inside _ e p.formed)
  outside_word w ws i s (is_rest d x) e l p q next = absurd (false≢true (sym e ∙ p.formed))
  outside_word w ws i s (is_back d x) e l p q next = absurd (inside_needed s.tally.inside _ e p.formed)
  outside_word w ws i s (is_left k h d x) e l p q next =
      let f = both_true (not s.tally.inside && within (stops day) k) (ltb s.tally.last k) p.formed in
      only_lefts (w ∷ ws) s l
      (left_first day a b c w k ws s (x ∙ sym (left_form k h)) p (lefts_parse day a b c ws (suc i) (walk_after day s (left k)) e (omega (arith, ltb-true s.tally.last k f.1)) q))
  outside_word w ws i s (is_stray x) e l p q next = absurd (false≢true p.formed)

  -- the next word, where what comes behind a vehicle can be taken apart
  outside_step : (ws : List ℕ) (i : ℕ) (s : Walk) → s.tally.inside ≡ false → s.tally.last ≡ 0 → check_from day ws i s ≡ given (a ∷ b ∷ c ∷ [])
      → ((vs : List ℕ) (j : ℕ) (t : Walk) → length vs < length ws → t.tally.inside ≡ false → t.tally.last ≡ 0
      → check_from day vs j t ≡ given (a ∷ b ∷ c ∷ []) → InPlan day t vs)
      → InPlan day s ws
  unfolding check_from Every Fresh Rising collect
  outside_step [] i s e l q next =
      only_lefts [] s l (record { lefts = []; text = refl; rising = tt; others = tt; fresh = tt; missing = none_missing day a b c i s e q })
  outside_step (w ∷ ws) i s e l q next =
      let p = answer_passes day w ws i s q in
      outside_word w ws i s (apart w) e l p.0 p.1 (λ vs j t h. next vs j t (omega arith))

  -- a plan of at most so many words
  outside_parse : (most : ℕ) (ws : List ℕ) (i : ℕ) (s : Walk) → length ws ≤ most → s.tally.inside ≡ false → s.tally.last ≡ 0
      → check_from day ws i s ≡ given (a ∷ b ∷ c ∷ []) → InPlan day s ws
  outside_parse zero ws i s m e l q = outside_step ws i s e l q (λ vs j t h. absurd (omega arith))
  outside_parse (suc most) ws i s m e l q = outside_step ws i s e l q (λ vs j t h. outside_parse most vs j t (omega arith))

  pub plan_parse : (ws : List ℕ) (i : ℕ) (s : Walk) → s.tally.inside ≡ false → s.tally.last ≡ 0
      → check_from day ws i s ≡ given (a ∷ b ∷ c ∷ []) → InPlan day s ws
  plan_parse ws i s = outside_parse (length ws) ws i s (omega arith)
