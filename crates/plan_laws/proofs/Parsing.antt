-- A plan that the check answers has document 01's form, and each of its vehicles is clear by itself: the words are taken apart from the
-- front, vehicle by vehicle. Assumes nothing.
use Prim.Native.Nat.{ℕ, suc, ◌+◌, ◌≤◌, ◌<◌}
use mathlib.Core.Path.{◌≡◌, refl, sym, ap, ap₂, ◌∙◌}
use mathlib.Core.Bool.{Bool, true, false, not, ◌&&◌, false≢true}
use mathlib.Core.List.{List, [], ◌∷◌, ◌++◌, map}
use native.Mathlib.Omega.{arith}
use lib.ListN.{length}
use lib.Dec.{ltb, eqb}
use borrow.Author.Tests.{ltb-true, ltb-false, eqb-true}
use Rattle.rules.specs.Answers.{given}
use Rattle.rules.specs.Lists.{Every, unmet, Rising}
use Rattle.rules.specs.Fields.{tips, stops}
use Rattle.rules.specs.PlanWords.{Word, stop, tip, rest, back, left, back_word, left_word, word_of, read_plan}
use Rattle.rules.specs.Plan.{Task, serve, empty, lunch, Round, task_word, stops_on, Known, word_for}
use Rattle.rules.specs.Check.{within, well_formed, met_again, met_after, tally_after, Walk, walk_after, finished, check_from}
use Rattle.laws.specs.Lists.{collect, Fresh}
use Rattle.laws.proofs.Tests.{both_true, only_second}
use Rattle.plan_laws.specs.Vehicles.{CargoClear, TripClear, walk_tasks}
use Rattle.plan_words.proofs.WordForms.{back_form, left_form, Apart, is_vehicle, is_stop, is_tip, is_rest, is_back, is_left, is_stray, apart}
use Rattle.plan_laws.proofs.Passing.{Passes, answer_passes, given_not_refused, within_both}
use Rattle.plan_laws.proofs.RoundChecks.{task_form, task_new, task_visits}

-- what a test of a vehicle's word needs
pub inside_needed : (b t : Bool) → b ≡ false → (b && t) ≡ true → ⊥
inside_needed b t e q = false≢true (sym e ∙ (both_true b t q).0)

outside_needed : (b t : Bool) → b ≡ true → (not b && t) ≡ true → ⊥
outside_needed b t e q = false≢true (ap not (sym e) ∙ (both_true (not b) t q).0)

-- the rest of a vehicle's words
pub record InRound (day : List ℕ) (s : Walk) (ws answer : List ℕ) : Type 0 where
  pub tasks : Round
  pub behind : List ℕ
  pub text : read_plan ws ≡ read_plan (map task_word tasks ++ (back_word ∷ behind))
  pub known : Every (Known day) tasks
  pub fresh : Fresh s.met (stops_on tasks)
  pub cargo : CargoClear day s.cargo tasks
  pub trip : TripClear day s.trip tasks
  pub busy : 0 < s.cargo.visits + length (stops_on tasks)
  pub at : ℕ
  pub answered : check_from day behind at (walk_after day (walk_tasks day s tasks) back) ≡ answer

module _ (day : List ℕ) (a b c : ℕ) where
  abbrev answer : List ℕ
  answer = given (a ∷ b ∷ c ∷ [])

  -- a task, and the rest of the vehicle's words behind it
  task_first_lem : (w : ℕ) (ws : List ℕ) (s : Walk) (task : Task) → word_of w ≡ word_for task → Known day task → Passes day s (word_for task)
      → InRound day (walk_after day s (word_for task)) ws answer → InRound day s (w ∷ ws) answer
  unfolding Every CargoClear TripClear walk_tasks
  task_first_lem w ws s task x known p r =
      record {
        tasks = task ∷ r.tasks;
        behind = r.behind;
        text = ap₂ (λ (v : Word) (l : List Word). v ∷ l) (x ∙ sym (task_form day task known)) r.text;
        known = (known, r.known);
        fresh = (task_new s.met task r.tasks).1 (p.new, r.fresh);
        cargo = (p.cargo, r.cargo);
        trip = (p.trip, r.trip);
        busy = omega (arith, r.busy, task_visits day s task r.tasks);
        at = r.at;
        answered = r.answered;
      }

  -- one word inside a vehicle
  inside_word : (w : ℕ) (ws : List ℕ) (i : ℕ) (s : Walk) {u : Word} → Apart w u → s.tally.inside ≡ true → Passes day s u
      → check_from day ws (suc i) (walk_after day s u) ≡ answer
      → ((t : Walk) → t.tally.inside ≡ true → check_from day ws (suc i) t ≡ answer → InRound day t ws answer) → InRound day s (w ∷ ws) answer
  unfolding well_formed tally_after Every Known Fresh stops_on CargoClear TripClear walk_tasks
  inside_word w ws i s (is_vehicle k h d x) e p q next = absurd (outside_needed s.tally.inside _ e (both_true _ _ p.formed).0)
  inside_word w ws i s (is_stop k h d x) e p q next =
      let known = within_both (stops day) k (both_true s.tally.inside (within (stops day) k) p.formed).1 in
      task_first_lem w ws s (serve k) x known p (next (walk_after day s (stop k)) e q)
  inside_word w ws i s (is_tip k h d x) e p q next =
      let known = within_both (tips day) k (both_true s.tally.inside (within (tips day) k) p.formed).1 in
      task_first_lem w ws s (empty k) x known p (next (walk_after day s (tip k)) e q)
  inside_word w ws i s (is_rest d x) e p q next = task_first_lem w ws s lunch x tt p (next (walk_after day s rest) e q)
  inside_word w ws i s (is_back d x) e p q next =
      record {
        tasks = [];
        behind = ws;
        text = ap (λ (v : Word). v ∷ read_plan ws) (x ∙ sym back_form);
        known = tt;
        fresh = tt;
        cargo = p.cargo;
        trip = p.trip;
        busy = omega (arith, ltb-true 0 s.cargo.visits (both_true s.tally.inside (ltb 0 s.cargo.visits) p.formed).1);
        at = suc i;
        answered = q;
      }
  inside_word w ws i s (is_left k h d x) e p q next = absurd (outside_needed s.tally.inside _ e (both_true _ _ p.formed).0)
  inside_word w ws i s (is_stray x) e p q next = absurd (false≢true p.formed)

  pub inside_parse : (ws : List ℕ) (i : ℕ) (s : Walk) → s.tally.inside ≡ true → check_from day ws i s ≡ answer → InRound day s ws answer
  unfolding check_from finished
  inside_parse [] i s e q = absurd (given_not_refused (rw e at q))
  inside_parse (w ∷ ws) i s e q =
      let p = answer_passes day w ws i s q in
      inside_word w ws i s (apart w) e p.0 p.1 (λ t e' q'. inside_parse ws (suc i) t e' q')

  -- the F words
  pub record InLefts (s : Walk) (ws : List ℕ) : Type 0 where
    pub lefts : List ℕ
    pub text : read_plan ws ≡ read_plan (map left_word lefts)
    pub rising : Rising s.tally.last lefts
    pub others : Every (λ k. k ≤ stops day) lefts
    pub fresh : Fresh s.met lefts
    pub missing : unmet (stops day) (collect s.met lefts) ≡ 0

  -- the end of the plan: no stop is missing
  pub none_missing : (i : ℕ) (s : Walk) → s.tally.inside ≡ false → finished day i s ≡ answer → unmet (stops day) s.met ≡ 0
  unfolding finished
  none_missing i s e q =
      let none = (only_second (ltb 0 (unmet (stops day) s.met)) given_not_refused (rw e at q)).0 in
      omega (arith, ltb-false 0 (unmet (stops day) s.met) none)

  pub left_first : (w k : ℕ) (ws : List ℕ) (s : Walk) → word_of w ≡ word_of (left_word k) → Passes day s (left k) → InLefts (walk_after day s (left k)) ws → InLefts s (w ∷ ws)
  unfolding well_formed met_again met_after tally_after Every Fresh Rising collect
  left_first w k ws s x p r =
      let f = both_true (not s.tally.inside && within (stops day) k) (ltb s.tally.last k) p.formed in
      let number = both_true (not s.tally.inside) (within (stops day) k) f.0 in
      record {
        lefts = k ∷ r.lefts;
        text = ap₂ (λ (v : Word) (l : List Word). v ∷ l) x r.text;
        rising = (ltb-true _ _ f.1, r.rising);
        others = ((within_both (stops day) k number.1).1, r.others);
        fresh = (p.new, r.fresh);
        missing = r.missing;
      }

  -- behind an F word there are only F words
  left_word_lem : (w : ℕ) (ws : List ℕ) (s : Walk) {u : Word} → Apart w u → s.tally.inside ≡ false → 0 < s.tally.last → Passes day s u
      → ((t : Walk) → t.tally.inside ≡ false → 0 < t.tally.last → (t ≡ walk_after day s u) → InLefts t ws) → InLefts s (w ∷ ws)
  unfolding well_formed tally_after
  left_word_lem w ws s (is_vehicle k h d x) e l p next =
      let f = both_true (not s.tally.inside && eqb s.tally.last 0) (eqb k (s.tally.vehicles + 1)) p.formed in
      absurd (omega (arith, eqb-true s.tally.last 0 (both_true (not s.tally.inside) (eqb s.tally.last 0) f.0).1))
  left_word_lem w ws s (is_stop k h d x) e l p next = absurd (inside_needed s.tally.inside _ e p.formed)
  left_word_lem w ws s (is_tip k h d x) e l p next = absurd (inside_needed s.tally.inside _ e p.formed)
  left_word_lem w ws s (is_rest d x) e l p next = absurd (false≢true (sym e ∙ p.formed))
  left_word_lem w ws s (is_back d x) e l p next = absurd (inside_needed s.tally.inside _ e p.formed)
  left_word_lem w ws s (is_left k h d x) e l p next =
      let f = both_true (not s.tally.inside && within (stops day) k) (ltb s.tally.last k) p.formed in
      left_first w k ws s (x ∙ sym (left_form k h)) p (next (walk_after day s (left k)) e (omega (arith, ltb-true s.tally.last k f.1)) refl)
  left_word_lem w ws s (is_stray x) e l p next = absurd (false≢true p.formed)

  pub lefts_parse : (ws : List ℕ) (i : ℕ) (s : Walk) → s.tally.inside ≡ false → 0 < s.tally.last → check_from day ws i s ≡ answer → InLefts s ws
  unfolding check_from Every Fresh Rising collect
  lefts_parse [] i s e l q = record { lefts = []; text = refl; rising = tt; others = tt; fresh = tt; missing = none_missing i s e q }
  lefts_parse (w ∷ ws) i s e l q =
      let p = answer_passes day w ws i s q in
      left_word_lem w ws s (apart w) e l p.0 (λ t e' l' x. lefts_parse ws (suc i) t e' l' (rw x p.1))
