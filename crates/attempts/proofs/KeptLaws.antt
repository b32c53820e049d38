-- A trial's plan is kept where the check calls it lawful and it drives less. Assumes nothing.
use Rattle.std.specs.Prelude.{if◌then◌else◌, Option, Some, None}
use Prim.Native.Nat.{ℕ, ◌≤◌, ◌<◌}
use mathlib.Core.Path.{◌≡◌, refl, sym, ap, ◌∙◌, subst}
use mathlib.Core.Bool.{Bool, true, false, ◌&&◌}
use mathlib.Core.List.{List, [], ◌∷◌}
use mathlib.Core.Logic.{inl, inr}
use mathlib.Core.Option.{none, some}
use native.Mathlib.Omega.{arith}
use lib.Dec.{ltb}
use lib.ListN.{length, length-append, get_or, take, drop}
use borrow.Author.Tests.{le-ltb, lt-ltb}
use Rattle.rules.specs.Answers.{given, refused, is_given}
use Rattle.rules.specs.Lists.{over}
use Rattle.rules.specs.Fields.{IsAccepted}
use Rattle.rules.specs.Plan.{Round, plan_words}
use Rattle.rules.specs.Lawful.{totals}
use Rattle.rules.specs.Check.{check_words, check_plan}
use Rattle.rules.specs.Build.{greedy_lefts}
use Rattle.rules.specs.Edits.{Trial}
use Rattle.rules.specs.Attempts.{tried, distance_of, is_lawful, kept_if, attempt}
use Rattle.laws.specs.Buffer.{Wrote}
use Rattle.laws.proofs.Buffer.{over_front}
use Rattle.laws.proofs.Decided.{known}
use Rattle.day.proofs.Ranges.{accepted_ranges}
use Rattle.plan_laws.proofs.Theorems.{told_totals}
use Rattle.trial_list.specs.Shapes.{Shaped}
use Rattle.trial_list.proofs.Shapes.{shaped_formed}
use Rattle.candidates.specs.Candidates.{SomeTrying, CandidatePlan, WritesCandidate}
use Rattle.candidates.proofs.NextRounds.{few_vehicles}
use Rattle.candidates.proofs.ShapeKept.{valid_shaped}
use Rattle.candidates.proofs.WrittenLaws.{ends_inside}
use Rattle.attempts.specs.Tries.{Made, SomeMade, TriedAs, LawfulBy, Judged}
use Rattle.tracks.specs.declared.plan_tables.Held.{Held}
use Rattle.tracks.specs.declared.plan_tables.Tables.{Tables}
use Rattle.attempts.proofs.ShorterLaws.{attempt_failed}

-- the answer's numbers
same_distance : {d e v u s w : ℕ} → ◌≡◌ {A = List ℕ} (given (d ∷ v ∷ s ∷ [])) (given (e ∷ u ∷ w ∷ [])) → d ≡ e
same_distance q = ap (λ (xs : List ℕ). get_or xs 1 0) q

refused_not : {n p d v s : ℕ} → ◌≡◌ {A = List ℕ} (refused n p) (given (d ∷ v ∷ s ∷ [])) → ⊥
refused_not q = let l : ◌≡◌ {A = ℕ} 2 4 = ap length q in omega (arith, l)

-- the check calls it lawful, by some distance, or not at all
module _ {day plan : List ℕ} {distance : ℕ} where
  pub judged_refused : {number place : ℕ} → refused number place ≡ check_words day plan → Judged day plan distance None
  judged_refused e = λ d w. absurd (refused_not (e ∙ w.answer))

-- a plan that the check calls lawful drives what its vehicles do
module _ (day : List ℕ) (ok : IsAccepted day) (q : List Round) (s : Shaped day q) where
  lawful_totals : is_given (check_words day (plan_words q (greedy_lefts day))) ≡ true → check_words day (plan_words q (greedy_lefts day)) ≡ given (totals day q)
  unfolding check_plan
  lawful_totals e =
      let t = told_totals day ok q (greedy_lefts day) (shaped_formed day q s ok) e in
      rw ok at t

  lawful_distance : {d : ℕ} → LawfulBy day (plan_words q (greedy_lefts day)) d → d ≡ distance_of day q
  unfolding totals distance_of
  lawful_distance w = same_distance (sym w.answer ∙ lawful_totals (ap is_given w.answer))

  is_lawful_lem : {d : ℕ} → LawfulBy day (plan_words q (greedy_lefts day)) d → is_lawful day (greedy_lefts day) q ≡ true
  unfolding is_lawful
  is_lawful_lem w = ap is_given w.answer

  lawful_by : is_lawful day (greedy_lefts day) q ≡ true → LawfulBy day (plan_words q (greedy_lefts day)) (distance_of day q)
  unfolding is_lawful totals distance_of
  lawful_by e = record { vehicles = _; served = _; answer = lawful_totals e }

and-false : {A : Type 0} (x y : A) (b : Bool) → (if b && false then x else y) ≡ y
and-false x y true = refl
and-false x y false = refl

-- the trial's plan is kept, or none is
module _ (day : List ℕ) (m : Trial) (rounds : List Round) {q : List Round} (ok : IsAccepted day) (s : Shaped day q) (e : tried day rounds m ≡ some q) where
  pub attempt_kept_is : {d : ℕ} → LawfulBy day (plan_words q (greedy_lefts day)) d → d < distance_of day rounds → attempt day (greedy_lefts day) rounds m ≡ some q
  unfolding attempt kept_if
  attempt_kept_is w l =
      let shorter : ltb (distance_of day q) (distance_of day rounds) ≡ true = lt-ltb (distance_of day q) (distance_of day rounds) (omega (arith, lawful_distance day ok q s w)) in
      rw (e, shorter, is_lawful_lem day ok q s w) refl

  pub attempt_none_is : ((d : ℕ) → LawfulBy day (plan_words q (greedy_lefts day)) d → distance_of day rounds ≤ d) → attempt day (greedy_lefts day) rounds m ≡ none
  unfolding attempt kept_if
  attempt_none_is h = elim (known (is_lawful day (greedy_lefts day) q)) [
    | inl y ↦
        let longer : ltb (distance_of day q) (distance_of day rounds) ≡ false = le-ltb (distance_of day q) (distance_of day rounds) (h (distance_of day q) (lawful_by day ok q s y)) in
        rw (e, longer) refl
    | inr n ↦ rw (e, n) (and-false _ _ (ltb (distance_of day q) (distance_of day rounds)))
  ]

-- what is written stands in the buffer
words_fit : {ws p part : List ℕ} {n : ℕ} → Wrote ws p part n → n ≤ length part
unfolding over
words_fit {ws} {p} w = omega (arith, w.count, ap length w.text, length-append ws (drop (length ws) p))

pub candidate_fits : {day plan : List ℕ} {tables : Tables} {m : Trial} {count distance : ℕ} {p part : List ℕ} {words : ℕ}
    → SomeMade day plan tables m count distance → WritesCandidate day plan tables.starts m count p part (Some words) → words ≤ length part
candidate_fits s f = words_fit (f s.rounds s.made.measured.trying s.made.counted).written.text

-- what the trial comes to
module _ {day plan : List ℕ} {tables : Tables} {m : Trial} {count distance : ℕ} {rounds : List Round}
    (h : Made day plan tables m count distance rounds) where
  pub made_fails : {p part : List ℕ} → WritesCandidate day plan tables.starts m count p part None → attempt day (greedy_lefts day) rounds m ≡ none
  made_fails f = attempt_failed day (greedy_lefts day) rounds m (f rounds h.measured.trying h.counted).written

module _ {day plan : List ℕ} {tables : Tables} {m : Trial} {count distance : ℕ} {rounds : List Round} (ok : IsAccepted day)
    (h : Made day plan tables m count distance rounds) where
  pub trying_made : SomeTrying day plan tables.starts m count
  trying_made =
      let t = h.measured.trying in
      record {
        rounds = rounds;
        trying = t;
        counted = h.counted;
        few = omega (arith, h.counted, few_vehicles t, (accepted_ranges day ok).stops_most);
        table = t.laid.starting.size;
        ends = ends_inside t h.counted;
      }

  -- by what the check says of the candidate
  module _ {p part : List ℕ} {n : ℕ} (f : WritesCandidate day plan tables.starts m count p part (Some n)) where
    abbrev words : List ℕ
    words = take n part

    candidate : CandidatePlan day m rounds p part n
    candidate = (f rounds h.measured.trying h.counted).written

    shaped : Shaped day candidate.q
    shaped = valid_shaped day rounds candidate.q m h.measured.trying.shaped h.measured.trying.valid candidate.is

    text : words ≡ plan_words candidate.q (greedy_lefts day)
    text = ap (take n) candidate.text.text ∙ over_front (plan_words candidate.q (greedy_lefts day)) _ n (sym candidate.text.count)

    size : length words ≡ n
    size = ap length text ∙ sym candidate.text.count

    pub tried_judged : (r : Option Held) → Judged day words distance r → TriedAs day m rounds part r
    tried_judged None j =
        attempt_none_is day m rounds ok shaped candidate.is (λ d y. omega (arith, h.drives, j d (subst (λ (x : List ℕ). LawfulBy day x d) (sym text) y)))
    tried_judged (Some held) j =
        let lawful = subst (λ (x : List ℕ). LawfulBy day x held.distance) text j.lawful in
        record {
          q = candidate.q;
          is = attempt_kept_is day m rounds ok shaped candidate.is lawful (omega (arith, h.drives, j.shorter));
          fits = omega (arith, j.words, size, words_fit candidate.text);
          text = ap (λ (k : ℕ). take k part) (j.words ∙ size) ∙ text;
          distance = lawful_distance day ok candidate.q shaped lawful;
        }
