-- What the calls over the check rely on: what a refusal of the check tells, and that a vehicle's words lie within the plan.
-- Assumes nothing.
use Rattle.std.specs.Prelude.{if◌then◌else◌}
use Prim.Native.Nat.{ℕ, suc, ◌+◌, ◌-◌, ◌≤◌}
use mathlib.Core.Path.{◌≡◌, refl, sym, ap, ◌∙◌}
use mathlib.Core.Bool.{Bool, true, false, true≢false}
use mathlib.Core.List.{List, [], ◌∷◌}
use native.Mathlib.Omega.{arith}
use lib.ListN.{length, get_or, drop, take}
use borrow.Author.Tests.{ne_eqb}
use Rattle.rules.specs.Answers.{given, refused, is_given}
use Rattle.rules.specs.AnswerValues.{answer_values, place_values}
use Rattle.rules.specs.DayFile.{judge_day}
use Rattle.rules.specs.PlanWords.{word_of}
use Rattle.rules.specs.Check.{check_words, check_plan}
use Rattle.rules.specs.VehiclePlace.{is_vehicle, is_back, words_to_back, place_from, vehicle_place, vehicle_words}
use Rattle.rules.specs.SameRounds.{is_visit, counted, same_words, second_answer, same_rounds}
use Rattle.rules.specs.declared.answers.Answer.{Answer}
use Rattle.rules.specs.declared.answers.Answer.TheVariants as Answers
use Rattle.rules.specs.declared.answers.PlaceAnswer.{PlaceAnswer}
use Rattle.rules.specs.declared.answers.PlaceAnswer.TheVariants as Places
use Rattle.laws.proofs.Answering.{Answering, values, refusal, answering_if, refusal_told, refusal_not_given, values_told}
use Rattle.day.proofs.Answered.{day_judged}
use Rattle.plan_laws.proofs.LawfulIff.{words_checked}

-- a refusal's number is at least 1, and its place is small
check_refusal : (day plan : List ℕ) {k i : ℕ} → refused k i ≡ check_plan day plan → (1 ≤ k) × (i ≤ length day + length plan + 4096)
unfolding check_plan
check_refusal day plan {k} {i} e = go (is_given (judge_day day)) e
  where
    go : (b : Bool) → refused k i ≡ (if b then check_words day plan else judge_day day) → (1 ≤ k) × (i ≤ length day + length plan + 4096)
    go true q = let t = refusal_told (words_checked day plan) q in (t.0, omega (arith, t.1))
    go false q = let t = refusal_told (day_judged day) q in (t.0, omega (arith, t.1))

-- the check's answer in hand: lawful, or refused
module _ (day plan : List ℕ) {answer : Answer} (e : answer_values answer ≡ check_plan day plan) where
  lawful_given : {a b c : ℕ} → answer ≡ Answers.Lawful a b c → is_given (check_plan day plan) ≡ true
  lawful_given q = sym (ap is_given e) ∙ ap (λ (x : Answer). is_given (answer_values x)) q

  module _ {k i : ℕ} (q : answer ≡ Answers.Refused k i) where
    refused_is : refused k i ≡ check_plan day plan
    refused_is = sym (ap answer_values q) ∙ e

    refused_given : is_given (check_plan day plan) ≡ false
    refused_given = sym (ap is_given refused_is) ∙ ne_eqb k 0 (λ z. omega (arith, (check_refusal day plan refused_is).0))

    pub plan_numbered : 1 ≤ k
    plan_numbered = (check_refusal day plan refused_is).0

    pub place_small : i ≤ length day + length plan + 4096
    place_small = (check_refusal day plan refused_is).1

-- one vehicle: its words lie within the plan
back_most : (ws : List ℕ) → words_to_back ws ≤ length ws
unfolding words_to_back
back_most [] = omega arith
back_most (w ∷ ws) = go (is_back (word_of w)) (back_most ws)
  where
    go : (b : Bool) → words_to_back ws ≤ length ws → (if b then 1 else suc (words_to_back ws)) ≤ suc (length ws)
    go true h = omega arith
    go false h = omega arith

abbrev Part : ℕ → List ℕ → Type 0
Part most vs = get_or vs 0 0 + get_or vs 1 0 ≤ most

place_answering : (number most : ℕ) (ws : List ℕ) (i : ℕ) → i + length ws ≤ most → Answering (Part most) number (place_from number ws i)
unfolding place_from
place_answering number most [] i h = refusal 15 number (omega arith) (omega arith)
place_answering number most (w ∷ ws) i h =
    answering_if (is_vehicle number (word_of w)) (values (i ∷ words_to_back (w ∷ ws) ∷ []) (omega (arith, back_most (w ∷ ws))) (omega arith))
    (place_answering number most ws (suc i) (omega arith))

module _ (day plan : List ℕ) (number : ℕ) where
  -- where they stand: the plan is lawful, or refused
  module _ {answer : Answer} (e : answer_values answer ≡ check_plan day plan) where
    pub place_asked : {a b c : ℕ} {vs : List ℕ} → answer ≡ Answers.Lawful a b c → vs ≡ place_from number plan 0 → vs ≡ vehicle_place day plan number
    unfolding vehicle_place
    place_asked q p = rw (lawful_given day plan e q) p

    pub place_refused : {k i : ℕ} → answer ≡ Answers.Refused k i → refused k i ≡ vehicle_place day plan number
    unfolding vehicle_place
    place_refused q = rw (refused_given day plan e q) (refused_is day plan e q)

  found_within : {start count : ℕ} → given (start ∷ count ∷ []) ≡ vehicle_place day plan number → start + count ≤ length plan
  unfolding vehicle_place
  found_within {start} {count} e = go (is_given (check_plan day plan)) refl e
    where
      go : (b : Bool) → is_given (check_plan day plan) ≡ b → given (start ∷ count ∷ []) ≡ (if b then place_from number plan 0 else check_plan day plan)
          → start + count ≤ length plan
      go true x q = values_told (place_answering number (length plan) plan 0 (omega arith)) q
      go false x q = absurd (true≢false (ap is_given q ∙ x))

  none_given : {k i : ℕ} → refused k i ≡ vehicle_place day plan number → is_given (vehicle_place day plan number) ≡ false
  unfolding vehicle_place
  none_given {k} {i} e = go (is_given (check_plan day plan)) refl e
    where
      go : (b : Bool) → is_given (check_plan day plan) ≡ b → refused k i ≡ (if b then place_from number plan 0 else check_plan day plan)
          → is_given (if b then place_from number plan 0 else check_plan day plan) ≡ false
      go true x q = refusal_not_given (place_answering number (length plan) plan 0 (omega arith)) q
      go false x q = x

  -- the words themselves: those found, or none
  module _ {answer : PlaceAnswer} (e : place_values answer ≡ vehicle_place day plan number) where
    module _ {start count : ℕ} (q : answer ≡ Places.Found start count) where
      pub part_within : start + count ≤ length plan
      part_within = found_within (sym (ap place_values q) ∙ e)

      pub part_handed : take ((start + count) - start) (drop start plan) ≡ vehicle_words day plan number
      unfolding vehicle_words
      part_handed =
          let all : (start + count) - start ≡ count = omega arith in
          let is : given (start ∷ count ∷ []) ≡ vehicle_place day plan number = sym (ap place_values q) ∙ e in
          rw (all, ← is)

    pub part_empty : {k i : ℕ} → answer ≡ Places.Refused k i → [] ≡ vehicle_words day plan number
    unfolding vehicle_words
    part_empty q = rw (none_given (sym (ap place_values q) ∙ e))

-- same rounds: the second plan's answer, and the first's
module _ (day first second : List ℕ) where
  module _ {answer : Answer} (e : answer_values answer ≡ check_plan day second) where
    module _ {a b c : ℕ} (q : answer ≡ Answers.Lawful a b c) {t : Bool} (s : t ≡ same_words (counted is_visit first) (counted is_visit second)) where
      pub rounds_same : t ≡ true → given (1 ∷ []) ≡ second_answer day first second
      unfolding second_answer
      rounds_same z = rw (lawful_given day second e q, ← s, z)

      pub rounds_differ : t ≡ false → given (0 ∷ []) ≡ second_answer day first second
      unfolding second_answer
      rounds_differ z = rw (lawful_given day second e q, ← s, z)

    pub second_refused : {k i : ℕ} → answer ≡ Answers.Refused k i → refused k (i + length first) ≡ second_answer day first second
    unfolding second_answer
    second_refused q = rw (refused_given day second e q, ← refused_is day second e q)

  module _ {answer : Answer} (e : answer_values answer ≡ check_plan day first) where
    pub first_lawful : {a b c : ℕ} {vs : List ℕ} → answer ≡ Answers.Lawful a b c → vs ≡ second_answer day first second → vs ≡ same_rounds day first second
    unfolding same_rounds
    first_lawful q p = rw (lawful_given day first e q) p

    pub first_refused : {k i : ℕ} → answer ≡ Answers.Refused k i → refused k i ≡ same_rounds day first second
    unfolding same_rounds
    first_refused q = rw (refused_given day first e q) (refused_is day first e q)
