-- Demand 1's refusals: each call answers, or refuses by one of its own numbers, whatever its words, lengths and settings are. Assumes nothing.
use Rattle.std.specs.Prelude.{if◌then◌else◌}
use Prim.Native.Nat.{ℕ, suc, ◌*◌, ◌/◌, ◌%◌}
use mathlib.Core.Path.{◌≡◌, refl, sym, subst}
use mathlib.Core.Bool.{Bool, true, false, not, ◌||◌, ◌&&◌, false≢true}
use mathlib.Core.List.{List, [], ◌∷◌}
use lib.Dec.{ltb, eqb}
use lib.ListN.{length, get_or, drop}
use borrow.Author.Tests.{eqb-true}
use Rattle.rules.specs.Tests.{neb}
use Rattle.rules.specs.Answers.{given, refused, is_given}
use Rattle.rules.specs.Lists.{mem, unmet}
use Rattle.rules.specs.DayFile.{Form, tips_in, stops_in, words_of, form_at, kind_right, value_right, fault_of, judge_from, judge_sized, judge_day}
use Rattle.rules.specs.Fields.{stops, stop_place, quantity, closing, rest_closing}
use Rattle.rules.specs.PlanWords.{Word, vehicle, stop, tip, rest, back, left, stray, word_of}
use Rattle.rules.specs.Cargo.{loaded, over_limits, cargo_fault}
use Rattle.rules.specs.Trip.{arrival, visit_start, rest_start, visit_fault, rest_fault, back_fault, trip_fault}
use Rattle.rules.specs.Check.{Walk, start, well_formed, met_again, fault_at, walk_after, finished, check_from, check_words, check_plan}
use Rattle.rules.specs.Search.{searched, growing_sets}
use Rattle.rules.specs.Bytes.{read_answer}
use Rattle.rules.specs.VehiclePlace.{is_vehicle, words_to_back, place_from, vehicle_place}
use Rattle.rules.specs.SameRounds.{behind, second_answer, same_rounds}
use Rattle.rules.specs.Planned.{built_answer, build_answer, few_neighbours, long_enough, result_values, search_answer, plan_answer, growing_answer}
use Rattle.rules.specs.Demands.{AnswersBy, answer, refusal}
use Rattle.rules.specs.declared.walk.Cargo.{Cargo}
use Rattle.rules.specs.declared.walk.Trip.{Trip}
use Rattle.laws.proofs.Tests.{both_true}

-- a word's fault: nothing, or one of the numbers
data FaultBy (numbers : List ℕ) : ℕ → Type 0 where
  nothing : FaultBy numbers 0
  fault : (number : ℕ) → mem number numbers ≡ true → FaultBy numbers number

-- each number of the first list stands in the second
unfoldable all_in : List ℕ → List ℕ → Bool
all_in [] more = true
all_in (number ∷ numbers) more = mem number more && all_in numbers more

-- so a number of the first stands in the second
all_in_lem : (fewer more : List ℕ) (k : ℕ) → all_in fewer more ≡ true → mem k fewer ≡ true → mem k more ≡ true
unfolding all_in mem
all_in_lem [] more k e m = absurd (false≢true m)
all_in_lem (x ∷ fewer) more k e m = let both = both_true (mem x more) (all_in fewer more) e in go (eqb k x) refl m both.0 (all_in_lem fewer more k both.1)
  where
    go : (b : Bool) → eqb k x ≡ b → (b || mem k fewer) ≡ true → mem x more ≡ true → (mem k fewer ≡ true → mem k more ≡ true) → mem k more ≡ true
    go true q h here there = subst (λ (j : ℕ). mem j more ≡ true) (sym (eqb-true k x q)) here
    go false q h here there = there h

-- numbers within a longer list
by_more : (fewer more : List ℕ) {answered : List ℕ} → all_in fewer more ≡ true → AnswersBy fewer answered → AnswersBy more answered
by_more fewer more e (answer values) = answer values
by_more fewer more e (refusal number place m) = refusal number place (all_in_lem fewer more number e m)

module _ {numbers : List ℕ} where
  -- a decision between two answers
  by_if : (t : Bool) {x y : List ℕ} → AnswersBy numbers x → AnswersBy numbers y → AnswersBy numbers (if t then x else y)
  by_if true a b = a
  by_if false a b = b

  -- a decision between two faults
  fault_if : (t : Bool) {x y : ℕ} → FaultBy numbers x → FaultBy numbers y → FaultBy numbers (if t then x else y)
  fault_if true f g = f
  fault_if false f g = g

  -- an answer where nothing is wrong, else a refusal by the fault
  by_fault : {k : ℕ} (place : ℕ) {answered : List ℕ} → FaultBy numbers k → AnswersBy numbers answered
      → AnswersBy numbers (if eqb k 0 then answered else refused k place)
  by_fault place nothing a = a
  by_fault place (fault number m) a = by_if (eqb number 0) a (refusal number place m)

  -- a refusal's number is one of them
  pub refused_by : {answered : List ℕ} → AnswersBy numbers answered → is_given answered ≡ false → mem (get_or answered 0 0) numbers ≡ true
  refused_by (answer values) e = absurd (false≢true (sym e))
  refused_by (refusal number place m) e = m

-- 1 to 5, of a day
abbrev day_numbers : List ℕ
day_numbers = 1 ∷ 2 ∷ 3 ∷ 4 ∷ 5 ∷ []

-- 1 to 12, of a day and a plan
abbrev plan_numbers : List ℕ
plan_numbers = 1 ∷ 2 ∷ 3 ∷ 4 ∷ 5 ∷ 6 ∷ 7 ∷ 8 ∷ 9 ∷ 10 ∷ 11 ∷ 12 ∷ []

-- byte reading: 1, 14
pub read_numbers : (bytes : List ℕ) (room : ℕ) → AnswersBy (1 ∷ 14 ∷ []) (read_answer bytes room)
unfolding read_answer mem
read_numbers bytes room =
    by_if (neb (length bytes % 4) 0) (refusal 1 (length bytes / 4) refl)
    (by_if (ltb (length bytes / 4) 7) (refusal 1 (length bytes / 4) refl)
    (by_if (ltb room (length bytes / 4)) (refusal 14 (length bytes / 4) refl) (answer (length bytes / 4 ∷ []))))

-- a word of the day: 2, 5
word_fault_lem : (form : Form) (w : ℕ) → FaultBy day_numbers (fault_of form w)
unfolding fault_of mem
word_fault_lem form w = fault_if (kind_right form w) (fault_if (value_right form w) nothing (fault 5 refl)) (fault 2 refl)

-- the words of the day from an index on
judge_from_numbers : (d n : ℕ) (ws : List ℕ) (i : ℕ) → AnswersBy day_numbers (judge_from d n ws i)
unfolding judge_from
judge_from_numbers d n [] i = answer (n ∷ d ∷ [])
judge_from_numbers d n (w ∷ ws) i = by_fault i (word_fault_lem (form_at d n i) w) (judge_from_numbers d n ws (suc i))

-- the judge: 1 to 5
pub judge_numbers : (day : List ℕ) → AnswersBy (1 ∷ 2 ∷ 3 ∷ 4 ∷ 5 ∷ []) (judge_day day)
unfolding judge_day judge_sized mem
judge_numbers day =
    let w = get_or day 0 0 in
    by_if (ltb (length day) 7) (refusal 1 (length day) refl)
    (by_if (neb (w / 4096) 65536) (refusal 2 0 refl)
    (by_if (ltb 240 (stops_in w)) (refusal 3 0 refl)
    (by_if (eqb (tips_in w) 0) (refusal 3 0 refl)
    (by_if (neb (length day) (words_of (tips_in w) (stops_in w))) (refusal 4 (length day) refl) (judge_from_numbers (tips_in w) (stops_in w) (drop 1 day) 1)))))

-- a word of the plan, by the load: 9, 10
cargo_fault_lem : (day : List ℕ) (c : Cargo) (w : Word) → FaultBy plan_numbers (cargo_fault day c w)
unfolding cargo_fault mem
cargo_fault_lem day c (vehicle k) = nothing
cargo_fault_lem day c (stop k) = fault_if (over_limits day (loaded c (quantity day (stop_place day k)))) (fault 9 refl) nothing
cargo_fault_lem day c (tip k) = nothing
cargo_fault_lem day c rest = nothing
cargo_fault_lem day c back = fault_if (ltb 0 c.load) (fault 10 refl) nothing
cargo_fault_lem day c (left k) = nothing
cargo_fault_lem day c stray = nothing

-- a visit: 11
visit_fault_lem : (day : List ℕ) (t : Trip) (place : ℕ) → FaultBy plan_numbers (visit_fault day t place)
unfolding visit_fault mem
visit_fault_lem day t place = fault_if (ltb (closing day place) (visit_start day t place)) (fault 11 refl) nothing

-- a word of the plan, by the minute: 11, 12
trip_fault_lem : (day : List ℕ) (t : Trip) (w : Word) → FaultBy plan_numbers (trip_fault day t w)
unfolding rest_fault back_fault mem
trip_fault_lem day t (vehicle k) = nothing
trip_fault_lem day t (stop k) = visit_fault_lem day t (stop_place day k)
trip_fault_lem day t (tip k) = visit_fault_lem day t k
trip_fault_lem day t rest = fault_if t.rested (fault 12 refl) (fault_if (ltb (rest_closing day) (rest_start day t)) (fault 12 refl) nothing)
trip_fault_lem day t back =
    fault_if (ltb (closing day 0) (arrival day t 0)) (fault 11 refl)
    (fault_if t.rested nothing (fault_if (ltb (rest_closing day) (arrival day t 0)) (fault 12 refl) nothing))
trip_fault_lem day t (left k) = nothing
trip_fault_lem day t stray = nothing

-- a word of the plan: 7 to 12
fault_at_lem : (day : List ℕ) (s : Walk) (w : Word) → FaultBy plan_numbers (fault_at day s w)
unfolding fault_at mem
fault_at_lem day s w =
    fault_if (not (well_formed day s.tally s.cargo w)) (fault 7 refl)
    (fault_if (met_again s.met w) (fault 8 refl)
    (fault_if (neb (cargo_fault day s.cargo w) 0) (cargo_fault_lem day s.cargo w) (trip_fault_lem day s.trip w)))

-- the words of the plan from an index on
check_from_numbers : (day ws : List ℕ) (i : ℕ) (s : Walk) → AnswersBy plan_numbers (check_from day ws i s)
unfolding check_from finished mem
check_from_numbers day [] i s =
    by_if s.tally.inside (refusal 7 i refl)
    (by_if (ltb 0 (unmet (stops day) s.met)) (refusal 8 i refl) (answer (s.tally.distance ∷ s.tally.vehicles ∷ s.tally.served ∷ [])))
check_from_numbers day (w ∷ ws) i s = by_fault i (fault_at_lem day s (word_of w)) (check_from_numbers day ws (suc i) (walk_after day s (word_of w)))

-- the check: 1 to 12
pub check_numbers : (day plan : List ℕ) → AnswersBy (1 ∷ 2 ∷ 3 ∷ 4 ∷ 5 ∷ 6 ∷ 7 ∷ 8 ∷ 9 ∷ 10 ∷ 11 ∷ 12 ∷ []) (check_plan day plan)
unfolding check_plan check_words mem all_in
check_numbers day plan =
    by_if (is_given (judge_day day)) (by_if (ltb 4096 (length plan)) (refusal 6 4096 refl) (check_from_numbers day plan 0 (start day)))
    (by_more day_numbers plan_numbers refl (judge_numbers day))

-- 1 to 12 and 15, of a day, a plan and a vehicle
abbrev vehicle_numbers : List ℕ
vehicle_numbers = 1 ∷ 2 ∷ 3 ∷ 4 ∷ 5 ∷ 6 ∷ 7 ∷ 8 ∷ 9 ∷ 10 ∷ 11 ∷ 12 ∷ 15 ∷ []

-- a vehicle's words, looked for from an index on: 15
place_from_numbers : (number : ℕ) (ws : List ℕ) (i : ℕ) → AnswersBy vehicle_numbers (place_from number ws i)
unfolding place_from mem
place_from_numbers number [] i = refusal 15 number refl
place_from_numbers number (w ∷ ws) i = by_if (is_vehicle number (word_of w)) (answer (i ∷ words_to_back (w ∷ ws) ∷ [])) (place_from_numbers number ws (suc i))

-- one vehicle's words: 1 to 12, 15
pub vehicle_numbers_lem : (day plan : List ℕ) (number : ℕ)
    → AnswersBy (1 ∷ 2 ∷ 3 ∷ 4 ∷ 5 ∷ 6 ∷ 7 ∷ 8 ∷ 9 ∷ 10 ∷ 11 ∷ 12 ∷ 15 ∷ []) (vehicle_place day plan number)
unfolding vehicle_place mem all_in
vehicle_numbers_lem day plan number =
    by_if (is_given (check_plan day plan)) (place_from_numbers number plan 0) (by_more plan_numbers vehicle_numbers refl (check_numbers day plan))

-- the second plan of two: the same numbers, at places counted on
second_numbers : (day first second values : List ℕ) (b : Bool) → is_given (check_plan day second) ≡ b
    → AnswersBy plan_numbers (if b then given values else behind (length first) (check_plan day second))
second_numbers day first second values true e = answer values
second_numbers day first second values false e = refusal _ _ (refused_by (check_numbers day second) e)

-- same rounds: 1 to 12
pub same_numbers : (day first second : List ℕ) → AnswersBy (1 ∷ 2 ∷ 3 ∷ 4 ∷ 5 ∷ 6 ∷ 7 ∷ 8 ∷ 9 ∷ 10 ∷ 11 ∷ 12 ∷ []) (same_rounds day first second)
unfolding same_rounds second_answer
same_numbers day first second =
    by_if (is_given (check_plan day first)) (second_numbers day first second _ (is_given (check_plan day second)) refl) (check_numbers day first)

-- the build: 1 to 5, 14
pub build_numbers : (day : List ℕ) (room : ℕ) → AnswersBy (1 ∷ 2 ∷ 3 ∷ 4 ∷ 5 ∷ 14 ∷ []) (build_answer day room)
unfolding build_answer built_answer mem all_in
build_numbers day room =
    by_if (is_given (judge_day day)) (by_if (ltb room (5 * stops day)) (refusal 14 (5 * stops day) refl) (answer _))
    (by_more day_numbers (1 ∷ 2 ∷ 3 ∷ 4 ∷ 5 ∷ 14 ∷ []) refl (judge_numbers day))

-- planning with trials, with these K, on an accepted day: 14
search_numbers : (numbers day Ks : List ℕ) (budget room spare : ℕ) → mem 14 numbers ≡ true → AnswersBy numbers (search_answer day Ks budget room spare)
unfolding search_answer
search_numbers numbers day Ks budget room spare e =
    by_if (long_enough day room spare) (answer (result_values day (searched day Ks budget))) (refusal 14 (5 * stops day) e)

-- with one K: 1 to 5, 13, 14
pub plan_numbers_lem : (day : List ℕ) (K budget room spare : ℕ) → AnswersBy (1 ∷ 2 ∷ 3 ∷ 4 ∷ 5 ∷ 13 ∷ 14 ∷ []) (plan_answer day K budget room spare)
unfolding plan_answer mem all_in
plan_numbers_lem day K budget room spare =
    by_if (is_given (judge_day day))
    (by_if (few_neighbours K) (search_numbers _ day (K ∷ []) budget room spare refl) (refusal 13 K refl))
    (by_more day_numbers (1 ∷ 2 ∷ 3 ∷ 4 ∷ 5 ∷ 13 ∷ 14 ∷ []) refl (judge_numbers day))

-- with growing neighbour sets: 1 to 5, 14
pub growing_numbers : (day : List ℕ) (budget room spare : ℕ) → AnswersBy (1 ∷ 2 ∷ 3 ∷ 4 ∷ 5 ∷ 14 ∷ []) (growing_answer day budget room spare)
unfolding growing_answer mem all_in
growing_numbers day budget room spare =
    by_if (is_given (judge_day day)) (search_numbers _ day growing_sets budget room spare refl)
    (by_more day_numbers (1 ∷ 2 ∷ 3 ∷ 4 ∷ 5 ∷ 14 ∷ []) refl (judge_numbers day))
