-- Holding each call to its paper. The contract of each call equates its answer, by values, and its lent buffers with definitions of the
-- rules, and asks for nothing; here stands what these definitions come to. Assumes nothing.
use Rattle.std.specs.Prelude.{if◌then◌else◌}
use Prim.Native.Nat.{ℕ, zero, suc, ◌+◌, ◌-◌, ◌<◌, ◌≤◌}
use mathlib.Core.Path.{◌≡◌, refl, sym, ap, ◌∙◌}
use mathlib.Core.Bool.{Bool, true, false, true≢false, false≢true}
use mathlib.Core.List.{List, [], ◌∷◌, ◌++◌}
use mathlib.Core.Logic.{◌↔◌}
use native.Mathlib.Omega.{arith}
use lib.ListN.{length, get_or, take, drop, replicate}
use lib.Seq.{drop-drop}
use Rattle.rules.specs.Answers.{given, refused, is_given, in_six}
use Rattle.rules.specs.DayFile.{judge_day}
use Rattle.rules.specs.Fields.{IsAccepted}
use Rattle.rules.specs.PlanWords.{word_of, read_plan}
use Rattle.rules.specs.Plan.{Round, round_words, rounds_words}
use Rattle.rules.specs.Lawful.{Lawful}
use Rattle.rules.specs.Check.{check_plan}
use Rattle.rules.specs.VehiclePlace.{is_vehicle, is_back, words_to_back, place_from, vehicle_place, vehicle_words}
use Rattle.day.specs.Accepted.{Accepted}
use Rattle.day.proofs.Answered.{given_accepted}
use Rattle.day.proofs.Ranges.{accepted_ranges}
use Rattle.plan_laws.proofs.VehicleRounds.{no_vehicle, vehicle_there, vehicle_handed}

-- through C a refusal is its number, its place and four zeros
pub refusal_in_six : (number place : ℕ) → in_six (refused number place) ≡ number ∷ place ∷ 0 ∷ 0 ∷ 0 ∷ 0 ∷ []
unfolding in_six
refusal_in_six number place = refl

-- and an answer 0 and its values, five at most, with zeros behind them
pub answer_in_six : (values : List ℕ) → length values ≤ 5 → in_six (given values) ≡ given values ++ replicate (5 - length values) 0
unfolding in_six
answer_in_six [] h = refl
answer_in_six (a ∷ []) h = refl
answer_in_six (a ∷ b ∷ []) h = refl
answer_in_six (a ∷ b ∷ c ∷ []) h = refl
answer_in_six (a ∷ b ∷ c ∷ d ∷ []) h = refl
answer_in_six (a ∷ b ∷ c ∷ d ∷ e ∷ []) h = refl
answer_in_six (a ∷ b ∷ c ∷ d ∷ e ∷ f ∷ values) h = absurd (omega arith)

-- a day that the judge accepts has every range of document 01, and every index below its length
pub accepted_day : (day : List ℕ) (n d : ℕ) → judge_day day ≡ given (n ∷ d ∷ []) → Accepted day
accepted_day day n d e = accepted_ranges day (given_accepted day (sym e))

module _ (day plan : List ℕ) (accepted : IsAccepted day) (l : Lawful day plan) where
  -- 15 where the plan has no vehicle of this number
  pub vehicle_absent : (number : ℕ) → ((m : ℕ) → 0 < m → m ≤ length l.rounds → m ≡ number → ⊥) → vehicle_place day plan number ≡ refused 15 number
  vehicle_absent = no_vehicle day plan accepted l

  module _ (before behind : List Round) (tasks : Round) (e : l.rounds ≡ before ++ (tasks ∷ behind)) where
    -- else start and length of its words
    pub vehicle_present : vehicle_place day plan (suc (length before))
        ≡ given (length (rounds_words 0 before) ∷ length (round_words (suc (length before)) tasks) ∷ [])
    vehicle_present = vehicle_there day plan accepted l before behind tasks e

    -- and these words, which say A, its tasks, E
    pub vehicle_words_lem : read_plan (vehicle_words day plan (suc (length before))) ≡ read_plan (round_words (suc (length before)) tasks)
    vehicle_words_lem = vehicle_handed day plan accepted l before behind tasks e

-- there is a word up to the first E, and so a part of that many words has one
words_there : (w : ℕ) (words : List ℕ) → 0 < words_to_back (w ∷ words)
unfolding words_to_back
words_there w words = go (is_back (word_of w))
  where
    go : (b : Bool) → 0 < (if b then 1 else suc (words_to_back words))
    go true = omega arith
    go false = omega arith

part_there : (count w : ℕ) (words : List ℕ) → 0 < count → 0 < length (take count (w ∷ words))
part_there zero w words h = absurd (omega arith)
part_there (suc count) w words h = omega arith

-- the words that a place names
abbrev part_at : List ℕ → List ℕ → List ℕ
part_at place plan = take (get_or place 2 0) (drop (get_or place 1 0) plan)

-- a place that is given names words of the plan
place_begins : (number : ℕ) (plan words : List ℕ) (i : ℕ) → drop i plan ≡ words → is_given (place_from number words i) ≡ true
    → 0 < length (part_at (place_from number words i) plan)
unfolding place_from
place_begins number plan [] i e there = absurd (false≢true there)
place_begins number plan (w ∷ words) i e there =
    let one : suc i ≡ i + 1 = omega arith in
    let behind : drop (suc i) plan ≡ words = ap (λ (k : ℕ). drop k plan) one ∙ sym (drop-drop 1 i plan) ∙ ap (drop 1) e in
    go (is_vehicle number (word_of w)) (λ h. place_begins number plan words (suc i) behind h) there
  where
    go : (b : Bool) → (is_given (place_from number words (suc i)) ≡ true → 0 < length (part_at (place_from number words (suc i)) plan))
        → is_given (if b then given (i ∷ words_to_back (w ∷ words) ∷ []) else place_from number words (suc i)) ≡ true
        → 0 < length (part_at (if b then given (i ∷ words_to_back (w ∷ words) ∷ []) else place_from number words (suc i)) plan)
    go true later h = rw e (part_there (words_to_back (w ∷ words)) w words (words_there w words))
    go false later h = later h

-- a place of any plan: refused, or with words
place_words : (day plan : List ℕ) (number : ℕ) → is_given (vehicle_place day plan number) ≡ true → 0 < length (part_at (vehicle_place day plan number) plan)
unfolding vehicle_place
place_words day plan number = go (is_given (check_plan day plan)) refl
  where
    go : (b : Bool) → is_given (check_plan day plan) ≡ b → is_given (if b then place_from number plan 0 else check_plan day plan) ≡ true
        → 0 < length (part_at (if b then place_from number plan 0 else check_plan day plan) plan)
    go true e h = place_begins number plan plan 0 refl h
    go false e h = absurd (false≢true (sym e ∙ h))

-- "that part of the caller's plan, empty exactly where a companion call refuses"
pub empty_exactly : (day plan : List ℕ) (number : ℕ) → (vehicle_words day plan number ≡ []) ↔ (is_given (vehicle_place day plan number) ≡ false)
unfolding vehicle_words
empty_exactly day plan number = go (is_given (vehicle_place day plan number)) refl
  where
    go : (b : Bool) → is_given (vehicle_place day plan number) ≡ b
        → ((if b then part_at (vehicle_place day plan number) plan else []) ≡ []) ↔ (b ≡ false)
    go true e = (λ none. absurd (omega (arith, ap length none, place_words day plan number e)), λ f. absurd (true≢false f))
    go false e = (λ none. refl, λ f. refl)
