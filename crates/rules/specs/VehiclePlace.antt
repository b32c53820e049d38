-- One vehicle's words: document 01, "Other calls" and refusal 15. Assumes nothing.
use Rattle.std.specs.Prelude.{ℕ, suc, Bool, true, false, List, [], ◌∷◌, take, drop, get_or, eqb, if◌then◌else◌}
use Rattle.rules.specs.Answers.{given, refused, is_given}
use Rattle.rules.specs.PlanWords.{Word, vehicle, stop, tip, rest, back, left, stray, word_of}
use Rattle.rules.specs.Check.{check_plan}

-- the A word of a number; numbers are compared in full
abbrev pub is_vehicle : ℕ → Word → Bool
is_vehicle number (vehicle k) = eqb k number
is_vehicle number (stop k) = false
is_vehicle number (tip k) = false
is_vehicle number rest = false
is_vehicle number back = false
is_vehicle number (left k) = false
is_vehicle number stray = false

-- an E word
abbrev pub is_back : Word → Bool
is_back (vehicle k) = false
is_back (stop k) = false
is_back (tip k) = false
is_back rest = false
is_back back = true
is_back (left k) = false
is_back stray = false

-- how many words there are up to the first E, it included
unfoldable pub words_to_back : List ℕ → ℕ
words_to_back [] = 0
words_to_back (w ∷ ws) = if is_back (word_of w) then 1 else suc (words_to_back ws)

-- "start and length" of a vehicle's words from index i on; 15, "no such vehicle in the plan (place: its number)"
unfoldable pub place_from : ℕ → List ℕ → ℕ → List ℕ
place_from number [] i = refused 15 number
place_from number (w ∷ ws) i = if is_vehicle number (word_of w) then given (i ∷ words_to_back (w ∷ ws) ∷ []) else place_from number ws (suc i)

-- "a companion call, which judges day and plan and then gives start and length"
unfoldable pub vehicle_place : List ℕ → List ℕ → ℕ → List ℕ
vehicle_place day plan number = if is_given (check_plan day plan) then place_from number plan 0 else check_plan day plan

-- "that part of the caller's plan, empty exactly where a companion call refuses"
unfoldable pub vehicle_words : List ℕ → List ℕ → ℕ → List ℕ
vehicle_words day plan number =
    if is_given (vehicle_place day plan number)
    then take (get_or (vehicle_place day plan number) 2 0) (drop (get_or (vehicle_place day plan number) 1 0) plan)
    else []
