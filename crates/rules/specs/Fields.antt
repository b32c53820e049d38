-- What a day says, under the names of document 01, "Day file". Each is defined on every list of words, 0 past its end, and the bit
-- fields bound each value whatever the day; on an accepted day, which is said at the end, it is what the file says. Assumes nothing.
use Rattle.std.specs.Prelude.{ℕ, ◌+◌, ◌-◌, ◌*◌, ◌≡◌, List, [], ◌∷◌, get_or, leb, eqb, if◌then◌else◌}
use Rattle.rules.specs.Answers.{given}
use Rattle.rules.specs.DayFile.{lone_number, window_opening, window_closing, minutes_of, distance_of, tips_in, stops_in, places_of, legs_at, judge_day}

-- the word at an index
abbrev pub word_at : List ℕ → ℕ → ℕ
word_at day i = get_or day i 0

-- d tips
abbrev pub tips : List ℕ → ℕ
tips day = tips_in (word_at day 0)

-- n stops
abbrev pub stops : List ℕ → ℕ
stops day = stops_in (word_at day 0)

-- P places
abbrev pub places : List ℕ → ℕ
places day = places_of (tips day) (stops day)

-- "d+k stop k": the place of a stop
abbrev pub stop_place : List ℕ → ℕ → ℕ
stop_place day k = tips day + k

-- Q, "the load in kg"
abbrev pub load_limit : List ℕ → ℕ
load_limit day = lone_number (word_at day 1)

-- Q*, "the kg a day"
abbrev pub day_limit : List ℕ → ℕ
day_limit day = lone_number (word_at day 2)

-- S*, "the stops a day"
abbrev pub stop_limit : List ℕ → ℕ
stop_limit day = lone_number (word_at day 3)

-- where the window of a place stands: the depot's, a tip's, a stop's
unfoldable pub window_index : ℕ → ℕ → ℕ
window_index d place = if eqb place 0 then 4 else if leb place d then 5 + 2 * place else 4 + 3 * place - d

-- E of a place; of the depot, place 0, E0
abbrev pub opening : List ℕ → ℕ → ℕ
opening day place = window_opening (word_at day (window_index (tips day) place))

-- L of a place; of the depot, place 0, L0
abbrev pub closing : List ℕ → ℕ → ℕ
closing day place = window_closing (word_at day (window_index (tips day) place))

-- R1, the rest window's opening
abbrev pub rest_opening : List ℕ → ℕ
rest_opening day = window_opening (word_at day 5)

-- R2, the rest window's closing
abbrev pub rest_closing : List ℕ → ℕ
rest_closing day = window_closing (word_at day 5)

-- R3, the rest minutes
abbrev pub rest_minutes : List ℕ → ℕ
rest_minutes day = lone_number (word_at day 6)

-- V of a tip or a stop, its service minutes
abbrev pub service : List ℕ → ℕ → ℕ
service day place = lone_number (word_at day (window_index (tips day) place + 1))

-- q of a stop's place, its kg
abbrev pub quantity : List ℕ → ℕ → ℕ
quantity day place = lone_number (word_at day (window_index (tips day) place + 2))

-- where the leg from place p to place q stands
abbrev pub leg_index : ℕ → ℕ → ℕ → ℕ → ℕ
leg_index d n p q = legs_at d n + p * places_of d n + q

-- the word of the leg from place p to place q
abbrev pub leg_word : List ℕ → ℕ → ℕ → ℕ
leg_word day p q = word_at day (leg_index (tips day) (stops day) p q)

-- t, its minutes
abbrev pub leg_minutes : List ℕ → ℕ → ℕ → ℕ
leg_minutes day p q = minutes_of (leg_word day p q)

-- its distance
abbrev pub leg_distance : List ℕ → ℕ → ℕ → ℕ
leg_distance day p q = distance_of (leg_word day p q)

-- "a day is accepted when none of 1 to 5 applies to it"
abbrev pub IsAccepted : List ℕ → Type 0
IsAccepted day = judge_day day ≡ given (stops day ∷ tips day ∷ [])
