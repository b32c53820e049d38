-- The day file: document 01, "Day file", and refusals 1 to 5 of "What can be refused". A day is any list of words; `judge_day` says what is
-- answered on it, number and place. Assumes nothing.
use Rattle.std.specs.Prelude.{ℕ, suc, ◌+◌, ◌-◌, ◌*◌, ◌/◌, ◌%◌, List, [], ◌∷◌, Bool, ◌&&◌, length, get_or, drop, ltb, leb, eqb, if◌then◌else◌}
use Rattle.rules.specs.Tests.{neb}
use Rattle.rules.specs.Answers.{given, refused}

-- "a lone number is in bits 26-0"
abbrev pub lone_number : ℕ → ℕ
lone_number w = w % 0x8000000

-- "a window has its opening E in bits 23-12"
abbrev pub window_opening : ℕ → ℕ
window_opening w = w / 0x1000 % 0x1000

-- "and closing L in bits 11-0"
abbrev pub window_closing : ℕ → ℕ
window_closing w = w % 0x1000

-- a leg's "minutes t in bits 27-16"
abbrev pub minutes_of : ℕ → ℕ
minutes_of w = w / 0x10000 % 0x1000

-- a leg's "distance in bits 15-0"
abbrev pub distance_of : ℕ → ℕ
distance_of w = w % 0x10000

-- word 0: "d in bits 11-8"
abbrev pub tips_in : ℕ → ℕ
tips_in w = w / 0x100 % 0x10

-- word 0: "n in bits 7-0"
abbrev pub stops_in : ℕ → ℕ
stops_in w = w % 0x100

-- "P = 1 + d + n": the depot, the tips, the stops
abbrev pub places_of : ℕ → ℕ → ℕ
places_of d n = 1 + d + n

-- the index behind the last tip's words
abbrev pub tips_end : ℕ → ℕ
tips_end d = 7 + 2 * d

-- the index of the first leg
abbrev pub legs_at : ℕ → ℕ → ℕ
legs_at d n = 7 + 2 * d + 3 * n

-- "the file has exactly 7 + 2d + 3n + P × P words"
abbrev pub words_of : ℕ → ℕ → ℕ
words_of d n = legs_at d n + places_of d n * places_of d n

-- what a word of the day holds
pub data Form : Type 0 where
  -- a lone number of a kind, from the least to the most
  lone : (kind least most : ℕ) → Form
  -- a window of a kind
  window : (kind : ℕ) → Form
  -- a leg from one place to another
  leg : Form
  -- a leg from a place to itself
  stay : Form

-- words 1 to 6: Q, Q*, S*, the depot window, the rest window, the rest minutes
unfoldable pub head_form : ℕ → Form
head_form i =
    if eqb i 1 then lone 2 1 100000
    else if eqb i 2 then lone 3 1 1000000
    else if eqb i 3 then lone 4 1 240
    else if eqb i 4 then window 5
    else if eqb i 5 then window 6
    else lone 7 0 240

-- "each tip: a window (5), service minutes V (7, 0..240)"
unfoldable pub tip_form : ℕ → Form
tip_form k = if eqb (k % 2) 0 then window 5 else lone 7 0 240

-- "each stop: window, minutes, then kind 8 its quantity q in kg (0..100,000)"
unfoldable pub stop_form : ℕ → Form
stop_form k =
    if eqb (k % 3) 0 then window 5
    else if eqb (k % 3) 1 then lone 7 0 240
    else lone 8 0 100000

-- "P × P legs, row by row": the k-th goes from place k / P to place k % P
unfoldable pub leg_form : ℕ → ℕ → Form
leg_form places k = if eqb (k / places) (k % places) then stay else leg

-- what the word at an index holds
unfoldable pub form_at : ℕ → ℕ → ℕ → Form
form_at d n i =
    if ltb i 7 then head_form i
    else if ltb i (tips_end d) then tip_form (i - 7)
    else if ltb i (legs_at d n) then stop_form (i - tips_end d)
    else leg_form (places_of d n) (i - legs_at d n)

-- "bits 31-28 are the kind; unnamed bits are zero"
unfoldable pub kind_right : Form → ℕ → Bool
kind_right (lone kind least most) w = eqb (w / 0x8000000) (2 * kind)
kind_right (window kind) w = eqb (w / 0x1000000) (16 * kind)
kind_right leg w = eqb (w / 0x10000000) 9
kind_right stay w = eqb (w / 0x10000000) 9

-- a value is in its range: "E ≤ L ≤ 1,440", minutes 0..1,440, "from a place to itself both are 0"
unfoldable pub value_right : Form → ℕ → Bool
value_right (lone kind least most) w = leb least (lone_number w) && leb (lone_number w) most
value_right (window kind) w = leb (window_opening w) (window_closing w) && leb (window_closing w) 1440
value_right leg w = leb (minutes_of w) 1440
value_right stay w = eqb (w % 0x10000000) 0

-- what is wrong with a word: 2 "kind or zero bits wrong", 5 "value outside its range", 0 nothing
unfoldable pub fault_of : Form → ℕ → ℕ
fault_of form w = if kind_right form w then (if value_right form w then 0 else 5) else 2

-- "each later word: 2, 5": the words from index i on, judged in order
unfoldable pub judge_from : ℕ → ℕ → List ℕ → ℕ → List ℕ
judge_from d n [] i = given (n ∷ d ∷ [])
judge_from d n (w ∷ ws) i =
    if eqb (fault_of (form_at d n i) w) 0 then judge_from d n ws (suc i)
    else refused (fault_of (form_at d n i) w) i

-- "word 0: 3; then 4": n (0..240) and d (1..15), then the word count
unfoldable pub judge_sized : ℕ → ℕ → List ℕ → List ℕ
judge_sized d n day =
    if ltb 240 n then refused 3 0
    else if eqb d 0 then refused 3 0
    else if neb (length day) (words_of d n) then refused 4 (length day)
    else judge_from d n (drop 1 day) 1

-- the answer on a day: its stops and tips, or the first refusal of 1 to 5
unfoldable pub judge_day : List ℕ → List ℕ
judge_day day =
    if ltb (length day) 7 then refused 1 (length day)
    else if neb (get_or day 0 0 / 0x1000) 0x10000 then refused 2 0
    else judge_sized (tips_in (get_or day 0 0)) (stops_in (get_or day 0 0)) day
