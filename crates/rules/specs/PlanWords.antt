-- The words of a plan: document 01, "Plan and timetable". Kinds A to F stand in bits 31-28, the number in bits 7-0, and every other
-- bit is zero. Assumes nothing.
use Rattle.std.specs.Prelude.{ℕ, ◌+◌, ◌/◌, ◌%◌, Bool, ◌&&◌, List, map, eqb, if◌then◌else◌}

-- a plan word taken apart
pub data Word : Type 0 where
  -- "A vehicle (counted 1, 2, ...)"
  vehicle : ℕ → Word
  -- "B stop"
  stop : ℕ → Word
  -- "C tip"
  tip : ℕ → Word
  -- "D rest"
  rest : Word
  -- "E back"
  back : Word
  -- "F stop left out"
  left : ℕ → Word
  -- none of these
  stray : Word

-- the kind of a word, with the zero bits behind it: bits 31-8
abbrev pub kind_of : ℕ → ℕ
kind_of w = w / 0x100

-- "the number is in bits 7-0"
abbrev pub number_of : ℕ → ℕ
number_of w = w % 0x100

-- the kinds that carry a number
abbrev pub vehicle_kind : ℕ
vehicle_kind = 0xA00000

abbrev pub stop_kind : ℕ
stop_kind = 0xB00000

abbrev pub tip_kind : ℕ
tip_kind = 0xC00000

abbrev pub left_kind : ℕ
left_kind = 0xF00000

-- the word of each kind with a number, which "is 0 for D and E"
abbrev pub vehicle_word : ℕ → ℕ
vehicle_word k = 0xA0000000 + k

abbrev pub stop_word : ℕ → ℕ
stop_word k = 0xB0000000 + k

abbrev pub tip_word : ℕ → ℕ
tip_word k = 0xC0000000 + k

abbrev pub rest_word : ℕ
rest_word = 0xD0000000

abbrev pub back_word : ℕ
back_word = 0xE0000000

abbrev pub left_word : ℕ → ℕ
left_word k = 0xF0000000 + k

-- what a word says, by its kind and its number
unfoldable pub word_of : ℕ → Word
word_of w =
    if eqb (kind_of w) stop_kind then stop (number_of w)
    else if eqb (kind_of w) tip_kind then tip (number_of w)
    else if eqb w rest_word then rest
    else if eqb w back_word then back
    else if eqb (kind_of w) vehicle_kind then vehicle (number_of w)
    else if eqb (kind_of w) left_kind then left (number_of w)
    else stray

-- what the words of a plan say
abbrev pub read_plan : List ℕ → List Word
read_plan plan = map word_of plan

-- two words of the same kind and number
unfoldable pub same_word : ℕ → ℕ → Bool
same_word v w = eqb (kind_of v) (kind_of w) && eqb (number_of v) (number_of w)
