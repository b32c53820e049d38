-- Lines, fields and numbers of a text, each by the place of its first byte: document 02, Q-6. Places are defined at every place of every text: where
-- a field is missing, its place is the line feed or the text's end, and where a line is missing, the text's end. Assumes nothing.
use Rattle.std.specs.Prelude.{ℕ, zero, suc, ◌+◌, ◌*◌, ◌-◌, Bool, true, false, not, List, [], ◌∷◌, length, get_or, drop, eqb, ltb, if◌then◌else◌}

-- "blanks (space, tab, carriage return)"
unfoldable pub is_blank : ℕ → Bool
is_blank b = if eqb b 0x20 then true else if eqb b 0x09 then true else eqb b 0x0D

-- the line feed, which alone ends a line
unfoldable pub is_feed : ℕ → Bool
is_feed b = eqb b 0x0A

-- what stands between fields and between the lines that are not blank
unfoldable pub is_gap : ℕ → Bool
is_gap b = if is_feed b then true else is_blank b

-- "blanks separate fields": any other byte of a line belongs to one
unfoldable pub is_field_byte : ℕ → Bool
is_field_byte b = not (is_gap b)

-- a byte of a line
unfoldable pub is_line_byte : ℕ → Bool
is_line_byte b = not (is_feed b)

-- a decimal digit, 0 to 9
unfoldable pub is_digit : ℕ → Bool
is_digit b = if ltb b 0x30 then false else ltb b 0x3A

-- the first place, from i on, whose byte is not of a kind; bs are the bytes from i on
unfoldable pub passed_from : (ℕ → Bool) → List ℕ → ℕ → ℕ
passed_from kind [] i = i
passed_from kind (b ∷ bs) i = if kind b then passed_from kind bs (suc i) else i

-- that of a text
unfoldable pub passed : (ℕ → Bool) → List ℕ → ℕ → ℕ
passed kind text at = passed_from kind (drop at text) at

-- the next field of the line
abbrev pub next_field : List ℕ → ℕ → ℕ
next_field text at = passed is_blank text (passed is_field_byte text at)

-- field i of the line, counted from 0, where field 0 stands at a place
unfoldable pub field_at : List ℕ → ℕ → ℕ → ℕ
field_at text at zero = at
field_at text at (suc i) = next_field text (field_at text at i)

-- "blank lines are skipped": the next line that is not blank
abbrev pub next_line : List ℕ → ℕ → ℕ
next_line text at = passed is_gap text (passed is_line_byte text at)

-- line j of those that are not blank, counted from 0
unfoldable pub line_at : List ℕ → ℕ → ℕ
line_at text zero = passed is_gap text 0
line_at text (suc j) = next_line text (line_at text j)

-- no field stands here: the line feed or the text's end
unfoldable pub ends_line : List ℕ → ℕ → Bool
ends_line text at = if ltb at (length text) then is_feed (get_or text at 0) else true

-- "a number is one or more decimal digits": the field has digits alone
unfoldable pub is_number : List ℕ → ℕ → Bool
is_number text at = if ltb at (passed is_digit text at) then eqb (passed is_digit text at) (passed is_field_byte text at) else false

-- the value of the digits in front, behind those whose value is v
unfoldable pub value_from : List ℕ → ℕ → ℕ
value_from [] v = v
value_from (b ∷ bs) v = if is_digit b then value_from bs (10 * v + (b - 0x30)) else v

-- the number that a field has, of any size
unfoldable pub number_at : List ℕ → ℕ → ℕ
number_at text at = value_from (drop at text) 0

-- bytes begin with those of a word
unfoldable pub starts_with : List ℕ → List ℕ → Bool
starts_with bs [] = true
starts_with [] (w ∷ ws) = false
starts_with (b ∷ bs) (w ∷ ws) = if eqb b w then starts_with bs ws else false

-- the field is this very word
unfoldable pub is_word : List ℕ → ℕ → List ℕ → Bool
is_word text at word = if eqb (passed is_field_byte text at - at) (length word) then starts_with (drop at text) word else false
