-- The public Solomon text form: document 02, Q-6, and its refusals 17 and 18 with their places. Lines that are blank are not counted: line 0 is the
-- name, 1 VEHICLE, 2 column names, 3 vehicle number and capacity, 4 CUSTOMER, 5 column names, 6 the depot, and line 6 + k is customer k's. Of each
-- line fields 0 to 7 are looked at: no line has more than seven, and field 7 of a customer's is the first too many. Assumes nothing.
use Rattle.std.specs.Prelude.{ℕ, zero, suc, ◌-◌, ◌<◌, ◌≡◌, Bool, true, false, List, [], ◌∷◌, length, eqb, ltb, leb, if◌then◌else◌, ⊤, Result, Ok, Err}
use Rattle.std.specs.Result.{result_and}
use Rattle.rules.specs.Faults.{text_fault_number}
use Rattle.rules.specs.TextFields.{field_at, line_at, ends_line, is_number, number_at, is_word}
use Rattle.rules.specs.declared.faults.TextFault.{TextFault}
use Rattle.rules.specs.declared.faults.TextFault.TheVariants.{Form, Range}
use Rattle.rules.specs.declared.texts.Offence.{Offence}

-- what is found of a field: nothing, or a fault, whose numbers are 17 of its form and 18 of its value
abbrev pub Finding : Type 0
Finding = Result ⊤ TextFault

-- nothing
abbrev pub fine : Finding
fine = Ok tt

-- a number that is read and not used, of any size: else 17
unfoldable pub plain_fault : List ℕ → ℕ → Finding
plain_fault text at = if is_number text at then fine else Err Form

-- "a used number outside a day file's limits": 18
unfoldable pub range_fault : List ℕ → ℕ → ℕ → ℕ → Finding
range_fault text at least most =
    result_and (plain_fault text at) (if ltb (number_at text at) least then Err Range else if ltb most (number_at text at) then Err Range else fine)

-- "customer lines are numbered 0, 1, 2 and on without a gap"
unfoldable pub order_fault : List ℕ → ℕ → ℕ → Finding
order_fault text at k = result_and (plain_fault text at) (if eqb (number_at text at) k then fine else Err Form)

-- behind a line's last field there is no other
unfoldable pub end_fault : List ℕ → ℕ → Finding
end_fault text at = if ends_line text at then fine else Err Form

-- "the name line and the lines of column names are any lines that aren't blank"
unfoldable pub name_fault : List ℕ → ℕ → ℕ → Finding
name_fault text i at = if eqb i 0 then (if ltb at (length text) then fine else Err Form) else fine

-- a line that is this word alone
unfoldable pub word_fault : List ℕ → List ℕ → ℕ → ℕ → Finding
word_fault text word i at = if eqb i 0 then (if is_word text at word then fine else Err Form) else end_fault text at

-- VEHICLE
unfoldable pub vehicle_word : List ℕ
vehicle_word = 0x56 ∷ 0x45 ∷ 0x48 ∷ 0x49 ∷ 0x43 ∷ 0x4C ∷ 0x45 ∷ []

-- CUSTOMER
unfoldable pub customer_word : List ℕ
customer_word = 0x43 ∷ 0x55 ∷ 0x53 ∷ 0x54 ∷ 0x4F ∷ 0x4D ∷ 0x45 ∷ 0x52 ∷ []

-- the vehicle number, which is not used, and the capacity, which is Q
unfoldable pub fleet_fault : List ℕ → ℕ → ℕ → Finding
fleet_fault text i at = if eqb i 0 then plain_fault text at else if eqb i 1 then range_fault text at 1 100000 else end_fault text at

-- "the depot's demand and service are read, may be of any size and are not used"
unfoldable pub is_unused : ℕ → ℕ → Bool
is_unused k i = if eqb k 0 then (if eqb i 3 then true else eqb i 6) else false

-- the most of abscissa and ordinate, "coordinates run 0..1,000", of demand, of ready time and due date, and of service time
unfoldable pub most_of : ℕ → ℕ
most_of i = if ltb i 3 then 1000 else if eqb i 3 then 100000 else if ltb i 6 then 1440 else 240

-- the least, behind a field of a number: no "due date before its ready time"
unfoldable pub least_of : ℕ → ℕ → ℕ
least_of i before = if eqb i 5 then before else 0

-- the line of customer k: number, abscissa, ordinate, demand, ready time, due date, service time
unfoldable pub customer_fault : List ℕ → ℕ → ℕ → ℕ → ℕ → Finding
customer_fault text k i at before =
    if eqb i 0 then order_fault text at k
    else if leb 7 i then end_fault text at
    else if is_unused k i then plain_fault text at
    else range_fault text at (least_of i before) (most_of i)

-- "a stop past 240": 18, whatever else its line holds
unfoldable pub beyond_fault : List ℕ → ℕ → ℕ → ℕ → Finding
beyond_fault text k i at = if eqb i 0 then result_and (order_fault text at k) (Err Range) else fine

-- what is wrong with field i of line j, which stands at a place behind a field of a number
unfoldable pub field_fault : List ℕ → ℕ → ℕ → ℕ → ℕ → Finding
field_fault text j i at before =
    if leb 247 j then beyond_fault text (j - 6) i at
    else if leb 6 j then customer_fault text (j - 6) i at before
    else if eqb j 1 then word_fault text vehicle_word i at
    else if eqb j 3 then fleet_fault text i at
    else if eqb j 4 then word_fault text customer_word i at
    else name_fault text i at

-- the first byte of field i of line j
abbrev pub place_of : List ℕ → ℕ → ℕ → ℕ
place_of text j i = field_at text (line_at text j) i

-- the number in front of that field
unfoldable pub number_before : List ℕ → ℕ → ℕ → ℕ
number_before text j zero = 0
number_before text j (suc i) = number_at text (place_of text j i)

-- what is wrong with field i of line j
abbrev pub fault_at : List ℕ → ℕ → ℕ → Finding
fault_at text j i = field_fault text j i (place_of text j i) (number_before text j i)

-- no line j is asked for: it stands behind the depot's, and is missing
unfoldable pub is_over : List ℕ → ℕ → Bool
is_over text j = if leb 7 j then leb (length text) (line_at text j) else false

-- an offence: a field of a line that is asked for or there, the number of its fault, 17 or 18, and its first byte
pub record Offends (text : List ℕ) (number place : ℕ) : Type 0 where
  pub line : ℕ
  pub field : ℕ
  pub asked : is_over text line ≡ false
  pub looked : field < 8
  pub fault : TextFault
  pub wrong : fault_at text line field ≡ Err fault
  pub numbered : text_fault_number fault ≡ number
  pub byte : place_of text line field ≡ place

-- what is found of a field whose first byte stands at a place
abbrev pub found_at : ℕ → Finding → Result ⊤ Offence
found_at place (Ok _) = Ok tt
found_at place (Err fault) = Err (record { fault = fault; place = place })

-- the first offence of line j from field i on, of so many fields
unfoldable pub fields_from : List ℕ → ℕ → ℕ → ℕ → Result ⊤ Offence
fields_from text j zero i = Ok tt
fields_from text j (suc left) i = result_and (found_at (place_of text j i) (fault_at text j i)) (fields_from text j left (suc i))

-- the first offence of line j
abbrev pub line_offence : List ℕ → ℕ → Result ⊤ Offence
line_offence text j = fields_from text j 8 0

-- the lines from line j on: the stops of the text, or the first offence; behind so many lines there may be no other, and the first too many is at fault
unfoldable pub lines_from : List ℕ → ℕ → ℕ → Result ℕ Offence
lines_from text zero j = if is_over text j then Ok (j - 7) else result_and (line_offence text j) (Ok (j - 7))
lines_from text (suc left) j = if is_over text j then Ok (j - 7) else result_and (line_offence text j) (lines_from text left (suc j))

-- the whole text: seven lines, and 240 stops at most
unfoldable pub judge_text : List ℕ → Result ℕ Offence
judge_text text = lines_from text 247 0
