-- Places in a text: none goes back, and the fields of a line do not run over it. Assumes nothing.
use Rattle.std.specs.Prelude.{if◌then◌else◌}
use Prim.Native.Nat.{ℕ, zero, suc, ◌≤◌, ◌<◌}
use mathlib.Core.Path.{◌≡◌, refl, sym, ap, ◌∙◌}
use mathlib.Core.Bool.{Bool, true, false, not, false≢true}
use mathlib.Core.List.{List, [], ◌∷◌}
use native.Mathlib.Decide.{ℕ_discrete}
use native.Mathlib.Numerals.{add-one}
use native.Mathlib.Omega.{arith}
use lib.ListN.{drop}
use lib.Seq.{drop-drop}
use lib.Dec.{ltb, eqb}
use borrow.Author.Tests.{ltb-true, eqb-true}
use Rattle.rules.specs.TextFields.{is_blank, is_feed, is_gap, is_field_byte, is_line_byte, is_digit, passed_from, passed, next_field, field_at, line_at, is_number}

-- a place never goes back
passed_from_later : (kind : ℕ → Bool) (bs : List ℕ) (i : ℕ) → i ≤ passed_from kind bs i
unfolding passed_from
passed_from_later kind [] i = omega arith
passed_from_later kind (b ∷ bs) i = go (kind b) (passed_from_later kind bs (suc i))
  where
    go : (t : Bool) → suc i ≤ passed_from kind bs (suc i) → i ≤ (if t then passed_from kind bs (suc i) else i)
    go true h = omega arith
    go false h = omega arith

passed_later : (kind : ℕ → Bool) (text : List ℕ) (at : ℕ) → at ≤ passed kind text at
unfolding passed
passed_later kind text at = passed_from_later kind (drop at text) at

field_later : (text : List ℕ) (at i : ℕ) → field_at text at i ≤ field_at text at (suc i)
unfolding field_at
field_later text at i =
    omega (arith, passed_later is_field_byte text (field_at text at i), passed_later is_blank text (passed is_field_byte text (field_at text at i)))

line_later : (text : List ℕ) (j : ℕ) → line_at text j ≤ line_at text (suc j)
unfolding line_at
line_later text j =
    omega (arith, passed_later is_line_byte text (line_at text j), passed_later is_gap text (passed is_line_byte text (line_at text j)))

-- what rises from each number to the next rises
rising : (f : ℕ → ℕ) → ((i : ℕ) → f i ≤ f (suc i)) → (i k : ℕ) → i ≤ k → f i ≤ f k
rising f up i zero h = let e : i ≡ 0 = omega arith in rw e (omega arith)
rising f up i (suc k) h = elim (ℕ_discrete i (suc k)) [
  | yes e ↦ rw e (omega arith)
  | no n ↦ omega (arith, up k, rising f up i k (omega arith))
]

-- fields stand in rising order in their line, and so do the lines
pub fields_rise : (text : List ℕ) (at i k : ℕ) → i ≤ k → field_at text at i ≤ field_at text at k
fields_rise text at i k h = rising (field_at text at) (field_later text at) i k h

pub lines_rise : (text : List ℕ) (j k : ℕ) → j ≤ k → line_at text j ≤ line_at text k
lines_rise text j k h = rising (line_at text) (line_later text) j k h

-- behind a field that is there the next one's place is a later one
pub number_later : (text : List ℕ) (at i : ℕ) → is_number text (field_at text at i) ≡ true → field_at text at i < field_at text at (suc i)
unfolding is_number field_at
number_later text at i e = go (ltb here digits) refl e
  where
    here : ℕ
    here = field_at text at i

    digits : ℕ
    digits = passed is_digit text here

    go : (t : Bool) → ltb here digits ≡ t → (if t then eqb digits (passed is_field_byte text here) else false) ≡ true → here < next_field text here
    go true et h =
        omega (arith, ltb-true here digits et, eqb-true digits (passed is_field_byte text here) h, passed_later is_blank text (passed is_field_byte text here))
    go false et h = absurd (false≢true h)

-- to pass over bytes of a line leaves the line's end where it is
within_from : (kind : ℕ → Bool) → ((b : ℕ) → kind b ≡ true → is_line_byte b ≡ true) → (text bs : List ℕ) (i : ℕ) → drop i text ≡ bs
    → passed_from is_line_byte (drop (passed_from kind bs i) text) (passed_from kind bs i) ≡ passed_from is_line_byte bs i
unfolding passed_from
within_from kind inside text [] i e = rw e refl
within_from kind inside text (b ∷ bs) i e = go (kind b) refl (within_from kind inside text bs (suc i) next)
  where
    next : drop (suc i) text ≡ bs
    next = rw (← add-one i, ← drop-drop 1 i text, e) refl

    go : (t : Bool) → kind b ≡ t
        → passed_from is_line_byte (drop (passed_from kind bs (suc i)) text) (passed_from kind bs (suc i)) ≡ passed_from is_line_byte bs (suc i)
        → passed_from is_line_byte (drop (if t then passed_from kind bs (suc i) else i) text) (if t then passed_from kind bs (suc i) else i)
        ≡ (if is_line_byte b then passed_from is_line_byte bs (suc i) else i)
    go true et h = h ∙ rw (inside b et) refl
    go false et h = rw e refl

within : (kind : ℕ → Bool) → ((b : ℕ) → kind b ≡ true → is_line_byte b ≡ true) → (text : List ℕ) (at : ℕ)
    → passed is_line_byte text (passed kind text at) ≡ passed is_line_byte text at
unfolding passed
within kind inside text at = within_from kind inside text (drop at text) at refl

-- blanks and the bytes of a field are bytes of a line
field_inside : (b : ℕ) → is_field_byte b ≡ true → is_line_byte b ≡ true
unfolding is_field_byte is_gap is_line_byte
field_inside b h = go (is_feed b) h
  where
    go : (t : Bool) → not (if t then true else is_blank b) ≡ true → not t ≡ true
    go true h = h
    go false h = refl

blank_inside : (b : ℕ) → is_blank b ≡ true → is_line_byte b ≡ true
unfolding is_blank is_line_byte is_feed
blank_inside b h = go (eqb b 0x0A) refl
  where
    go : (t : Bool) → eqb b 0x0A ≡ t → not t ≡ true
    go true e = absurd (false≢true (sym (ap is_blank (eqb-true b 0x0A e)) ∙ h))
    go false e = refl

line_kept : (text : List ℕ) (at i : ℕ) → passed is_line_byte text (field_at text at i) ≡ passed is_line_byte text at
unfolding field_at
line_kept text at zero = refl
line_kept text at (suc i) =
    within is_blank blank_inside text (passed is_field_byte text (field_at text at i)) ∙ within is_field_byte field_inside text (field_at text at i)
    ∙ line_kept text at i

-- no field of a line stands behind the next line's place
pub fields_before : (text : List ℕ) (j i : ℕ) → field_at text (line_at text j) i ≤ line_at text (suc j)
unfolding line_at
fields_before text j i =
    omega (
      arith,
      passed_later is_line_byte text (field_at text (line_at text j) i),
      line_kept text (line_at text j) i,
      passed_later is_gap text (passed is_line_byte text (line_at text j)),
    )
