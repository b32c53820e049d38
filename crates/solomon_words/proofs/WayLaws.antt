-- Laws of the legs' places in the day, row by row, and of writing them. Assumes nothing.
use Prim.Native.Nat.{ℕ, ◌+◌, ◌-◌, ◌*◌, ◌≤◌, ◌<◌}
use mathlib.Core.Path.{◌≡◌, refl, sym, ap, subst, ◌∙◌}
use mathlib.Core.List.{List}
use native.Mathlib.Omega.{arith}
use native.Mathlib.Nat.{mul-le-mul, mul-le-mul_right, add-mul}
use lib.ListN.{length, get_or, drop, set, get_or-append}
use borrow.Author.Tests.{le-ltb}
use Rattle.rules.specs.DayFile.{legs_at, words_of}
use Rattle.rules.specs.Lists.{listed, over}
use Rattle.rules.specs.SolomonDay.{way_word, day_word}
use Rattle.laws.specs.Buffer.{Wrote}
use Rattle.day.proofs.Forms.{row_of, column_of}
use Rattle.laws.proofs.Buffer.{length_over}
use Rattle.laws.proofs.Listed.{length_listed, get_listed, wrote_front, wrote_next, wrote_all, wrote_at, over_again}
use Rattle.solomon_words.specs.Table.{Begins, Fit}
use Rattle.solomon_words.specs.Instances.{number_in, stops_in, word_at, row_at, LegAsked}
use Rattle.solomon_words.specs.declared.Instance.{Instance}
use Rattle.solomon_words.proofs.LegLaws.{way_back}

-- a leg of a row stands in front of the next row
pub row_next : (row places : ℕ) → (row + 1) * places ≡ row * places + places
row_next row places = omega (arith, add-mul row 1 places)

-- the leg back stands in front of a leg to an earlier place
back_before : (row places column : ℕ) → column < row → row < places → column * places + row < row * places + column
back_before row places column h g = omega (arith, mul-le-mul_right places h, row_next column places)

-- a row of so many rows ends within them
pub row_within : (row places : ℕ) → row < places → row * places + places ≤ places * places
row_within row places h = omega (arith, mul-le-mul_right places h, row_next row places)

pub leg_within : (row places column : ℕ) → row < places → column < places → row * places + column < places * places
leg_within row places column h g = omega (arith, row_within row places h)

-- the place of a leg among the bytes of the day fits 64 bits
module _ {number : ℕ → ℕ → ℕ} {load n : ℕ} (f : Fit number load n) where
  pub byte_fits : (row column : ℕ) → row < 2 + n → column < 2 + n → (9 + 3 * n + (row * (2 + n) + column)) * 4 < 18446744073709551616
  byte_fits row column h g =
      let most : 2 + n ≤ 242 = omega (arith, f.stops_most) in
      let square : (2 + n) * (2 + n) ≤ 242 * 242 = mul-le-mul most most in
      omega (arith, leg_within row (2 + n) column h g, square, f.stops_most)

-- the word of a leg
module _ (number : ℕ → ℕ → ℕ) (load n : ℕ) where
  pub day_way : (row column : ℕ) → column < 2 + n → day_word number load n (legs_at 1 n + (row * (2 + n) + column)) ≡ way_word number (row - 1) (column - 1)
  unfolding day_word
  day_way row column h =
      let i = legs_at 1 n + (row * (2 + n) + column) in
      let behind : i - legs_at 1 n ≡ row * (2 + n) + column = omega arith in
      rw (
        le-ltb i 7 (omega arith),
        le-ltb i 9 (omega arith),
        le-ltb i (legs_at 1 n) (omega arith),
        behind,
        row_of row column (2 + n) h,
        column_of row column (2 + n) h,
      ) refl

module _ (given : Instance) where
  -- the word of a leg, by its row
  way_at : (row column : ℕ) → column < 2 + stops_in given → word_at given (row_at given row + column) ≡ way_word (number_in given) (row - 1) (column - 1)
  way_at row column h =
      let i : row_at given row + column ≡ legs_at 1 (stops_in given) + (row * (2 + stops_in given) + column) = omega arith in
      ap (word_at given) i ∙ day_way (number_in given) given.load (stops_in given) row column h

  -- a leg that was written before, the other way
  pub leg_copied : (words : List ℕ) (row column : ℕ) {start : ℕ} → LegAsked given words row column → column < row → start ≡ row_at given column
      → get_or words (start + row) 0 ≡ way_word (number_in given) (row - 1) (column - 1)
  leg_copied words row column a h e =
      a.begins _ (omega (arith, back_before row (2 + stops_in given) column h a.row))
      ∙ ap (λ (k : ℕ). word_at given (k + row)) e ∙ way_at column row a.row ∙ way_back (number_in given) (column - 1) (row - 1)

  module _ (before : List ℕ) {words : List ℕ} (row column : ℕ) (w : Wrote (listed (word_at given) (row_at given row + column)) before words (row_at given row + column))
      (room : words_of 1 (stops_in given) ≤ length before) (r : row < 2 + stops_in given) where
    -- the words of a row in front of a leg, before its word is written and after
    pub leg_asked : column < 2 + stops_in given → LegAsked given words row column
    leg_asked h = record {
      row = r;
      column = h;
      room = omega (arith, w.size);
      begins = wrote_at (word_at given) w;
    }

    pub leg_written : {word start : ℕ} → column < 2 + stops_in given → start ≡ row_at given row → word ≡ way_word (number_in given) (row - 1) (column - 1)
        → Wrote (listed (word_at given) (row_at given row + (column + 1))) before (set words (start + column) word) (row_at given row + (column + 1))
    leg_written {word} h es e =
        let next : row_at given row + column + 1 ≡ row_at given row + (column + 1) = omega arith in
        let wrote = wrote_next (word_at given) before words (row_at given row + column) w (e ∙ sym (way_at row column h)) (omega (arith, row_within row (2 + stops_in given) r)) in
        rw es (subst (λ (k : ℕ). Wrote (listed (word_at given) k) before (set words (row_at given row + column) word) k) next wrote)

    -- the row is written
    pub row_written : 2 + stops_in given ≤ column → column ≤ 2 + stops_in given → words ≡ over (listed (word_at given) (row_at given (row + 1))) before
    row_written low high =
        let end : row_at given row + column ≡ row_at given (row + 1) = omega (arith, row_next row (2 + stops_in given)) in
        wrote_all (word_at given) before words (row_at given row + column) (row_at given (row + 1)) w (omega arith) (omega arith)

-- the rows so far, and one row more
module _ (given : Instance) where
  -- the words in front of a row, where they stand in the buffer
  pub row_begun : (words : List ℕ) (row column : ℕ) → row < 2 + stops_in given → column ≡ 0 → words_of 1 (stops_in given) ≤ length words
      → Begins (word_at given) words (row_at given row) → Wrote (listed (word_at given) (row_at given row + column)) words words (row_at given row + column)
  row_begun words row column r z room begun =
      wrote_front (word_at given) words (row_at given row + column) (omega (arith, row_within row (2 + stops_in given) r)) (λ j h. begun j (omega arith))

  pub rows_begun : (words : List ℕ) → words_of 1 (stops_in given) ≤ length words → Begins (word_at given) words (legs_at 1 (stops_in given))
      → Wrote (listed (word_at given) (row_at given 0)) words words (row_at given 0)
  rows_begun words room begun = wrote_front (word_at given) words (row_at given 0) (omega arith) (λ j h. begun j (omega arith))

  module _ (before : List ℕ) {words : List ℕ} (row : ℕ) (w : Wrote (listed (word_at given) (row_at given row)) before words (row_at given row)) where
    pub rows_begin : Begins (word_at given) words (row_at given row)
    rows_begin = wrote_at (word_at given) w

    pub rows_more : {after : List ℕ} → row < 2 + stops_in given → words_of 1 (stops_in given) ≤ length before
        → after ≡ over (listed (word_at given) (row_at given (row + 1))) words
        → Wrote (listed (word_at given) (row_at given (row + 1))) before after (row_at given (row + 1))
    rows_more r room e =
        let f = listed (word_at given) in
        let next = row_at given (row + 1) in
        let whole = e ∙ ap (over (f next)) w.text
        ∙ over_again (f (row_at given row)) (f next) before
        (omega (arith, length_listed (word_at given) (row_at given row), length_listed (word_at given) next, row_next row (2 + stops_in given))) in
        record {
          count = sym (length_listed (word_at given) next);
          text = whole;
          size = ap length whole ∙ length_over (f next) before (omega (arith, length_listed (word_at given) next, row_next row (2 + stops_in given), row_within row (2 + stops_in given) r));
        }

    pub rows_end : 2 + stops_in given ≤ row → row ≤ 2 + stops_in given → words ≡ over (listed (word_at given) (words_of 1 (stops_in given))) before
    rows_end low high =
        let end : row ≡ 2 + stops_in given = omega arith in
        let all : row_at given row ≡ words_of 1 (stops_in given) = rw end refl in
        wrote_all (word_at given) before words (row_at given row) (words_of 1 (stops_in given)) w (omega arith) (omega arith)

-- the legs behind the words in front of them
module _ (f : ℕ → ℕ) (words : List ℕ) {after : List ℕ} where
  pub front_begins : (n : ℕ) → after ≡ over (listed f (legs_at 1 n)) words → Begins f after (legs_at 1 n)
  unfolding over
  front_begins n e j h =
      ap (λ (xs : List ℕ). get_or xs j 0) e
      ∙ get_or-append (listed f (legs_at 1 n)) (drop (length (listed f (legs_at 1 n))) words) 0 j (omega (arith, length_listed f (legs_at 1 n)))
      ∙ get_listed f (legs_at 1 n) j h

  pub day_written : (n : ℕ) {last : List ℕ} → after ≡ over (listed f (legs_at 1 n)) words → last ≡ over (listed f (words_of 1 n)) after
      → last ≡ over (listed f (words_of 1 n)) words
  day_written n e el =
      el ∙ ap (over (listed f (words_of 1 n))) e
      ∙ over_again (listed f (legs_at 1 n)) (listed f (words_of 1 n)) words (omega (arith, length_listed f (legs_at 1 n), length_listed f (words_of 1 n)))
