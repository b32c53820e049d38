-- The words of the day by their indices, and that sources that say the same give the same day. Assumes nothing.
use Rattle.std.specs.Prelude.{if◌then◌else◌}
use Prim.Native.Nat.{ℕ, ◌+◌, ◌-◌, ◌*◌, ◌/◌, ◌%◌, ◌≤◌, ◌<◌}
use mathlib.Core.Path.{◌≡◌, refl}
use mathlib.Core.Bool.{Bool, true, false}
use native.Mathlib.Omega.{arith}
use native.Mathlib.Nat.{div-mul-le_self, lt_of_mul-lt-mul_right, mod-lt}
use lib.Dec.{ltb}
use borrow.Author.Tests.{ltb-false, ltb-true}
use Rattle.rules.specs.DayFile.{legs_at, places_of, words_of}
use Rattle.rules.specs.SolomonDay.{hours_word, head_word, tip_word, stop_word, way_word, day_word, day_words}
use Rattle.laws.proofs.Listed.{listed_same}
use Rattle.solomon_words.specs.Table.{Same}

-- row and column of a leg
pub row_few : (n j : ℕ) → j < places_of 1 n * places_of 1 n → j / places_of 1 n - 1 ≤ n
row_few n j h =
    let row : j / places_of 1 n < places_of 1 n = lt_of_mul-lt-mul_right (places_of 1 n) (omega (arith, div-mul-le_self j (places_of 1 n))) in
    omega arith

pub column_few : (n j : ℕ) → j % places_of 1 n - 1 ≤ n
column_few n j = let column : j % places_of 1 n < places_of 1 n = mod-lt j (omega arith) in omega arith

module _ {n : ℕ} {f g : ℕ → ℕ → ℕ} (s : Same n f g) where
  hours_same : (k : ℕ) → k ≤ n → hours_word f k ≡ hours_word g k
  hours_same k h = rw (s.opens k h, s.closes k h) refl

  head_same : (load i : ℕ) → head_word f load n i ≡ head_word g load n i
  unfolding head_word
  head_same load i = rw (hours_same 0 (omega arith)) refl

  tip_same : (j : ℕ) → tip_word f j ≡ tip_word g j
  unfolding tip_word
  tip_same j = rw (hours_same 0 (omega arith)) refl

  stop_same : (j : ℕ) → j < 3 * n → stop_word f j ≡ stop_word g j
  unfolding stop_word
  stop_same j h =
      let few : 1 + j / 3 ≤ n = omega arith in
      rw (hours_same (1 + j / 3) few, s.service (1 + j / 3) (omega arith) few, s.demand (1 + j / 3) (omega arith) few) refl

  way_same : (a b : ℕ) → a ≤ n → b ≤ n → way_word f a b ≡ way_word g a b
  way_same a b h l = rw (s.across a h, s.across b l, s.upward a h, s.upward b l) refl

  word_same : (load i : ℕ) → i < words_of 1 n → day_word f load n i ≡ day_word g load n i
  unfolding day_word
  word_same load i h = go (ltb i 7) (ltb i 9) (ltb i (legs_at 1 n)) refl refl refl
    where
      go : (a b c : Bool) → ltb i 7 ≡ a → ltb i 9 ≡ b → ltb i (legs_at 1 n) ≡ c
          → (if a then head_word f load n i
          else if b then tip_word f (i - 7)
          else if c then stop_word f (i - 9)
          else way_word f ((i - legs_at 1 n) / places_of 1 n - 1) ((i - legs_at 1 n) % places_of 1 n - 1))
          ≡ (if a then head_word g load n i
          else if b then tip_word g (i - 7)
          else if c then stop_word g (i - 9)
          else way_word g ((i - legs_at 1 n) / places_of 1 n - 1) ((i - legs_at 1 n) % places_of 1 n - 1))
      go true b c ea eb ec = head_same load i
      go false true c ea eb ec = tip_same (i - 7)
      go false false true ea eb ec = stop_same (i - 9) (omega (arith, ltb-true i (legs_at 1 n) ec, ltb-false i 9 eb))
      go false false false ea eb ec =
          way_same ((i - legs_at 1 n) / places_of 1 n - 1) ((i - legs_at 1 n) % places_of 1 n - 1)
          (row_few n (i - legs_at 1 n) (omega (arith, ltb-false i (legs_at 1 n) ec))) (column_few n (i - legs_at 1 n))

  pub words_same : (load : ℕ) → day_words f load n ≡ day_words g load n
  words_same load = listed_same (day_word f load n) (day_word g load n) (words_of 1 n) (word_same load)
