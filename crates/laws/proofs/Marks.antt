-- Laws of sets of numbers and of the words that hold one: a mark set, a mark taken off, the lowest mark, no marks.
-- Assumes nothing.
use Prim.Native.Nat.{ℕ, zero, suc, ◌+◌, ◌-◌, ◌*◌, ◌/◌, ◌%◌, ◌^◌, ◌≤◌, ◌<◌}
use mathlib.Core.Path.{◌≡◌, refl, sym, ap, ap₂, ◌∙◌, fun_ext}
use mathlib.Core.Bool.{Bool, true, false, true≢false, and-true, and-false, or-true, or-false}
use mathlib.Core.Logic.{◌≢◌}
use mathlib.Core.List.{List, [], ◌∷◌}
use native.Mathlib.Nat.{lt_of_not-le}
use native.Mathlib.Decide.{ℕ_discrete, dec_lt}
use native.Mathlib.Omega.{arith}
use lib.ListN.{length, get_or, set, replicate, get_or-eq_default}
use lib.Seq.{get_or-set_same, get_or-set_other}
use lib.Dec.{eqb, ltb}
use lib.Count.{ones}
use borrow.Author.Tests.{eqb-true, eqb-false, eq-eqb, ne_eqb, lt-ltb, le-ltb, lt-leb, le-leb}
use Rattle.laws.specs.Bits.{bit, LowestBit}
use Rattle.laws.specs.Marks.{both, without, including, up_to, Lowest, marked, ones_of, Unmarked, Marked}
use Rattle.laws.proofs.Bits.{bit_lt, bit_of_zero, bit_add_same, bit_add_other, ones_add_bit}
use Rattle.laws.proofs.Bits.{bit_sub_same, bit_sub_other, ones_sub_bit}

-- the numbers of both sets, by whether the first has k
pub both_in : (p q : ℕ → Bool) (k : ℕ) → p k ≡ true → both p q k ≡ q k
unfolding both
both_in p q k e = rw e refl

pub both_out : (p q : ℕ → Bool) (k : ℕ) → p k ≡ false → both p q k ≡ false
unfolding both
both_out p q k e = rw e refl

-- a set without k: at k, and elsewhere
pub without_same : (p : ℕ → Bool) (k j : ℕ) → j ≡ k → without p k j ≡ false
unfolding without
without_same p k j q = rw (eq-eqb j k q) (and-false (p j))

pub without_other : (p : ℕ → Bool) (k j : ℕ) → j ≢ k → without p k j ≡ p j
unfolding without
without_other p k j q = rw (ne_eqb j k q) (and-true (p j))

-- a set with k: at k, and elsewhere
pub including_same : (p : ℕ → Bool) (k j : ℕ) → j ≡ k → including p k j ≡ true
unfolding including
including_same p k j q = rw (eq-eqb j k q) (or-true (p j))

pub including_other : (p : ℕ → Bool) (k j : ℕ) → j ≢ k → including p k j ≡ p j
unfolding including
including_other p k j q = rw (ne_eqb j k q) (or-false (p j))

-- the numbers 1..n: 0 is none of them, nor is a number beyond n, and each between is
pub up_to_low : (n : ℕ) → up_to n 0 ≡ false
unfolding up_to
up_to_low n = rw (le-ltb 0 0 (omega arith)) refl

pub up_to_out : (n j : ℕ) → n < j → up_to n j ≡ false
unfolding up_to
up_to_out n j l = rw (lt-leb j n l) (and-false (ltb 0 j))

pub up_to_in : (n j : ℕ) → 0 < j → j ≤ n → up_to n j ≡ true
unfolding up_to
up_to_in n j p l = rw (lt-ltb 0 j p, le-leb j n l) refl

-- 1..0 has no number, and 1..n with the next number is 1..n + 1
pub up_to_zero : (j : ℕ) → up_to 0 j ≡ false
up_to_zero zero = up_to_low 0
up_to_zero (suc j) = up_to_out 0 (suc j) (omega arith)

pub up_to_suc : (n : ℕ) → including (up_to n) (n + 1) ≡ up_to (n + 1)
unfolding up_to
up_to_suc n = fun_ext (λ j. elim (ℕ_discrete j (n + 1)) [
  | yes q ↦ including_same (up_to n) (n + 1) j q ∙ sym (up_to_in (n + 1) j (omega arith) (omega arith))
  | no q ↦ including_other (up_to n) (n + 1) j q ∙ elim (dec_lt n j) [
    | yes l ↦ rw (lt-leb j n l, lt-leb j (n + 1) (omega (arith, q))) refl
    | no l ↦ rw (le-leb j n (omega arith), le-leb j (n + 1) (omega arith)) refl
  ]
])

-- a bit that is clear is no mark
bit_off : {x : ℕ} → x ≡ 0 → eqb x 1 ≡ false
bit_off {x} q = ne_eqb x 1 (λ (z : x ≡ 1). omega arith)

-- a word that is 0 has no mark
marked_clear : (ws : List ℕ) (k : ℕ) → get_or ws (k / 64) 0 ≡ 0 → marked ws k ≡ false
unfolding marked
marked_clear ws k e = bit_off (ap (λ (w : ℕ). bit w (k % 64)) e ∙ bit_of_zero (k % 64))

-- a marked number lies within the words, and its bit is set; a number that is not marked has its bit clear
pub marked_within : (ws : List ℕ) (k : ℕ) → marked ws k ≡ true → k / 64 < length ws
marked_within ws k e = lt_of_not-le (λ l. true≢false (sym e ∙ marked_clear ws k (get_or-eq_default ws 0 l)))

pub marked_bit : (ws : List ℕ) (k : ℕ) → marked ws k ≡ true → bit (get_or ws (k / 64) 0) (k % 64) ≡ 1
unfolding marked
marked_bit ws k e = eqb-true _ _ e

pub unmarked_bit : (ws : List ℕ) (k : ℕ) → marked ws k ≡ false → bit (get_or ws (k / 64) 0) (k % 64) ≡ 0
unfolding marked
unmarked_bit ws k e =
    omega (arith, bit_lt (get_or ws (k / 64) 0) (k % 64), eqb-false (bit (get_or ws (k / 64) 0) (k % 64)) 1 e)

-- the ones of all words after a store
pub ones_of_set : (ws : List ℕ) (i v : ℕ) → i < length ws
    → ones_of (set ws i v) + ones (get_or ws i 0) ≡ ones_of ws + ones v
unfolding ones_of
ones_of_set [] i v l = absurd (omega arith)
ones_of_set (w ∷ ws) zero v l = omega arith
ones_of_set (w ∷ ws) (suc i) v l = omega (arith, ones_of_set ws i v (omega arith))

-- the marks after k's word became v, which has the same bits but for k's own: k by that bit, and the others as before
module _ (ws : List ℕ) (k v : ℕ) (l : k / 64 < length ws) where
  marked_here : marked (set ws (k / 64) v) k ≡ eqb (bit v (k % 64)) 1
  unfolding marked
  marked_here = ap (λ (w : ℕ). eqb (bit w (k % 64)) 1) (get_or-set_same ws (k / 64) v 0 l)

  marked_there : ((b : ℕ) → b ≢ k % 64 → bit v b ≡ bit (get_or ws (k / 64) 0) b)
      → (j : ℕ) → j ≢ k → marked (set ws (k / 64) v) j ≡ marked ws j
  unfolding marked
  marked_there others j n = elim (ℕ_discrete (j / 64) (k / 64)) [
    | yes q ↦
        ap (λ (i : ℕ). eqb (bit (get_or (set ws (k / 64) v) i 0) (j % 64)) 1) q
        ∙ ap (λ (w : ℕ). eqb (bit w (j % 64)) 1) (get_or-set_same ws (k / 64) v 0 l)
        ∙ ap (λ (x : ℕ). eqb x 1) (others (j % 64) (λ r. n (omega arith)))
        ∙ ap (λ (i : ℕ). eqb (bit (get_or ws i 0) (j % 64)) 1) (sym q)
    | no q ↦ ap (λ (w : ℕ). eqb (bit w (j % 64)) 1) (get_or-set_other ws (k / 64) (j / 64) v 0 q)
  ]

  marked_set : (p : ℕ → Bool)
      → ((b : ℕ) → b ≢ k % 64 → bit v b ≡ bit (get_or ws (k / 64) 0) b)
      → eqb (bit v (k % 64)) 1 ≡ p k
      → ((j : ℕ) → j ≢ k → p j ≡ marked ws j)
      → marked (set ws (k / 64) v) ≡ p
  marked_set p others here there = fun_ext (λ j. elim (ℕ_discrete j k) [
    | yes q ↦ ap (marked (set ws (k / 64) v)) q ∙ marked_here ∙ here ∙ ap p (sym q)
    | no q ↦ marked_there others j q ∙ sym (there j q)
  ])

-- a mark is taken off
pub unmark_words : (ws : List ℕ) (k : ℕ) → marked ws k ≡ true
    → Unmarked ws k (set ws (k / 64) (get_or ws (k / 64) 0 - 2 ^ (k % 64)))
unmark_words ws k e = record {
  marks =
      marked_set ws k _ within (without (marked ws) k)
      (λ b n. bit_sub_other (k % 64) word b is_set n)
      (bit_off (bit_sub_same (k % 64) word is_set) ∙ sym (without_same (marked ws) k k refl))
      (without_other (marked ws) k);
  count = omega (arith, ones_of_set ws (k / 64) (word - 2 ^ (k % 64)) within, ones_sub_bit (k % 64) word is_set);
}
  where
    word : ℕ
    word = get_or ws (k / 64) 0

    within : k / 64 < length ws
    within = marked_within ws k e

    is_set : bit (get_or ws (k / 64) 0) (k % 64) ≡ 1
    is_set = marked_bit ws k e

-- a number is marked that was not
pub mark_words : (ws : List ℕ) (k : ℕ) → k / 64 < length ws → marked ws k ≡ false
    → Marked ws k (set ws (k / 64) (get_or ws (k / 64) 0 + 2 ^ (k % 64)))
mark_words ws k within e = record {
  marks =
      marked_set ws k _ within (including (marked ws) k)
      (λ b n. bit_add_other (k % 64) word b is_clear n)
      (eq-eqb _ _ (bit_add_same (k % 64) word is_clear) ∙ sym (including_same (marked ws) k k refl))
      (including_other (marked ws) k);
  count = omega (arith, ones_of_set ws (k / 64) (word + 2 ^ (k % 64)) within, ones_add_bit (k % 64) word is_clear);
}
  where
    word : ℕ
    word = get_or ws (k / 64) 0

    is_clear : bit (get_or ws (k / 64) 0) (k % 64) ≡ 0
    is_clear = unmarked_bit ws k e

-- where the words before word i have no mark: word i is 0 and has none either, or its lowest bit is the lowest mark
module _ (ws : List ℕ) (i : ℕ) (none : (j : ℕ) → j < i * 64 → marked ws j ≡ false) where
  pub lowest_next : get_or ws i 0 ≡ 0 → (j : ℕ) → j < (i + 1) * 64 → marked ws j ≡ false
  lowest_next e j l = elim (dec_lt j (i * 64)) [
    | yes h ↦ none j h
    | no h ↦
        let q : j / 64 ≡ i = omega arith in
        marked_clear ws j (ap (λ (n : ℕ). get_or ws n 0) q ∙ e)
  ]

  pub lowest_word : (n t : ℕ) → i < n → LowestBit 64 (get_or ws i 0) t → Lowest (marked ws) (n * 64) (i * 64 + t)
  unfolding marked
  lowest_word n t l b = record {
    within = omega (arith, b.within);
    below = λ j h. elim (dec_lt j (i * 64)) [
      | yes g ↦ none j g
      | no g ↦
          let q : j / 64 ≡ i = omega (arith, b.within) in
          bit_off (ap (λ (n : ℕ). bit (get_or ws n 0) (j % 64)) q ∙ b.below (j % 64) (omega (arith, b.within)))
    ];
    is_marked = λ _.
        let q : (i * 64 + t) / 64 ≡ i = omega (arith, b.within) in
        let r : (i * 64 + t) % 64 ≡ t = omega (arith, b.within) in
        eq-eqb _ _ (ap₂ (λ (n c : ℕ). bit (get_or ws n 0) c) q r ∙ b.is_set);
  }

-- words that are all 0 have no marks
get_or_replicate_default : {A : Type 0} (n i : ℕ) (d : A) → get_or (replicate n d) i d ≡ d
get_or_replicate_default zero i d = refl
get_or_replicate_default (suc n) zero d = refl
get_or_replicate_default (suc n) (suc i) d = get_or_replicate_default n i d

pub marked_none : (n : ℕ) → marked (replicate n 0) ≡ up_to 0
marked_none n =
    fun_ext (λ j. marked_clear (replicate n 0) j (get_or_replicate_default n (j / 64) 0) ∙ sym (up_to_zero j))

pub ones_of_none : (n : ℕ) → ones_of (replicate n 0) ≡ 0
unfolding ones_of ones
ones_of_none zero = refl
ones_of_none (suc n) = omega (arith, ones_of_none n)
