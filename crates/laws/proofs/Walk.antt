-- Laws of a search over marked numbers: how it begins in a word, goes on by one mark, ends the word, and ends.
-- Assumes nothing.
use Rattle.std.specs.Prelude.{if◌then◌else◌}
use Prim.Native.Nat.{ℕ, zero, suc, ◌+◌, ◌-◌, ◌*◌, ◌/◌, ◌%◌, ◌^◌, ◌≤◌, ◌<◌, min}
use mathlib.Core.Path.{◌≡◌, refl, sym, ap, ap₂, ◌∙◌}
use mathlib.Core.Bool.{Bool, true, false, and-false}
use mathlib.Core.List.{List}
use mathlib.Core.Logic.{⊎_elim}
use native.Mathlib.Nat.{eq-or-lt_of_le}
use native.Mathlib.Decide.{ℕ_discrete, dec_lt}
use native.Mathlib.Omega.{arith}
use lib.ListN.{get_or}
use lib.Dec.{eqb}
use borrow.Author.Tests.{ne_eqb, eq-eqb}
use Rattle.rules.specs.Tests.{better, least}
use Rattle.laws.specs.Bits.{bit, LowestBit}
use Rattle.laws.specs.Marks.{both, marked, up_to}
use Rattle.laws.specs.Walk.{least_below, best_of, WordWalk}
use Rattle.laws.proofs.Bits.{bit_of_zero, bit_sub_same, bit_sub_other}
use Rattle.laws.proofs.Least.{better_fails, better_same, least_none, least_suc}
use Rattle.laws.proofs.Marks.{both_in, both_out, up_to_low, up_to_out, up_to_in}

-- a word's numbers one by one: a clear bit changes nothing, nor do several, and a set one is compared
module _ (ok : ℕ → Bool) (key : ℕ → ℕ) (word first before : ℕ) where
  best_clear : (m : ℕ) → bit word m ≡ 0 → best_of ok key word first before (suc m) ≡ best_of ok key word first before m
  unfolding best_of
  best_clear m e = rw (ne_eqb (bit word m) 1 (λ (x : bit word m ≡ 1). omega arith)) refl

  best_set : (m : ℕ) → bit word m ≡ 1
      → best_of ok key word first before (suc m) ≡ better ok key (first + m) (best_of ok key word first before m)
  unfolding best_of
  best_set m e = rw (eq-eqb (bit word m) 1 e) refl

  best_skip : (a b : ℕ) → a ≤ b → ((j : ℕ) → a ≤ j → j < b → bit word j ≡ 0)
      → best_of ok key word first before b ≡ best_of ok key word first before a
  unfolding best_of
  best_skip a zero l clear = let none : 0 ≡ a = omega arith in ap (best_of ok key word first before) none
  best_skip a (suc b) l clear = ⊎_elim
      (λ (q : a ≡ suc b). ap (best_of ok key word first before) (sym q))
      (λ (w : a < suc b). best_clear b (clear b (omega arith) (omega arith)) ∙ best_skip a b (omega arith) (λ j x y. clear j x (omega arith)))
      (eq-or-lt_of_le l)

  -- the walk begins with all bits of the word
  pub walk_start : (rest best : ℕ) → rest ≡ word → best ≡ before → WordWalk ok key word first before rest best
  unfolding best_of
  walk_start rest best er eb = record {
    at = 0;
    within = omega arith;
    below = λ j l. absurd (omega arith);
    same = λ j l. ap (λ (x : ℕ). bit x j) er;
    so_far = eb;
  }

  -- it goes on by the lowest bit that is left
  pub walk_next_lem : (rest best b : ℕ) {next : ℕ} → WordWalk ok key word first before rest best → LowestBit 64 rest b
      → next ≡ better ok key (first + b) best → WordWalk ok key word first before (rest - 2 ^ b) next
  walk_next_lem rest best b h low e = record {
    at = suc b;
    within = omega (arith, low.within);
    below = λ j l. elim (ℕ_discrete j b) [
      | yes x ↦ ap (bit (rest - 2 ^ b)) x ∙ bit_sub_same b rest low.is_set
      | no x ↦ bit_sub_other b rest j low.is_set x ∙ low.below j (omega (arith, x))
    ];
    same = λ j l. bit_sub_other b rest j low.is_set (λ (x : j ≡ b). omega arith) ∙ h.same j (omega (arith, reached));
    so_far = e ∙ ap (better ok key (first + b)) passed ∙ sym (best_set b (sym (h.same b reached) ∙ low.is_set));
  }
    where
      reached : h.at ≤ b
      reached = elim (dec_lt b h.at) [ yes l ↦ absurd (omega (arith, h.below b l, low.is_set)) | no l ↦ omega arith ]

      passed : best ≡ best_of ok key word first before b
      passed = h.so_far ∙ sym (best_skip h.at b reached (λ j x y. sym (h.same j x) ∙ low.below j y))

  -- it ends where no bit is left
  pub walk_end : (rest best : ℕ) → WordWalk ok key word first before rest best → rest ≡ 0
      → best ≡ best_of ok key word first before 64
  walk_end rest best h z = h.so_far ∙ sym (best_skip h.at 64 h.within (λ j x _. clear j x))
    where
      clear : (j : ℕ) → h.at ≤ j → bit word j ≡ 0
      clear j l = sym (h.same j l) ∙ ap (λ (x : ℕ). bit x j) z ∙ bit_of_zero j

-- the numbers of 1..n below `at`: none below 0, one more, and all of them below what is beyond n
module _ (ok : ℕ → Bool) (key : ℕ → ℕ) (n : ℕ) where
  pub below_none : 0 ≡ least_below ok key n 0
  unfolding least_below
  below_none = let none : min n (0 - 1) ≡ 0 = omega arith in sym (least_none ok key) ∙ ap (least ok key) (sym none)

  below_next : (k : ℕ) → better (both (up_to n) ok) key k (least_below ok key n k) ≡ least_below ok key n (suc k)
  unfolding least_below
  below_next zero =
      let same : min n (0 - 1) ≡ min n (1 - 1) = omega arith in
      better_fails _ _ 0 _ (both_out (up_to n) ok 0 (up_to_low n)) ∙ ap (least ok key) same
  below_next (suc k) = go (dec_lt n (suc k))
    where
      go : Dec (n < suc k) → better (both (up_to n) ok) key (suc k) (least ok key (min n (suc k - 1)))
          ≡ least ok key (min n (suc (suc k) - 1))
      go (yes l) =
          let same : min n (suc k - 1) ≡ min n (suc (suc k) - 1) = omega arith in
          better_fails _ _ (suc k) _ (both_out (up_to n) ok (suc k) (up_to_out n (suc k) l)) ∙ ap (least ok key) same
      go (no l) =
          let before : min n (suc k - 1) ≡ k = omega arith in
          let here : k + 1 ≡ min n (suc (suc k) - 1) = omega arith in
          let this : suc k ≡ k + 1 = omega arith in
          let counts : up_to n (suc k) ≡ true = up_to_in n (suc k) (omega arith) (omega arith) in
          better_same (both (up_to n) ok) ok key (suc k) _ (both_in (up_to n) ok (suc k) counts)
          ∙ ap₂ (better ok key) this (ap (least ok key) before)
          ∙ sym (least_suc ok key k)
          ∙ ap (least ok key) here

  pub below_all : (at best : ℕ) → n < at → best ≡ least_below ok key n at → best ≡ least ok key n
  unfolding least_below
  below_all at best l e = let all : min n (at - 1) ≡ n = omega arith in e ∙ ap (least ok key) all

-- a number is asked for its mark or not, by whether it has one
asked : (p m q : ℕ → Bool) (k : ℕ) → m k ≡ true → both p q k ≡ both p (both m q) k
unfolding both
asked p m q k e = rw e refl

not_asked : (p m q : ℕ → Bool) (k : ℕ) → m k ≡ false → both p (both m q) k ≡ false
unfolding both
not_asked p m q k e = rw e (and-false (p k))

-- number j of word i is marked by its bit
mark_bit : (ws : List ℕ) (i j : ℕ) → j < 64 → marked ws (i * 64 + j) ≡ eqb (bit (get_or ws i 0) j) 1
unfolding marked
mark_bit ws i j l =
    let word : (i * 64 + j) / 64 ≡ i = omega arith in
    let place : (i * 64 + j) % 64 ≡ j = omega arith in
    ap₂ (λ (a b : ℕ). eqb (bit (get_or ws a 0) b) 1) word place

-- word i after the words before it: the least goes on to the next word
module _ (ws : List ℕ) (q : ℕ → Bool) (key : ℕ → ℕ) (n i before : ℕ)
    (e : before ≡ least_below (both (marked ws) q) key n (i * 64)) where
  word_bits : (m : ℕ) → m ≤ 64
      → best_of (both (up_to n) q) key (get_or ws i 0) (i * 64) before m ≡ least_below (both (marked ws) q) key n (i * 64 + m)
  unfolding best_of
  word_bits zero l = let here : i * 64 ≡ i * 64 + 0 = omega arith in e ∙ ap (least_below (both (marked ws) q) key n) here
  word_bits (suc m) l =
      go (eqb (bit (get_or ws i 0) m) 1) (mark_bit ws i m (omega arith))
      ∙ ap (better (both (up_to n) (both (marked ws) q)) key (i * 64 + m)) (word_bits m (omega arith))
      ∙ below_next (both (marked ws) q) key n (i * 64 + m)
      ∙ ap (least_below (both (marked ws) q) key n) more
    where
      best_so_far : ℕ
      best_so_far = best_of (both (up_to n) q) key (get_or ws i 0) (i * 64) before m

      more : suc (i * 64 + m) ≡ i * 64 + suc m
      more = omega arith

      go : (b : Bool) → marked ws (i * 64 + m) ≡ b
          → (if b then better (both (up_to n) q) key (i * 64 + m) best_so_far else best_so_far) ≡ better (both (up_to n) (both (marked ws) q)) key (i * 64 + m) best_so_far
      go true h = better_same _ _ key (i * 64 + m) _ (asked (up_to n) (marked ws) q (i * 64 + m) h)
      go false h = sym (better_fails _ key (i * 64 + m) _ (not_asked (up_to n) (marked ws) q (i * 64 + m) h))

  pub word_next : (word : ℕ) {best : ℕ} → word ≡ get_or ws i 0 → best ≡ best_of (both (up_to n) q) key word (i * 64) before 64
      → best ≡ least_below (both (marked ws) q) key n ((i + 1) * 64)
  word_next word ew eb =
      let end : i * 64 + 64 ≡ (i + 1) * 64 = omega arith in
      rw ew at eb ∙ word_bits 64 (omega arith) ∙ ap (least_below (both (marked ws) q) key n) end
