-- Laws of bits: bit b is set by adding 2 ^ b and cleared by taking it off; the lowest stands above the trailing zeros.
-- Assumes nothing.
use Prim.Native.Nat.{ℕ, zero, suc, ◌+◌, ◌-◌, ◌*◌, ◌/◌, ◌%◌, ◌^◌, ◌≤◌, ◌<◌}
use mathlib.Core.Path.{◌≡◌, refl, sym, ap, ◌∙◌, subst}
use mathlib.Core.Logic.{◌⊎◌, inl, inr, ⊎_elim, ◌≢◌}
use native.Mathlib.Nat.{pow-suc, one-mul}
use native.Mathlib.Numerals.{one-add}
use native.Mathlib.Omega.{arith}
use lib.Pow.{shr-shr, shl_exact}
use lib.Arith.{lt-one}
use lib.Count.{ones, ones_step, count_trailing_zeros, under}
use Rattle.laws.specs.Bits.{bit, LowestBit}

-- the bits one by one, from the lowest
pub bit_zero : (x : ℕ) → bit x 0 ≡ x % 2
unfolding bit
bit_zero x = omega arith

pub bit_suc : (x b : ℕ) → bit x (suc b) ≡ bit (x / 2) b
unfolding bit
bit_suc x b = ap (λ (n : ℕ). x / 2 ^ n % 2) (sym (one-add b)) ∙ ap (λ (y : ℕ). y % 2) (sym (shr-shr x 1 b))

-- a bit is 0 or 1, and every bit of 0 is clear
pub bit_lt : (x b : ℕ) → bit x b < 2
unfolding bit
bit_lt x b = omega arith

pub bit_of_zero : (b : ℕ) → bit 0 b ≡ 0
bit_of_zero zero = bit_zero 0
bit_of_zero (suc b) = bit_suc 0 b ∙ bit_of_zero b

-- 2 ^ (b + 1) added leaves the lowest bit, and adds 2 ^ b to the half
half_add : (x b : ℕ) → (x + 2 ^ suc b) / 2 ≡ x / 2 + 2 ^ b
half_add x b = omega (arith, pow-suc 2 b)

low_add : (x b : ℕ) → (x + 2 ^ suc b) % 2 ≡ x % 2
low_add x b = omega (arith, pow-suc 2 b)

-- a clear bit b is set: it is 1, no other bit changes, one more is set, and the number stays below 2 ^ k
pub bit_add_same : (b x : ℕ) → bit x b ≡ 0 → bit (x + 2 ^ b) b ≡ 1
bit_add_same zero x e = bit_zero (x + 1) ∙ omega (arith, bit_zero x)
bit_add_same (suc b) x e =
    bit_suc (x + 2 ^ suc b) b
    ∙ ap (λ (y : ℕ). bit y b) (half_add x b)
    ∙ bit_add_same b (x / 2) (sym (bit_suc x b) ∙ e)

pub bit_add_other : (b x j : ℕ) → bit x b ≡ 0 → j ≢ b → bit (x + 2 ^ b) j ≡ bit x j
bit_add_other zero x zero e n = absurd (n refl)
bit_add_other zero x (suc j) e n =
    bit_suc (x + 1) j ∙ ap (λ (y : ℕ). bit y j) (omega (arith, bit_zero x)) ∙ sym (bit_suc x j)
bit_add_other (suc b) x zero e n = bit_zero (x + 2 ^ suc b) ∙ low_add x b ∙ sym (bit_zero x)
bit_add_other (suc b) x (suc j) e n =
    bit_suc (x + 2 ^ suc b) j
    ∙ ap (λ (y : ℕ). bit y j) (half_add x b)
    ∙ bit_add_other b (x / 2) j (sym (bit_suc x b) ∙ e) (λ q. n (ap suc q))
    ∙ sym (bit_suc x j)

pub ones_add_bit : (b x : ℕ) → bit x b ≡ 0 → ones (x + 2 ^ b) ≡ ones x + 1
ones_add_bit zero x e = omega (arith, ones_step (x + 1), ones_step x, ap ones (half x even), even)
  where
    even : x % 2 ≡ 0
    even = sym (bit_zero x) ∙ e

    half : (y : ℕ) → y % 2 ≡ 0 → (y + 1) / 2 ≡ y / 2
    half y h = omega arith
ones_add_bit (suc b) x e =
    omega (
      arith,
      ones_step (x + 2 ^ suc b),
      ones_step x,
      low_add x b,
      ap ones (half_add x b),
      ones_add_bit b (x / 2) (sym (bit_suc x b) ∙ e),
    )

pub bit_add_lt : (b k x : ℕ) → b < k → x < 2 ^ k → bit x b ≡ 0 → x + 2 ^ b < 2 ^ k
bit_add_lt b zero x l h e = absurd (omega arith)
bit_add_lt zero (suc k) x l h e = omega (arith, pow-suc 2 k, bit_zero x)
bit_add_lt (suc b) (suc k) x l h e =
    let half : x / 2 < 2 ^ k = omega (arith, pow-suc 2 k) in
    omega (arith, pow-suc 2 k, pow-suc 2 b, bit_add_lt b k (x / 2) (omega arith) half (sym (bit_suc x b) ∙ e))

-- a set bit b is cleared: it can be taken off, it is 0 then, no other bit changes, and one less is set
pub bit_le : (b x : ℕ) → bit x b ≡ 1 → 2 ^ b ≤ x
bit_le zero x e = omega (arith, bit_zero x)
bit_le (suc b) x e = omega (arith, pow-suc 2 b, bit_le b (x / 2) (sym (bit_suc x b) ∙ e))

pub bit_sub_same : (b x : ℕ) → bit x b ≡ 1 → bit (x - 2 ^ b) b ≡ 0
bit_sub_same zero x e = bit_zero (x - 1) ∙ omega (arith, bit_zero x)
bit_sub_same (suc b) x e =
    bit_suc (x - 2 ^ suc b) b
    ∙ ap (λ (y : ℕ). bit y b) (omega (arith, pow-suc 2 b))
    ∙ bit_sub_same b (x / 2) (sym (bit_suc x b) ∙ e)

sub_add : (b x : ℕ) → bit x b ≡ 1 → (x - 2 ^ b) + 2 ^ b ≡ x
sub_add b x e = omega (arith, bit_le b x e)

pub bit_sub_other : (b x j : ℕ) → bit x b ≡ 1 → j ≢ b → bit (x - 2 ^ b) j ≡ bit x j
bit_sub_other b x j e n =
    sym (bit_add_other b (x - 2 ^ b) j (bit_sub_same b x e) n) ∙ ap (λ (y : ℕ). bit y j) (sub_add b x e)

pub ones_sub_bit : (b x : ℕ) → bit x b ≡ 1 → ones (x - 2 ^ b) + 1 ≡ ones x
ones_sub_bit b x e = sym (ones_add_bit b (x - 2 ^ b) (bit_sub_same b x e)) ∙ ap ones (sub_add b x e)

-- the lowest set bit stands above the trailing zeros
under_cases : (d t : ℕ) → d < 2 → ((d ≡ 0) × (under d t ≡ suc t)) ⊎ ((d ≡ 1) × (under d t ≡ 0))
under_cases zero t l = inl (refl, refl)
under_cases (suc zero) t l = inr (refl, refl)
under_cases (suc (suc d)) t l = absurd (omega arith)

lowest_even : (k x t : ℕ) → x % 2 ≡ 0 → LowestBit k (x / 2) t → LowestBit (suc k) x (suc t)
lowest_even k x t e h = record {
  within = omega (arith, h.within);
  is_set = bit_suc x t ∙ h.is_set;
  below = below;
}
  where
    below : (j : ℕ) → j < suc t → bit x j ≡ 0
    below zero g = bit_zero x ∙ e
    below (suc j) g = bit_suc x j ∙ h.below j (omega arith)

lowest_odd : (k x : ℕ) → x % 2 ≡ 1 → LowestBit (suc k) x 0
lowest_odd k x e = record { within = omega arith; is_set = bit_zero x ∙ e; below = λ j g. absurd (omega arith) }

pub trailing_lowest : (k x : ℕ) → 0 < x → x < 2 ^ k → LowestBit k x (count_trailing_zeros k x)
unfolding count_trailing_zeros
trailing_lowest zero x p l = absurd (omega (arith, lt-one l))
trailing_lowest (suc k) x p l =
    go (count_trailing_zeros k (x / 2)) (λ q. trailing_lowest k (x / 2) q (omega (arith, pow-suc 2 k)))
  where
    go : (t : ℕ) → (0 < x / 2 → LowestBit k (x / 2) t) → LowestBit (suc k) x (under (x % 2) t)
    go t rest = ⊎_elim
        (λ h. subst (LowestBit (suc k) x) (sym h.1) (lowest_even k x t h.0 (rest (omega arith))))
        (λ h. subst (LowestBit (suc k) x) (sym h.1) (lowest_odd k x h.0))
        (under_cases (x % 2) t (omega arith))

-- 1 << b, as the machine has it, loses no bit
pub one_shl_bit : (b : ℕ) → b < 64 → 1 * 2 ^ b % 2 ^ 64 ≡ 2 ^ b
one_shl_bit b l = shl_exact 1 b 64 (omega arith) (omega arith) ∙ one-mul (2 ^ b)

pub one_shl : (k : ℕ) → 1 * 2 ^ (k % 64) % 2 ^ 64 ≡ 2 ^ (k % 64)
one_shl k = one_shl_bit (k % 64) (omega arith)
