-- The root is the greatest whole number whose square is at most s, and the only one.
-- Assumes nothing.
use Rattle.std.specs.Prelude.{if◌then◌else◌}
use Prim.Native.Nat.{ℕ, zero, suc, ◌+◌, ◌-◌, ◌*◌, ◌/◌, ◌≤◌, ◌<◌}
use mathlib.Core.Path.{◌≡◌, refl, subst}
use mathlib.Core.Bool.{Bool, true, false}
use native.Mathlib.Numerals.{add-one}
use native.Mathlib.Omega.{arith}
use native.Mathlib.Nat.{mul-le-mul, mul-le-mul_left, le-mul_of_pos_right, mul-add, add-mul, mul_comm, mul-mul-mul_comm, lt-mul-div-succ, div-le_self}
use lib.Dec.{leb}
use borrow.Author.Tests.{leb-true, leb-false}
use Rattle.rules.specs.SolomonDay.{root_up_to, root, IsRoot}

pub square_le : (a b : ℕ) → a ≤ b → a * a ≤ b * b
square_le a b h = mul-le-mul h h

-- a square at most s, below a greater one: the numbers are in this order
pub root_le : (s a b : ℕ) → a * a ≤ s → s < (b + 1) * (b + 1) → a ≤ b
root_le s a b h g = go (leb a b) refl
  where
    go : (t : Bool) → leb a b ≡ t → a ≤ b
    go true e = leb-true _ _ e
    go false e =
        let l : b + 1 ≤ a = omega (arith, leb-false a b e) in
        absurd (omega (arith, square_le (b + 1) a l))

pub root_only : (s a b : ℕ) → IsRoot s a → IsRoot s b → a ≡ b
root_only s a b p q = omega (arith, root_le s a b p.fits q.greatest, root_le s b a q.fits p.greatest)

upto_is : (s m : ℕ) → s < (m + 1) * (m + 1) → IsRoot s (root_up_to s m)
unfolding root_up_to
upto_is s zero h = record { fits = omega arith; greatest = h }
upto_is s (suc m) h = go (leb (suc m * suc m) s) refl (upto_is s m)
  where
    go : (t : Bool) → leb (suc m * suc m) s ≡ t → (s < (m + 1) * (m + 1) → IsRoot s (root_up_to s m))
        → IsRoot s (if t then suc m else root_up_to s m)
    go true e rest = record { fits = leb-true _ _ e; greatest = h }
    go false e rest =
        let l : s < suc m * suc m = omega (arith, leb-false (suc m * suc m) s e) in
        rest (rw (add-one m) l)

pub root_is : (s : ℕ) → IsRoot s (root s)
unfolding root
root_is s = let l : 0 < s + 1 = omega arith in upto_is s s (omega (arith, le-mul_of_pos_right (s + 1) l))

-- a number whose square is at most s, where the next one's is above it
pub root_found : (s r : ℕ) → r * r ≤ s → s < (r + 1) * (r + 1) → r ≡ root s
root_found s r h g = root_only s r (root s) (record { fits = h; greatest = g }) (root_is s)

-- two numbers whose sum is at most twice a third have a product of at most its square
half_way : (a u b : ℕ) → b ≤ a + (u + u) → a * b ≤ (a + u) * (a + u)
half_way a u b h =
    omega (
      arith,
      mul-le-mul_left a h,
      mul-add a a (u + u),
      mul-add a u u,
      add-mul a u (a + u),
      mul-add a a u,
      mul-add u a u,
      mul_comm a u,
    )

product_half : (a b c : ℕ) → a ≤ c → a + b ≤ 2 * c → a * b ≤ c * c
product_half a b c l h =
    let e : a + (c - a) ≡ c = omega arith in
    subst (λ (m : ℕ). a * b ≤ m * m) e (half_way a (c - a) b (omega arith))

pub product_mean : (a b c : ℕ) → a + b ≤ 2 * c → a * b ≤ c * c
product_mean a b c h = go (leb a c) refl
  where
    go : (t : Bool) → leb a c ≡ t → a * b ≤ c * c
    go true e = product_half a b c (leb-true _ _ e) h
    go false e =
        let l : b ≤ c = omega (arith, leb-false a c e) in
        rw (mul_comm a b) (product_half b a c l (omega arith))

-- the mean of a number and of what s divided by it gives, rounded up, has a square above s
pub above_square : (s guess : ℕ) → 1 ≤ guess → s < ((guess + s / guess) / 2 + 1) * ((guess + s / guess) / 2 + 1)
above_square s guess h =
    omega (arith, lt-mul-div-succ s h, product_mean guess (s / guess + 1) ((guess + s / guess) / 2 + 1) (omega arith))

pub mean_above : (s guess : ℕ) → s ≤ 1000000000 → 1 ≤ guess → guess ≤ 1000000001
    → (s < ((guess + s / guess) / 2 + 1) * ((guess + s / guess) / 2 + 1)) × (1 ≤ (guess + s / guess) / 2 + 1) × ((guess + s / guess) / 2 + 1 ≤ 1000000001)
mean_above s guess h g l = (above_square s guess g, omega arith, omega (arith, div-le_self s guess))

pub root_reached : (s r : ℕ) {wide square : ℕ} → wide ≡ s → square ≡ r * r → square ≤ wide → s < (r + 1) * (r + 1) → r ≡ root s
root_reached s r w e h g = root_found s r (rw (w, e) at h) g

-- the root of a hundred times a number, divided by ten, is its root
hundred : (a : ℕ) → 10 * a * (10 * a) ≡ 100 * (a * a)
hundred a = mul-mul-mul_comm 10 a 10 a

tenth_is : (s r : ℕ) → IsRoot (100 * s) r → IsRoot s (r / 10)
tenth_is s r p =
    let low : 10 * (r / 10) ≤ r = omega arith in
    let high : r + 1 ≤ 10 * (r / 10 + 1) = omega arith in
    record {
      fits = omega (arith, p.fits, square_le (10 * (r / 10)) r low, hundred (r / 10));
      greatest = omega (arith, p.greatest, square_le (r + 1) (10 * (r / 10 + 1)) high, hundred (r / 10 + 1));
    }

pub root_tenth : (s : ℕ) → root (100 * s) / 10 ≡ root s
root_tenth s = root_only s (root (100 * s) / 10) (root s) (tenth_is s (root (100 * s)) (root_is (100 * s))) (root_is s)
