-- Laws of a leg: its bounds, its word, and that it is the same both ways. Assumes nothing.
use Prim.Native.Nat.{ℕ, ◌+◌, ◌*◌, ◌/◌, ◌≤◌, ◌<◌}
use mathlib.Core.Path.{◌≡◌, refl}
use native.Mathlib.Omega.{arith}
use Rattle.rules.specs.SolomonDay.{root, apart, leg_word_of, squares, way_word}
use Rattle.roots.proofs.RootLaws.{square_le, root_le, root_is, root_tenth}
use Rattle.solomon_words.specs.Table.{CustomerFit}

pub square_most : (a : ℕ) → a ≤ 1000 → a * a ≤ 1000000
square_most a h = square_le a 1000 h

pub sum_most : (a b : ℕ) → a ≤ 1000 → b ≤ 1000 → a * a + b * b ≤ 2000000
sum_most a b h g = omega (arith, square_most a h, square_most b g)

-- a root is at most r where its number is below the square behind r
root_most : (s r : ℕ) → s < (r + 1) * (r + 1) → root s ≤ r
root_most s r h = root_le s (root s) r (root_is s).fits h

pub minutes_most_lem : (s : ℕ) → s ≤ 2000000 → root s ≤ 1414
minutes_most_lem s h = root_most s 1414 (omega arith)

pub distance_most : (s : ℕ) → s ≤ 2000000 → root (100 * s) ≤ 14142
distance_most s h = root_most (100 * s) 14142 (omega arith)

-- the word says root and root
pub leg_is : (s a b : ℕ) {distance : ℕ} → distance ≡ root (100 * s) → s ≡ a * a + b * b
    → 2415919104 + (65536 * (distance / 10) + distance) ≡ leg_word_of (root (a * a + b * b)) (root (100 * (a * a + b * b)))
leg_is s a b e es = rw (← es, ← e, ← root_tenth s, ← e) refl

-- differences of coordinates
apart_back : (a b : ℕ) → apart a b ≡ apart b a
apart_back a b = omega arith

module _ (number : ℕ → ℕ → ℕ) (a b : ℕ) where
  pub across_most : {xa xb across : ℕ} → CustomerFit number a → CustomerFit number b → xa ≡ number a 1 → xb ≡ number b 1 → across ≡ apart xa xb → across ≤ 1000
  across_most f g exa exb e = omega (arith, f.across, g.across)

  pub upward_most : {ya yb upward : ℕ} → CustomerFit number a → CustomerFit number b → ya ≡ number a 2 → yb ≡ number b 2 → upward ≡ apart ya yb → upward ≤ 1000
  upward_most f g eya eyb e = omega (arith, f.upward, g.upward)

  pub squares_most : CustomerFit number a → CustomerFit number b → squares number a b ≤ 2000000
  squares_most f g =
      sum_most (apart (number a 1) (number b 1)) (apart (number a 2) (number b 2)) (across_most f g refl refl refl) (upward_most f g refl refl refl)

  -- the way back
  pub way_back : way_word number a b ≡ way_word number b a
  way_back = rw (apart_back (number a 1) (number b 1), apart_back (number a 2) (number b 2)) refl
