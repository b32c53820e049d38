-- Laws of the least key: how a choice goes, what the least is, and how a loop over 1..m finds it.
-- Assumes nothing.
use Rattle.std.specs.Prelude.{if◌then◌else◌}
use Prim.Native.Nat.{ℕ, zero, suc, ◌+◌, ◌≤◌, ◌<◌}
use mathlib.Core.Path.{◌≡◌, refl, sym, ◌∙◌, subst}
use mathlib.Core.Bool.{Bool, true, false, ◌&&◌, ◌||◌, true≢false, and-false}
use mathlib.Core.Logic.{◌⊎◌, inl, inr, ⊎_elim}
use native.Mathlib.Nat.{le_antisymm, le_of_suc-le-suc, lt_of_not-le, eq-or-lt_of_le, eq-zero-or-pos}
use native.Mathlib.Numerals.{add-one}
use native.Mathlib.Omega.{arith}
use lib.Dec.{ltb, eqb}
use borrow.Author.Tests.{ltb-true, ltb-false, eqb-true, eqb-false}
use Rattle.rules.specs.Tests.{wins, better, least}
use Rattle.laws.specs.Least.{IsLeast}

-- a choice between k and the best so far, b: b stays where k fails or has no lesser key, else k is the best
data Choice (ok : ℕ → Bool) (key : ℕ → ℕ) (k b : ℕ) : ℕ → Type 0 where
  stays : (b ≡ 0 → ok k ≡ false) → (0 < b → ok k ≡ true → key b ≤ key k) → Choice ok key k b b
  goes : ok k ≡ true → (0 < b → key k < key b) → Choice ok key k b k

-- no test both holds and fails
not_both : {x : Bool} → x ≡ true → x ≡ false → ⊥
not_both t f = true≢false (sym t ∙ f)

-- what holds of 1..m and of the number after m holds of them all
pub up_to_suc : (P : ℕ → Type 0) (m : ℕ) → ((k : ℕ) → 0 < k → k ≤ m → P k) → P (suc m)
    → (k : ℕ) → 0 < k → k ≤ suc m → P k
up_to_suc P m all here k p l =
    ⊎_elim (λ (q : k ≡ suc m). subst P (sym q) here) (λ (w : k < suc m). all k p (omega arith)) (eq-or-lt_of_le l)

module _ (ok : ℕ → Bool) (key : ℕ → ℕ) where
  -- a choice, by the facts that decide it
  pub better_fails : (k b : ℕ) → ok k ≡ false → better ok key k b ≡ b
  unfolding better wins
  better_fails k b e = rw e refl

  -- the same by the comparison with the best so far
  pub better_wins : (k b : ℕ) → ok k ≡ true → (eqb b 0 || ltb (key k) (key b)) ≡ true → better ok key k b ≡ k
  unfolding better wins
  better_wins k b e h = rw (e, h) refl

  pub better_loses : (k b : ℕ) → (eqb b 0 || ltb (key k) (key b)) ≡ false → better ok key k b ≡ b
  unfolding better wins
  better_loses k b h = rw (h, and-false) refl

  -- a choice goes one of the two ways
  choice : (k b : ℕ) → Choice ok key k b (better ok key k b)
  unfolding better wins
  choice k b = go (ok k) (eqb b 0) (ltb (key k) (key b)) refl refl refl
    where
      go : (x y z : Bool) → ok k ≡ x → eqb b 0 ≡ y → ltb (key k) (key b) ≡ z → Choice ok key k b (if x && (y || z) then k else b)
      go false y z ex ey ez = stays (λ _. ex) (λ _ t. absurd (not_both t ex))
      go true true z ex ey ez = goes ex (λ p. absurd (omega (arith, eqb-true b 0 ey)))
      go true false true ex ey ez = goes ex (λ _. ltb-true _ _ ez)
      go true false false ex ey ez = stays (λ z. absurd (eqb-false b 0 ey z)) (λ _ _. ltb-false _ _ ez)

  -- the better of the least of 1..m and the number after m is the least of them all
  least_step : (m b : ℕ) {r : ℕ} → IsLeast ok key m b → Choice ok key (suc m) b r → IsLeast ok key (suc m) r
  least_step m b h (stays none more) = record {
    within = omega (arith, h.within);
    none = λ z. up_to_suc (λ (k : ℕ). ok k ≡ false) m (h.none z) (none z);
    passes = h.passes;
    minimal = λ z. up_to_suc (λ (k : ℕ). ok k ≡ true → key b ≤ key k) m (h.minimal z) (more z);
    lowest = h.lowest;
  }
  least_step m b h (goes e less) = record {
    within = omega arith;
    none = λ w. absurd (omega arith);
    passes = λ _. e;
    minimal = λ _. up_to_suc (λ (k : ℕ). ok k ≡ true → key (suc m) ≤ key k) m (λ k p l t. omega (arith, greater k p l t)) (λ _. omega arith);
    lowest = λ _ k p l t. greater k p (omega arith) t;
  }
    where
      greater : (k : ℕ) → 0 < k → k ≤ m → ok k ≡ true → key (suc m) < key k
      greater k p l t =
          ⊎_elim (λ z. absurd (not_both t (h.none z k p l))) (λ w. omega (arith, less w, h.minimal w k p l t)) (eq-zero-or-pos b)

  -- what the least is, for every m
  pub least_is : (m : ℕ) → IsLeast ok key m (least ok key m)
  unfolding least
  least_is zero = record {
    within = omega arith;
    none = λ _ k p l. absurd (omega arith);
    passes = λ z. absurd (omega arith);
    minimal = λ z. absurd (omega arith);
    lowest = λ z. absurd (omega arith);
  }
  least_is (suc m) = least_step m (least ok key m) (least_is m) (choice (suc m) (least ok key m))

  -- no two numbers are the least
  pub least_only : (m r s : ℕ) → IsLeast ok key m r → IsLeast ok key m s → r ≡ s
  least_only m r s a b = go (eq-zero-or-pos r) (eq-zero-or-pos s)
    where
      no_later : (r s : ℕ) → IsLeast ok key m r → IsLeast ok key m s → 0 < r → 0 < s → r ≤ s
      no_later r s a b x y =
          le_of_suc-le-suc (lt_of_not-le (λ (l : s < r).
          omega (arith, a.lowest x s y l (b.passes y), b.minimal y r x a.within (a.passes x))))

      go : (r ≡ 0) ⊎ (0 < r) → (s ≡ 0) ⊎ (0 < s) → r ≡ s
      go (inl x) (inl y) = x ∙ sym y
      go (inl x) (inr y) = absurd (not_both (b.passes y) (a.none x s y b.within))
      go (inr x) (inl y) = absurd (not_both (a.passes x) (b.none y r x a.within))
      go (inr x) (inr y) = le_antisymm (no_later r s a b x y) (no_later s r b a y x)

  -- of no numbers, and of one number more
  pub least_none : least ok key 0 ≡ 0
  unfolding least
  least_none = refl

  pub least_suc : (m : ℕ) → least ok key (m + 1) ≡ better ok key (m + 1) (least ok key m)
  unfolding least
  least_suc m = rw add-one refl

-- a choice looks at the test of k alone
pub better_same : (ok ok' : ℕ → Bool) (key : ℕ → ℕ) (k b : ℕ) → ok k ≡ ok' k → better ok key k b ≡ better ok' key k b
unfolding better wins
better_same ok ok' key k b e = rw e refl

-- tests and keys that agree on 1..m have the same least
pub least_same : (ok ok' : ℕ → Bool) (key key' : ℕ → ℕ) (m : ℕ)
    → ((k : ℕ) → 0 < k → k ≤ m → ok k ≡ ok' k)
    → ((k : ℕ) → 0 < k → k ≤ m → key k ≡ key' k)
    → least ok key m ≡ least ok' key' m
least_same ok ok' key key' m e f = least_only ok' key' m _ _ (record {
  within = h.within;
  none = λ z k p l. sym (e k p l) ∙ h.none z k p l;
  passes = λ z. sym (e _ z h.within) ∙ h.passes z;
  minimal = λ z k p l t. omega (arith, h.minimal z k p l (e k p l ∙ t), f k p l, f _ z h.within);
  lowest = λ z k p l t.
      let i : k ≤ m = omega (arith, h.within) in
      omega (arith, h.lowest z k p l (e k p i ∙ t), f k p i, f _ z h.within);
}) (least_is ok' key' m)
  where
    h : IsLeast ok key m (least ok key m)
    h = least_is ok key m
