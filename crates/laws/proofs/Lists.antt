-- Laws of lists: what stands at a place, what stands in a list of numbers, and how many of 1..n do not.
-- Assumes nothing.
use Prim.Native.Nat.{ℕ, zero, suc, ◌+◌, ◌≤◌, ◌<◌}
use mathlib.Core.Path.{◌≡◌, refl, ap, ◌∙◌}
use mathlib.Core.Bool.{true, false}
use mathlib.Core.Logic.{◌≢◌}
use mathlib.Core.List.{List, [], ◌∷◌, map, ◌++◌}
use native.Mathlib.Decide.{ℕ_discrete}
use native.Mathlib.Omega.{arith}
use lib.ListN.{length, get_or, set}
use lib.Seq.{get_or-set_same, get_or-set_other}
use borrow.Author.Tests.{eq-eqb, ne_eqb}
use Rattle.rules.specs.Lists.{Every, mem, unmet, times}

-- what holds of each element holds of the one at a place
pub every_at : {A : Type 0} (P : A → Type 0) (xs : List A) (i : ℕ) (d : A) → Every P xs → i < length xs → P (get_or xs i d)
unfolding Every
every_at P [] i d h l = absurd (omega arith)
every_at P (x ∷ xs) zero d h l = h.0
every_at P (x ∷ xs) (suc i) d h l = every_at P xs i d h.1 (omega arith)

-- an element of a mapped list
pub get_map : {A : Type 0} (f : A → ℕ) (xs : List A) (i d : ℕ) (a : A) → i < length xs → get_or (map f xs) i d ≡ f (get_or xs i a)
get_map f [] i d a l = absurd (omega arith)
get_map f (x ∷ xs) zero d a l = refl
get_map f (x ∷ xs) (suc i) d a l = get_map f xs i d a (omega arith)

-- one entry more of a table is written: what holds of the entries so far, and of this one, holds of all up to it
pub entries_next : (P : ℕ → ℕ → Type 0) (table : List ℕ) (n x : ℕ) → n < length table → P n x
    → ((u : ℕ) → u < n → P u (get_or table u 0)) → (u : ℕ) → u < n + 1 → P u (get_or (set table n x) u 0)
entries_next P table n x l here so_far u h = elim (ℕ_discrete u n) [
  | yes q ↦ rw (q, get_or-set_same table n x 0 l) here
  | no q ↦ rw (get_or-set_other table n u x 0 q) (so_far u (omega arith))
]

-- a number put in front stands in the list, and each other stands there as before
pub mem_same : (k j : ℕ) (xs : List ℕ) → j ≡ k → mem j (k ∷ xs) ≡ true
unfolding mem
mem_same k j xs q = rw (eq-eqb j k q)

pub mem_other : (k j : ℕ) (xs : List ℕ) → j ≢ k → mem j (k ∷ xs) ≡ mem j xs
unfolding mem
mem_other k j xs n = rw (ne_eqb j k n)

-- of an empty list every number is missing
pub unmet_nil : (n : ℕ) → unmet n [] ≡ n
unfolding unmet mem
unmet_nil zero = refl
unmet_nil (suc n) = omega (arith, unmet_nil n)

-- a number beyond n changes nothing
pub unmet_beyond : (n k : ℕ) (xs : List ℕ) → n < k → unmet n (k ∷ xs) ≡ unmet n xs
unfolding unmet
unmet_beyond zero k xs h = refl
unmet_beyond (suc n) k xs h = rw (mem_other k (suc n) xs (λ q. omega arith), unmet_beyond n k xs (omega arith))

-- a number of 1..n that was missing: one less is
pub unmet_less : (n k : ℕ) (xs : List ℕ) → 0 < k → k ≤ n → mem k xs ≡ false → unmet n (k ∷ xs) + 1 ≡ unmet n xs
unfolding unmet
unmet_less zero k xs h g e = absurd (omega arith)
unmet_less (suc n) k xs h g e = elim (ℕ_discrete (suc n) k) [
  | yes q ↦
      let here : mem (suc n) xs ≡ false = ap (λ (j : ℕ). mem j xs) q ∙ e in
      rw (mem_same k (suc n) xs q, unmet_beyond n k xs (omega arith), here) (omega arith)
  | no q ↦ rw (mem_other k (suc n) xs q) (omega (arith, unmet_less n k xs h (omega arith) e))
]

-- a number in a list of two parts
pub times_append : (k : ℕ) (xs ys : List ℕ) → times k (xs ++ ys) ≡ times k xs + times k ys
unfolding times
times_append k [] ys = omega arith
times_append k (x ∷ xs) ys = omega (arith, times_append k xs ys)
