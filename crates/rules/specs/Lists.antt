-- What is said of the elements of a list, a list given by a rule, and a list written over the front of another. Assumes nothing.
use Rattle.std.specs.Prelude.{ℕ, zero, suc, ◌+◌, ◌<◌, Bool, false, ◌||◌, List, [], ◌∷◌, ◌++◌, eqb, length, drop, if◌then◌else◌}

-- each element has a property
unfoldable pub Every : {A : Type 0} → (A → Type 0) → List A → Type 0
Every P [] = Unit {0}
Every P (x ∷ xs) = P x × Every P xs

-- a number stands in the list
unfoldable pub mem : ℕ → List ℕ → Bool
mem k [] = false
mem k (x ∷ xs) = eqb k x || mem k xs

-- how often a number stands in the list
unfoldable pub times : ℕ → List ℕ → ℕ
times k [] = 0
times k (x ∷ xs) = (if eqb k x then 1 else 0) + times k xs

-- how many of the numbers 1..n do not stand in the list
unfoldable pub unmet : ℕ → List ℕ → ℕ
unmet zero xs = 0
unmet (suc n) xs = (if mem (suc n) xs then 0 else 1) + unmet n xs

-- each number is above the one before it, the first above a given one
unfoldable pub Rising : ℕ → List ℕ → Type 0
Rising from [] = Unit {0}
Rising from (x ∷ xs) = (from < x) × Rising x xs

-- the sum of a number for each element
unfoldable pub total : {A : Type 0} → (A → ℕ) → List A → ℕ
total f [] = 0
total f (x ∷ xs) = f x + total f xs

-- the first so many values of a rule
unfoldable pub listed : (ℕ → ℕ) → ℕ → List ℕ
listed f zero = []
listed f (suc n) = listed f n ++ (f n ∷ [])

-- a buffer p with ws written over its front
unfoldable pub over : {A : Type 0} → List A → List A → List A
over ws p = ws ++ drop (length ws) p
