-- Numbers that are each new when they are collected: what that says of how often each occurs, and of which of 1..n are missing.
-- Assumes nothing.
use Rattle.std.specs.Prelude.{if◌then◌else◌}
use Prim.Native.Nat.{ℕ, zero, suc, ◌+◌, ◌≤◌, ◌<◌}
use mathlib.Core.Path.{◌≡◌, refl, sym, ap, ◌∙◌, subst}
use mathlib.Core.Bool.{Bool, true, false}
use mathlib.Core.List.Memᴰ
use mathlib.Core.List.{List, [], ◌∷◌, ◌++◌, Memᴰ}
use mathlib.Core.Logic.{inl, inr}
use native.Mathlib.Decide.{dec_le}
use native.Mathlib.Omega.{arith}
use lib.ListN.{length}
use lib.Dec.{eqb}
use borrow.Author.Tests.{eq-eqb, ne_eqb, eqb-true}
use Rattle.rules.specs.Lists.{Every, mem, times, unmet}
use Rattle.laws.specs.Lists.{collect, Fresh}
use Rattle.laws.proofs.Decided.{known}
use Rattle.laws.proofs.Least.{up_to_suc}
use Rattle.laws.proofs.Lists.{unmet_less}

-- one where a number stands in the list, else none
abbrev pub once : ℕ → List ℕ → ℕ
once k xs = if mem k xs then 1 else 0

-- a list of two parts
pub collect_append : (met xs ys : List ℕ) → collect met (xs ++ ys) ≡ collect (collect met xs) ys
unfolding collect
collect_append met [] ys = refl
collect_append met (x ∷ xs) ys = collect_append (x ∷ met) xs ys

pub fresh_append : (met xs ys : List ℕ) → Fresh met xs → Fresh (collect met xs) ys → Fresh met (xs ++ ys)
unfolding Fresh collect
fresh_append met [] ys f g = g
fresh_append met (x ∷ xs) ys f g = (f.0, fresh_append (x ∷ met) xs ys f.1 g)

pub fresh_first : (met xs ys : List ℕ) → Fresh met (xs ++ ys) → Fresh met xs
unfolding Fresh
fresh_first met [] ys f = tt
fresh_first met (x ∷ xs) ys f = (f.0, fresh_first (x ∷ met) xs ys f.1)

pub fresh_second : (met xs ys : List ℕ) → Fresh met (xs ++ ys) → Fresh (collect met xs) ys
unfolding Fresh collect
fresh_second met [] ys f = f
fresh_second met (x ∷ xs) ys f = fresh_second (x ∷ met) xs ys f.1

-- one number more: it stands there once, and what stood there stays
once_front : (k x : ℕ) (met : List ℕ) → mem x met ≡ false → once k (x ∷ met) ≡ (if eqb k x then 1 else 0) + once k met
unfolding mem
once_front k x met e = elim (known (eqb k x)) [
  | inl q ↦
      let none : mem k met ≡ false = ap (λ (j : ℕ). mem j met) (eqb-true k x q) ∙ e in
      rw (q, none) refl
  | inr q ↦ rw q (omega arith)
]

-- each number of a fresh list stands in it as often as it is new among those collected
pub fresh_times : (met ks : List ℕ) → Fresh met ks → (k : ℕ) → times k ks + once k met ≡ once k (collect met ks)
unfolding Fresh collect times
fresh_times met [] f k = omega arith
fresh_times met (x ∷ ks) f k = omega (arith, once_front k x met f.0, fresh_times (x ∷ met) ks f.1 k)

-- a test by what it counts
counted : (b c : Bool) → ◌≡◌ {A = ℕ} (if b then 1 else 0) (if c then 1 else 0) → b ≡ c
counted true true e = refl
counted true false e = absurd (omega arith)
counted false true e = absurd (omega arith)
counted false false e = refl

-- and a list in which no number comes too often is fresh
times_head : (k : ℕ) (ks : List ℕ) → 0 < times k (k ∷ ks)
unfolding times
times_head k ks = rw (eq-eqb k k refl) (omega arith)

pub times_fresh : (met ks : List ℕ) → ((k : ℕ) → times k ks + once k met ≤ 1) → Fresh met ks
unfolding Fresh times
times_fresh met [] h = tt
times_fresh met (x ∷ ks) h =
    let new : mem x met ≡ false = counted _ false (omega (arith, h x, times_head x ks)) in
    (new, times_fresh (x ∷ met) ks (λ k. omega (arith, h k, once_front k x met new)))

-- none of 1..n is missing: each stands there
pub unmet_none : (n : ℕ) (met : List ℕ) → unmet n met ≡ 0 → (k : ℕ) → 1 ≤ k → k ≤ n → mem k met ≡ true
unfolding unmet
unmet_none zero met e k h g = absurd (omega arith)
unmet_none (suc n) met e k h g = elim (known (mem (suc n) met)) [
  | inl q ↦ up_to_suc (λ j. mem j met ≡ true) n (unmet_none n met (omega (arith, rw q at e))) q k h g
  | inr q ↦ absurd (omega (arith, rw q at e))
]

pub all_met : (n : ℕ) (met : List ℕ) → ((k : ℕ) → 1 ≤ k → k ≤ n → mem k met ≡ true) → unmet n met ≡ 0
unfolding unmet
all_met zero met h = refl
all_met (suc n) met h = rw (h (suc n) (omega arith) (omega arith)) (omega (arith, all_met n met (λ k a b. h k a (omega arith))))

-- so a fresh list of numbers of 1..n has as many as it makes less missing
pub fresh_length : (n : ℕ) (met ks : List ℕ) → Every (λ k. (1 ≤ k) × (k ≤ n)) ks → Fresh met ks → length ks + unmet n (collect met ks) ≡ unmet n met
unfolding Every Fresh collect
fresh_length n met [] r f = omega arith
fresh_length n met (k ∷ ks) r f = omega (arith, fresh_length n (k ∷ met) ks r.1 f.1, unmet_less n k met r.0.0 r.0.1 f.0)

pub unmet_most : (n : ℕ) (met : List ℕ) → unmet n met ≤ n
unfolding unmet
unmet_most zero met = omega arith
unmet_most (suc n) met = elim (known (mem (suc n) met)) [ inl q ↦ rw q (omega (arith, unmet_most n met)) | inr q ↦ rw q (omega (arith, unmet_most n met)) ]

-- a number that no element is stands there never
pub times_other : (k : ℕ) (ks : List ℕ) → Every (λ j. k ≡ j → ⊥) ks → times k ks ≡ 0
unfolding Every times
times_other k [] h = refl
times_other k (j ∷ ks) h = rw (ne_eqb k j h.0) (omega (arith, times_other k ks h.1))

-- each element has a weaker property too
pub every_weaker : {A : Type 0} (P Q : A → Type 0) → ((x : A) → P x → Q x) → (xs : List A) → Every P xs → Every Q xs
unfolding Every
every_weaker P Q f [] h = tt
every_weaker P Q f (x ∷ xs) h = (f x h.0, every_weaker P Q f xs h.1)

-- what holds of each element holds of one
pub every_mem : {A : Type 0} (P : A → Type 0) (xs : List A) (x : A) → Every P xs → Memᴰ x xs → P x
unfolding Every
every_mem P [] x h m = absurd (Memᴰ.not-nil m)
every_mem P (y ∷ xs) x h m = elim (Memᴰ.cases_cons m) [ inl e ↦ subst P (sym e) h.0 | inr n ↦ every_mem P xs x h.1 n ]

-- a list of two parts
pub every_append : {A : Type 0} (P : A → Type 0) (xs ys : List A) → Every P xs → Every P ys → Every P (xs ++ ys)
unfolding Every
every_append P [] ys h g = g
every_append P (x ∷ xs) ys h g = (h.0, every_append P xs ys h.1 g)

pub every_split : {A : Type 0} (P : A → Type 0) (xs ys : List A) → Every P (xs ++ ys) → Every P xs × Every P ys
unfolding Every
every_split P [] ys h = (tt, h)
every_split P (x ∷ xs) ys h = let r = every_split P xs ys h.1 in ((h.0, r.0), r.1)

-- numbers of 1..n, each there exactly once
module _ (n : ℕ) (ks : List ℕ) where
  -- the numbers are new in turn, and none is missing
  pub once_fresh : Every (λ k. (1 ≤ k) × (k ≤ n)) ks → ((k : ℕ) → 1 ≤ k → k ≤ n → times k ks ≡ 1) → Fresh [] ks
  unfolding mem
  once_fresh r h = times_fresh [] ks (λ k. most k (dec_le 1 k) (dec_le k n))
    where
      most : (k : ℕ) → Dec (1 ≤ k) → Dec (k ≤ n) → times k ks + once k [] ≤ 1
      most k (yes a) (yes b) = omega (arith, h k a b)
      most k (no a) b = omega (arith, times_other k ks (every_weaker (λ j. (1 ≤ j) × (j ≤ n)) (λ j. k ≡ j → ⊥) (λ j q e. absurd (omega arith)) ks r))
      most k (yes a) (no b) = omega (arith, times_other k ks (every_weaker (λ j. (1 ≤ j) × (j ≤ n)) (λ j. k ≡ j → ⊥) (λ j q e. absurd (omega arith)) ks r))

  pub once_all : Fresh [] ks → ((k : ℕ) → 1 ≤ k → k ≤ n → times k ks ≡ 1) → unmet n (collect [] ks) ≡ 0
  unfolding mem
  once_all f h = all_met n (collect [] ks) (λ k a b. counted _ true (omega (arith, fresh_times [] ks f k, h k a b)))

  -- and the other way round
  pub fresh_once : Fresh [] ks → unmet n (collect [] ks) ≡ 0 → (k : ℕ) → 1 ≤ k → k ≤ n → times k ks ≡ 1
  unfolding mem
  fresh_once f z k a b =
      let there : once k (collect [] ks) ≡ 1 = rw (unmet_none n (collect [] ks) z k a b) refl in
      omega (arith, fresh_times [] ks f k)
