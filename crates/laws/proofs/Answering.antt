-- Answers of one of two forms: values, or a refusal. Assumes nothing.
use Rattle.std.specs.Prelude.{if◌then◌else◌}
use Prim.Native.Nat.{ℕ, ◌≤◌, ◌<◌}
use mathlib.Core.Path.{◌≡◌, sym, ap, subst, ◌∙◌}
use mathlib.Core.Bool.{Bool, true, false}
use mathlib.Core.List.{List}
use native.Mathlib.Omega.{arith}
use lib.Dec.{eqb}
use lib.ListN.{length, get_or, drop}
use borrow.Author.Tests.{eqb-false, ne_eqb}
use Rattle.rules.specs.Answers.{given, refused, is_given}

-- two or more values of a kind, or a refusal by a number from 1 on at a place that is at most a number
pub data Answering (Values : List ℕ → Type 0) (most : ℕ) : List ℕ → Type 0 where
  values : (vs : List ℕ) → Values vs → 2 ≤ length vs → Answering Values most (given vs)
  refusal : (number place : ℕ) → 0 < number → place ≤ most → Answering Values most (refused number place)

module _ {Values : List ℕ → Type 0} {most : ℕ} where
  -- a decision between two answers, and one between an answer and a fault
  pub answering_if : (t : Bool) {x y : List ℕ} → Answering Values most x → Answering Values most y → Answering Values most (if t then x else y)
  answering_if true a b = a
  answering_if false a b = b

  pub answering_fault : (t : Bool) (fault place : ℕ) {y : List ℕ} → eqb fault 0 ≡ t → place ≤ most → Answering Values most y
      → Answering Values most (if t then y else refused fault place)
  answering_fault true fault place e l a = a
  answering_fault false fault place e l a = refusal fault place (omega (arith, eqb-false fault 0 e)) l

  -- what a refusal tells, and what values tell
  pub refusal_told : {answer : List ℕ} {number place : ℕ} → Answering Values most answer → refused number place ≡ answer → (1 ≤ number) × (place ≤ most)
  refusal_told (values vs v l) e = absurd (omega (arith, ap length e))
  refusal_told {number = number} {place = place} (refusal n p h l) e =
      let same : number ≡ n = ap (λ (xs : List ℕ). get_or xs 0 0) e in
      let there : place ≡ p = ap (λ (xs : List ℕ). get_or xs 1 0) e in
      (omega arith, omega arith)

  pub refusal_not_given : {answer : List ℕ} {number place : ℕ} → Answering Values most answer → refused number place ≡ answer → is_given answer ≡ false
  refusal_not_given {number = number} a e = sym (ap is_given e) ∙ ne_eqb number 0 (λ z. omega (arith, (refusal_told a e).0))

  pub values_told : {answer vs : List ℕ} → Answering Values most answer → given vs ≡ answer → Values vs
  values_told (values ws v l) e = subst Values (sym (ap (drop 1) e)) v
  values_told (refusal n p h l) e = let none : 0 ≡ n = ap (λ (xs : List ℕ). get_or xs 0 0) e in absurd (omega arith)
