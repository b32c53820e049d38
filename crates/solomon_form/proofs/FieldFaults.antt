-- What is found of one field, where the code holds its number at 1,000,000. Assumes nothing.
use Rattle.std.specs.Prelude.{if◌then◌else◌, ⊤, Ok, Err}
use Rattle.std.specs.Bool.{MatchBool}
use Rattle.std.specs.Result.{result_and}
use Prim.Native.Nat.{ℕ, ◌<◌, ◌≤◌, min}
use mathlib.Core.Path.{◌≡◌, refl, sym, ap, ◌∙◌}
use mathlib.Core.Bool.{Bool, true, false}
use mathlib.Core.List.{List}
use mathlib.Core.Logic.{◌⊎◌, inl, inr}
use native.Mathlib.Decide.{ℕ_discrete}
use native.Mathlib.Omega.{arith}
use lib.Dec.{eqb, ltb}
use borrow.Author.Tests.{eq-eqb, ne_eqb, eqb-true, lt-ltb, le-ltb, ltb-true, ltb-false, lt-leb}
use Rattle.rules.specs.TextFields.{number_at}
use Rattle.rules.specs.SolomonForm.{Finding, fine, plain_fault, range_fault, order_fault, is_unused, most_of, least_of, customer_fault}
use Rattle.rules.specs.declared.faults.TextFault.TheVariants.{Form, Range}
use Rattle.text_fields.specs.Runs.{held_at}
use Rattle.text_fields.proofs.Numbers.{held_within, held_most, held_over}

module _ (text : List ℕ) (at : ℕ) {x : ⊤} (plain : Ok x ≡ plain_fault text at) {v : ℕ} (held : v ≡ held_at text at) where
  pub order_told : (k : ℕ) {w : ℕ} {r : Finding} → k < 1000000 → w ≡ k → r ≡ (if eqb v w then fine else Err Form) → r ≡ order_fault text at k
  unfolding order_fault
  order_told k {w} few same told = rw (← plain) (told ∙ ap (λ (t : Bool). let f : Finding = if t then fine else Err Form in f) tests)
    where
      tests : eqb v w ≡ eqb (number_at text at) k
      tests = elim (ℕ_discrete v k) [
        | yes e ↦ rw (eq-eqb v w (e ∙ sym same), eq-eqb (number_at text at) k (sym (held_within text at held (omega arith)) ∙ e)) refl
        | no n ↦ rw (ne_eqb v w (λ e. n (e ∙ same)), ne_eqb (number_at text at) k (λ e. n (held_most text at held k few (omega arith) ∙ e))) refl
      ]

  pub range_told : (least most : ℕ) (inside : Bool) {r : Finding} → least ≤ 1000000 → most < 1000000
      → MatchBool inside ((least ≤ v) × (v ≤ most)) ((v < least) ⊎ (most < v)) → r ≡ (if inside then fine else Err Range) → r ≡ range_fault text at least most
  unfolding range_fault
  range_told least most true low high within told =
      let exact = held_within text at held (omega arith) in
      rw (← plain, ← exact, le-ltb v least within.0, le-ltb most v within.1) told
  range_told least most false low high (inl under) told =
      let exact = held_within text at held (omega arith) in
      rw (← plain, ← exact, lt-ltb v least under) told
  range_told least most false {r} low high (inr over) told =
      rw (← plain, lt-ltb most (number_at text at) (held_over text at held most over)) (either (ltb (number_at text at) least))
    where
      either : (t : Bool) → r ≡ (if t then Err Range else Err Range)
      either true = told
      either false = told

-- a least that is held at 1,000,000 finds the same fault
range_held : (text : List ℕ) (at least most : ℕ) → most < 1000000 → range_fault text at (min 1000000 least) most ≡ range_fault text at least most
unfolding range_fault
range_held text at least most few =
    ap (result_and (plain_fault text at)) (go (ltb (number_at text at) (min 1000000 least)) (ltb (number_at text at) least) (ltb most (number_at text at)) refl refl refl)
  where
    go : (b c d : Bool) → ltb (number_at text at) (min 1000000 least) ≡ b → ltb (number_at text at) least ≡ c → ltb most (number_at text at) ≡ d
        → ◌≡◌ {A = Finding} (if b then Err Range else if d then Err Range else fine) (if c then Err Range else if d then Err Range else fine)
    go true true d eb ec ed = refl
    go false false d eb ec ed = refl
    go true false d eb ec ed = absurd (omega (arith, ltb-true (number_at text at) (min 1000000 least) eb, ltb-false (number_at text at) least ec))
    go false true true eb ec ed = refl
    go false true false eb ec ed =
        absurd (omega (arith, ltb-false (number_at text at) (min 1000000 least) eb, ltb-true (number_at text at) least ec, ltb-false most (number_at text at) ed))

least_held : (text : List ℕ) (i at before : ℕ)
    → range_fault text at (least_of i (min 1000000 before)) (most_of i) ≡ range_fault text at (least_of i before) (most_of i)
unfolding least_of most_of
least_held text i at before = go (eqb i 5) refl
  where
    go : (t : Bool) → eqb i 5 ≡ t
        → range_fault text at (if t then min 1000000 before else 0) (most_of i) ≡ range_fault text at (if t then before else 0) (most_of i)
    go true e = let five : i ≡ 5 = eqb-true i 5 e in rw five (range_held text at before 1440 (omega arith))
    go false e = refl

-- the last way of a customer's field
pub customer_ranged : (text : List ℕ) (k i at before : ℕ) {b : Bool} {x y : ℕ} {r : Finding} → (i ≡ 0 → ⊥) → i < 7 → b ≡ is_unused k i → b ≡ false
    → x ≡ least_of i (held_at text before) → y ≡ most_of i → r ≡ range_fault text at x y → r ≡ customer_fault text k i at (number_at text before)
unfolding customer_fault held_at
customer_ranged text k i at before n0 n7 eb hb ex ey er =
    rw (ne_eqb i 0 n0, lt-leb 7 i n7, ← eb, hb) (er ∙ rw (ex, ey) (least_held text i at (number_at text before)))
