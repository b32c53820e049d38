-- A word that passes: what it passed, what lets it pass, and what that does to the check of the words behind it.
-- Assumes nothing.
use Rattle.std.specs.Prelude.{if◌then◌else◌}
use Prim.Native.Nat.{ℕ, suc, ◌≤◌, ◌<◌}
use mathlib.Core.Path.{◌≡◌, refl, ap}
use mathlib.Core.Bool.{Bool, true, false, not}
use mathlib.Core.List.{List, [], ◌∷◌}
use native.Mathlib.Omega.{arith}
use lib.ListN.{length}
use lib.Dec.{eqb, leb}
use borrow.Author.Tests.{eq-eqb, eqb-true, eqb-false, leb-true}
use Rattle.rules.specs.Answers.{given, refused}
use Rattle.rules.specs.PlanWords.{Word, word_of}
use Rattle.rules.specs.Cargo.{cargo_fault}
use Rattle.rules.specs.Trip.{trip_fault}
use Rattle.rules.specs.Check.{within, well_formed, met_again, Walk, fault_at, walk_after, check_from}
use Rattle.laws.proofs.Tests.{both_true, only_first}

-- a number of 1 to the most
pub within_both : (most k : ℕ) → within most k ≡ true → (0 < k) × (k ≤ most)
unfolding within
within_both most k e = let b = both_true (leb 1 k) (leb k most) e in (leb-true 1 k b.0, leb-true k most b.1)

-- what a word without fault has passed: 7, 8, the load, the minute
pub record Passes (day : List ℕ) (s : Walk) (w : Word) : Type 0 where
  pub formed : well_formed day s.tally s.cargo w ≡ true
  pub new : met_again s.met w ≡ false
  pub cargo : cargo_fault day s.cargo w ≡ 0
  pub trip : trip_fault day s.trip w ≡ 0

pub passes_fault : (day : List ℕ) (s : Walk) (w : Word) → Passes day s w → fault_at day s w ≡ 0
unfolding fault_at
passes_fault day s w p = rw (p.formed, p.new, p.cargo) p.trip

pub fault_passes : (day : List ℕ) (s : Walk) (w : Word) → fault_at day s w ≡ 0 → Passes day s w
unfolding fault_at
fault_passes day s w = go (well_formed day s.tally s.cargo w) (met_again s.met w) (eqb (cargo_fault day s.cargo w) 0) refl refl refl
  where
    go : (f m c : Bool) → well_formed day s.tally s.cargo w ≡ f → met_again s.met w ≡ m → eqb (cargo_fault day s.cargo w) 0 ≡ c
        → (if not f then 7 else if m then 8 else if not c then cargo_fault day s.cargo w else trip_fault day s.trip w) ≡ 0 → Passes day s w
    go false m c ef em ec e = absurd (omega arith)
    go true true c ef em ec e = absurd (omega arith)
    go true false false ef em ec e = absurd (eqb-false _ _ ec e)
    go true false true ef em ec e = record { formed = ef; new = em; cargo = eqb-true _ _ ec; trip = e }

-- one word of the check
pub word_passes : (day : List ℕ) (w : ℕ) (ws : List ℕ) (i : ℕ) (s : Walk) (u : Word) → word_of w ≡ u → Passes day s u
    → check_from day (w ∷ ws) i s ≡ check_from day ws (suc i) (walk_after day s u)
unfolding check_from
word_passes day w ws i s u e p = rw (e, eq-eqb _ _ (passes_fault day s u p))

-- an answer is no refusal: 2 numbers are not 4
pub given_not_refused : {k i : ℕ} {a b c : ℕ} → refused k i ≡ given (a ∷ b ∷ c ∷ []) → ⊥
given_not_refused e = let z : ◌≡◌ {A = ℕ} 2 4 = ap length e in omega arith

-- a check that is answered has passed its first word
pub answer_passes : (day : List ℕ) (w : ℕ) (ws : List ℕ) (i : ℕ) (s : Walk) {a b c : ℕ} → check_from day (w ∷ ws) i s ≡ given (a ∷ b ∷ c ∷ [])
    → Passes day s (word_of w) × (check_from day ws (suc i) (walk_after day s (word_of w)) ≡ given (a ∷ b ∷ c ∷ []))
unfolding check_from
answer_passes day w ws i s e =
    let p = only_first (eqb (fault_at day s (word_of w)) 0) given_not_refused e in
    (fault_passes day s (word_of w) (eqb-true _ _ p.0), p.1)
