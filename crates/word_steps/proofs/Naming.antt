-- The stop that a word names: where the word is not at fault, it is one of the day's, and so it has a mark. Assumes nothing.
use Prim.Native.Nat.{ℕ, ◌<◌, ◌≤◌}
use mathlib.Core.Path.{◌≡◌, refl, sym}
use mathlib.Core.Bool.{Bool, true, false, not, ◌&&◌}
use mathlib.Core.List.{List}
use native.Mathlib.Omega.{arith}
use lib.Dec.{ltb}
use Rattle.std.specs.Prelude.{Ok}
use Rattle.rules.specs.Fields.{stops}
use Rattle.rules.specs.PlanWords.{Word, vehicle, stop, tip, rest, back, left, stray}
use Rattle.rules.specs.Check.{within, well_formed}
use Rattle.laws.proofs.Tests.{both_true}
use Rattle.plan_laws.proofs.Passing.{within_both}
use Rattle.word_steps.specs.Steps.{stop_in, fault_by, StepOf}
use Rattle.word_steps.specs.declared.steps.State.{State}
use Rattle.word_steps.specs.declared.steps.Step.{Step}

-- a word that names a stop and has the form names one of the day's
pub stop_known : (day : List ℕ) (s : State) (k : ℕ) → well_formed day s.tally s.cargo (stop k) ≡ true → (0 < k) × (k ≤ stops day)
unfolding well_formed
stop_known day s k f = within_both (stops day) k (both_true s.tally.inside (within (stops day) k) f).1

pub left_known : (day : List ℕ) (s : State) (k : ℕ) → well_formed day s.tally s.cargo (left k) ≡ true → (0 < k) × (k ≤ stops day)
unfolding well_formed
left_known day s k f =
    let out = (both_true (not s.tally.inside && within (stops day) k) (ltb s.tally.last k) f).0 in
    within_both (stops day) k (both_true (not s.tally.inside) (within (stops day) k) out).1

-- so each word that has the form names a small number
pub named_below : (day : List ℕ) (s : State) (w : Word) → well_formed day s.tally s.cargo w ≡ true → stop_in w < 256
unfolding stop_in
named_below day s (vehicle k) f = omega arith
named_below day s (stop k) f = omega (arith, (stop_known day s k f).1)
named_below day s (tip k) f = omega arith
named_below day s rest f = omega arith
named_below day s back f = omega arith
named_below day s (left k) f = omega (arith, (left_known day s k f).1)
named_below day s stray f = omega arith

-- a word that is not at fault has the form
module _ (day : List ℕ) (met : List Bool) (s : State) (w : Word) {r : Step} (step : StepOf (fault_by day met s w) day s w (Ok r)) where
  pub step_formed : well_formed day s.tally s.cargo w ≡ true
  unfolding fault_by
  step_formed = go (well_formed day s.tally s.cargo w) refl
    where
      go : (f : Bool) → well_formed day s.tally s.cargo w ≡ f → f ≡ true
      go true e = refl
      go false e = absurd (omega (arith, sym step.fault_is, rw e at step.fault_is))

  -- and the stop that its step names has a mark
  pub step_below : r.stop < 256
  step_below = rw step.next_is.stop_is (named_below day s w step_formed)
