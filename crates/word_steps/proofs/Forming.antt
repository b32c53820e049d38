-- Laws of a word's form: which word a number is, whether it has the form where it stands, and its step then. Assumes nothing.
use Rattle.std.specs.Prelude.{Some, Result, Ok, Err, OnOk}
use Prim.Native.Nat.{ℕ, ◌+◌, ◌<◌, ◌≤◌}
use mathlib.Core.Path.{◌≡◌, refl, sym, ◌∙◌}
use mathlib.Core.Bool.{Bool, true, false, not, ◌&&◌}
use mathlib.Core.List.{List}
use native.Mathlib.Omega.{arith}
use lib.Dec.{eqb, ltb}
use Rattle.rules.specs.Fields.{tips, stops}
use Rattle.rules.specs.PlanWords.{Word, vehicle, stop, tip, rest, back, left, stray, stop_word, tip_word, word_of}
use Rattle.rules.specs.Check.{within, well_formed}
use Rattle.rules.specs.declared.faults.PlanFault.{PlanFault}
use Rattle.rules.specs.declared.faults.PlanFault.TheVariants as Faults
use Rattle.laws.proofs.Tests.{both_true}
use Rattle.word_steps.specs.Steps.{is_met_in, formed_fault, fault_by, StepOf}
use Rattle.word_steps.specs.declared.steps.State.{State}
use Rattle.word_steps.specs.declared.steps.Step.{Step}
use Rattle.word_steps.proofs.Stepping.{step_fault}
use Rattle.plan_words.specs.Indexes.{IndexFrom}
use Rattle.plan_words.specs.Reading.{meaning}
use Rattle.plan_words.specs.declared.PlanWord.{PlanWord}
use Rattle.plan_words.proofs.WordForms.{stop_indexed, tip_indexed}
use Rattle.plan_laws.proofs.Passing.{within_both}

-- the form of each kind, as the code tests it
module _ (day : List ℕ) (s : State) where
  abbrev formed : Word → Bool
  formed w = well_formed day s.tally s.cargo w

  module _ (n k : ℕ) (known : Bool) (e : known ≡ within n k) where
    pub stop_formed : n ≡ stops day → (s.tally.inside && known) ≡ formed (stop k)
    unfolding well_formed
    stop_formed l = rw (e, l)

    pub tip_formed : n ≡ tips day → (s.tally.inside && known) ≡ formed (tip k)
    unfolding well_formed
    tip_formed l = rw (e, l)

    pub left_formed : n ≡ stops day → (not s.tally.inside && known && ltb s.tally.last k) ≡ formed (left k)
    unfolding well_formed
    left_formed l = rw (e, l)

  pub rest_formed : s.tally.inside ≡ formed rest
  unfolding well_formed
  rest_formed = refl

  pub back_formed : (s.tally.inside && ltb 0 s.cargo.visits) ≡ formed back
  unfolding well_formed
  back_formed = refl

  pub vehicle_formed : (k : ℕ) → (not s.tally.inside && eqb s.tally.last 0 && eqb k (s.tally.vehicles + 1)) ≡ formed (vehicle k)
  unfolding well_formed
  vehicle_formed k = refl

-- what a form that holds tells
module _ (n k : ℕ) (known inside : Bool) (e : known ≡ within n k) (h : (inside && known) ≡ true) where
  known_number : (0 < k) × (k ≤ n)
  known_number = within_both n k (sym e ∙ (both_true inside known h).1)

  pub known_some : 0 < k
  known_some = known_number.0

  pub known_most : {most : ℕ} → n ≡ most → k ≤ most
  known_most l = omega (arith, known_number.1)

  -- a stop's number is small
  pub known_below : n < 256 → k < 256
  known_below l = omega (arith, known_number.1)

-- the number of a stop left out is small
pub left_below : (n k : ℕ) (known outside beyond : Bool) → known ≡ within n k → (outside && known && beyond) ≡ true → n < 256 → k < 256
left_below n k known outside beyond e h l = known_below n k known outside e (both_true _ beyond h).0 l

-- a vehicle is out
pub is_inside : (inside other : Bool) → (inside && other) ≡ true → inside ≡ true
is_inside inside other h = (both_true inside other h).0

-- misformed, met again, or what the word does
module _ (day : List ℕ) (met : List Bool) (s : State) (w : Word) (b : Bool) (e : b ≡ well_formed day s.tally s.cargo w) where
  pub misformed : b ≡ false → StepOf (fault_by day met s w) day s w (Err Faults.Form)
  unfolding fault_by
  misformed h = step_fault day s w Faults.Form (rw (← e, h) refl)

  pub met_again_lem : b ≡ true → is_met_in met w ≡ true → StepOf (fault_by day met s w) day s w (Err Faults.Stop)
  unfolding fault_by
  met_again_lem h m = step_fault day s w Faults.Stop (rw (← e, h, m) refl)

  pub goes_on_lem : (r : Result Step PlanFault) → b ≡ true → is_met_in met w ≡ false → StepOf (formed_fault day s w) day s w r → StepOf (fault_by day met s w) day s w r
  unfolding fault_by
  goes_on_lem r h m x = rw (← e, h, m) x

pub as_stray : (day : List ℕ) (met : List Bool) (s : State) (w : ℕ) → stray ≡ word_of w → StepOf (fault_by day met s (word_of w)) day s (word_of w) (Err Faults.Form)
unfolding well_formed
as_stray day met s w e = rw (← e) (misformed day met s stray false refl refl)

-- the step of a word that the code has taken apart, where it names no stop, whatever stops were met
pub any_word : (day : List ℕ) (met : List Bool) (s : State) (w : ℕ) (r : Result Step PlanFault) {read word : PlanWord} → meaning (Some read) ≡ word_of w → read ≡ word
    → ((met : List Bool) → StepOf (fault_by day met s (meaning (Some word))) day s (meaning (Some word)) r)
    → StepOf (fault_by day met s (word_of w)) day s (word_of w) r
any_word day met s w r e is h = rw (← e, is) (h met)

-- a fact that holds at any result holds of one without a fault
on_ok : (P : Type 0) (r : Result Step PlanFault) → P → OnOk r P
on_ok P (Ok next) p = p
on_ok P (Err f) p = tt

-- the step of a word of a vehicle that is out
module _ (day : List ℕ) (met : List Bool) (s : State) (w : ℕ) (r : Result Step PlanFault) (x : Word) (e : word_of w ≡ x) where
  pub task_word : StepOf (fault_by day met s x) day s x r → OnOk r (StepOf (fault_by day met s (word_of w)) day s (word_of w) r)
  task_word h = on_ok (StepOf (fault_by day met s (word_of w)) day s (word_of w) r) r (rw e h)

  -- whatever stops were met
  pub task_any : ((met : List Bool) → StepOf (fault_by day met s x) day s x r) → OnOk r (StepOf (fault_by day met s (word_of w)) day s (word_of w) r)
  task_any h = task_word (h met)

-- a word by its distance from the first stop's word, or from the first tip's
module _ (w n r : ℕ) where
  pub stop_ranged : n < 256 → IndexFrom (stop_word 1) w r → r < n → word_of w ≡ stop (r + 1)
  stop_ranged l e h = stop_indexed w r (omega arith) e

  pub tip_ranged : n < 16 → IndexFrom (tip_word 1) w r → r < n → word_of w ≡ tip (r + 1)
  tip_ranged l e h = tip_indexed w r (omega arith) e
