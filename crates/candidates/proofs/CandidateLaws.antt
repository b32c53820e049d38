-- The plan that a trial gives, written vehicle by vehicle. Assumes nothing.
use Rattle.std.specs.Prelude.{Some, None, if◌then◌else◌}
use Prim.Native.Nat.{ℕ, ◌-◌}
use mathlib.Core.Path.{◌≡◌, refl}
use mathlib.Core.Bool.{Bool, true, false}
use mathlib.Core.List.{List}
use mathlib.Core.Option.{some}
use native.Mathlib.Omega.{arith}
use lib.ListN.{length, take, drop}
use Rattle.rules.specs.Plan.{Round}
use Rattle.rules.specs.Edits.{Edit, changed}
use Rattle.rules.specs.Attempts.{walked_again}
use Rattle.laws.specs.Buffer.{Wrote}
use Rattle.laws.proofs.Buffer.{wrote_same}
use Rattle.walks.specs.Rewalks.{Walkable, SomeWalkable, WalkedAs}
use Rattle.walks.specs.declared.vehicle.Walked.{Walked}
use Rattle.candidates.specs.Candidates.{Roundable, SomeRoundable, RoundAs}
use Rattle.candidates.proofs.CopyLaws.{inner_words}

-- a touched vehicle's tasks are walked again
module _ {day : List ℕ} {e : Edit} {touched : Bool} {number : ℕ} {words part : List ℕ} (yes : touched ≡ true) where
  pub round_walkable : (tasks : Round) → Roundable day e touched number words part tasks → Walkable day e (take (length words - 1 - 1) (drop 1 words)) part tasks
  round_walkable tasks h =
      record {
        are = inner_words number tasks words h.are;
        known = h.known;
        edited = h.edited yes;
        few = omega (arith, h.same yes, h.few);
        room = omega (arith, h.same yes, h.more);
      }

  pub some_walkable : SomeRoundable day e touched number words part → SomeWalkable day e (take (length words - 1 - 1) (drop 1 words)) part
  some_walkable s = record { tasks = s.tasks; walkable = round_walkable s.tasks s.roundable }

pub round_walked : {day : List ℕ} (e : Edit) {touched : Bool} {number : ℕ} {part : List ℕ} → touched ≡ true → (tasks : Round) {now : List ℕ} {r : Walked}
    → WalkedAs day number (changed e 0 tasks) part now (Some r) → RoundAs number (if touched then walked_again day (changed e 0 tasks) else some tasks) part now (Some r.words)
round_walked e is tasks w =
    let a = w.written.again in
    rw is (record { size = w.size; written = record { done = a.done; is = a.is; text = w.written.text } })

pub round_fails : {day : List ℕ} (e : Edit) {touched : Bool} {number : ℕ} {part : List ℕ} → touched ≡ true → (tasks : Round) {now : List ℕ}
    → WalkedAs day number (changed e 0 tasks) part now None → RoundAs number (if touched then walked_again day (changed e 0 tasks) else some tasks) part now None
round_fails e is tasks w = rw is (record { size = w.size; written = w.written })
