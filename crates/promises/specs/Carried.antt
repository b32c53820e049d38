-- The nearest open tip, found in one pass: what is carried along once the first m tips are looked at. Assumes nothing.
use Rattle.std.specs.Prelude.{ℕ, ◌≤◌, ◌<◌, ◌≡◌, false, List, ◌↔◌}
use Rattle.rules.specs.Tests.{least}
use Rattle.rules.specs.Fields.{leg_minutes}
use Rattle.rules.specs.Home.{open_tip}

-- a tip and its minutes, asked for from a place at a minute
pub record CarriedAfter (day : List ℕ) (place minute m tip minutes : ℕ) : Type 0 where
  -- "the one that the rule gives for those m alone"
  pub rule : tip ≡ least (open_tip day place minute) (leg_minutes day place) m
  -- with its minutes
  pub away : 0 < tip → minutes ≡ leg_minutes day place tip
  -- "and none exactly where none of them is open"
  pub none : (tip ≡ 0) ↔ ((k : ℕ) → 0 < k → k ≤ m → open_tip day place minute k ≡ false)
