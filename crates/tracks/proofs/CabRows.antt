-- The row of a vehicle before a word, written and read.
-- Assumes nothing.
use Prim.Native.Nat.{ℕ, ◌<◌}
use mathlib.Core.Path.{◌≡◌, ap, ◌∙◌}
use mathlib.Core.List.{List}
use native.Mathlib.Omega.{arith}
use lib.ListN.{length, set}
use lib.Seq.{get_or-set_same, get_or-set_other}
use Rattle.std.specs.Prelude.{Option, None}
use Rattle.walks.specs.declared.cabs.Cab.{Cab}
use Rattle.tracks.specs.Before.{row_if, cab_if, RowHolds, RowsKept}
use Rattle.tracks.specs.declared.before.Row.{Row}

pub row_written : (before : List (Option Row)) (at : ℕ) (c : Option Cab) {r : Option Row} → at < length before → r ≡ row_if c → RowHolds (set before at r) at c
row_written before at c {r} l e = record { is = get_or-set_same before at r None l ∙ e }

pub row_kept : (before : List (Option Row)) (at : ℕ) (r : Option Row) → RowsKept at before (set before at r)
row_kept before at r k h = ap cab_if (get_or-set_other before at k r None (λ q. omega arith))
