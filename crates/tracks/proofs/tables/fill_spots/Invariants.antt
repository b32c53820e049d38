-- `tracks::tables::fill_spots` meets its contract.
use Prim.Native.Nat.{◌-◌}
use lib.ListN.{length, take, drop}
use mathlib.Core.Path.{◌≡◌}
use Rattle.tracks.specs.Tables.{spots_after}
use Rattle.tracks.proofs.tables.fill_spots.Given as goal

abbrev pub invariant-loop-at : goal.invariant-loop-at
invariant-loop-at l = (length l.spots ≡ 256) × (spots_after (take (l.end - l.at) (drop l.at l.plan)) l.at l.spots ≡ spots_after (take (l.end - l.from) (drop l.from l.plan)) l.from l.initial.spots)
