-- `tracks::tables::track_vehicle` meets its contract.
use borrow.Author.Rules.{rules}
use mathlib.Core.Path.{refl}
use Rattle.tracks.proofs.TableLaws.{vehicle_placed, vehicle_walks, vehicle_short, vehicle_tracked}
use Rattle.tracks.proofs.tables.track_vehicle.Goals as goal

pub fill_before-requires : goal.fill_before-requires
fill_before-requires c = let s = c.requires.1 in
    (c.requires.0, record { tasks = _; walks = vehicle_walks s.trackable s.inside refl }, search rules, vehicle_short s.trackable s.inside)

pub fill_behind-requires : goal.fill_behind-requires
fill_behind-requires c = let s = c.requires.1 in (s.trackable.short, vehicle_placed s.trackable s.inside, search rules)

pub returns : goal.returns
returns c = λ rounds lefts t l. vehicle_tracked t l refl c.fill_before.ensures c.fill_behind.ensures
