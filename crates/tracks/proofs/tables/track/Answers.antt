-- `tracks::tables::track` meets its contract.
use borrow.Author.Rules.{rules}
use Rattle.tracks.proofs.TableLaws.{tracks_start, tracks_vehicle, tracks_next, tracks_end}
use Rattle.tracks.proofs.tables.track.Goals as goal

pub loop-v-init : goal.loop-v-init
loop-v-init c = tracks_start _ _ _ _ _ _

pub track_vehicle-requires : goal.track_vehicle-requires
track_vehicle-requires c = search (rules, tracks_vehicle)

pub loop-v-preserved : goal.loop-v-preserved
loop-v-preserved c = search tracks_next

pub returns : goal.returns
returns c = search tracks_end
