-- `tracks::tables::track`: the first v vehicles have their rows.
use lib.ListN.{length}
use Rattle.tracks.proofs.TableLaws.{TracksTo}
use Rattle.tracks.proofs.tables.track.Given as goal

abbrev pub invariant-loop-v : goal.invariant-loop-v
invariant-loop-v l = TracksTo l.day l.plan l.starts (length l.initial.work) l.count l.v l.tracks l.work
