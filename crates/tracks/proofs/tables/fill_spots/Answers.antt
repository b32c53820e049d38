-- `tracks::tables::fill_spots` meets its contract.
use borrow.Author.Rules.{rules}
use Rattle.tracks.proofs.SpotLaws.{spots_next, spots_done}
use Rattle.tracks.proofs.tables.fill_spots.Goals as goal

pub loop-at-preserved : goal.loop-at-preserved
loop-at-preserved c = search (rules, spots_next)

pub returns : goal.returns
returns c = search spots_done
