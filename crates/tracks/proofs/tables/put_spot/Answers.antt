-- `tracks::tables::put_spot` meets its contract: a stop's number is below 256.
use native.Mathlib.Omega.{arith}
use Rattle.plan_words.proofs.WordForms.{word_is}
use Rattle.plan_words.proofs.TaskWords.{stop_below}
use Rattle.tracks.proofs.tables.put_spot.Goals as goal

pub offset_bounds-spots-stop : goal.offset_bounds-spots-stop
offset_bounds-spots-stop c = omega (arith, stop_below _ _ (word_is _ c.in-Some-Stop.ensures c.in-Some-Stop.field-0-is))

pub bounds-spots-stop : goal.bounds-spots-stop
bounds-spots-stop c = omega (arith, c.requires.0, stop_below _ _ (word_is _ c.in-Some-Stop.ensures c.in-Some-Stop.field-0-is))
