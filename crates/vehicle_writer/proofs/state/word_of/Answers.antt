-- `vehicle_writer::state::word_of` meets its contract.
use Rattle.plan_words.proofs.WordForms.{stop_made, tip_made, back_form}
use Rattle.vehicle_writer.proofs.state.word_of.Goals as goal

pub returns-in-Stop : goal.returns-in-Stop
returns-in-Stop c = rw c.in-Stop.is (stop_made _ (rw c.in-Stop.is at c.requires) c.stop_word.ensures)

pub returns-in-Tip : goal.returns-in-Tip
returns-in-Tip c = rw c.in-Tip.is (tip_made _ (rw c.in-Tip.is at c.requires) c.tip_word.ensures)

pub returns-in-Home : goal.returns-in-Home
returns-in-Home c = rw c.in-Home.is back_form
