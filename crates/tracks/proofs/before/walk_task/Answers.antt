-- `tracks::before::walk_task` meets its contract.
use Rattle.tracks.proofs.BeforeLaws.{task_passed, task_word_lem, task_walked}
use Rattle.tracks.proofs.before.walk_task.Goals as goal

pub returns-then-word-eq-REST : goal.returns-then-word-eq-REST
returns-then-word-eq-REST c = task_passed c.if-word-eq-REST.true

pub walk_word-requires : goal.walk_word-requires
walk_word-requires c = (c.requires.0, task_word_lem c.if-word-eq-REST.false c.requires.1)

pub returns : goal.returns
returns c = task_walked c.if-word-eq-REST.false c.walk_word.ensures
