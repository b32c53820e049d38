-- `search_steps::steps::take_over` meets its contract.
use Rattle.search_steps.proofs.TakeOverLaws.{copy_fits, copied_fits, copied_held, takes_over}
use Rattle.search_steps.proofs.steps.take_over.Goals as goal

pub copy_words-requires : goal.copy_words-requires
copy_words-requires c = search copy_fits

pub slice_bounds-make_tables-end : goal.slice_bounds-make_tables-end
slice_bounds-make_tables-end c = search copied_fits

pub make_tables-requires : goal.make_tables-requires
make_tables-requires c = let p = c.requires in
    (p.0, copied_held _ p.2 c.copy_words.ensures p.1, p.3)

pub returns : goal.returns
returns c = let p = c.requires in
    takes_over _ p.2 c.copy_words.ensures c.make_tables.ensures
