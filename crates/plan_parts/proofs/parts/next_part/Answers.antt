-- `plan_parts::parts::next_part` meets its contract: a vehicle leaves, or a stop is left out.
use mathlib.Core.Path.{refl}
use native.Mathlib.Omega.{arith}
use borrow.Author.Rules.{rules}
use Rattle.plan_words.proofs.WordForms.{word_is}
use Rattle.plan_parts.proofs.GoingThrough.{part_below, part_next, part_out}
use Rattle.plan_parts.proofs.parts.next_part.Goals as goal

pub round-requires : goal.round-requires
round-requires c = (
  search rules,
  omega arith,
  part_out _ _ _ _ _ c.requires.2 c.requires.1 _ (word_is _ c.in-Some-Vehicle.ensures c.in-Some-Vehicle.field-0-is) (c.in-Ok.ensures c.args.met.now),
)

pub bounds-met-left : goal.bounds-met-left
bounds-met-left c =
    part_below _ _ _ _ _ c.requires.2 c.requires.1 _ (word_is _ c.in-Some-Left.ensures c.in-Some-Left.field-0-is) c.in-Ok-left_word.ensures

pub returns-in-Ok-left_word : goal.returns-in-Ok-left_word
returns-in-Ok-left_word c =
    record {
      more = omega arith;
      most = omega arith;
      reached =
          part_next _ _ _ _ _ c.requires.2 c.requires.1 _ (word_is _ c.in-Some-Left.ensures c.in-Some-Left.field-0-is) c.in-Ok-left_word.ensures refl;
    }
