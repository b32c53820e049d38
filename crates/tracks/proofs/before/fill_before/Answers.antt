-- `tracks::before::fill_before` meets its contract.
use borrow.Author.Rules.{rules}
use mathlib.Core.Path.{refl, sym, ◌∙◌}
use native.Mathlib.Omega.{arith}
use Rattle.laws.proofs.Buffer.{wrote_none, wrote_put}
use Rattle.tracks.proofs.BeforeLaws.{place_small, filling_start, filling_task, filling_stands, filling_step, filling_whole, stands_size}
use Rattle.tracks.proofs.before.fill_before.Goals as goal

pub loop-i-init : goal.loop-i-init
loop-i-init c = (
  search rules,
  λ at l. refl,
  λ p ts w h. let f = c.fresh_cab.ensures in filling_start w h f.0 f.1 f.2 c.put_cab.ensures.holds,
)

pub walk_task-cab-requires : goal.walk_task-cab-requires
walk_task-cab-requires c =
    let s = c.requires.1 in
    (c.requires.0, filling_task s.walks c.loop-i-test.true (c.loop-i.invariant.2 _ s.tasks (wrote_put (wrote_none _) _ (omega (arith, s.walks.room))) s.walks))

pub put_cab-requires-in-loop-i : goal.put_cab-requires-in-loop-i
put_cab-requires-in-loop-i c =
    let s = c.requires.1 in (
      c.loop-i.invariant.0,
      omega (arith, c.requires.3, c.loop-i-test.true),
      place_small (filling_stands s.walks c.loop-i-test.true (c.loop-i.invariant.2 _ s.tasks (wrote_put (wrote_none _) _ (omega (arith, s.walks.room))) s.walks) c.walk_task-cab.ensures),
    )

pub loop-i-preserved : goal.loop-i-preserved
loop-i-preserved c = (
  search rules,
  λ at l. c.put_cab-in-loop-i.ensures.others at (omega (arith, l)) ∙ c.loop-i.invariant.1 at l,
  λ p ts w h. filling_step h c.loop-i-test.true (c.loop-i.invariant.2 p ts w h) c.walk_task-cab.ensures (omega arith) c.put_cab-in-loop-i.ensures.holds c.put_cab-in-loop-i.ensures.others,
)

pub returns : goal.returns
returns c =
    let s = c.requires.1 in
    record {
      size = c.loop-i.invariant.0 ∙ sym c.requires.2;
      part_size = stands_size (c.loop-i.invariant.2 _ s.tasks (wrote_put (wrote_none _) _ (omega (arith, s.walks.room))) s.walks).stands;
      kept = λ at l. c.loop-i.invariant.1 at l ∙ c.put_cab.ensures.others at l;
      rows = λ ts h. filling_whole h c.loop-i-test.false (c.loop-i.invariant.2 _ ts (wrote_put (wrote_none _) _ (omega (arith, h.room))) h);
    }
