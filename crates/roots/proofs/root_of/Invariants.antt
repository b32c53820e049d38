-- `roots::root_of` meets its contract: the root is at most r all along.
use Prim.Native.Nat.{◌<◌, ◌+◌, ◌*◌}
use Rattle.roots.proofs.root_of.Given as goal

abbrev pub invariant-loop-r : goal.invariant-loop-r
invariant-loop-r l = l.s < (l.r + 1) * (l.r + 1)

abbrev pub decreases-loop-r : goal.decreases-loop-r
decreases-loop-r l = l.r
