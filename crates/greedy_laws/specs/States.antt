-- What the build carries from task to task. It serves contracts; no definition of the build rests on it. Assumes nothing.
use Rattle.std.specs.Prelude.{ℕ, Bool, not, ◌&&◌, List}
use Rattle.rules.specs.Lists.{mem}
use Rattle.laws.specs.Marks.{up_to}

-- the stops 1..n that are still to be routed
unfoldable pub unrouted : ℕ → List ℕ → ℕ → Bool
unrouted n taken k = up_to n k && not (mem k taken)
