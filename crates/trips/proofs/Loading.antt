-- What a vehicle carries, against the limits of a day. Assumes nothing.
use Prim.Native.Nat.{ℕ}
use mathlib.Core.Path.{◌≡◌}
use mathlib.Core.Bool.{◌||◌}
use mathlib.Core.List.{List}
use lib.Dec.{ltb}
use Rattle.rules.specs.Fields.{load_limit, day_limit, stop_limit}
use Rattle.rules.specs.Cargo.{over_limits}
use Rattle.rules.specs.declared.walk.Cargo.{Cargo}

-- the three tests, with the day's limits in place of those read
pub over_any : (day : List ℕ) (c : Cargo) {load kg visits : ℕ} → load ≡ load_limit day → kg ≡ day_limit day → visits ≡ stop_limit day
    → (ltb load c.load || ltb kg c.kg || ltb visits c.visits) ≡ over_limits day c
unfolding over_limits
over_any day c l k v = rw (l, k, v)
