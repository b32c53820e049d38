-- What a vehicle carries: no task of a round, and not its return, is at fault by the load exactly where its loads and counts are within
-- the day's limits.
-- Assumes nothing.
use Prim.Native.Nat.{ℕ, ◌+◌, ◌≤◌}
use mathlib.Core.Path.{◌≡◌, refl}
use mathlib.Core.Bool.{Bool, true, false, ◌||◌, true≢false}
use mathlib.Core.List.{List, [], ◌∷◌}
use native.Mathlib.Omega.{arith}
use lib.ListN.{length}
use lib.Dec.{ltb}
use borrow.Author.Tests.{ltb-false, le-ltb}
use Rattle.rules.specs.Lists.{total}
use Rattle.rules.specs.Fields.{stop_place, load_limit, day_limit, stop_limit, quantity}
use Rattle.rules.specs.PlanWords.{stop, back}
use Rattle.rules.specs.Plan.{serve, empty, lunch, Round, stops_on}
use Rattle.rules.specs.Lawful.{load_then, LoadsWithin, kg_of}
use Rattle.rules.specs.Cargo.{loaded, emptied, over_limits, cargo_fault, cargo_after}
use Rattle.rules.specs.declared.walk.Cargo.{Cargo}
use Rattle.laws.proofs.Tests.{only_second}
use Rattle.plan_laws.specs.Vehicles.{CargoClear}

-- three tests of which none holds
none_holds : (a b c : Bool) → (a || b || c) ≡ false → (a ≡ false) × (b ≡ false) × (c ≡ false)
none_holds true b c e = absurd (true≢false e)
none_holds false true c e = absurd (true≢false e)
none_holds false false c e = (refl, refl, e)

-- the load, the kg and the visits so far are within the day's limits
pub record Limited (day : List ℕ) (c : Cargo) : Type 0 where
  pub load : c.load ≤ load_limit day
  pub kg : c.kg ≤ day_limit day
  pub visits : c.visits ≤ stop_limit day

-- a vehicle that is over no limit is within each
pub not_over : (day : List ℕ) (c : Cargo) → over_limits day c ≡ false → Limited day c
unfolding over_limits
not_over day c e =
    let each = none_holds (ltb (load_limit day) c.load) (ltb (day_limit day) c.kg) (ltb (stop_limit day) c.visits) e in
    record { load = ltb-false _ _ each.0; kg = ltb-false _ _ each.1; visits = ltb-false _ _ each.2 }

-- a stop is not at fault exactly where its quantity leaves the vehicle within the limits
stop_limited : (day : List ℕ) (c : Cargo) (k : ℕ) → cargo_fault day c (stop k) ≡ 0
    → Limited day (loaded c (quantity day (stop_place day k)))
unfolding cargo_fault
stop_limited day c k e =
    let after = loaded c (quantity day (stop_place day k)) in
    not_over day after (only_second (over_limits day after) (λ z. omega arith) e).0

limited_stop : (day : List ℕ) (c : Cargo) (k : ℕ) → Limited day (loaded c (quantity day (stop_place day k)))
    → cargo_fault day c (stop k) ≡ 0
unfolding cargo_fault over_limits
limited_stop day c k l = rw (le-ltb _ _ l.load, le-ltb _ _ l.kg, le-ltb _ _ l.visits)

-- the return is not at fault exactly where the vehicle is empty
back_empty : (day : List ℕ) (c : Cargo) → cargo_fault day c back ≡ 0 → c.load ≡ 0
unfolding cargo_fault
back_empty day c e =
    let most = ltb-false 0 c.load (only_second (ltb 0 c.load) (λ z. omega arith) e).0 in
    omega arith

empty_back : (day : List ℕ) (c : Cargo) → c.load ≡ 0 → cargo_fault day c back ≡ 0
unfolding cargo_fault
empty_back day c e = rw (le-ltb 0 c.load (omega arith))

-- loads and counts of the tasks that are left, from what the vehicle carries
pub record LoadsFrom (day : List ℕ) (c : Cargo) (tasks : Round) : Type 0 where
  pub load : LoadsWithin day c.load tasks
  pub kg : c.kg + kg_of day tasks ≤ day_limit day
  pub visits : c.visits + length (stops_on tasks) ≤ stop_limit day

-- without a fault by the load, loads and counts are within the limits
pub cargo_loads : (day : List ℕ) (c : Cargo) (tasks : Round) → Limited day c → CargoClear day c tasks → LoadsFrom day c tasks
unfolding CargoClear cargo_after load_then LoadsWithin kg_of stops_on total
cargo_loads day c [] l x = record { load = back_empty day c x; kg = omega arith; visits = omega arith }
cargo_loads day c (serve k ∷ tasks) l x =
    let m = stop_limited day c k x.0 in
    let r = cargo_loads day (loaded c (quantity day (stop_place day k))) tasks m x.1 in
    record { load = (m.load, r.load); kg = omega arith; visits = omega arith }
cargo_loads day c (empty k ∷ tasks) l x =
    let r = cargo_loads day (emptied c) tasks (omega arith) x.1 in
    record { load = (omega arith, r.load); kg = r.kg; visits = r.visits }
cargo_loads day c (lunch ∷ tasks) l x =
    let r = cargo_loads day c tasks l x.1 in
    record { load = (l.load, r.load); kg = r.kg; visits = r.visits }

-- where loads and counts are within the limits, there is no fault by the load
pub loads_cargo : (day : List ℕ) (c : Cargo) (tasks : Round) → LoadsFrom day c tasks → CargoClear day c tasks
unfolding CargoClear cargo_fault cargo_after load_then LoadsWithin kg_of stops_on total
loads_cargo day c [] r = empty_back day c r.load
loads_cargo day c (serve k ∷ tasks) r =
    let q = quantity day (stop_place day k) in (
      limited_stop day c k (record { load = r.load.0; kg = omega arith; visits = omega arith }),
      loads_cargo day (loaded c q) tasks (record { load = r.load.1; kg = omega arith; visits = omega arith }),
    )
loads_cargo day c (empty k ∷ tasks) r =
    (refl, loads_cargo day (emptied c) tasks (record { load = r.load.1; kg = r.kg; visits = r.visits }))
loads_cargo day c (lunch ∷ tasks) r =
    (refl, loads_cargo day c tasks (record { load = r.load.1; kg = r.kg; visits = r.visits }))
