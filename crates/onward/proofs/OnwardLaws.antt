-- What is left of a vehicle: how far it drives, and within which bounds it is. The day may be any list of words.
-- Assumes nothing.
use Rattle.std.specs.Prelude.{if◌then◌else◌}
use Prim.Native.Nat.{ℕ, zero, suc, ◌+◌, ◌≤◌}
use mathlib.Core.Path.{◌≡◌, ap}
use mathlib.Core.Bool.{Bool, true, false}
use mathlib.Core.List.{List, [], ◌∷◌}
use native.Mathlib.Omega.{arith}
use lib.Dec.{eqb, leb}
use lib.ListN.{length, get_or, drop}
use Rattle.rules.specs.Lists.{Every}
use Rattle.rules.specs.Fields.{stop_place, load_limit, quantity, leg_distance}
use Rattle.rules.specs.Plan.{Task, serve, empty, lunch, Round, Known}
use Rattle.rules.specs.Lawful.{distance_from}
use Rattle.onward.specs.Behind.{homeward, distance_onward, stop_first, tip_first, task_first, onward_of, OnwardWithin, BehindOf}
use Rattle.onward.specs.declared.Onward.{Onward}

-- the distance from a place on
pub onward_distance : (day : List ℕ) (tasks : Round) (place : ℕ) → distance_from day place tasks ≡ distance_onward day place (onward_of day tasks)
unfolding distance_from onward_of stop_first tip_first
onward_distance day [] place = omega arith
onward_distance day (serve k ∷ tasks) place = ap (λ (x : ℕ). leg_distance day place (stop_place day k) + x) (onward_distance day tasks (stop_place day k))
onward_distance day (empty x ∷ tasks) place = ap (λ (y : ℕ). leg_distance day place x + y) (onward_distance day tasks x)
onward_distance day (lunch ∷ tasks) place = onward_distance day tasks place

-- what bounds both outcomes of a decision
either_most : (b : Bool) {x y most : ℕ} → x ≤ most → y ≤ most → (if b then x else y) ≤ most
either_most true l h = l
either_most false l h = h

-- one task more
first_most : (day : List ℕ) (task : Task) (o : Onward) → o.most ≤ load_limit day → (task_first day task o).most ≤ load_limit day
unfolding stop_first tip_first
first_most day (serve k) o h = either_most (leb (quantity day (stop_place day k)) o.most) (omega arith) (omega arith)
first_most day (empty x) o h = either_most (eqb o.least 0) (omega arith) (omega arith)
first_most day lunch o h = h

-- the load is never above Q
pub onward_most : (day : List ℕ) (tasks : Round) → (onward_of day tasks).most ≤ load_limit day
unfolding onward_of
onward_most day [] = omega arith
onward_most day (task ∷ tasks) = first_most day task (onward_of day tasks) (onward_most day tasks)

-- one known task more
first_within : (day : List ℕ) (task : Task) (legs : ℕ) (o : Onward) → Known day task → OnwardWithin day legs o → OnwardWithin day (suc legs) (task_first day task o)
unfolding stop_first tip_first Known
first_within day (serve k) legs o n w = record {
  least = either_most (leb (quantity day (stop_place day k)) o.most) (omega (arith, w.least)) (omega arith);
  most = first_most day (serve k) o w.most;
  next = omega (arith, n.1);
  distance = omega (arith, w.distance);
}
first_within day (empty x) legs o n w = record {
  least = omega arith;
  most = first_most day (empty x) o w.most;
  next = omega (arith, n.1);
  distance = omega (arith, w.distance);
}
first_within day lunch legs o n w = record { least = w.least; most = w.most; next = w.next; distance = omega (arith, w.distance) }

-- what is left of known tasks
pub onward_within : (day : List ℕ) (tasks : Round) → Every (Known day) tasks → OnwardWithin day (length tasks) (onward_of day tasks)
unfolding Every onward_of
onward_within day [] h = record { least = omega arith; most = omega arith; next = omega arith; distance = omega arith }
onward_within day (task ∷ tasks) h = first_within day task (length tasks) (onward_of day tasks) h.0 (onward_within day tasks h.1)

-- and from any of them on
pub onward_bounds : (day : List ℕ) (tasks : Round) (i : ℕ) → Every (Known day) tasks → OnwardWithin day (length tasks) (onward_of day (drop i tasks))
unfolding Every
onward_bounds day tasks zero h = onward_within day tasks h
onward_bounds day [] (suc i) h = onward_within day [] h
onward_bounds day (task ∷ tasks) (suc i) h =
    let w = onward_bounds day tasks i h.1 in record { least = w.least; most = w.most; next = w.next; distance = omega (arith, w.distance) }

-- a vehicle's rows are within these bounds
pub row_bounds : {day : List ℕ} {behind : List Onward} {from : ℕ} {tasks : Round} → BehindOf day behind from tasks → Every (Known day) tasks → (i : ℕ) → i ≤ length tasks
    → OnwardWithin day (length tasks) (get_or behind (from + i) homeward)
row_bounds {day} {tasks = tasks} b h i l = rw (b.row i l) (onward_bounds day tasks i h)
