-- A vehicle which comes with a load between the least and the most drives what is left as it stands. The day may be any list of words.
-- Assumes nothing.
use Prim.Native.Nat.{ℕ, ◌+◌, ◌≤◌, ◌<◌}
use mathlib.Core.Path.{◌≡◌, refl, ap, ◌∙◌}
use mathlib.Core.Bool.{false, and-false}
use mathlib.Core.List.{List, [], ◌∷◌}
use mathlib.Core.Logic.{inl, inr}
use mathlib.Core.Option.{Option, some}
use native.Mathlib.Omega.{arith}
use lib.Dec.{eqb, leb, ltb}
use borrow.Author.Tests.{lt-ltb, le-ltb, leb-true, eqb-true}
use Rattle.rules.specs.Fields.{stop_place, load_limit, quantity, leg_distance}
use Rattle.rules.specs.Plan.{Task, serve, empty, lunch, Round}
use Rattle.rules.specs.Lawful.{distance_from}
use Rattle.rules.specs.Cargo.{cargo_after}
use Rattle.rules.specs.Build.{Truck, doing, resting}
use Rattle.rules.specs.Attempts.{emptied_first, exceeds, serving_then, walk_task, walk_next, walk_on, walk_home}
use Rattle.laws.proofs.Decided.{known}
use Rattle.greedy_laws.proofs.Driving.{resting_keeps}
use Rattle.edits.specs.Kept.{kept}
use Rattle.walks.proofs.Walking.{doing_driven}
use Rattle.onward.specs.Behind.{stop_first, tip_first, onward_of}
use Rattle.onward.specs.declared.Onward.{Onward}
use Rattle.onward.proofs.OnwardLaws.{onward_most}

-- what a rest leaves as it is
record Same (v u : Truck) : Type 0 where
  pub load : u.cargo.load ≡ v.cargo.load
  pub place : u.trip.place ≡ v.trip.place
  pub distance : u.trip.distance ≡ v.trip.distance

resting_same : (day : List ℕ) (v : Truck) → Same v (resting day v)
unfolding cargo_after
resting_same day v =
    resting_keeps day (Same v) (λ u d s. record { load = s.load; place = s.place; distance = s.distance }) v (record { load = refl; place = refl; distance = refl })

-- the tasks are walked as they stand, to the way back
pub record Smooth (day : List ℕ) (tasks : Round) (v : Truck) : Type 0 where
  pub w : Truck
  pub is : walk_home day (walk_on day (kept tasks) (some v)) ≡ some w
  pub driven : w.trip.distance + leg_distance day w.trip.place 0 ≡ v.trip.distance + distance_from day v.trip.place tasks

-- the vehicle comes back empty
smooth_home : (day : List ℕ) (v : Truck) → v.cargo.load ≡ 0 → Smooth day [] v
unfolding kept walk_on walk_home emptied_first distance_from
smooth_home day v h =
    let s = resting_same day v in
    let e : ltb 0 (resting day v).cargo.load ≡ false = le-ltb 0 (resting day v).cargo.load (omega (arith, s.load)) in
    record { w = resting day v; is = rw e refl; driven = rw (s.place, s.distance) refl }

-- a stop that does not exceed Q
walk_stop : (day : List ℕ) (v : Truck) (k : ℕ) → v.cargo.load + quantity day (stop_place day k) ≤ load_limit day
    → walk_task day v (serve k) ≡ some (doing day v (serve k))
unfolding walk_task exceeds emptied_first serving_then
walk_stop day v k h = rw (le-ltb (load_limit day) (v.cargo.load + quantity day (stop_place day k)) h, and-false) refl

-- a tip with a load
walk_tip : (day : List ℕ) (v : Truck) (x : ℕ) → 0 < v.cargo.load → walk_task day v (empty x) ≡ some (doing day v (empty x))
unfolding walk_task
walk_tip day v x h = rw (lt-ltb 0 v.cargo.load h) refl

-- a stop or a tip in front of what is driven as it stands
smooth_next : (day : List ℕ) (tasks : Round) (v : Truck) (task : Task) → kept (task ∷ tasks) ≡ task ∷ kept tasks
    → walk_task day (resting day v) task ≡ some (doing day (resting day v) task) → Smooth day tasks (doing day (resting day v) task) → Smooth day (task ∷ tasks) v
unfolding walk_on walk_next
smooth_next day tasks v task k e g =
    let s = resting_same day v in
    record {
      w = g.w;
      is = ap (λ (ts : Round). walk_home day (walk_on day ts (some v))) k ∙ ap (λ (o : Option Truck). walk_home day (walk_on day (kept tasks) o)) e ∙ g.is;
      driven = g.driven ∙ doing_driven day (resting day v) task tasks ∙ rw (s.place, s.distance) refl;
    }

-- the loads that suit a stop, and a tip, with what is left behind it
stop_loads : (day : List ℕ) (k load : ℕ) (o : Onward) → (stop_first day k o).least ≤ load → load ≤ (stop_first day k o).most
    → (o.least ≤ load + quantity day (stop_place day k)) × (load + quantity day (stop_place day k) ≤ o.most)
unfolding stop_first
stop_loads day k load o l m = elim (known (leb (quantity day (stop_place day k)) o.most)) [
  | inl e ↦ let q = leb-true (quantity day (stop_place day k)) o.most e in (omega (arith, rw e at l), omega (arith, rw e at m))
  | inr e ↦ absurd (omega (arith, rw e at l, rw e at m))
]

tip_loads : (day : List ℕ) (x load : ℕ) (o : Onward) → (tip_first day x o).least ≤ load → load ≤ (tip_first day x o).most → (0 < load) × (o.least ≡ 0)
unfolding tip_first
tip_loads day x load o l m = elim (known (eqb o.least 0)) [ inl e ↦ (l, eqb-true o.least 0 e) | inr e ↦ absurd (omega (arith, l, rw e at m)) ]

-- with a load between the least and the most all that is left is driven as it stands
pub onward_smooth : (day : List ℕ) (tasks : Round) (v : Truck) → (onward_of day tasks).least ≤ v.cargo.load → v.cargo.load ≤ (onward_of day tasks).most → Smooth day tasks v
unfolding onward_of cargo_after kept distance_from
onward_smooth day [] v l m = smooth_home day v (omega arith)
onward_smooth day (serve k ∷ tasks) v l m =
    let b = stop_loads day k v.cargo.load (onward_of day tasks) l m in
    let s = resting_same day v in
    smooth_next day tasks v (serve k) refl (walk_stop day (resting day v) k (omega (arith, b.1, onward_most day tasks, s.load)))
    (onward_smooth day tasks (doing day (resting day v) (serve k)) (rw s.load b.0) (rw s.load b.1))
onward_smooth day (empty x ∷ tasks) v l m =
    let b = tip_loads day x v.cargo.load (onward_of day tasks) l m in
    smooth_next day tasks v (empty x) refl (walk_tip day (resting day v) x (omega (arith, b.0, (resting_same day v).load)))
    (onward_smooth day tasks (doing day (resting day v) (empty x)) (omega (arith, b.1)) (omega arith))
onward_smooth day (lunch ∷ tasks) v l m = let g = onward_smooth day tasks v l m in record { w = g.w; is = g.is; driven = g.driven }
