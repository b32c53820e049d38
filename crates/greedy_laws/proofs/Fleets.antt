-- The vehicles of the greedy build, one behind the other: each takes new stops, and none goes out once a fresh one takes none. As many
-- vehicles as there may be are enough, and more would change nothing. The day may be any list of words.
-- Assumes nothing.
use Prim.Native.Nat.{ℕ, zero, suc, ◌+◌, ◌≤◌, ◌<◌}
use mathlib.Core.Path.{◌≡◌, refl, sym, ap, ◌∙◌, subst}
use mathlib.Core.List.{List, [], ◌∷◌}
use mathlib.Core.Logic.{inl, inr}
use native.Mathlib.Nat.{eq-zero-or-pos}
use native.Mathlib.Omega.{arith}
use borrow.Author.Tests.{eq-eqb, ne_eqb}
use Rattle.rules.specs.Lists.{Every, unmet}
use Rattle.rules.specs.Fields.{stops}
use Rattle.rules.specs.Plan.{Round, stops_on, stops_on_all}
use Rattle.rules.specs.Build.{one_vehicle, fleet, routed, greedy_rounds}
use Rattle.laws.specs.Lists.{collect, Fresh}
use Rattle.laws.proofs.Fresh.{collect_append, fresh_append, unmet_most}
use Rattle.greedy_laws.proofs.VehicleStops.{routes_unmet, vehicle_routes}

-- the stops that a vehicle takes are no longer missing
pub vehicle_unmet : (day taken : List ℕ)
    → (one_vehicle day taken).cargo.visits + unmet (stops day) (one_vehicle day taken).taken ≡ unmet (stops day) taken
vehicle_unmet day taken = routes_unmet day taken (one_vehicle day taken) (vehicle_routes day taken)

-- one vehicle more: a fresh one that takes none, or one that takes some
module _ (day : List ℕ) (most : ℕ) (taken : List ℕ) where
  pub fleet_none : (one_vehicle day taken).cargo.visits ≡ 0 → fleet day (suc most) taken ≡ []
  unfolding fleet
  fleet_none e = rw (eq-eqb _ 0 e, fleet)

  pub fleet_some : 0 < (one_vehicle day taken).cargo.visits
      → fleet day (suc most) taken ≡ (one_vehicle day taken).tasks ∷ fleet day most (one_vehicle day taken).taken
  unfolding fleet
  fleet_some l = rw (ne_eqb (one_vehicle day taken).cargo.visits 0 (λ e. omega arith), fleet)

  pub routed_none : (one_vehicle day taken).cargo.visits ≡ 0 → routed day (suc most) taken ≡ taken
  unfolding routed
  routed_none e = rw (eq-eqb _ 0 e, routed)

  pub routed_some : 0 < (one_vehicle day taken).cargo.visits → routed day (suc most) taken ≡ routed day most (one_vehicle day taken).taken
  unfolding routed
  routed_some l = rw (ne_eqb (one_vehicle day taken).cargo.visits 0 (λ e. omega arith), routed)

-- more vehicles allowed than there can be change nothing
both_more : (day : List ℕ) (most more : ℕ) (taken : List ℕ) → unmet (stops day) taken < most → most ≤ more
    → (fleet day more taken ≡ fleet day most taken) × (routed day more taken ≡ routed day most taken)
both_more day zero more taken h g = absurd (omega arith)
both_more day (suc most) zero taken h g = absurd (omega arith)
both_more day (suc most) (suc more) taken h g = elim (eq-zero-or-pos (one_vehicle day taken).cargo.visits) [
  | inl z ↦ (fleet_none day more taken z ∙ sym (fleet_none day most taken z), routed_none day more taken z ∙ sym (routed_none day most taken z))
  | inr l ↦
      let others = both_more day most more (one_vehicle day taken).taken (omega (arith, vehicle_unmet day taken)) (omega arith) in (
        rw (fleet_some day more taken l, fleet_some day most taken l, others.0) refl,
        rw (routed_some day more taken l, routed_some day most taken l, others.1) refl,
      )
]

pub fleet_more : (day : List ℕ) (most more : ℕ) (taken : List ℕ) → unmet (stops day) taken < most → most ≤ more
    → fleet day more taken ≡ fleet day most taken
fleet_more day most more taken h g = (both_more day most more taken h g).0

-- the vehicles that still go out when some stops are routed, and the stops routed then, with no number of vehicles to count down
unfoldable pub fleet_from : List ℕ → List ℕ → List Round
fleet_from day taken = fleet day (suc (unmet (stops day) taken)) taken

unfoldable pub routed_from : List ℕ → List ℕ → List ℕ
routed_from day taken = routed day (suc (unmet (stops day) taken)) taken

module _ (day taken : List ℕ) where
  pub from_none : (one_vehicle day taken).cargo.visits ≡ 0 → (fleet_from day taken ≡ []) × (routed_from day taken ≡ taken)
  unfolding fleet_from routed_from
  from_none z = (fleet_none day (unmet (stops day) taken) taken z, routed_none day (unmet (stops day) taken) taken z)

  pub from_some : 0 < (one_vehicle day taken).cargo.visits
      → (fleet_from day taken ≡ (one_vehicle day taken).tasks ∷ fleet_from day (one_vehicle day taken).taken)
      × (routed_from day taken ≡ routed_from day (one_vehicle day taken).taken)
  unfolding fleet_from routed_from
  from_some l =
      let most = unmet (stops day) taken in
      let next = (one_vehicle day taken).taken in
      let less = vehicle_unmet day taken in
      let others = both_more day (suc (unmet (stops day) next)) most next (omega arith) (omega arith) in
      (rw (fleet_some day most taken l, others.0) refl, routed_some day most taken l ∙ others.1)

pub from_start : (day : List ℕ) → (fleet_from day [] ≡ greedy_rounds day) × (routed_from day [] ≡ routed day (stops day + 1) [])
unfolding fleet_from routed_from
from_start day =
    let most = unmet_most (stops day) [] in
    let all = both_more day (suc (unmet (stops day) [])) (stops day + 1) [] (omega arith) (omega arith) in
    (sym all.0, sym all.1)

-- the build ends where a fresh vehicle takes none
pub routed_idle : (day : List ℕ) (most : ℕ) (taken : List ℕ) → unmet (stops day) taken < most
    → (one_vehicle day (routed day most taken)).cargo.visits ≡ 0
routed_idle day zero taken h = absurd (omega arith)
routed_idle day (suc most) taken h = elim (eq-zero-or-pos (one_vehicle day taken).cargo.visits) [
  | inl z ↦ rw (routed_none day most taken z) z
  | inr l ↦ rw (routed_some day most taken l) (routed_idle day most (one_vehicle day taken).taken (omega (arith, vehicle_unmet day taken)))
]

-- what each vehicle has that takes a stop, all have that are written
pub fleet_every : (day : List ℕ) (P : Round → Type 0)
    → ((taken : List ℕ) → 0 < (one_vehicle day taken).cargo.visits → P (one_vehicle day taken).tasks)
    → (most : ℕ) (taken : List ℕ) → Every P (fleet day most taken)
unfolding Every fleet
fleet_every day P h zero taken = tt
fleet_every day P h (suc most) taken = elim (eq-zero-or-pos (one_vehicle day taken).cargo.visits) [
  | inl z ↦ subst (Every P) (sym (fleet_none day most taken z)) tt
  | inr l ↦ subst (Every P) (sym (fleet_some day most taken l)) (h taken l, fleet_every day P h most (one_vehicle day taken).taken)
]

-- the stops routed are those of the vehicles, each new in its turn
pub record RoutesAll (day : List ℕ) (most : ℕ) (before : List ℕ) : Type 0 where
  pub taken : routed day most before ≡ collect before (stops_on_all (fleet day most before))
  pub new : Fresh before (stops_on_all (fleet day most before))

pub fleet_routes : (day : List ℕ) (most : ℕ) (before : List ℕ) → RoutesAll day most before
unfolding fleet routed collect Fresh stops_on_all
fleet_routes day zero before = record { taken = refl; new = tt }
fleet_routes day (suc most) before = elim (eq-zero-or-pos (one_vehicle day before).cargo.visits) [
  | inl z ↦ record { taken = rw (fleet_none day most before z, routed_none day most before z); new = rw (fleet_none day most before z) tt }
  | inr l ↦
      let r = vehicle_routes day before in
      let q = fleet_routes day most (one_vehicle day before).taken in
      let own = stops_on (one_vehicle day before).tasks in
      let others = stops_on_all (fleet day most (one_vehicle day before).taken) in
      record {
        taken =
            rw (fleet_some day most before l, routed_some day most before l)
            (q.taken ∙ ap (λ (met : List ℕ). collect met others) r.taken ∙ sym (collect_append before own others));
        new =
            rw (fleet_some day most before l)
            (fresh_append before own others r.new (subst (λ (met : List ℕ). Fresh met others) r.taken q.new));
      }
]
