-- The greedy plan's form: its vehicles are busy and their tasks known, its F words rise, and each stop stands exactly once. The day may be
-- any list of words.
-- Assumes nothing.
use Prim.Native.Nat.{ℕ, ◌+◌, ◌≤◌, ◌<◌}
use mathlib.Core.Path.{◌≡◌, ap}
use mathlib.Core.List.{List, [], ◌++◌}
use native.Mathlib.Omega.{arith}
use lib.ListN.{length, length-append}
use Rattle.rules.specs.Lists.{Every, mem, times, Rising}
use Rattle.rules.specs.Fields.{stops}
use Rattle.rules.specs.Plan.{stops_on, stops_on_all, Known}
use Rattle.rules.specs.Build.{routed, greedy_rounds, greedy_lefts}
use Rattle.laws.specs.Lists.{collect}
use Rattle.laws.proofs.Fresh.{once, fresh_times, fresh_length, once_fresh, every_append, every_weaker, unmet_most}
use Rattle.laws.proofs.Lists.{times_append}
use Rattle.plan_laws.proofs.Theorems.{known_all}
use Rattle.greedy_laws.proofs.Fleets.{fleet_every, fleet_routes}
use Rattle.greedy_laws.proofs.LeftOut.{Remains, remaining_are, remaining_rising, remaining_once}
use Rattle.greedy_laws.proofs.VehicleStops.{vehicle_routes}

-- what `Formed` asks of the vehicles and of the F words
module _ (day : List ℕ) where
  pub greedy_known : Every (Every (Known day)) (greedy_rounds day)
  greedy_known = fleet_every day (Every (Known day)) (λ taken l. (vehicle_routes day taken).known) (stops day + 1) []

  -- "with at least one B"
  pub greedy_busy : Every (λ tasks. 0 < length (stops_on tasks)) (greedy_rounds day)
  greedy_busy =
      fleet_every day (λ tasks. 0 < length (stops_on tasks)) (λ taken l. omega (arith, (vehicle_routes day taken).visits)) (stops day + 1) []

  -- "then F words rising"
  pub greedy_rising : Rising 0 (greedy_lefts day)
  greedy_rising = remaining_rising (routed day (stops day + 1) []) 0 1 (stops day) (omega arith)

  left_stops : Every (λ k. (1 ≤ k) × (k ≤ stops day)) (greedy_lefts day)
  left_stops =
      let taken = routed day (stops day + 1) [] in
      every_weaker (Remains taken 1 (stops day)) (λ k. (1 ≤ k) × (k ≤ stops day)) (λ k q. (q.from, omega (arith, q.below)))
      (greedy_lefts day) (remaining_are taken 1 (stops day))

  pub greedy_others : Every (λ k. k ≤ stops day) (greedy_lefts day)
  greedy_others = every_weaker (λ k. (1 ≤ k) × (k ≤ stops day)) (λ k. k ≤ stops day) (λ k q. q.1) (greedy_lefts day) left_stops

  -- "every stop stands exactly once, as B or F"
  pub greedy_once : (k : ℕ) → 1 ≤ k → k ≤ stops day → times k (stops_on_all (greedy_rounds day) ++ greedy_lefts day) ≡ 1
  unfolding mem
  greedy_once k a b =
      let r = fleet_routes day (stops day + 1) [] in
      let served = stops_on_all (greedy_rounds day) in
      let routes : once k (routed day (stops day + 1) []) ≡ once k (collect [] served) = ap (once k) r.taken in
      omega (
        arith,
        times_append k served (greedy_lefts day),
        fresh_times [] served r.new k,
        remaining_once (routed day (stops day + 1) []) 1 (stops day) k a (omega arith),
      )

  -- so no more stops are named than there are
  pub greedy_named : length (stops_on_all (greedy_rounds day)) + length (greedy_lefts day) ≤ stops day
  greedy_named =
      let served = stops_on_all (greedy_rounds day) in
      let named = served ++ greedy_lefts day in
      let known = known_all day (greedy_rounds day) greedy_known in
      let all = every_append (λ k. (1 ≤ k) × (k ≤ stops day)) served (greedy_lefts day) known left_stops in
      omega (
        arith,
        length-append served (greedy_lefts day),
        fresh_length (stops day) [] named all (once_fresh (stops day) named all greedy_once),
        unmet_most (stops day) [],
      )
