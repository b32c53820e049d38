-- A vehicle while it is walked again: each task that is written keeps it standing, and its numbers small. Assumes nothing.
use Prim.Native.Nat.{ℕ, ◌+◌, ◌*◌, ◌≤◌, ◌<◌}
use mathlib.Core.Path.{◌≡◌, refl, sym, ap, ◌∙◌, subst}
use mathlib.Core.Bool.{Bool, true, false}
use mathlib.Core.List.{List, [], ◌∷◌, ◌++◌, map-append, append_assoc}
use mathlib.Core.Option as maybe
use mathlib.Core.Option.{some}
use Rattle.std.specs.Prelude.{Option, Some, None}
use native.Mathlib.Omega.{arith}
use lib.ListN.{length, length-append, length-map, set}
use borrow.Author.Tests.{ne_eqb}
use Rattle.rules.specs.Fields.{stops, tips, places, stop_place, quantity, IsAccepted}
use Rattle.rules.specs.PlanWords.{vehicle_word, stop_word, tip_word, rest_word}
use Rattle.rules.specs.Plan.{Task, serve, empty, lunch, Round, task_word, stops_on}
use Rattle.rules.specs.Cargo.{cargo_after}
use Rattle.rules.specs.Trip.{visited}
use Rattle.rules.specs.Home.{nearest_tip, due, rest_if_due}
use Rattle.rules.specs.Build.{Truck, doing, resting}
use Rattle.rules.specs.Attempts.{inserting}
use Rattle.rules.specs.declared.walk.Trip.{Trip}
use Rattle.laws.proofs.Buffer.{wrote_put, wrote_same}
use Rattle.laws.proofs.Decided.{bit_most}
use Rattle.laws.proofs.Plan.{stops_append}
use Rattle.day.proofs.Ranges.{accepted_ranges}
use Rattle.trips.specs.Trips.{SmallTrip}
use Rattle.greedy_laws.specs.Rooms.{Paid}
use Rattle.greedy_laws.proofs.GreedyRoom.{paid_rest, paid_serve, paid_empty, tasks_counted}
use Rattle.greedy_laws.proofs.VehicleStops.{visits_task}
use Rattle.walks.specs.Cabs.{Able, Riding, Start, Standing, Stands, failed, on_road, Space, SomeStanding, Drives}
use Rattle.walks.specs.declared.cabs.Cab.{Cab}

-- a vehicle on its way has done few tasks, so the trip and the load that the code carries are small
module _ {day : List ℕ} {most more : ℕ} {v : Truck} {c : Cab} (r : Riding day most more v c) where
  riding_tasks : length v.tasks ≤ 2 * most + 1
  riding_tasks =
      let once = bit_most v.trip.rested in
      omega (arith, tasks_counted v.tasks, r.able.paid.tips, r.able.paid.rests, r.able.served, r.few)

  pub riding_trip : SmallTrip day 2147483648 c.trip
  riding_trip =
      subst (SmallTrip day 2147483648) (sym r.trip_is)
      (record {
        place = r.able.place;
        minute = omega (arith, r.able.minute, riding_tasks, r.limit);
        distance = omega (arith, r.able.distance, riding_tasks, r.limit);
      })

  riding_load : c.load < 134217728
  riding_load = omega (arith, r.load_is, r.able.load, riding_tasks, r.limit)

-- it may serve as many stops or fewer
pub standing_fewer : {day : List ℕ} {start : Start} {most more less : ℕ} {p part : List ℕ} {v : Truck} {c : Cab} → less ≤ more
    → Standing day start most more p part v c → Standing day start most less p part v c
standing_fewer l s =
    let r = s.riding in
    record {
      riding = record { trip_is = r.trip_is; load_is = r.load_is; able = r.able; few = omega (arith, r.few); limit = r.limit };
      since = s.since;
      tasks = s.tasks;
      text = s.text;
      room = s.room;
    }

pub stands_fewer : {day : List ℕ} {start : Start} {most more less : ℕ} {p part : List ℕ} {o : maybe.Option Truck} {c : Option Cab} → less ≤ more
    → Stands day start most more p part o c → Stands day start most less p part o c
stands_fewer l (failed z) = failed z
stands_fewer l (on_road v c s) = on_road v c (standing_fewer l s)

module _ {day : List ℕ} {start : Start} {most more : ℕ} {p part : List ℕ} {v : Truck} {c : Cab} where
  pub standing_space : Standing day start most more p part v c → Space part c.at
  standing_space s =
      let size = length-map s.since task_word in
      let whole = ap length s.tasks ∙ length-append start.done s.since in
      record {
        inside = omega (arith, size, whole, s.text.count, s.text.size, riding_tasks s.riding, s.room);
        few = omega (arith, size, whole, s.text.count, riding_tasks s.riding, s.riding.limit);
      }

  -- as the code asks for it
  pub some_standing : {least : ℕ} → least ≤ more → Standing day start most more p part v c → SomeStanding day least part c
  some_standing l s =
      record {
        start = start;
        most = most;
        more = more;
        p = p;
        v = v;
        enough = l;
        standing = s;
        space = standing_space s;
        trip = riding_trip s.riding;
        load = riding_load s.riding;
      }

-- a vehicle on its way is standing
pub on_road_lem : {day : List ℕ} {start : Start} {most more : ℕ} {p part : List ℕ} {v : Truck} {c : Cab} → Stands day start most more p part (some v) (Some c)
    → Standing day start most more p part v c
on_road_lem (on_road v c s) = s

-- one task more keeps a vehicle's numbers small
able_doing : (day : List ℕ) (v : Truck) (task : Task) → Able day v → (doing day v task).trip.place < places day
    → (doing day v task).trip.minute ≤ v.trip.minute + 8192 → (doing day v task).trip.distance ≤ v.trip.distance + 65535
    → (doing day v task).cargo.load ≤ v.cargo.load + 131072 → Paid (doing day v task) → Able day (doing day v task)
able_doing day v task a place minute distance load paid =
    let tasks = length-append v.tasks (task ∷ []) in
    let stops = ap length (stops_append v.tasks (task ∷ [])) in
    record {
      place = place;
      minute = omega (arith, a.minute, tasks);
      distance = omega (arith, a.distance, tasks);
      load = omega (arith, a.load, tasks);
      paid = paid;
      served = omega (arith, a.served, visits_task day v.cargo task, stops, length-append (stops_on v.tasks) (stops_on (task ∷ [])));
    }

-- a task done behind the others: its word is written, and the code carries the trip and the load
abbrev drove : Cab → Trip → ℕ → Cab
drove c trip load = record { trip = trip; load = load; at = c.at + 1 }

module _ {day : List ℕ} {start : Start} {most more less : ℕ} {p part : List ℕ} {v : Truck} {c : Cab} (s : Standing day start most more p part v c) where
  stands_more : (task : Task) {trip : Trip} {load : ℕ} → trip ≡ (doing day v task).trip → load ≡ (doing day v task).cargo.load
      → Able day (doing day v task) → (doing day v task).cargo.visits + less ≤ most
      → Stands day start most less p (set part c.at (task_word task)) (some (doing day v task)) (Some (drove c trip load))
  stands_more task t l a few =
      let written = wrote_put s.text (task_word task) (omega (arith, (standing_space s).inside, s.text.size)) in
      on_road _ _ (record {
        riding = record { trip_is = t; load_is = l; able = a; few = few; limit = s.riding.limit };
        since = s.since ++ (task ∷ []);
        tasks = ap (λ (ts : Round). ts ++ (task ∷ [])) s.tasks ∙ append_assoc start.done s.since (task ∷ []);
        text = wrote_same written (ap (λ (ws : List ℕ). vehicle_word start.number ∷ ws) (sym (map-append task_word s.since (task ∷ [])))) refl;
        room = s.room;
      })

-- a rest is taken where one is due
module _ {day part : List ℕ} (c : Cab) {isDue : Bool} (decided : isDue ≡ due day c.trip) where
  pub rest_drives : {trip : Trip} → IsAccepted day → isDue ≡ true → trip ≡ rest_if_due day c.trip
      → Drives day 0 part c (λ v. some (resting day v)) (set part c.at rest_word) (Some (drove c trip c.load))
  unfolding rest_if_due resting task_word cargo_after
  rest_drives ok y t start most more p v s =
      let r = s.riding in
      let d : due day c.trip ≡ true = sym decided ∙ y in
      let e : due day v.trip ≡ true = ap (due day) (sym r.trip_is) ∙ d in
      let able = able_doing day v lunch r.able r.able.place (omega (arith, (accepted_ranges day ok).rest_most)) (omega arith) (omega arith) (paid_rest day v e r.able.paid) in
      rw e (stands_more s lunch (t ∙ rw (d, r.trip_is) refl) r.load_is able (omega (arith, r.few)))

  pub keep_drives : isDue ≡ false → Drives day 0 part c (λ v. some (resting day v)) part (Some c)
  unfolding resting
  keep_drives n start most more p v s =
      let e : due day v.trip ≡ false = ap (due day) (sym s.riding.trip_is) ∙ sym decided ∙ n in
      rw e (on_road v c (standing_fewer (omega arith) s))

-- the load is emptied at a tip, and a stop is served
module _ {day part : List ℕ} (c : Cab) (ok : IsAccepted day) where
  pub empty_drives : (x : ℕ) {trip : Trip} → 0 < c.load → 0 < x → x ≤ tips day → trip ≡ visited day c.trip x
      → Drives day 0 part c (λ v. some (doing day v (empty x))) (set part c.at (tip_word x)) (Some (drove c trip 0))
  unfolding task_word cargo_after
  empty_drives x q h k t start most more p v s =
      let r = s.riding in
      let service = (accepted_ranges day ok).service_most x h (omega arith) in
      let able = able_doing day v (empty x) r.able (omega arith) (omega (arith, service)) (omega arith) (omega arith) (paid_empty day v x (omega (arith, r.load_is)) r.able.paid) in
      stands_more s (empty x) (t ∙ ap (λ (u : Trip). visited day u x) r.trip_is) refl able (omega (arith, r.few))

  pub serve_drives : (k : ℕ) {trip : Trip} {kg : ℕ} → 0 < k → k ≤ stops day → trip ≡ visited day c.trip (stop_place day k)
      → kg ≡ quantity day (stop_place day k) → Drives day 1 part c (λ v. some (doing day v (serve k))) (set part c.at (stop_word k)) (Some (drove c trip (c.load + kg)))
  unfolding task_word cargo_after
  serve_drives k h b t q start most more p v s =
      let r = s.riding in
      let ranges = accepted_ranges day ok in
      let service = ranges.service_most (stop_place day k) (omega arith) (omega arith) in
      let able = able_doing day v (serve k) r.able (omega arith) (omega (arith, service)) (omega arith) (omega (arith, ranges.quantity_most k h b)) (paid_serve day v k r.able.paid) in
      stands_more s (serve k) (t ∙ ap (λ (u : Trip). visited day u (stop_place day k)) r.trip_is) (omega (arith, q, r.load_is)) able (omega (arith, r.few))

-- the nearest tip is inserted: there is none, or it is driven to and a rest taken where one is due
pub insert_fails : {day part : List ℕ} (c : Cab) → 0 ≡ nearest_tip day c.trip.place c.trip.minute
    → Drives day 0 part c (λ v. inserting day v (nearest_tip day v.trip.place v.trip.minute)) part None
unfolding inserting
insert_fails {day} c e start most more p v s =
    let n : nearest_tip day v.trip.place v.trip.minute ≡ 0 = ap (λ (t : Trip). nearest_tip day t.place t.minute) (sym s.riding.trip_is) ∙ sym e in
    rw n (failed s.text.size)

pub insert_drives : {day part mid now : List ℕ} (c e r : Cab) {x : ℕ} → x ≡ nearest_tip day c.trip.place c.trip.minute → 0 < x
    → Drives day 0 part c (λ v. some (doing day v (empty x))) mid (Some e) → Drives day 0 mid e (λ v. some (resting day v)) now (Some r)
    → Drives day 0 part c (λ v. inserting day v (nearest_tip day v.trip.place v.trip.minute)) now (Some r)
unfolding inserting
insert_drives {day} c e r {x} q z f g start most more p v s =
    let n : nearest_tip day v.trip.place v.trip.minute ≡ x = ap (λ (t : Trip). nearest_tip day t.place t.minute) (sym s.riding.trip_is) ∙ sym q in
    rw (n, ne_eqb x 0 (λ y. omega (arith, y))) (g start most more p _ (standing_fewer (omega arith) (on_road_lem (f start most more p v s))))

-- there is still a vehicle behind a task that cannot fail, and so behind a rest
module _ {day part now : List ℕ} {c e : Cab} {least : ℕ} (s : SomeStanding day least part c) where
  pub some_still : (f : Truck → Truck) → Drives day 0 part c (λ v. some (f v)) now (Some e) → SomeStanding day least now e
  some_still f d = some_standing s.enough (on_road_lem (d s.start s.most s.more s.p s.v (standing_fewer (omega arith) s.standing)))

  pub some_rested : Drives day 0 part c (λ v. some (resting day v)) now (Some e) → SomeStanding day least now e
  some_rested = some_still (resting day)
