-- A vehicle measured by the tables: where the walk starts, and what is known once all that is left is driven as it stands. Assumes nothing.
use Prim.Native.Nat.{ℕ, suc, ◌+◌, ◌≤◌, ◌<◌}
use mathlib.Core.Path.{◌≡◌, refl, sym, ap, ◌∙◌, subst}
use mathlib.Core.Bool.{true, ◌&&◌}
use mathlib.Core.List.{List, [], ◌∷◌, ◌++◌, append-nil, append_assoc}
use mathlib.Core.Option as maybe
use mathlib.Core.Option.{none, some}
use native.Mathlib.Omega.{arith}
use lib.Dec.{leb, ltb}
use lib.ListN.{length, get_or, length-append, length-map, take, drop, take-append-drop}
use lib.Seq.{length-take-le}
use borrow.Author.Tests.{ltb-true, leb-true}
use Rattle.std.specs.Prelude.{Option, Some, None}
use Rattle.rules.specs.Fields.{places}
use Rattle.rules.specs.PlanWords.{vehicle_word}
use Rattle.rules.specs.Plan.{serve, empty, lunch, Round, task_word, stops_on}
use Rattle.rules.specs.Lawful.{distance_from}
use Rattle.rules.specs.Build.{Truck, fresh}
use Rattle.rules.specs.Edits.{Edit, change, changed}
use Rattle.rules.specs.Attempts.{walk_on, walk_home}
use Rattle.rules.specs.declared.walk.Trip.{Trip}
use Rattle.laws.specs.Buffer.{Wrote}
use Rattle.laws.proofs.Buffer.{wrote_same}
use Rattle.laws.proofs.Tests.{both_true}
use Rattle.laws.proofs.Plan.{stops_append}
use Rattle.edits.specs.Kept.{kept}
use Rattle.onward.specs.Behind.{OnwardWithin, homeward, distance_onward, onward_of}
use Rattle.onward.specs.declared.Onward.{Onward}
use Rattle.onward.proofs.OnwardLaws.{onward_distance, row_bounds}
use Rattle.walks.specs.Cabs.{Riding, Start}
use Rattle.walks.specs.Rewalks.{Midway, Again}
use Rattle.walks.specs.declared.cabs.Cab.{Cab}
use Rattle.walks.proofs.CabLaws.{riding_trip}
use Rattle.walks.proofs.HomeLaws.{again_by, again_none}
use Rattle.walks.proofs.RewalkLaws.{walk_append}
use Rattle.walks.proofs.Walking.{failed_on}
use Rattle.tracks.proofs.SmoothLaws.{Smooth, onward_smooth}
use Rattle.tracks.specs.Before.{cab_of, cab_if, cab_at, RidesIf, halted, rides, truck_before}
use Rattle.tracks.specs.Measure.{is_cut, Cuttable, DrivesAgain, Measurable}
use Rattle.tracks.specs.declared.before.Row.{Row}

-- what is left is known
pub record Cut (i last load : ℕ) (o : Onward) : Type 0 where
  pub behind : last < i
  pub least : o.least ≤ load
  pub most : load ≤ o.most

cut_true : (i last load : ℕ) (o : Onward) → is_cut i last load o ≡ true → Cut i last load o
cut_true i last load o e =
    let both = both_true (ltb last i) (leb o.least load && leb load o.most) e in
    let fits = both_true (leb o.least load) (leb load o.most) both.1 in
    record { behind = ltb-true _ _ both.0; least = leb-true _ _ fits.0; most = leb-true _ _ fits.1 }

-- the trial fails among the tasks
pub drives_none : (day : List ℕ) (e : Edit) (tasks : Round) → walk_on day (changed e 0 tasks) (some (fresh day [])) ≡ none → DrivesAgain day (changed e 0 tasks) None
unfolding walk_home
drives_none day e tasks n = again_none day (changed e 0 tasks) (rw n refl)

-- what is left is driven as it stands
module _ {day : List ℕ} {e : Edit} {start : Start} {words p part : List ℕ} {behind : List Onward} {from first last : ℕ} {tasks : Round} {i : ℕ} {c : Cab}
    (h : Cuttable day e words p from behind first last tasks) (m : Midway day e start p part tasks i c) (l : i < length words)
    {o : Onward} (is : o ≡ get_or behind (from + i) homeward) (k : is_cut i last c.load o ≡ true) where
  within : i ≤ length tasks
  within = omega (arith, l, ap length h.walkable.are, length-map tasks task_word)

  abbrev cut : Cut i last c.load o
  cut = cut_true i last c.load o k

  row : o ≡ onward_of day (drop i tasks)
  row = is ∙ h.rows.row i within

  -- the whole walk of a vehicle that has come so far, and how far it drives
  left_whole : walk_on day (kept (drop i tasks)) (some m.v) ≡ walk_on day (changed e 0 tasks) (some (fresh day []))
  left_whole = sym (ap (λ (ts : Round). walk_on day ts (some m.v)) (h.outside.behind i cut.behind)) ∙ m.same

  left_far : c.trip.distance + distance_onward day c.trip.place o ≡ m.v.trip.distance + distance_from day m.v.trip.place (drop i tasks)
  left_far =
      ap (λ (x : Trip). x.distance + distance_onward day x.place o) m.standing.riding.trip_is ∙ ap (λ (u : Onward). m.v.trip.distance + distance_onward day m.v.trip.place u) row
      ∙ ap (λ (x : ℕ). m.v.trip.distance + x) (sym (onward_distance day (drop i tasks) m.v.trip.place))

  left_again : {distance : ℕ} → distance ≡ c.trip.distance + distance_onward day c.trip.place o → Smooth day (drop i tasks) m.v → Again day (changed e 0 tasks) distance
  left_again d w = again_by day (changed e 0 tasks) w.w h.walkable.edited (ap (walk_home day) (sym left_whole) ∙ w.is) (d ∙ left_far ∙ sym w.driven)

  pub left_drives : {distance : ℕ} → distance ≡ c.trip.distance + distance_onward day c.trip.place o → DrivesAgain day (changed e 0 tasks) (Some distance)
  left_drives d =
      let r = m.standing.riding in
      let low : (onward_of day (drop i tasks)).least ≤ m.v.cargo.load = omega (arith, cut.least, ap (λ (u : Onward). u.least) row, r.load_is) in
      let high : m.v.cargo.load ≤ (onward_of day (drop i tasks)).most = omega (arith, cut.most, ap (λ (u : Onward). u.most) row, r.load_is) in
      left_again d (onward_smooth day (drop i tasks) m.v low high)

  -- the numbers are small
  pub left_small : from + length words ≤ 1200 → (c.trip.place < places day) × (c.trip.distance < 2147483648) × (o.next < places day) × (o.distance < 1073741824)
  left_small z =
      let t = riding_trip m.standing.riding in
      let b = subst (OnwardWithin day (length tasks)) (sym is) (row_bounds h.rows h.walkable.known i within) in
      let far : o.distance < 1073741824 = omega (arith, b.distance, z, ap length h.walkable.are, length-map tasks task_word) in
      (t.place, t.distance, b.next, far)

-- what an edit makes of two parts of the tasks
changed_parts : (e : Edit) (t : ℕ) (xs ys : Round) → changed e t (xs ++ ys) ≡ changed e t xs ++ changed e (t + length xs) ys
unfolding changed
changed_parts e t [] ys = ap (λ (n : ℕ). changed e n ys) (omega arith)
changed_parts e t (task ∷ xs) ys =
    ap (λ (ts : Round). change e t task ++ ts) (changed_parts e (suc t) xs ys ∙ ap (λ (n : ℕ). changed e (suc t) xs ++ changed e n ys) (omega arith))
    ∙ sym (append_assoc (change e t task) (changed e (suc t) xs) (changed e (t + suc (length xs)) ys))

length_front : (tasks : Round) {i : ℕ} → i ≤ length tasks → 0 + length (take i tasks) ≡ i
length_front tasks {i} l = omega (arith, length-take-le i tasks l)

-- the tasks without rests have the same stops
kept_stops : (tasks : Round) → stops_on (kept tasks) ≡ stops_on tasks
unfolding kept stops_on
kept_stops [] = refl
kept_stops (serve k ∷ tasks) = ap (λ (ks : List ℕ). k ∷ ks) (kept_stops tasks)
kept_stops (empty x ∷ tasks) = kept_stops tasks
kept_stops (lunch ∷ tasks) = kept_stops tasks

-- a vehicle that a row holds, and one that has failed
record RowGoes (day : List ℕ) (most more : ℕ) (o : maybe.Option Truck) (c : Cab) : Type 0 where
  pub v : Truck
  pub is : o ≡ some v
  pub riding : Riding day most more v c

rides_goes : {day : List ℕ} {most more : ℕ} {o : maybe.Option Truck} {c : Cab} → RidesIf day most more o (Some c) → RowGoes day most more o c
rides_goes (rides v c r) = record { v = v; is = refl; riding = r }

rides_failed : {day : List ℕ} {most more : ℕ} {o : maybe.Option Truck} → RidesIf day most more o None → o ≡ none
rides_failed halted = refl

-- the vehicle of a row has written its A word
first_word : (r : Option Row) (c : Cab) → Some c ≡ cab_if r → c.at ≡ 1
first_word None c k = cc
first_word (Some r) c k = let e : c ≡ cab_of r = cc in ap (λ (x : Cab). x.at) e

-- where the walk starts
pub record Started (day : List ℕ) (e : Edit) (p part : List ℕ) (tasks : Round) (first : ℕ) (c : Cab) : Type 0 where
  pub start : Start
  pub midway : Midway day e start p part tasks first c

module _ {day : List ℕ} {e : Edit} {words p : List ℕ} {before : List (Option Row)} {behind : List Onward} {from first last : ℕ} {tasks : Round}
    (h : Measurable day e words p from before behind first last tasks) where
  abbrev ahead : Round
  ahead = kept (take first tasks)

  -- the tasks before the first changed one, and those from it on
  parts : changed e 0 tasks ≡ ahead ++ changed e first (drop first tasks)
  parts =
      ap (changed e 0) (sym (take-append-drop first tasks)) ∙ changed_parts e 0 (take first tasks) (drop first tasks)
      ∙ ap (λ (n : ℕ). changed e 0 (take first tasks) ++ changed e n (drop first tasks)) (length_front tasks h.cuttable.outside.within)
      ∙ ap (λ (ts : Round). ts ++ changed e first (drop first tasks)) h.cuttable.outside.ahead

  stops_parts : length (stops_on (changed e 0 tasks)) ≡ length (stops_on (take first tasks)) + length (stops_on (changed e first (drop first tasks)))
  stops_parts =
      ap (λ (ts : Round). length (stops_on ts)) parts ∙ ap length (stops_append ahead (changed e first (drop first tasks)))
      ∙ length-append (stops_on ahead) (stops_on (changed e first (drop first tasks)))
      ∙ ap (λ (ks : List ℕ). length ks + length (stops_on (changed e first (drop first tasks)))) (kept_stops (take first tasks))

  stops_whole : length (stops_on tasks) ≡ length (stops_on (take first tasks)) + length (stops_on (drop first tasks))
  stops_whole =
      ap (λ (ts : Round). length (stops_on ts)) (sym (take-append-drop first tasks)) ∙ ap length (stops_append (take first tasks) (drop first tasks))
      ∙ length-append (stops_on (take first tasks)) (stops_on (drop first tasks))

  walk_parts : walk_on day (changed e 0 tasks) (some (fresh day [])) ≡ walk_on day (changed e first (drop first tasks)) (truck_before day tasks first)
  walk_parts = ap (λ (ts : Round). walk_on day ts (some (fresh day []))) parts ∙ walk_append day ahead (changed e first (drop first tasks)) (some (fresh day []))

  walked_to : {c : Option Cab} → c ≡ cab_at before (from + first) → RidesIf day (length (stops_on tasks)) (length (stops_on (drop first tasks))) (truck_before day tasks first) c
  walked_to k = subst (RidesIf day (length (stops_on tasks)) (length (stops_on (drop first tasks))) (truck_before day tasks first)) (sym k) (h.walked first h.cuttable.outside.within)

  pub measure_failed : None ≡ cab_at before (from + first) → DrivesAgain day (changed e 0 tasks) None
  measure_failed k =
      drives_none day e tasks
      (walk_parts ∙ ap (walk_on day (changed e first (drop first tasks))) (rides_failed (walked_to k)) ∙ failed_on day (changed e first (drop first tasks)))

  pub measure_starts : {c : Cab} {part : List ℕ} → Some c ≡ cab_at before (from + first) → Wrote (vehicle_word 0 ∷ []) p part 1 → Started day e p part tasks first c
  measure_starts {c} k w =
      let b = rides_goes (walked_to k) in
      let r = b.riding in
      record {
        start = record { number = 0; done = b.v.tasks };
        midway = record {
          v = b.v;
          standing = record {
            riding = record {
              trip_is = r.trip_is;
              load_is = r.load_is;
              able = r.able;
              few = omega (arith, r.few, stops_parts, stops_whole, h.same);
              limit = h.cuttable.walkable.few;
            };
            since = [];
            tasks = sym (append-nil b.v.tasks);
            text = wrote_same w refl (sym (first_word (get_or before (from + first) None) c k));
            room = h.cuttable.walkable.room;
          };
          same = ap (walk_on day (changed e first (drop first tasks))) (sym b.is) ∙ sym walk_parts;
        };
      }
