-- The tasks of a vehicle, changed and walked again one by one. Assumes nothing.
use Prim.Native.Nat.{ℕ, ◌+◌, ◌*◌, ◌≤◌, ◌<◌}
use mathlib.Core.Path.{◌≡◌, refl, sym, ap, ◌∙◌}
use mathlib.Core.List.{List, [], ◌∷◌, ◌++◌}
use mathlib.Core.Option.{none, some}
use native.Mathlib.Numerals.{add-one}
use native.Mathlib.Omega.{arith}
use lib.ListN.{length, length-map, get_or, drop, drop_of_length-le}
use lib.Seq.{drop-cons}
use Rattle.std.specs.Prelude.{Option, Some, None}
use Rattle.rules.specs.PlanWords.{vehicle_word}
use Rattle.rules.specs.Plan.{Task, lunch, Round, stops_on, task_word, Known}
use Rattle.rules.specs.Trip.{leaving}
use Rattle.rules.specs.Build.{fresh}
use Rattle.rules.specs.Edits.{Edit, change, changed}
use Rattle.rules.specs.Attempts.{walk_on}
use Rattle.laws.specs.Buffer.{Wrote}
use Rattle.laws.proofs.Buffer.{wrote_same}
use Rattle.laws.proofs.Lists.{get_map, every_at}
use Rattle.greedy_laws.proofs.GreedyRoom.{paid_fresh}
use Rattle.walks.specs.Cabs.{Start, at_depot, Standing, Stands}
use Rattle.walks.specs.Rewalks.{SomeTask, WalksTask, Walkable, Midway}
use Rattle.walks.specs.declared.cabs.Cab.{Cab}
use Rattle.walks.proofs.CabLaws.{standing_fewer, some_standing}
use Rattle.walks.proofs.WalkLaws.{stands_goes, stands_failed}
use Rattle.walks.proofs.RewalkLaws.{walk_append, stops_both}
use Rattle.walks.proofs.Walking.{failed_on}

-- an empty vehicle at the depot, behind its A word
pub fresh_stands : {day : List ℕ} {number most : ℕ} {p part : List ℕ} {c : Cab} → Wrote (vehicle_word number ∷ []) p part 1 → most ≤ 240 → 3 + 2 * most ≤ length p
    → c.trip ≡ leaving day → c.load ≡ 0 → c.at ≡ 1 → Standing day (at_depot number) most most p part (fresh day []) c
unfolding stops_on
fresh_stands {day} w few room t l n =
    record {
      riding = record {
        trip_is = t;
        load_is = l;
        able = record { place = omega arith; minute = omega arith; distance = omega arith; load = omega arith; paid = paid_fresh day []; served = refl };
        few = omega arith;
        limit = few;
      };
      since = [];
      tasks = refl;
      text = wrote_same w refl (sym n);
      room = room;
    }

-- before the first task
pub midway_start : {day : List ℕ} {e : Edit} {number : ℕ} {words p part : List ℕ} {tasks : Round} {c : Cab} → Wrote (vehicle_word number ∷ []) p part 1
    → Walkable day e words p tasks → c.trip ≡ leaving day → c.load ≡ 0 → c.at ≡ 1 → Midway day e (at_depot number) p part tasks 0 c
midway_start {day} w h t l n = record { v = fresh day []; standing = fresh_stands w h.few h.room t l n; same = refl }

-- the next task
module _ {day : List ℕ} {e : Edit} {words p : List ℕ} {tasks : Round} (h : Walkable day e words p tasks) {i : ℕ} (l : i < length words) where
  tasks_long : i < length tasks
  tasks_long = omega (arith, ap length h.are, length-map tasks task_word)

  abbrev task : Task
  task = get_or tasks i lunch

  abbrev others : Round
  others = changed e (i + 1) (drop (i + 1) tasks)

  word_is : (d : ℕ) → get_or words i d ≡ task_word task
  word_is d = ap (λ (ws : List ℕ). get_or ws i d) h.are ∙ get_map task_word tasks i d lunch tasks_long

  task_known : Known day task
  task_known = every_at (Known day) tasks i lunch h.known tasks_long

  next_tasks : changed e i (drop i tasks) ≡ change e i task ++ others
  unfolding changed
  next_tasks = rw (add-one, drop-cons tasks i lunch tasks_long) refl

  next_stops : length (stops_on (changed e i (drop i tasks))) ≡ length (stops_on (change e i task)) + length (stops_on others)
  next_stops = ap (λ (ts : Round). length (stops_on ts)) next_tasks ∙ stops_both (change e i task) others

  module _ (d : ℕ) {start : Start} {part : List ℕ} {c : Cab} (m : Midway day e start p part tasks i c) where
    pub midway_task : SomeTask day e i part c (get_or words i d)
    midway_task = record { task = task; is = word_is d; known = task_known; stands = some_standing (omega (arith, next_stops)) m.standing }

    next_same : walk_on day others (walk_on day (change e i task) (some m.v)) ≡ walk_on day (changed e 0 tasks) (some (fresh day []))
    next_same = sym (walk_append day (change e i task) others (some m.v)) ∙ ap (λ (ts : Round). walk_on day ts (some m.v)) (sym next_tasks) ∙ m.same

    next_stands : {now : List ℕ} {r : Option Cab} → WalksTask day e i part c (get_or words i d) now r
        → Stands day start (length (stops_on (changed e 0 tasks))) (length (stops_on others)) p now (walk_on day (change e i task) (some m.v)) r
    next_stands g = g task (word_is d) task_known start _ (length (stops_on others)) p m.v (standing_fewer (omega (arith, next_stops)) m.standing)

    pub midway_step : {now : List ℕ} {b : Cab} → WalksTask day e i part c (get_or words i d) now (Some b) → Midway day e start p now tasks (i + 1) b
    midway_step g =
        let t = stands_goes (walk_on day (change e i task) (some m.v)) (next_stands g) in
        record { v = t.v; standing = t.standing; same = sym (ap (walk_on day others) t.is) ∙ next_same }

    -- the trial fails on it, so on all
    pub midway_fails : {now : List ℕ} → WalksTask day e i part c (get_or words i d) now None → walk_on day (changed e 0 tasks) (some (fresh day [])) ≡ none
    midway_fails g = sym next_same ∙ ap (walk_on day others) (stands_failed (walk_on day (change e i task) (some m.v)) (next_stands g)).0 ∙ failed_on day others

    pub midway_size : {now : List ℕ} → WalksTask day e i part c (get_or words i d) now None → length now ≡ length p
    midway_size g = (stands_failed (walk_on day (change e i task) (some m.v)) (next_stands g)).1

-- behind the last task
module _ {day : List ℕ} {e : Edit} {start : Start} {words p part : List ℕ} {tasks : Round} {i : ℕ} {c : Cab} (h : Walkable day e words p tasks) (l : length words ≤ i)
    (m : Midway day e start p part tasks i c) where
  none_left : changed e i (drop i tasks) ≡ []
  unfolding changed
  none_left = let q : drop i tasks ≡ [] = drop_of_length-le tasks {i = i} (omega (arith, l, ap length h.are, length-map tasks task_word)) in rw q refl

  pub midway_done : Standing day start (length (stops_on (changed e 0 tasks))) 0 p part m.v c
  midway_done = standing_fewer (omega arith) m.standing

  pub midway_whole : walk_on day (changed e 0 tasks) (some (fresh day [])) ≡ some m.v
  unfolding walk_on
  midway_whole = sym m.same ∙ ap (λ (ts : Round). walk_on day ts (some m.v)) none_left
