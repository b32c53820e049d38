-- The tasks of a vehicle are walked one by one, and each row holds the vehicle before its task. Assumes nothing.
use Prim.Native.Nat.{ℕ, suc, ◌+◌, ◌≤◌, ◌<◌}
use mathlib.Core.Path.{◌≡◌, refl, sym, ap, ◌∙◌, subst}
use mathlib.Core.List.{List, [], ◌∷◌, ◌++◌}
use mathlib.Core.Option as maybe
use mathlib.Core.Option.{some}
use native.Mathlib.Omega.{arith}
use native.Mathlib.Numerals.{add-one}
use native.Mathlib.Decide.{ℕ_discrete}
use lib.ListN.{length, length-append, length-map, get_or, take, drop}
use lib.Seq.{take-suc, drop-cons}
use Rattle.std.specs.Prelude.{Option, Some, None, IfSome}
use Rattle.rules.specs.PlanWords.{vehicle_word, rest_word}
use Rattle.rules.specs.Plan.{Task, serve, empty, lunch, Round, task_word, stops_on, Known}
use Rattle.rules.specs.Trip.{leaving}
use Rattle.rules.specs.Build.{Truck, fresh}
use Rattle.rules.specs.Attempts.{walk_on}
use Rattle.laws.specs.Buffer.{Wrote}
use Rattle.laws.proofs.Plan.{stops_append}
use Rattle.laws.proofs.Lists.{every_at, get_map}
use Rattle.edits.specs.EditWords.{Means, a_stop, a_tip}
use Rattle.edits.specs.Kept.{kept}
use Rattle.walks.specs.Cabs.{Start, at_depot, Stands, failed, on_road}
use Rattle.walks.specs.Rewalks.{one_task, SomeWord, WalksWord}
use Rattle.walks.specs.declared.cabs.Cab.{Cab}
use Rattle.walks.proofs.CabLaws.{stands_fewer, riding_trip}
use Rattle.walks.proofs.MidwayLaws.{fresh_stands}
use Rattle.walks.proofs.RewalkLaws.{walk_append}
use Rattle.walks.proofs.Walking.{failed_on}
use Rattle.walks.proofs.WalkLaws.{stands_failed}
use Rattle.tracks.specs.declared.before.Row.{Row}
use Rattle.tracks.specs.Before.{cab_at, RowHolds, RidesIf, halted, rides, truck_before, BeforeTo, BeforeOf, RowsKept, VehicleTasks, TaskToWalk, WalksOrPasses}

-- the part keeps its length
pub stands_size : {day : List ℕ} {start : Start} {most more : ℕ} {p part : List ℕ} {o : maybe.Option Truck} {c : Option Cab} → Stands day start most more p part o c
    → length part ≡ length p
stands_size (failed z) = z
stands_size (on_road v c s) = s.text.size

-- a rest is passed over
pub task_passed : {day part : List ℕ} {c : Option Cab} {w : ℕ} → w ≡ rest_word → WalksOrPasses day part c w part c
unfolding task_word Known kept stops_on walk_on
task_passed z start most more p o (serve k) e n s = absurd (omega (arith, z, e, n.1))
task_passed z start most more p o (empty x) e n s = absurd (omega (arith, z, e, n.1))
task_passed z start most more p o lunch e n s = stands_fewer (omega arith) s

-- a trial that has failed stays so
pub task_failed : {day part : List ℕ} {w : ℕ} → WalksOrPasses day part None w part None
task_failed {day} start most more p o task e n s =
    let f = stands_failed o s in rw (f.0, failed_on day (kept (task ∷ []))) (failed f.1)

-- any other task is a word that is walked
task_means : {day : List ℕ} {w : ℕ} (task : Task) → (w ≡ rest_word → ⊥) → w ≡ task_word task → Known day task → (kept (task ∷ []) ≡ task ∷ []) × Means day w task
unfolding task_word kept
task_means {day} (serve k) z e n = (refl, subst (λ (w : ℕ). Means day w (serve k)) (sym e) (a_stop k n))
task_means {day} (empty x) z e n = (refl, subst (λ (w : ℕ). Means day w (empty x)) (sym e) (a_tip x n))
task_means lunch z e n = absurd (z e)

-- the vehicle before that word, or the trial that has failed
pub task_word_lem : {day part : List ℕ} {c : Option Cab} {w : ℕ} → (w ≡ rest_word → ⊥) → TaskToWalk day part c w → SomeWord day part c w
task_word_lem z s =
    record {
      start = s.start;
      most = s.most;
      more = s.more;
      p = s.p;
      o = s.o;
      tasks = s.task ∷ [];
      means = one_task _ _ (task_means s.task z s.is s.known).1;
      stands = s.stands;
    }

-- the word is walked as the task is
pub task_walked : {day part now : List ℕ} {c r : Option Cab} {w : ℕ} → (w ≡ rest_word → ⊥) → WalksWord day part c w now r → WalksOrPasses day part c w now r
task_walked z h start most more p o task e n s =
    let t = task_means task z e n in
    rw t.0 (h start most more p o (task ∷ []) (one_task _ _ t.1) s)

-- the place of a vehicle that goes on is small
pub place_small : {day : List ℕ} {start : Start} {most more : ℕ} {p part : List ℕ} {o : maybe.Option Truck} {c : Option Cab} → Stands day start most more p part o c
    → IfSome c (λ (x : Cab). x.trip.place < 4294967296)
place_small (failed z) = tt
place_small (on_road v c s) = omega (arith, (riding_trip s.riding).place)

-- the row of a vehicle
row_rides : {day p part : List ℕ} {before : List (Option Row)} {start : Start} {most more at : ℕ} {o : maybe.Option Truck} {c : Option Cab}
    → Stands day start most more p part o c → RowHolds before at c → RidesIf day most more o (cab_at before at)
row_rides (failed z) h = rw h.is halted
row_rides (on_road v c s) h =
    let r = s.riding in
    rw h.is (rides v _ (record { trip_is = r.trip_is; load_is = r.load_is; able = r.able; few = r.few; limit = r.limit }))

-- two parts of what is kept
kept_append : (xs ys : Round) → kept (xs ++ ys) ≡ kept xs ++ kept ys
unfolding kept
kept_append [] ys = refl
kept_append (serve k ∷ xs) ys = ap (λ (ts : Round). serve k ∷ ts) (kept_append xs ys)
kept_append (empty x ∷ xs) ys = ap (λ (ts : Round). empty x ∷ ts) (kept_append xs ys)
kept_append (lunch ∷ xs) ys = kept_append xs ys

-- the rows up to the one before task number i, and the vehicle there
pub record FillingBefore (day : List ℕ) (before : List (Option Row)) (from : ℕ) (p part : List ℕ) (tasks : Round) (i : ℕ) (c : Option Cab) : Type 0 where
  pub rows : BeforeTo day before from tasks i
  pub stands : Stands day (at_depot 0) (length (stops_on tasks)) (length (stops_on (drop i tasks))) p part (truck_before day tasks i) c

-- before the first task
pub filling_start : {day words p part : List ℕ} {before : List (Option Row)} {from : ℕ} {tasks : Round} {c : Cab} → Wrote (vehicle_word 0 ∷ []) p part 1
    → VehicleTasks day words p tasks → c.trip ≡ leaving day → c.load ≡ 0 → c.at ≡ 1 → RowHolds before from (Some c) → FillingBefore day before from p part tasks 0 (Some c)
unfolding kept walk_on
filling_start {day} {words} {p} {part} {before} {from} {tasks} {c} w h t l n r =
    let s : Stands day (at_depot 0) (length (stops_on tasks)) (length (stops_on tasks)) p part (some (fresh day [])) (Some c) = on_road _ c (fresh_stands w h.few h.room t l n) in
    let here : from + 0 ≡ from = omega arith in
    record { rows = λ j k. let z : j ≡ 0 = omega arith in rw (z, here) (row_rides s r); stands = s }

-- the next task: its word, the stops behind it, and the vehicle behind it
module _ {day words p : List ℕ} {tasks : Round} (h : VehicleTasks day words p tasks) {i : ℕ} (l : i < length words) where
  abbrev task : Task
  task = get_or tasks i lunch

  task_within : i < length tasks
  task_within = omega (arith, ap length h.are, length-map tasks task_word)

  task_is : get_or words i 0 ≡ task_word task
  task_is = ap (λ (ws : List ℕ). get_or ws i 0) h.are ∙ get_map task_word tasks i 0 lunch task_within

  task_known : Known day task
  task_known = every_at (Known day) tasks i lunch h.known task_within

  stops_left : length (stops_on (drop i tasks)) ≡ length (stops_on (task ∷ [])) + length (stops_on (drop (i + 1) tasks))
  stops_left =
      ap (λ (ts : Round). length (stops_on ts)) (drop-cons tasks i lunch task_within) ∙ ap length (stops_append (task ∷ []) (drop (suc i) tasks))
      ∙ length-append (stops_on (task ∷ [])) (stops_on (drop (suc i) tasks))
      ∙ ap (λ (n : ℕ). length (stops_on (task ∷ [])) + length (stops_on (drop n tasks))) (sym (add-one i))

  truck_next : walk_on day (kept (task ∷ [])) (truck_before day tasks i) ≡ truck_before day tasks (i + 1)
  truck_next =
      sym (walk_append day (kept (take i tasks)) (kept (task ∷ [])) (some (fresh day [])))
      ∙ ap (λ (ts : Round). walk_on day ts (some (fresh day [])))
      (sym (kept_append (take i tasks) (task ∷ [])) ∙ ap kept (sym (take-suc tasks i lunch task_within)) ∙ ap (λ (n : ℕ). kept (take n tasks)) (sym (add-one i)))

  module _ {before : List (Option Row)} {part : List ℕ} {from : ℕ} {c : Option Cab} (f : FillingBefore day before from p part tasks i c) where
    -- it can be walked
    pub filling_task : TaskToWalk day part c (get_or words i 0)
    filling_task =
        record {
          start = at_depot 0;
          most = _;
          more = length (stops_on (drop (i + 1) tasks));
          p = p;
          o = _;
          task = task;
          is = task_is;
          known = task_known;
          stands = stands_fewer (omega (arith, stops_left)) f.stands;
        }

    module _ {now : List ℕ} {r : Option Cab} (g : WalksOrPasses day part c (get_or words i 0) now r) where
      -- the vehicle behind it
      pub filling_stands : Stands day (at_depot 0) (length (stops_on tasks)) (length (stops_on (drop (i + 1) tasks))) p now (truck_before day tasks (i + 1)) r
      filling_stands =
          subst (λ (o : maybe.Option Truck). Stands day (at_depot 0) (length (stops_on tasks)) (length (stops_on (drop (i + 1) tasks))) p now o r) truck_next
          (g (at_depot 0) _ _ p (truck_before day tasks i) task task_is task_known (stands_fewer (omega (arith, stops_left)) f.stands))

      -- its row is written
      pub filling_step : {after : List (Option Row)} {at : ℕ} → at ≡ from + (i + 1) → RowHolds after at r → RowsKept at before after → FillingBefore day after from p now tasks (i + 1) r
      filling_step {after} e holds others =
          record {
            rows = λ j k. elim (ℕ_discrete j (i + 1)) [
              | yes q ↦ rw (q, ← e) (row_rides filling_stands holds)
              | no q ↦
                  subst (RidesIf day (length (stops_on tasks)) (length (stops_on (drop j tasks))) (truck_before day tasks j)) (sym (others (from + j) (omega arith)))
                  (f.rows j (omega arith))
            ];
            stands = filling_stands;
          }

-- all rows are there
pub filling_whole : {day words p part : List ℕ} {before : List (Option Row)} {from i : ℕ} {tasks : Round} {c : Option Cab} → VehicleTasks day words p tasks → length words ≤ i
    → FillingBefore day before from p part tasks i c → BeforeOf day before from tasks
filling_whole {tasks = tasks} h l f j k = f.rows j (omega (arith, l, ap length h.are, length-map tasks task_word))
