-- One vehicle's words while they are written: room for the next task's, and what stays true behind it.
-- Assumes nothing.
use Prim.Native.Nat.{ℕ, ◌+◌, ◌*◌, ◌≤◌, ◌<◌}
use mathlib.Core.Path.{◌≡◌, refl, sym, ap, ◌∙◌, subst, fun_ext}
use mathlib.Core.Bool.{Bool, true, false, not, and-false, true≢false}
use mathlib.Core.List.{List, [], ◌∷◌, ◌++◌}
use mathlib.Core.Logic.{inl, inr}
use mathlib.Core.Option.{some}
use native.Mathlib.Omega.{arith}
use native.Mathlib.Decide.{ℕ_discrete}
use lib.ListN.{length, length-map, length-set}
use borrow.Author.Tests.{lt-ltb}
use Rattle.rules.specs.Lists.{mem, unmet}
use Rattle.rules.specs.Fields.{stops, stop_place}
use Rattle.rules.specs.PlanWords.{Word, word_of, rest_word}
use Rattle.rules.specs.Plan.{Task, serve, empty, lunch, Round, stops_on, word_for}
use Rattle.rules.specs.Cargo.{cargo_after, emptied}
use Rattle.rules.specs.Trip.{visited}
use Rattle.rules.specs.Check.{met_after}
use Rattle.rules.specs.Home.{due}
use Rattle.rules.specs.Choice.{taking}
use Rattle.rules.specs.Build.{Truck, doing, resting, next_task}
use Rattle.rules.specs.declared.walk.Cargo.{Cargo}
use Rattle.rules.specs.declared.walk.Trip.{Trip}
use Rattle.laws.specs.Lists.{Fresh}
use Rattle.laws.specs.Marks.{without, up_to, Unmarked}
use Rattle.laws.proofs.Decided.{known, bit_most}
use Rattle.laws.proofs.Fresh.{unmet_most}
use Rattle.laws.proofs.Lists.{mem_same, mem_other, unmet_less}
use Rattle.laws.proofs.Marks.{without_same, without_other}
use Rattle.marks.specs.declared.Marks.{Marks}
use Rattle.plan_words.specs.Said.{tasks_said, Said}
use Rattle.plan_words.proofs.SaidLaws.{said_count, said_put, said_same, tasks_more}
use Rattle.plan_words.proofs.WordForms.{rest_form}
use Rattle.greedy_laws.specs.Reached.{goes_on}
use Rattle.trips.specs.Trips.{CargoWithin, SmallTrip}
use Rattle.greedy_laws.specs.States.{unrouted}
use Rattle.greedy_laws.specs.Rooms.{Paid, Room}
use Rattle.greedy_laws.proofs.Driving.{resting_due, resting_not}
use Rattle.greedy_laws.proofs.GreedyRoom.{tasks_counted, rested_paid, rested_room, reached_room}
use Rattle.greedy_laws.proofs.NextTasks.{IsNext, serves, empties, next_some}
use Rattle.greedy_laws.proofs.SmallTrucks.{SmallTruck, reached_small, rested_small}
use Rattle.greedy_laws.proofs.VehicleStops.{Routes, routes_unmet, rested_routes, reached_routes, next_new}
use Rattle.next_task.specs.NextBy.{next_of, NextWithin, is_task}
use Rattle.next_task.specs.declared.tasks.Next.{Next}
use Rattle.next_task.specs.declared.tasks.Next.TheVariants as Nexts
use Rattle.next_task.proofs.TaskLaws.{unrouted_in}
use Rattle.vehicle_writer.specs.Done.{SmallState, Done, Doable, Fits, next_said, MadeReady}
use Rattle.vehicle_writer.specs.Going.{LeftOf, WordPut, RestSaid, Going, TaskAhead, GoesOn}
use Rattle.vehicle_writer.specs.declared.state.State.{State}
use Rattle.vehicle_writer.specs.declared.state.Ready.{Ready}
use Rattle.vehicle_writer.proofs.ReadyLaws.{ready_is}

-- a stop that is routed is no longer to be routed
unrouted_new : (n : ℕ) (taken : List ℕ) (k : ℕ) → 0 < k → k ≤ n → mem k taken ≡ false → unrouted n taken k ≡ true
unrouted_new n taken k l h e = unrouted_in n taken k l h ∙ ap not e

unrouted_next : (n : ℕ) (taken : List ℕ) (k : ℕ) → without (unrouted n taken) k ≡ unrouted n (k ∷ taken)
unfolding unrouted
unrouted_next n taken k = fun_ext (λ j. elim (ℕ_discrete j k) [
  | yes q ↦ without_same (unrouted n taken) k j q ∙ rw (mem_same k j taken q) (sym (and-false (up_to n j)))
  | no q ↦ without_other (unrouted n taken) k j q ∙ rw (mem_other k j taken q) refl
])

left_unmarked : (day taken : List ℕ) (k : ℕ) (m r : Marks) → LeftOf day taken m → 0 < k → k ≤ stops day → mem k taken ≡ false
    → Unmarked m.words k r.words → LeftOf day (k ∷ taken) r
left_unmarked day taken k m r h l g e u =
    record {
      are = u.marks ∙ ap (λ (f : ℕ → Bool). without f k) h.are ∙ unrouted_next (stops day) taken k;
      count = omega (arith, u.count, h.count, unmet_less (stops day) k taken l g e);
    }

-- the numbers of a vehicle's state are small: its distance by the number of its tasks
truck_small : {day before : List ℕ} {s : State} (v : Truck) → s.trip ≡ v.trip → s.cargo ≡ v.cargo
    → SmallTruck day v → Routes day before v → Room v.tasks → SmallState day s
truck_small {day} {before} v t c q r w =
    let far : v.trip.distance < 2147483648 = omega (arith, q.trip.distance, w.size, r.visits, routes_unmet day before v r, unmet_most (stops day) before) in
    record {
      trip = subst (SmallTrip day 2147483648) (sym t) (record { place = q.trip.place; minute = q.trip.minute; distance = far });
      cargo = subst CargoWithin (sym c) q.cargo;
    }

-- room for a task and a rest behind it: a stop is still to be routed, or a stop pays for the tip
module _ (day before : List ℕ) (v : Truck) (r : Routes day before v) (p : Paid v) where
  pub next_room : (task : Task) → IsNext day v task → length v.tasks + 2 < 5 * unmet (stops day) before
  next_room task (serves k c s) =
      let once = bit_most v.trip.rested in
      let less = unmet_less (stops day) k v.taken c.first c.within c.new in
      omega (arith, r.visits, p.tips, p.rests, tasks_counted v.tasks, routes_unmet day before v r)
  next_room task (empties x l q o) =
      let once = bit_most v.trip.rested in
      let tips = rw (lt-ltb 0 v.cargo.load l) at p.tips in
      omega (arith, r.visits, tips, p.rests, tasks_counted v.tasks, routes_unmet day before v r)

-- the task that stands before the vehicle
pub named : (next : Next) → is_task next ≡ true → (task : Task) × (next_of next ≡ some task)
named (Nexts.Stop k) e = (serve k, refl)
named (Nexts.Tip x) e = (empty x, refl)
named Nexts.Home e = absurd (true≢false (sym e))

-- what a vehicle on its way has for its numbers, and its room
module _ {day before : List ℕ} {number : ℕ} {p part : List ℕ} {at : ℕ} {r : Ready} (g : Going day before number p part at r) where
  abbrev here : Truck
  here = resting day g.truck

  going_routes : Routes day before here
  going_routes = rested_routes day before g.truck g.reached

  going_small : SmallState day r.state
  going_small =
      truck_small here g.ready.trip_is g.ready.cargo_is (rested_small day before g.truck g.reached) going_routes
      (rested_room day before g.truck g.reached)

  pub going_at : at ≡ length here.tasks + 1
  going_at = omega (arith, said_count g.text, length-map here.tasks word_for)

  going_room : is_task r.next ≡ true → at + 1 < 5 * unmet (stops day) before
  going_room e =
      let n = named r.next e in
      let next = next_some day here n.0 (sym g.ready.next_is ∙ n.1) in
      omega (arith, next_room day before here going_routes (rested_paid day before g.truck g.reached) n.0 next, going_at)

-- a stop that is served next is new, so it is still marked
serve_new : (day : List ℕ) (v : Truck) (k : ℕ) → next_task day v ≡ some (serve k) → mem k v.taken ≡ false
unfolding Fresh stops_on
serve_new day v k e = (next_new day v (serve k) (next_some day v (serve k) e)).0

next_doable : {day : List ℕ} (v : Truck) (left : Marks) (next : Next) → LeftOf day v.taken left
    → next_of next ≡ next_task day v → NextWithin day next → Doable left.words next
next_doable {day} v left (Nexts.Stop k) h e i =
    ap (λ (f : ℕ → Bool). f k) h.are
    ∙ unrouted_new (stops day) v.taken k i.0 i.1 (serve_new day v k (sym e))
next_doable v left (Nexts.Tip x) h e i = tt
next_doable v left Nexts.Home h e i = tt

next_fits : (day : List ℕ) (next : Next) → NextWithin day next → Fits next
next_fits day (Nexts.Stop k) i = omega (arith, i.1)
next_fits day (Nexts.Tip x) i = omega (arith, i.1)
next_fits day Nexts.Home i = tt

-- the task that was before the vehicle, and the state behind it
record Behind (day : List ℕ) (v : Truck) (next : Next) (s : State) : Type 0 where
  task : Task
  is_next : next_task day v ≡ some task
  said : next_said next ≡ word_for task
  trip : s.trip ≡ (doing day v task).trip
  cargo : s.cargo ≡ (doing day v task).cargo
  left_is : LeftOf day (doing day v task).taken s.left

next_done : {day : List ℕ} (v : Truck) (old s : State) (next : Next)
    → old.trip ≡ v.trip → old.cargo ≡ v.cargo → LeftOf day v.taken old.left → next_of next ≡ next_task day v → NextWithin day next
    → is_task next ≡ true → Done day old next s → Behind day v next s
unfolding cargo_after met_after
next_done {day} v old s (Nexts.Stop k) t c h q i e d =
    record {
      task = serve k;
      is_next = sym q;
      said = refl;
      trip = d.trip ∙ ap (λ (y : Trip). visited day y (stop_place day k)) t;
      cargo = d.cargo ∙ ap (λ (y : Cargo). taking day y k) c;
      left_is =
          left_unmarked day v.taken k old.left s.left h i.0 i.1 (serve_new day v k (sym q)) d.left;
    }
next_done {day} v old s (Nexts.Tip x) t c h q i e d =
    record {
      task = empty x;
      is_next = sym q;
      said = refl;
      trip = d.trip ∙ ap (λ (y : Trip). visited day y x) t;
      cargo = d.cargo ∙ ap emptied c;
      left_is = subst (LeftOf day v.taken) (sym d.left) h;
    }
next_done v old s Nexts.Home t c h q i e d = absurd (true≢false (sym e))

module _ {day before : List ℕ} {number : ℕ} {p part : List ℕ} {at : ℕ} {r : Ready}
    (g : Going day before number p part at r) (e : is_task r.next ≡ true) {s : State} (d : Done day r.state r.next s) where
  going_done : Behind day (resting day g.truck) r.next s
  going_done =
      let i = g.ready in
      next_done (resting day g.truck) r.state s r.next i.trip_is i.cargo_is i.left_is i.next_is i.next_in e d

  -- the numbers behind the task are small too
  behind_small : SmallState day s
  behind_small =
      let b = going_done in
      let v = doing day (resting day g.truck) b.task in
      let reached = goes_on g.truck b.task g.reached b.is_next in
      truck_small v b.trip b.cargo (reached_small day before v reached) (reached_routes day before v reached) (reached_room day before v reached)

-- a word is put behind the others
put_size : {part now : List ℕ} {at word end : ℕ} → WordPut part at word now end → length now ≡ length part
put_size {part} {now} {at} {word} w = ap length w.text ∙ length-set part at word

pub put_said : {part now p : List ℕ} {at word end : ℕ} {what : List Word} {says : Word} → WordPut part at word now end → Said what p part at
    → word_of word ≡ says → at < length part → Said (what ++ (says ∷ [])) p now end
put_said {part} {now} {p} {at} {word} {end} w s e l = rw (w.text, w.count) (said_put s word e l)

-- a D word where a rest is due
pub rest_put : {isDue asked : Bool} {part now : List ℕ} {at end : ℕ} → asked ≡ isDue → asked ≡ true → at < length part
    → WordPut part at rest_word now end → RestSaid isDue part at now end
rest_put {isDue} {asked} {part} {now} {at} {end} a t l w =
    let is : isDue ≡ true = sym a ∙ t in
    record {
      count = rw is w.count;
      size = put_size w;
      says = λ what p s. rw is (put_said w s rest_form l);
    }

-- no word is taken back
pub rest_more : {isDue : Bool} {part now : List ℕ} {at end : ℕ} → RestSaid isDue part at now end → at ≤ end
rest_more {isDue} w = elim (known isDue) [ inl d ↦ omega (arith, rw d at w.count) | inr d ↦ omega (arith, rw d at w.count) ]

-- the words of a vehicle that has rested if due
pub rest_words : (day : List ℕ) (number : ℕ) {p part now : List ℕ} {at end : ℕ} (v : Truck) (t : Trip) → Said (tasks_said number v.tasks) p part at
    → t ≡ v.trip → RestSaid (due day t) part at now end → Said (tasks_said number (resting day v).tasks) p now end
rest_words day number {p} {part} {now} {at} {end} v t s q w =
    let said = w.says (tasks_said number v.tasks) p s in
    elim (known (due day v.trip)) [
      | inl d ↦ rw (resting_due day v d) (said_same (rw (q, d) at said) (tasks_more number v.tasks lunch) refl)
      | inr d ↦ rw (resting_not day v d) (rw (q, d) at said)
    ]

-- and behind a task
task_words : (number : ℕ) {word : ℕ} {p part now : List ℕ} {at end : ℕ} (tasks : Round) (task : Task) → Said (tasks_said number tasks) p part at
    → at < length part → word_of word ≡ word_for task → WordPut part at word now end → Said (tasks_said number (tasks ++ (task ∷ []))) p now end
task_words number tasks task s l e w = said_same (put_said w s e l) (tasks_more number tasks task) refl

-- a vehicle with a task before it: its room, and what its next task asks for
module _ {day : List ℕ} {part : List ℕ} {at : ℕ} {r : Ready} (a : TaskAhead day part at r) where
  pub ahead_space : at + 1 < length part
  ahead_space = let g = a.some in omega (arith, going_room g.going a.task, g.room, g.going.text.text.size)

  pub ahead_able : SmallState day r.state × NextWithin day r.next × Doable r.state.left.words r.next
  ahead_able =
      let i = a.some.going.ready in
      (going_small a.some.going, i.next_in, next_doable (resting day a.some.going.truck) r.state.left r.next i.left_is i.next_is i.next_in)

  pub ahead_room : {word : ℕ} {now : List ℕ} {end : ℕ} → WordPut part at word now end → end < length now
  ahead_room w = omega (arith, ahead_space, w.count, put_size w)

  pub ahead_small : {s : State} → Done day r.state r.next s → SmallState day s
  ahead_small d = behind_small a.some.going a.task d

  -- the words, the state and the next task behind the task and the rest
  pub ahead_on : {word : ℕ} {mid : List ℕ} {behind : ℕ} {s : State} {now : List ℕ} {end : ℕ} {after : Ready} → word_of word ≡ next_said r.next
      → WordPut part at word mid behind → Done day r.state r.next s → RestSaid (due day s.trip) mid behind now end → MadeReady day s after
      → GoesOn day part at r now end after
  ahead_on e w d rested m = λ before number p g.
      let b = going_done g a.task d in
      let v = resting day g.truck in
      let u = doing day v b.task in
      let said = task_words number v.tasks b.task g.text (omega (arith, ahead_space)) (e ∙ b.said) w in
      record {
        truck = u;
        reached = goes_on g.truck b.task g.reached b.is_next;
        ready = ready_is u b.trip b.cargo b.left_is m;
        text = rest_words day number u _ said b.trip rested;
      }
