-- What a walk keeps: the stops of the tasks walked, a stop paid for each tip, known numbers, and the distance driven. The day may be any
-- list of words.
-- Assumes nothing.
use Prim.Native.Nat.{ℕ, ◌+◌, ◌<◌}
use mathlib.Core.Path.{◌≡◌, refl, sym, ap, ◌∙◌, subst}
use mathlib.Core.Bool.{Bool, true, false}
use mathlib.Core.List.{List, [], ◌∷◌, ◌++◌, append-nil, append_assoc}
use mathlib.Core.Logic.{inl, inr}
use mathlib.Core.Option.{none, some, some-injective, none-ne-some}
use native.Mathlib.Omega.{arith}
use lib.Dec.{ltb, eqb}
use lib.ListN.{length, length-append}
use borrow.Author.Tests.{eqb-false, ltb-true}
use Rattle.rules.specs.Lists.{Every}
use Rattle.rules.specs.Fields.{stop_place, leg_distance, quantity, load_limit}
use Rattle.rules.specs.Plan.{Task, serve, empty, lunch, Round, stops_on, Known}
use Rattle.rules.specs.Lawful.{distance_from}
use Rattle.rules.specs.Home.{nearest_tip}
use Rattle.rules.specs.Build.{Truck, fresh, doing, resting}
use Rattle.rules.specs.Attempts.{inserting, emptied_first, exceeds, serving_then, walk_task, walk_next, walk_on, walk_home, done_by, walked_again}
use Rattle.laws.proofs.Fresh.{every_append}
use Rattle.laws.proofs.Tests.{both_true, only_second}
use Rattle.laws.proofs.Decided.{known, known_option}
use Rattle.laws.proofs.Plan.{stops_append}
use Rattle.greedy_laws.proofs.Driving.{resting_keeps}
use Rattle.greedy_laws.specs.Rooms.{Paid, Room}
use Rattle.greedy_laws.proofs.GreedyRoom.{paid_fresh, paid_rest, paid_serve, paid_empty, paid_room}
use Rattle.greedy_laws.proofs.NextTasks.{nearest_open}
use Rattle.greedy_laws.proofs.VehicleStops.{visits_task}

-- a vehicle on its way that has walked these tasks
pub record WalkedSoFar (day : List ℕ) (ts : Round) (v : Truck) : Type 0 where
  pub paid : Paid v
  -- it has the stops of the tasks walked, in order
  pub stops : stops_on v.tasks ≡ stops_on ts
  pub visits : v.cargo.visits ≡ length (stops_on ts)
  pub known : Every (Known day) v.tasks
  -- whatever it does next is driven from where it is
  pub driven : (rest : Round) → v.trip.distance + distance_from day v.trip.place rest ≡ distance_from day 0 (v.tasks ++ rest)

module _ (day : List ℕ) where
  -- the way back included, it drives what its tasks ask for
  pub walked_distance : (ts : Round) (v : Truck) → WalkedSoFar day ts v → v.trip.distance + leg_distance day v.trip.place 0 ≡ distance_from day 0 v.tasks
  unfolding distance_from
  walked_distance ts v w = w.driven [] ∙ ap (distance_from day 0) (append-nil v.tasks)

  pub walked_room : (ts : Round) (v : Truck) → WalkedSoFar day ts v → Room v.tasks
  walked_room ts v w = paid_room v (w.visits ∙ ap length (sym w.stops)) w.paid

  pub walked_fresh : WalkedSoFar day [] (fresh day [])
  unfolding stops_on Every
  walked_fresh = record { paid = paid_fresh day []; stops = refl; visits = refl; known = tt; driven = λ rest. omega arith }

  -- a task done: its word is behind the others, its stop too, and its leg is driven
  pub doing_driven : (v : Truck) (task : Task) (rest : Round)
      → (doing day v task).trip.distance + distance_from day (doing day v task).trip.place rest ≡ v.trip.distance + distance_from day v.trip.place (task ∷ rest)
  unfolding distance_from
  doing_driven v (serve k) rest = omega arith
  doing_driven v (empty x) rest = omega arith
  doing_driven v lunch rest = refl

  walked_doing : (ts : Round) (v : Truck) (task : Task) → Paid (doing day v task) → Every (Known day) (task ∷ []) → WalkedSoFar day ts v → WalkedSoFar day (ts ++ (task ∷ [])) (doing day v task)
  walked_doing ts v task p k w =
      record {
        paid = p;
        stops =
            stops_append v.tasks (task ∷ []) ∙ ap (λ (ks : List ℕ). ks ++ stops_on (task ∷ [])) w.stops ∙ sym (stops_append ts (task ∷ []));
        visits =
            omega (arith, visits_task day v.cargo task, w.visits, ap length (stops_append ts (task ∷ [])), length-append (stops_on ts) (stops_on (task ∷ [])));
        known = every_append (Known day) v.tasks (task ∷ []) w.known k;
        driven = λ rest. doing_driven v task rest ∙ w.driven (task ∷ rest) ∙ ap (distance_from day 0) (sym (append_assoc v.tasks (task ∷ []) rest));
      }

  -- which tasks were walked counts only by their stops
  pub walked_same : (ts us : Round) (v : Truck) → stops_on ts ≡ stops_on us → WalkedSoFar day ts v → WalkedSoFar day us v
  walked_same ts us v e w =
      record { paid = w.paid; stops = w.stops ∙ e; visits = w.visits ∙ ap length e; known = w.known; driven = w.driven }

  plus_none : (ts : Round) (task : Task) → stops_on (task ∷ []) ≡ [] → stops_on (ts ++ (task ∷ [])) ≡ stops_on ts
  plus_none ts task e = stops_append ts (task ∷ []) ∙ ap (λ (ks : List ℕ). stops_on ts ++ ks) e ∙ append-nil (stops_on ts)

  -- a rest, a stop, and a tip at a load
  pub walked_resting : (ts : Round) (v : Truck) → WalkedSoFar day ts v → WalkedSoFar day ts (resting day v)
  unfolding Every Known stops_on
  walked_resting ts = resting_keeps day (WalkedSoFar day ts)
      (λ v e w. walked_same (ts ++ (lunch ∷ [])) ts (doing day v lunch) (plus_none ts lunch refl) (walked_doing ts v lunch (paid_rest day v e w.paid) (tt, tt) w))

  pub walked_serve : (ts : Round) (v : Truck) (k : ℕ) → Known day (serve k) → WalkedSoFar day ts v → WalkedSoFar day (ts ++ (serve k ∷ [])) (doing day v (serve k))
  unfolding Every
  walked_serve ts v k n w = walked_doing ts v (serve k) (paid_serve day v k w.paid) (n, tt) w

  pub walked_empty : (ts : Round) (v : Truck) (x : ℕ) → Known day (empty x) → 0 < v.cargo.load → WalkedSoFar day ts v → WalkedSoFar day ts (doing day v (empty x))
  unfolding Every stops_on
  walked_empty ts v x n l w =
      walked_same (ts ++ (empty x ∷ [])) ts (doing day v (empty x)) (plus_none ts (empty x) refl) (walked_doing ts v (empty x) (paid_empty day v x l w.paid) (n, tt) w)

  -- a tip that is put in is the day's
  pub walked_inserting : (ts : Round) (v u : Truck) → 0 < v.cargo.load → WalkedSoFar day ts v
      → inserting day v (nearest_tip day v.trip.place v.trip.minute) ≡ some u → WalkedSoFar day ts u
  unfolding inserting Known
  walked_inserting ts v u l w e =
      let x = nearest_tip day v.trip.place v.trip.minute in
      let p = only_second (eqb x 0) (none-ne-some u) e in
      let o = nearest_open day v.trip.place v.trip.minute (omega (arith, eqb-false x 0 p.0)) in
      let next = walked_resting ts (doing day v (empty x)) (walked_empty ts v x (o.first, o.within) l w) in
      subst (WalkedSoFar day ts) (some-injective _ _ p.1) next

  pub walked_emptied : (ts : Round) (must : Bool) (v u : Truck) → (must ≡ true → 0 < v.cargo.load) → WalkedSoFar day ts v
      → emptied_first day must v ≡ some u → WalkedSoFar day ts u
  unfolding emptied_first
  walked_emptied ts true v u l w e = walked_inserting ts v u (l refl) w e
  walked_emptied ts false v u l w e = subst (WalkedSoFar day ts) (some-injective _ _ e) w

  exceeds_load : (v : Truck) (k : ℕ) → exceeds day v k ≡ true → 0 < v.cargo.load
  unfolding exceeds
  exceeds_load v k e = ltb-true _ _ (both_true (ltb 0 v.cargo.load) (ltb (load_limit day) (v.cargo.load + quantity day (stop_place day k))) e).0

  -- one task, of a vehicle that has rested if due
  pub walked_task : (ts : Round) (task : Task) (v u : Truck) → Known day task → WalkedSoFar day ts v → walk_task day v task ≡ some u → WalkedSoFar day (ts ++ (task ∷ [])) u
  unfolding walk_task serving_then stops_on
  walked_task ts (serve k) v u n w e = elim (known_option (emptied_first day (exceeds day v k) v)) [
    | inl z ↦ absurd (none-ne-some u (rw z at e))
    | inr s ↦ subst (WalkedSoFar day (ts ++ (serve k ∷ []))) (some-injective _ _ (rw s.1 at e))
        (walked_serve ts s.0 k n (walked_emptied ts (exceeds day v k) v s.0 (exceeds_load v k) w s.1))
  ]
  walked_task ts (empty x) v u n w e = elim (known (ltb 0 v.cargo.load)) [
    | inl t ↦
        let same : doing day v (empty x) ≡ u = some-injective _ _ (rw t at e) in
        subst (WalkedSoFar day (ts ++ (empty x ∷ []))) same
        (walked_same ts (ts ++ (empty x ∷ [])) (doing day v (empty x)) (sym (plus_none ts (empty x) refl)) (walked_empty ts v x n (ltb-true _ _ t) w))
    | inr f ↦
        let same : v ≡ u = some-injective _ _ (rw f at e) in
        subst (WalkedSoFar day (ts ++ (empty x ∷ []))) same (walked_same ts (ts ++ (empty x ∷ [])) v (sym (plus_none ts (empty x) refl)) w)
  ]
  walked_task ts lunch v u n w e =
      subst (WalkedSoFar day (ts ++ (lunch ∷ []))) (some-injective _ _ e) (walked_same ts (ts ++ (lunch ∷ [])) v (sym (plus_none ts lunch refl)) w)

  pub walked_next : (ts : Round) (task : Task) (v u : Truck) → Known day task → WalkedSoFar day ts v → walk_next day task (some v) ≡ some u → WalkedSoFar day (ts ++ (task ∷ [])) u
  unfolding walk_next
  walked_next ts task v u n w e = walked_task ts task (resting day v) u n (walked_resting ts v w) e

  -- a trial that has failed stays so
  pub failed_on : (tasks : Round) → walk_on day tasks none ≡ none
  unfolding walk_on walk_next
  failed_on [] = refl
  failed_on (task ∷ tasks) = failed_on tasks

  -- the tasks from a vehicle in the middle
  pub walked_from : (ts tasks : Round) (v u : Truck) → Every (Known day) tasks → WalkedSoFar day ts v → walk_on day tasks (some v) ≡ some u → WalkedSoFar day (ts ++ tasks) u
  unfolding walk_on Every
  walked_from ts [] v u n w e = rw append-nil (subst (WalkedSoFar day ts) (some-injective _ _ e) w)
  walked_from ts (task ∷ tasks) v u n w e = elim (known_option (walk_next day task (some v))) [
    | inl f ↦ absurd (none-ne-some u (sym (failed_on tasks) ∙ rw f at e))
    | inr s ↦ subst (λ (us : Round). WalkedSoFar day us u) (append_assoc ts (task ∷ []) tasks)
        (walked_from (ts ++ (task ∷ [])) tasks s.0 u n.1 (walked_next ts task v s.0 n.0 w s.1) (rw s.1 at e))
  ]

  pub walked_on : (tasks : Round) (v : Truck) → Every (Known day) tasks → walk_on day tasks (some (fresh day [])) ≡ some v → WalkedSoFar day tasks v
  walked_on tasks v n e = walked_from [] tasks (fresh day []) v n walked_fresh e

  -- before the vehicle comes back
  pub walked_home : (ts : Round) (v u : Truck) → WalkedSoFar day ts v → walk_home day (some v) ≡ some u → WalkedSoFar day ts u
  unfolding walk_home
  walked_home ts v u w e = walked_emptied ts (ltb 0 (resting day v).cargo.load) (resting day v) u (ltb-true _ _) (walked_resting ts v w) e

-- a vehicle walked again: the same stops in the same order, known numbers, and room for it
pub record Rewalked (day : List ℕ) (tasks done : Round) : Type 0 where
  pub stops : stops_on done ≡ stops_on tasks
  pub room : Room done
  pub known : Every (Known day) done

pub walked_again_lem : (day : List ℕ) (tasks done : Round) → Every (Known day) tasks → walked_again day tasks ≡ some done → Rewalked day tasks done
unfolding walked_again walk_home done_by
walked_again_lem day tasks done n e = elim (known_option (walk_on day tasks (some (fresh day [])))) [
  | inl z ↦ absurd (none-ne-some done (rw z at e))
  | inr s ↦ elim (known_option (walk_home day (some s.0))) [
    | inl z ↦ absurd (none-ne-some done (rw (s.1, z) at e))
    | inr b ↦
        let w = walked_home day tasks s.0 b.0 (walked_on day tasks s.0 n s.1) b.1 in
        let all : Rewalked day tasks b.0.tasks = record { stops = w.stops; room = walked_room day tasks b.0 w; known = w.known } in
        subst (Rewalked day tasks) (some-injective _ _ (rw (s.1, b.1) at e)) all
  ]
]
