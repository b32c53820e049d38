-- The words of one vehicle, read from the one behind its A word on: the distance, the place and the vehicles of the stops so far.
-- Assumes nothing.
use Rattle.std.specs.Prelude.{if◌then◌else◌, Option, Some, None}
use Prim.Native.Nat.{ℕ, suc, ◌+◌, ◌*◌, ◌≤◌, ◌<◌}
use mathlib.Core.Path.{◌≡◌, refl, sym, ap, ◌∙◌}
use mathlib.Core.List.{List, [], ◌∷◌, ◌++◌, map}
use mathlib.Core.Logic.{inl, inr}
use native.Mathlib.Decide.{ℕ_discrete}
use native.Mathlib.Numerals.{add-one}
use native.Mathlib.Omega.{arith}
use lib.Dec.{eqb}
use lib.ListN.{length, get_or, drop, set, length-drop, length-set}
use lib.Seq.{drop-cons, get_or-set_same, get_or-set_other}
use borrow.Author.Tests.{eq-eqb, ne_eqb}
use Rattle.rules.specs.Lists.{Every, mem}
use Rattle.rules.specs.Fields.{places}
use Rattle.rules.specs.PlanWords.{back, back_word, word_of}
use Rattle.rules.specs.Plan.{Task, serve, empty, lunch, Round, task_word, word_for, stops_on, Known}
use Rattle.rules.specs.Lawful.{distance_from}
use Rattle.laws.proofs.Decided.{known}
use Rattle.laws.proofs.Lists.{mem_same, mem_other}
use Rattle.laws.specs.Plan.{RoundAt}
use Rattle.plan_words.proofs.WordForms.{back_form}
use Rattle.plan_laws.proofs.RoundChecks.{task_form}
use Rattle.day.specs.Layout.{LegOf}
use Rattle.day.specs.declared.fields.Leg.{Leg}
use Rattle.trial_list.specs.Survey.{SomeRound, EndsAll, first_of, vehicle_then, Ended, ride_then, vehicles_with, vehicles_then, NamesOf, RideBehind}
use Rattle.trial_list.specs.declared.survey.Driven.{Driven}
use Rattle.trial_list.specs.declared.survey.Ride.{Ride}
use Rattle.trial_list.proofs.Passing.{none_some, some_same}
use Rattle.trial_list.proofs.WordsRead.{known_names}

-- the word at a place, and those behind it
pub record WordAt (plan : List ℕ) (at x : ℕ) (xs : List ℕ) : Type 0 where
  pub within : at < length plan
  pub word : get_or plan at 0 ≡ x
  pub rest : drop (at + 1) plan ≡ xs

pub word_at : (plan : List ℕ) (at x : ℕ) (xs : List ℕ) → drop at plan ≡ x ∷ xs → WordAt plan at x xs
word_at plan at x xs e =
    let l : at < length plan = omega (arith, ap length e, length-drop at plan) in
    let q : get_or plan at 0 ∷ drop (suc at) plan ≡ x ∷ xs = sym (drop-cons plan at 0 l) ∙ e in
    record { within = l; word = ap (λ (ws : List ℕ). get_or ws 0 0) q; rest = rw add-one (ap (drop 1) q) }

-- one task: its place, the distance with what is left to drive, and the vehicles of the stops with what is left to mark
module _ (day : List ℕ) (ride : Ride) where
  -- a leg is short
  distance_few : (task : Task) → (ride_then day ride task).distance ≤ ride.distance + 65535
  distance_few (serve k) = omega arith
  distance_few (empty k) = omega arith
  distance_few lunch = omega arith

  place_next : (task : Task) → Known day task → ride.place < places day → (ride_then day ride task).place < places day
  unfolding Known
  place_next (serve k) h p = omega (arith, h.1)
  place_next (empty k) h p = omega (arith, h.1)
  place_next lunch h p = p

  drive_next : (task : Task) (todo : Round)
      → (ride_then day ride task).distance + distance_from day (ride_then day ride task).place todo ≡ ride.distance + distance_from day ride.place (task ∷ todo)
  unfolding distance_from
  drive_next (serve k) todo = omega arith
  drive_next (empty k) todo = omega arith
  drive_next lunch todo = refl

pub first_some : (x y : ℕ) → (x ≡ 0 → ⊥) → first_of x y ≡ x
unfolding first_of
first_some x y n = rw (ne_eqb x 0 n) refl

pub first_none : (y : ℕ) → first_of 0 y ≡ y
unfolding first_of
first_none y = refl

then_other : (number k j x : ℕ) (todo : Round) → (k ≡ j → ⊥) → vehicle_then number todo x k ≡ vehicle_then number (serve j ∷ todo) x k
unfolding vehicle_then stops_on
then_other number k j x todo n = rw (mem_other j k (stops_on todo) n) refl

then_some : (number k x : ℕ) (todo : Round) → (x ≡ 0 → ⊥) → vehicle_then number todo x k ≡ x
unfolding vehicle_then
then_some number k x todo n = first_some x _ n

then_here : (number k x : ℕ) (todo : Round) → x ≡ 0 → vehicle_then number (serve k ∷ todo) x k ≡ number
unfolding vehicle_then stops_on
then_here number k x todo e = rw (e, mem_same k k (stops_on todo) refl) (first_none number)

-- a stop's word marks the stop, where it has no vehicle yet
serve_marks : (vehicles : List ℕ) (number j : ℕ) (todo : Round) → 0 < number → j < 256 → length vehicles ≡ 256 → (k : ℕ)
    → vehicle_then number todo (get_or (vehicles_with vehicles number j) k 0) k ≡ vehicle_then number (serve j ∷ todo) (get_or vehicles k 0) k
serve_marks vehicles number j todo some few long k = go (ℕ_discrete (get_or vehicles j 0) 0) (ℕ_discrete k j)
  where
    go : Dec (get_or vehicles j 0 ≡ 0) → Dec (k ≡ j)
        → vehicle_then number todo (get_or (if eqb (get_or vehicles j 0) 0 then set vehicles j number else vehicles) k 0) k
        ≡ vehicle_then number (serve j ∷ todo) (get_or vehicles k 0) k
    go (yes e) (yes q) =
        rw (q, eq-eqb _ 0 e, get_or-set_same vehicles j number 0 (omega arith))
        (then_some number j number todo (λ z. omega arith) ∙ sym (then_here number j _ todo e))
    go (yes e) (no q) = rw (eq-eqb _ 0 e, get_or-set_other vehicles j k number 0 q) (then_other number k j _ todo q)
    go (no n) (yes q) = rw (q, ne_eqb _ 0 n) (then_some number j _ todo n ∙ sym (then_some number j _ (serve j ∷ todo) n))
    go (no n) (no q) = rw (ne_eqb _ 0 n) (then_other number k j _ todo q)

marks_next : (day vehicles : List ℕ) (number : ℕ) (task : Task) (todo : Round) → Known day task → 0 < number → length vehicles ≡ 256 → (k : ℕ)
    → vehicle_then number todo (get_or (vehicles_then vehicles number task) k 0) k ≡ vehicle_then number (task ∷ todo) (get_or vehicles k 0) k
unfolding Known vehicle_then stops_on
marks_next day vehicles number (serve j) todo h some long k = serve_marks vehicles number j todo some (omega (arith, h.1)) long k
marks_next day vehicles number (empty j) todo h some long k = refl
marks_next day vehicles number lunch todo h some long k = refl

pub first_zero : (x : ℕ) → first_of x 0 ≡ x
first_zero x = go (ℕ_discrete x 0)
  where
    go : Dec (x ≡ 0) → first_of x 0 ≡ x
    go (yes e) = rw (e, first_none 0) refl
    go (no n) = first_some x 0 n

then_nothing : (number k x : ℕ) → vehicle_then number [] x k ≡ x
unfolding vehicle_then stops_on mem
then_nothing number k x = first_zero x

vehicles_size_lem : (vehicles : List ℕ) (number : ℕ) (task : Task) → length (vehicles_then vehicles number task) ≡ length vehicles
vehicles_size_lem vehicles number (serve k) = elim (known (eqb (get_or vehicles k 0) 0)) [ inl e ↦ rw e (length-set vehicles k number) | inr e ↦ rw e refl ]
vehicles_size_lem vehicles number (empty k) = refl
vehicles_size_lem vehicles number lunch = refl

-- what is left of a vehicle's words: with what is done it makes up the whole
pub record Riding (day plan : List ℕ) (from number : ℕ) (tasks : Round) (others before vehicles : List ℕ) (at : ℕ) (ride : Ride) (todo : Round) : Type 0 where
  pub here : drop at plan ≡ map task_word todo ++ (back_word ∷ others)
  pub known : Every (Known day) todo
  pub ends : at + length todo ≡ from + length tasks
  pub drives : ride.distance + distance_from day ride.place todo ≡ distance_from day 0 tasks
  pub marks : (k : ℕ) → vehicle_then number todo (get_or vehicles k 0) k ≡ vehicle_then number tasks (get_or before k 0) k

abbrev pub RidesEach : (day plan : List ℕ) (from number : ℕ) (before vehicles : List ℕ) (at : ℕ) (ride : Ride) → Type 0
RidesEach day plan from number before vehicles at ride =
    (tasks : Round) (others : List ℕ) → RoundAt day plan from tasks others → (todo : Round) × Riding day plan from number tasks others before vehicles at ride todo

-- a vehicle on its way through its words, whatever tasks they are
pub record Rides (day plan : List ℕ) (from number : ℕ) (before vehicles : List ℕ) (at : ℕ) (ride : Ride) : Type 0 where
  pub within : at < length plan
  pub names : NamesOf day (word_of (get_or plan at 0))
  pub inside : ride.place < places day
  pub few : ride.distance ≤ 65535 * at
  pub size : length vehicles ≡ 256
  pub each : RidesEach day plan from number before vehicles at ride

-- the word that is next, by what is left: E, or a task's
module _ {day plan : List ℕ} {from number : ℕ} {tasks : Round} {others before vehicles : List ℕ} {at : ℕ} {ride : Ride} where
  says_back : Riding day plan from number tasks others before vehicles at ride [] → word_of (get_or plan at 0) ≡ back
  says_back r = ap word_of (word_at plan at _ _ r.here).word ∙ back_form

  says_task : {task : Task} {todo : Round} → Riding day plan from number tasks others before vehicles at ride (task ∷ todo)
      → word_of (get_or plan at 0) ≡ word_for task
  unfolding Every
  says_task {task} r = ap word_of (word_at plan at _ _ r.here).word ∙ task_form day task r.known.0

module _ {day plan : List ℕ} {from : ℕ} (some : SomeRound day plan from) where
  -- the word that is next, by the tasks that are known to stand there
  rides_of : {number : ℕ} {before vehicles : List ℕ} {at : ℕ} {ride : Ride} → ride.place < places day → ride.distance ≤ 65535 * at → length vehicles ≡ 256
      → RidesEach day plan from number before vehicles at ride → Rides day plan from number before vehicles at ride
  unfolding Every
  rides_of {number} {before} {vehicles} {at} {ride} p d s f = let r = f some.tasks some.rest some.round_at in go r.0 r.1
    where
      go : (todo : Round) → Riding day plan from number some.tasks some.rest before vehicles at ride todo → Rides day plan from number before vehicles at ride
      go [] r = record {
        within = (word_at plan at _ _ r.here).within;
        names = rw (says_back r) (record { stops_in = λ k e. absurd cc; tips_in = λ k e. absurd cc });
        inside = p;
        few = d;
        size = s;
        each = f;
      }
      go (task ∷ todo) r = record {
        within = (word_at plan at _ _ r.here).within;
        names = rw (says_task r) (known_names day task r.known.0);
        inside = p;
        few = d;
        size = s;
        each = f;
      }

  pub rides_start : (number : ℕ) (before : List ℕ) → length before ≡ 256
      → Rides day plan from number before before from (record { place = 0; distance = 0 })
  rides_start number before long =
      rides_of (omega arith) (omega arith) long
      (λ tasks others h. (tasks, record { here = h.text; known = h.known; ends = refl; drives = omega arith; marks = λ k. refl }))

  module _ {number : ℕ} {before vehicles : List ℕ} {at : ℕ} {ride : Ride} (r : Rides day plan from number before vehicles at ride)
      {after : List ℕ} {result : Option Ride} (b : RideBehind day ride number vehicles after (word_of (get_or plan at 0)) result) where
    -- a task was done
    one_done : {tasks : Round} {others : List ℕ} {task : Task} {todo : Round} (next : Ride) → result ≡ Some next
        → Riding day plan from number tasks others before vehicles at ride (task ∷ todo)
        → (next ≡ ride_then day ride task) × (after ≡ vehicles_then vehicles number task)
    one_done {task = task} next e s = let d = b.done task (says_task s) in (some_same e d.0, d.1)

    pub rides_next : (next : Ride) → result ≡ Some next → 0 < number → Rides day plan from number before after (at + 1) next
    unfolding Every
    rides_next next e some_number = let r0 = r.each some.tasks some.rest some.round_at in go r0.0 r0.1
      where
        go : (todo : Round) → Riding day plan from number some.tasks some.rest before vehicles at ride todo → Rides day plan from number before after (at + 1) next
        go [] s = absurd (none_some (b.home (says_back s)).0 e)
        go (task ∷ todo) s = let d = one_done next e s in
            rides_of
            (rw d.0 (place_next day ride task s.known.0 r.inside))
            (omega (arith, r.few, distance_few day ride task, ap (λ (x : Ride). x.distance) d.0))
            (rw d.1 (vehicles_size_lem vehicles number task ∙ r.size))
            (λ tasks others h. let f = r.each tasks others h in more f.0 f.1)
          where
            more : {tasks : Round} {others : List ℕ} (todo : Round) → Riding day plan from number tasks others before vehicles at ride todo
                → (left : Round) × Riding day plan from number tasks others before after (at + 1) next left
            more [] s = absurd (none_some (b.home (says_back s)).0 e)
            more (task ∷ todo) s = let d = one_done next e s in (
              todo,
              record {
                here = (word_at plan at _ _ s.here).rest;
                known = s.known.1;
                ends = omega (arith, s.ends);
                drives = rw d.0 (drive_next day ride task todo ∙ s.drives);
                marks = λ j. rw d.1 (marks_next day vehicles number task todo s.known.0 some_number r.size j ∙ s.marks j);
              },
            )

-- behind the E word
pub rides_end : {day plan : List ℕ} {from number : ℕ} {before vehicles after : List ℕ} {at : ℕ} {ride : Ride} {result : Option Ride}
    → Rides day plan from number before vehicles at ride
    → RideBehind day ride number vehicles after (word_of (get_or plan at 0)) result → result ≡ None
    → (driven : Driven) (leg : Leg) → LegOf day ride.place 0 leg → driven.end ≡ at + 1 → driven.distance ≡ ride.distance + leg.distance
    → EndsAll day plan from number before after driven
unfolding Every distance_from
rides_end {day} {plan} {from} {number} {before} {vehicles} {after} {at} {ride} r b e driven leg l q d tasks others h =
    let f = r.each tasks others h in go f.0 f.1
  where
    go : (todo : Round) → Riding day plan from number tasks others before vehicles at ride todo → Ended day from number tasks before after driven
    go (task ∷ todo) s = absurd (none_some e (b.done task (says_task s)).0)
    go [] s = record {
      ends = omega (arith, s.ends);
      drives = d ∙ ap (λ (x : ℕ). ride.distance + x) l.spans ∙ s.drives;
      marks = λ k. rw (b.home (says_back s)).1 (sym (then_nothing number k (get_or vehicles k 0)) ∙ s.marks k);
    }
