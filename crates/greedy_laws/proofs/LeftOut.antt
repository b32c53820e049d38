-- The stops that the greedy build leaves out: those that no vehicle routes, rising, and no fresh vehicle could take one of them first. The
-- day may be any list of words.
-- Assumes nothing.
use Rattle.std.specs.Prelude.{if◌then◌else◌}
use Prim.Native.Nat.{ℕ, zero, suc, ◌+◌, ◌*◌, ◌≤◌, ◌<◌}
use mathlib.Core.Path.{◌≡◌, refl, sym, ap, ◌∙◌, subst}
use mathlib.Core.Bool.{false, ◌||◌}
use mathlib.Core.List.{List, []}
use mathlib.Core.Logic.{inl, inr}
use mathlib.Core.Option.{none}
use native.Mathlib.Nat.{eq-or-lt_of_le}
use native.Mathlib.Omega.{arith}
use lib.ListN.{length}
use borrow.Author.Tests.{eq-eqb, ne_eqb}
use Rattle.rules.specs.Lists.{Every, mem, times, unmet, Rising}
use Rattle.rules.specs.Fields.{stops}
use Rattle.rules.specs.Plan.{Task}
use Rattle.rules.specs.Cargo.{cargo_after}
use Rattle.rules.specs.Home.{due}
use Rattle.rules.specs.Choice.{takeable, waitable, nearest_stop}
use Rattle.rules.specs.Build.{Truck, fresh, doing, resting, next_task, drive, one_vehicle, routed, remaining, greedy_lefts, could_take_first}
use Rattle.rules.specs.declared.walk.Cargo.{Cargo}
use Rattle.laws.proofs.Fresh.{once, times_other, every_weaker, unmet_most}
use Rattle.laws.proofs.Decided.{known, known_option}
use Rattle.greedy_laws.proofs.Driving.{resting_trip, resting_cargo, resting_taken, drive_some, drive_keeps}
use Rattle.greedy_laws.proofs.Fleets.{routed_idle}
use Rattle.greedy_laws.proofs.NextTasks.{IsNext, serves, empties, next_some, next_none, chosen_empty, none_takeable, none_waitable}

-- what remains of the r numbers from k on: not routed, and within them
pub record Remains (taken : List ℕ) (k r j : ℕ) : Type 0 where
  pub new : mem j taken ≡ false
  pub from : k ≤ j
  pub below : j < k + r

remains_later : (taken : List ℕ) (k r j : ℕ) → Remains taken (suc k) r j → Remains taken k (suc r) j
remains_later taken k r j h = record { new = h.new; from = omega (arith, h.from); below = omega (arith, h.below) }

pub remaining_are : (taken : List ℕ) (k r : ℕ) → Every (Remains taken k r) (remaining taken k r)
unfolding remaining Every
remaining_are taken k zero = tt
remaining_are taken k (suc r) =
    let others = remaining taken (suc k) r in
    let later = every_weaker (Remains taken (suc k) r) (Remains taken k (suc r)) (remains_later taken k r) others (remaining_are taken (suc k) r) in
    elim (known (mem k taken)) [
      | inl e ↦ rw e later
      | inr e ↦ rw e (record { new = e; from = omega arith; below = omega arith }, later)
    ]

-- they rise
pub remaining_rising : (taken : List ℕ) (from k r : ℕ) → from < k → Rising from (remaining taken k r)
unfolding remaining Rising
remaining_rising taken from k zero h = tt
remaining_rising taken from k (suc r) h = elim (known (mem k taken)) [
  | inl e ↦ rw e (remaining_rising taken from (suc k) r (omega arith))
  | inr e ↦ rw e (h, remaining_rising taken k (suc k) r (omega arith))
]

-- one number more at the end remains or does not, and so as many remain as are missing: as many as the marks have ones
remaining_last : (taken : List ℕ) (k r : ℕ) → length (remaining taken k (suc r)) ≡ (if mem (k + r) taken then 0 else 1) + length (remaining taken k r)
unfolding remaining
remaining_last taken k zero =
    let end : k + 0 ≡ k = omega arith in
    elim (known (mem k taken)) [ inl e ↦ rw (end, e) | inr e ↦ rw (end, e) ]
remaining_last taken k (suc r) =
    let end : suc k + r ≡ k + suc r = omega arith in
    let later = subst (λ (j : ℕ). length (remaining taken (suc k) (suc r)) ≡ (if mem j taken then 0 else 1) + length (remaining taken (suc k) r)) end (remaining_last taken (suc k) r) in
    elim (known (mem k taken)) [ inl e ↦ rw e later | inr e ↦ rw e (omega (arith, later)) ]

pub remaining_count : (taken : List ℕ) (n : ℕ) → length (remaining taken 1 n) ≡ unmet n taken
unfolding remaining unmet
remaining_count taken zero = refl
remaining_count taken (suc n) =
    let next : 1 + n ≡ suc n = omega arith in
    remaining_last taken 1 n ∙ rw (next, remaining_count taken n)

-- each of the r numbers is routed or remains, and remains once
remaining_before : (taken : List ℕ) (k r j : ℕ) → j < k → times j (remaining taken k r) ≡ 0
remaining_before taken k r j h =
    times_other j (remaining taken k r)
    (every_weaker (Remains taken k r) (λ i. j ≡ i → ⊥) (λ i q e. omega (arith, q.from)) (remaining taken k r) (remaining_are taken k r))

pub remaining_once : (taken : List ℕ) (k r j : ℕ) → k ≤ j → j < k + r → times j (remaining taken k r) + once j taken ≡ 1
unfolding remaining times
remaining_once taken k zero j h g = absurd (omega arith)
remaining_once taken k (suc r) j h g = elim (eq-or-lt_of_le h) [
  | inl q ↦ rw (← q) (elim (known (mem k taken)) [
    | inl e ↦ rw e (omega (arith, remaining_before taken (suc k) r k (omega arith)))
    | inr e ↦ rw (e, eq-eqb k k refl) (omega (arith, remaining_before taken (suc k) r k (omega arith)))
  ])
  | inr l ↦ elim (known (mem k taken)) [
    | inl e ↦ rw e (remaining_once taken (suc k) r j l (omega arith))
    | inr e ↦ rw (e, ne_eqb j k (λ z. omega arith)) (omega (arith, remaining_once taken (suc k) r j l (omega arith)))
  ]
]

-- a vehicle that once has a stop has one in the end
drive_visits : (day : List ℕ) (most : ℕ) (v : Truck) → 0 < v.cargo.visits → 0 < (drive day most v).cargo.visits
unfolding cargo_after
drive_visits day = drive_keeps day (λ v. 0 < v.cargo.visits) (λ v e l. l) does
  where
    does : (v : Truck) (task : Task) → due day v.trip ≡ false → IsNext day v task
        → 0 < v.cargo.visits → 0 < (doing day v task).cargo.visits
    does v task e (serves k c s) l = omega arith
    does v task e (empties x g q o) l = l

-- the first task of an empty vehicle is a stop
next_visits : (day : List ℕ) (v : Truck) (task : Task) → IsNext day v task → v.cargo.load ≡ 0 → 0 < (doing day v task).cargo.visits
unfolding cargo_after
next_visits day v task (serves k c s) z = omega arith
next_visits day v task (empties x l q o) z = absurd (omega arith)

-- so a fresh vehicle that takes no stop has no task
pub idle_none : (day taken : List ℕ) → (one_vehicle day taken).cargo.visits ≡ 0 → next_task day (resting day (fresh day taken)) ≡ none
unfolding one_vehicle
idle_none day taken z = elim (known_option (next_task day (resting day (fresh day taken)))) [
  | inl e ↦ e
  | inr s ↦
      let v = resting day (fresh day taken) in
      let next = doing day v s.0 in
      let load : v.cargo.load ≡ 0 = ap (λ (c : Cargo). c.load) (resting_cargo day (fresh day taken)) in
      let first = next_visits day v s.0 (next_some day v s.0 s.1) load in
      let most : 2 * stops day + 2 ≡ suc (2 * stops day + 1) = omega arith in
      let end = rw (most, drive_some day (2 * stops day + 1) (fresh day taken) s.0 s.1) at z in
      absurd (omega (arith, drive_visits day (2 * stops day + 1) next first))
]

-- where an empty vehicle has no task, no stop that is not routed could be taken or waited for
none_next : (day : List ℕ) (v : Truck) → v.cargo.load ≡ 0 → next_task day v ≡ none
    → (k : ℕ) → 1 ≤ k → k ≤ stops day → mem k v.taken ≡ false
    → (takeable day v.trip v.cargo k || waitable day v.trip v.cargo k) ≡ false
none_next day v z n k a b e =
    let idle = next_none day v n in
    let near : nearest_stop day v.trip v.cargo v.taken ≡ 0 = sym (chosen_empty day v.trip v.cargo _ z) ∙ idle.not_taken in
    let taken = none_takeable day v.trip v.cargo v.taken near k a b e in
    let waited = none_waitable day v.trip v.cargo v.taken (idle.not_waited z) k a b e in
    rw (taken, waited)

pub idle_first : (day taken : List ℕ) → (one_vehicle day taken).cargo.visits ≡ 0
    → (k : ℕ) → 1 ≤ k → k ≤ stops day → mem k taken ≡ false → could_take_first day k ≡ false
unfolding could_take_first
idle_first day taken z k a b e =
    let v = fresh day taken in
    let new : mem k (resting day v).taken ≡ false = rw (resting_taken day v) e in
    let load : (resting day v).cargo.load ≡ 0 = ap (λ (c : Cargo). c.load) (resting_cargo day v) in
    rw (resting_trip day v, resting_cargo day v) at (none_next day (resting day v) load (idle_none day taken z) k a b new)

-- no stop left out could be taken first by a fresh vehicle
pub left_out_justified : (day : List ℕ) → Every (λ k. could_take_first day k ≡ false) (greedy_lefts day)
left_out_justified day =
    let taken = routed day (stops day + 1) [] in
    let idle = routed_idle day (stops day + 1) [] (omega (arith, unmet_most (stops day) [])) in
    every_weaker (Remains taken 1 (stops day)) (λ k. could_take_first day k ≡ false)
    (λ k q. idle_first day taken idle k q.from (omega (arith, q.below)) q.new) (greedy_lefts day) (remaining_are taken 1 (stops day))
