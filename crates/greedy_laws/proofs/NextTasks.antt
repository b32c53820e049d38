-- The next task of a vehicle of the greedy build: which it can be, and when there is none. The day may be any list of words.
-- Assumes nothing.
use Rattle.std.specs.Prelude.{if◌then◌else◌}
use Prim.Native.Nat.{ℕ, ◌+◌, ◌≤◌, ◌<◌, max}
use mathlib.Core.Path.{◌≡◌, refl, sym, ap, ◌∙◌, subst}
use mathlib.Core.Bool.{Bool, true, false, not, ◌&&◌}
use mathlib.Core.List.{List}
use mathlib.Core.Logic.{inl, inr}
use mathlib.Core.Option.{none, some, some-injective, none-ne-some, some-ne-none}
use native.Mathlib.Omega.{arith}
use lib.Dec.{ltb, leb, eqb}
use borrow.Author.Tests.{eqb-true, eqb-false, ltb-true, ltb-false, leb-true, not-true}
use Rattle.rules.specs.Tests.{least}
use Rattle.rules.specs.Lists.{mem}
use Rattle.laws.specs.Least.{IsLeast}
use Rattle.rules.specs.Fields.{stops, tips, stop_place, opening, closing, leg_minutes}
use Rattle.rules.specs.Plan.{Task, serve, empty}
use Rattle.rules.specs.Trip.{arrival, visit_start}
use Rattle.rules.specs.Home.{open_tip, nearest_tip}
use Rattle.rules.specs.Choice.{suits, takeable, waitable, near_key, open_key, nearest_stop, earliest_stop, near_capacity, farther, chosen_stop}
use Rattle.rules.specs.Build.{Truck, serving, emptying, next_task}
use Rattle.rules.specs.declared.walk.Cargo.{Cargo}
use Rattle.rules.specs.declared.walk.Trip.{Trip}
use Rattle.laws.proofs.Decided.{known}
use Rattle.laws.proofs.Least.{least_is}
use Rattle.laws.proofs.Tests.{both_true, only_first, only_second}

-- a stop of the day that is not routed yet
pub record Chosen (day taken : List ℕ) (k : ℕ) : Type 0 where
  pub first : 1 ≤ k
  pub within : k ≤ stops day
  pub new : mem k taken ≡ false

-- the least of the stops that are not routed yet and for which the conditions hold
module _ (day taken : List ℕ) (ok : ℕ → Bool) (key : ℕ → ℕ) where
  abbrev choice : ℕ
  choice = least (λ j. not (mem j taken) && ok j) key (stops day)

  choice_is : IsLeast (λ j. not (mem j taken) && ok j) key (stops day) choice
  choice_is = least_is (λ j. not (mem j taken) && ok j) key (stops day)

  choice_chosen : 0 < choice → Chosen day taken choice × (ok choice ≡ true)
  choice_chosen l =
      let both = both_true (not (mem choice taken)) (ok choice) (choice_is.passes l) in
      (record { first = l; within = choice_is.within; new = not-true (mem choice taken) both.0 }, both.1)

  choice_none : choice ≡ 0 → (k : ℕ) → 1 ≤ k → k ≤ stops day → mem k taken ≡ false → ok k ≡ false
  choice_none z k a b e = rw e at (choice_is.none z k a b)

-- no stop of step 3, and none of step 5
module _ (day : List ℕ) (t : Trip) (c : Cargo) (taken : List ℕ) where
  pub none_takeable : nearest_stop day t c taken ≡ 0
      → (k : ℕ) → 1 ≤ k → k ≤ stops day → mem k taken ≡ false → takeable day t c k ≡ false
  unfolding nearest_stop
  none_takeable = choice_none day taken (takeable day t c) (near_key day t)

  pub none_waitable : earliest_stop day t c taken ≡ 0
      → (k : ℕ) → 1 ≤ k → k ≤ stops day → mem k taken ≡ false → waitable day t c k ≡ false
  unfolding earliest_stop
  none_waitable = choice_none day taken (waitable day t c) (open_key day)

-- a stop that suits, and is started by its closing, or at its opening
module _ (day : List ℕ) (t : Trip) (c : Cargo) (k : ℕ) where
  pub record InTime : Type 0 where
    pub start : visit_start day t (stop_place day k) ≤ max (opening day (stop_place day k)) (closing day (stop_place day k))
    pub suited : suits day t c k ≡ true

  takeable_in_time : takeable day t c k ≡ true → InTime
  unfolding takeable
  takeable_in_time e =
      let place = stop_place day k in
      let p = both_true (leb (opening day place) (arrival day t place)) (leb (arrival day t place) (closing day place) && suits day t c k) e in
      let q = both_true (leb (arrival day t place) (closing day place)) (suits day t c k) p.1 in
      record { start = omega (arith, leb-true (arrival day t place) (closing day place) q.0); suited = q.1 }

  waitable_in_time : waitable day t c k ≡ true → InTime
  unfolding waitable
  waitable_in_time e =
      let place = stop_place day k in
      let p = both_true (ltb (arrival day t place) (opening day place)) (suits day t c k) e in
      record { start = omega (arith, ltb-true (arrival day t place) (opening day place) p.0); suited = p.1 }

-- step 3's stop is kept or dropped, and an empty vehicle drops none
pub chosen_kept : (day : List ℕ) (t : Trip) (c : Cargo) (k : ℕ) → 0 < chosen_stop day t c k → chosen_stop day t c k ≡ k
unfolding chosen_stop
chosen_kept day t c k l = elim (known (near_capacity day c && farther day t k (nearest_tip day t.place t.minute))) [
  | inl e ↦ absurd (omega (arith, rw e at l))
  | inr e ↦ rw e refl
]

pub chosen_empty : (day : List ℕ) (t : Trip) (c : Cargo) (k : ℕ) → c.load ≡ 0 → chosen_stop day t c k ≡ k
unfolding chosen_stop near_capacity
chosen_empty day t c k z = rw z refl

-- a tip that is nearest is the day's, and open when the vehicle comes
pub record OpenTip (day : List ℕ) (place minute x : ℕ) : Type 0 where
  pub first : 1 ≤ x
  pub within : x ≤ tips day
  pub opened : opening day x ≤ minute + leg_minutes day place x
  pub not_closed : minute + leg_minutes day place x ≤ closing day x

pub nearest_open : (day : List ℕ) (place minute : ℕ) → 0 < nearest_tip day place minute
    → OpenTip day place minute (nearest_tip day place minute)
unfolding nearest_tip open_tip
nearest_open day place minute l =
    let h = least_is (open_tip day place minute) (leg_minutes day place) (tips day) in
    let x = least (open_tip day place minute) (leg_minutes day place) (tips day) in
    let comes = minute + leg_minutes day place x in
    let both = both_true (leb (opening day x) comes) (leb comes (closing day x)) (h.passes l) in
    record { first = l; within = h.within; opened = leb-true _ _ both.0; not_closed = leb-true _ _ both.1 }

-- a task by its number: 0 is none
made_some : (k : ℕ) (made task : Task) → (if eqb k 0 then none else some made) ≡ some task → (0 < k) × (made ≡ task)
made_some k made task e =
    let p = only_second (eqb k 0) (none-ne-some task) e in
    (omega (arith, eqb-false k 0 p.0), some-injective _ _ p.1)

made_none : (k : ℕ) (made : Task) → (if eqb k 0 then none else some made) ≡ none → k ≡ 0
made_none k made e = eqb-true k 0 (only_first (eqb k 0) (some-ne-none made) e).0

-- the next task: a stop of step 3 or step 5, or the nearest tip with a load
pub data IsNext (day : List ℕ) (v : Truck) : Task → Type 0 where
  serves : (k : ℕ) → Chosen day v.taken k → InTime day v.trip v.cargo k → IsNext day v (serve k)
  empties : (x : ℕ) → 0 < v.cargo.load → x ≡ nearest_tip day v.trip.place v.trip.minute
      → OpenTip day v.trip.place v.trip.minute x → IsNext day v (empty x)

-- what the vehicle could do next: step 3's stop, before and after it may be dropped, step 4's tip, step 5's stop
module _ (day : List ℕ) (v : Truck) where
  abbrev near : ℕ
  near = nearest_stop day v.trip v.cargo v.taken

  abbrev chosen : ℕ
  chosen = chosen_stop day v.trip v.cargo near

  abbrev tip : ℕ
  tip = nearest_tip day v.trip.place v.trip.minute

  abbrev early : ℕ
  early = earliest_stop day v.trip v.cargo v.taken

  -- a stop of step 3, and one of step 5
  near_next : 0 < near → IsNext day v (serve near)
  unfolding nearest_stop
  near_next l =
      let p = choice_chosen day v.taken (takeable day v.trip v.cargo) (near_key day v.trip) l in
      serves near p.0 (takeable_in_time day v.trip v.cargo near p.1)

  early_next : 0 < early → IsNext day v (serve early)
  unfolding earliest_stop
  early_next l =
      let p = choice_chosen day v.taken (waitable day v.trip v.cargo) (open_key day) l in
      serves early p.0 (waitable_in_time day v.trip v.cargo early p.1)

  -- it comes by step 3, step 4 or step 5
  pub next_some : (task : Task) → next_task day v ≡ some task → IsNext day v task
  unfolding next_task serving emptying
  next_some task e = go (ltb 0 chosen) (ltb 0 v.cargo.load) refl refl e
    where
      go : (a b : Bool) → ltb 0 chosen ≡ a → ltb 0 v.cargo.load ≡ b
          → (if a then serving chosen else if b then emptying tip else serving early) ≡ some task → IsNext day v task
      go true b x y e =
          let p = made_some chosen (serve chosen) task e in
          let kept = chosen_kept day v.trip v.cargo near p.0 in
          subst (IsNext day v) (ap serve (sym kept) ∙ p.1) (near_next (omega (arith, p.0)))
      go false true x y e =
          let p = made_some tip (empty tip) task e in
          let tip-open = nearest_open day v.trip.place v.trip.minute p.0 in
          subst (IsNext day v) p.1 (empties tip (ltb-true 0 v.cargo.load y) refl tip-open)
      go false false x y e =
          let p = made_some early (serve early) task e in
          subst (IsNext day v) p.1 (early_next p.0)

  -- no next task: no stop of step 3, and with a load no open tip, without a load no stop of step 5
  pub record NoNext : Type 0 where
    pub not_taken : chosen ≡ 0
    pub no_tip : 0 < v.cargo.load → tip ≡ 0
    pub not_waited : v.cargo.load ≡ 0 → early ≡ 0

  pub next_none : next_task day v ≡ none → NoNext
  unfolding next_task serving emptying
  next_none e = go (ltb 0 chosen) (ltb 0 v.cargo.load) refl refl e
    where
      go : (a b : Bool) → ltb 0 chosen ≡ a → ltb 0 v.cargo.load ≡ b
          → (if a then serving chosen else if b then emptying tip else serving early) ≡ none → NoNext
      go true b x y e =
          let l = ltb-true 0 chosen x in
          absurd (omega (arith, made_none chosen (serve chosen) e))
      go false true x y e =
          let most = ltb-false 0 chosen x in
          let l = ltb-true 0 v.cargo.load y in
          record { not_taken = omega arith; no_tip = λ _. made_none tip (empty tip) e; not_waited = λ z. absurd (omega arith) }
      go false false x y e =
          let most = ltb-false 0 chosen x in
          let l = ltb-false 0 v.cargo.load y in
          record { not_taken = omega arith; no_tip = λ z. absurd (omega arith); not_waited = λ _. made_none early (serve early) e }
