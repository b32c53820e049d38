-- What a vehicle does next: one law for each way through the functions that decide it.
-- Assumes nothing.
use Rattle.std.specs.Prelude.{Some, None, if◌then◌else◌}
use Prim.Native.Nat.{ℕ, ◌≤◌, ◌<◌}
use mathlib.Core.Path.{◌≡◌, refl, ap, ◌∙◌}
use mathlib.Core.Bool.{Bool, true, false, not, ◌&&◌, and-false}
use mathlib.Core.List.{List}
use mathlib.Core.Option.{Option, none, some}
use native.Mathlib.Omega.{arith}
use lib.Dec.{ltb}
use borrow.Author.Tests.{lt-ltb, le-ltb, ne_eqb}
use Rattle.rules.specs.Tests.{least}
use Rattle.rules.specs.Lists.{mem}
use Rattle.rules.specs.Fields.{stops, stop_place}
use Rattle.rules.specs.Plan.{Task, serve, empty}
use Rattle.rules.specs.Home.{nearest_tip}
use Rattle.rules.specs.Choice.{takeable, waitable, near_key, open_key, nearest_stop, earliest_stop, near_capacity, farther, chosen_stop}
use Rattle.rules.specs.Build.{Truck, serving, emptying, next_task}
use Rattle.rules.specs.declared.walk.Cargo.{Cargo}
use Rattle.rules.specs.declared.walk.Trip.{Trip}
use Rattle.laws.specs.Marks.{both}
use Rattle.laws.proofs.Least.{least_same}
use Rattle.laws.proofs.Marks.{up_to_in}
use Rattle.day.specs.Layout.{LegOf}
use Rattle.day.specs.declared.fields.Leg.{Leg}
use Rattle.greedy_laws.specs.States.{unrouted}
use Rattle.ways_home.specs.Bests.{ChosenOf}
use Rattle.next_task.specs.Wanted.{best_stop}
use Rattle.next_task.specs.NextBy.{wait_by, chosen_by, next_by}

-- farther than a tip, and than none
pub by_minutes : (day : List ℕ) (t : Trip) (k x : ℕ) {place : ℕ} (tip stop : Leg) → place ≡ stop_place day k → 0 < x → LegOf day t.place x tip
    → LegOf day t.place place stop → ltb tip.minutes stop.minutes ≡ farther day t k x
unfolding farther
by_minutes day t k x tip stop p n ht hs = rw (ne_eqb x 0 (λ z. omega arith), ht.takes, hs.takes, p)

pub not_farther : (day : List ℕ) (t : Trip) (k : ℕ) {x : ℕ} (near : Bool) → 0 ≡ x → false ≡ (near && farther day t k x)
unfolding farther
not_farther day t k near e = rw (← e, and-false)

-- a choice as a task
chosen_some : {n number k : ℕ} → ChosenOf n number (Some k) → some (serve k) ≡ serving number
unfolding serving
chosen_some {n} {number} {k} h = rw (← h.number_is, ne_eqb k 0 (λ z. omega (arith, h.within.0)))

chosen_none : {n number : ℕ} → ChosenOf n number None → none ≡ serving number
unfolding serving
chosen_none h = rw (← h.number_is)

pub tip_next : {n number k : ℕ} → ChosenOf n number (Some k) → some (empty k) ≡ emptying number
unfolding emptying
tip_next {n} {number} {k} h = rw (← h.number_is, ne_eqb k 0 (λ z. omega (arith, h.within.0)))

pub tip_home : {n number : ℕ} → ChosenOf n number None → none ≡ emptying number
unfolding emptying
tip_home h = rw (← h.number_is)

module _ (day : List ℕ) (t : Trip) (c : Cargo) (p : ℕ → Bool) where
  -- step 3: there is no stop, it is dropped, or it is kept
  pub near_none : {n : ℕ} → ChosenOf n (best_stop true day t c p) None → ChosenOf n (chosen_by day t c p) None
  unfolding chosen_by chosen_stop
  near_none h =
      record {
        number_is = rw (← h.number_is) (same (near_capacity day c && farther day t 0 (nearest_tip day t.place t.minute)));
        within = h.within;
      }
    where
      same : (b : Bool) → let none : ℕ = 0 in none ≡ (if b then none else none)
      same true = refl
      same false = refl

  module _ {n k : ℕ} {drop : Bool} (h : ChosenOf n (best_stop true day t c p) (Some k))
      (e : drop ≡ (near_capacity day c && farther day t k (nearest_tip day t.place t.minute))) where
    pub near_dropped : drop ≡ true → ChosenOf n (chosen_by day t c p) None
    unfolding chosen_by chosen_stop
    near_dropped z = record { number_is = rw (← h.number_is, ← e, z); within = tt }

    pub near_kept : drop ≡ false → ChosenOf n (chosen_by day t c p) (Some k)
    unfolding chosen_by chosen_stop
    near_kept z = record { number_is = rw (← h.number_is, ← e, z); within = h.within }

  -- step 5
  pub wait_stop : {n k : ℕ} → ChosenOf n (best_stop false day t c p) (Some k) → some (serve k) ≡ wait_by day t c p
  unfolding wait_by
  wait_stop h = chosen_some h

  pub wait_home : {n : ℕ} → ChosenOf n (best_stop false day t c p) None → none ≡ wait_by day t c p
  unfolding wait_by
  wait_home h = chosen_none h

  -- steps 3, 4, 5 in order
  pub next_stop_lem : {n k : ℕ} → ChosenOf n (chosen_by day t c p) (Some k) → some (serve k) ≡ next_by day t c p
  unfolding next_by
  next_stop_lem h = let l : 0 < chosen_by day t c p = omega (arith, h.number_is, h.within.0) in chosen_some h ∙ rw (lt-ltb 0 _ l)

  module _ {n : ℕ} {o : Option Task} (h : ChosenOf n (chosen_by day t c p) None) where
    pub next_tip : 0 < c.load → o ≡ emptying (nearest_tip day t.place t.minute) → o ≡ next_by day t c p
    unfolding next_by
    next_tip l e = e ∙ rw (← h.number_is, lt-ltb 0 c.load l)

    pub next_wait : c.load ≤ 0 → o ≡ wait_by day t c p → o ≡ next_by day t c p
    unfolding next_by
    next_wait l e = e ∙ rw (← h.number_is, le-ltb 0 c.load l)

-- by the unrouted stops it is the definition's next task
pub unrouted_in : (n : ℕ) (taken : List ℕ) (k : ℕ) → 0 < k → k ≤ n → unrouted n taken k ≡ not (mem k taken)
unfolding unrouted
unrouted_in n taken k h g = rw (up_to_in n k h g)

unrouted_least : (n : ℕ) (taken : List ℕ) (ok : ℕ → Bool) (key : ℕ → ℕ) → least (both (unrouted n taken) ok) key n ≡ least (λ k. not (mem k taken) && ok k) key n
unfolding both
unrouted_least n taken ok key = least_same _ _ key key n (λ k h g. ap (λ (b : Bool). b && ok k) (unrouted_in n taken k h g)) (λ k h g. refl)

pub next_is_lem : (day : List ℕ) (v : Truck) → next_by day v.trip v.cargo (unrouted (stops day) v.taken) ≡ next_task day v
unfolding next_by chosen_by wait_by next_task nearest_stop earliest_stop
next_is_lem day v =
    rw (unrouted_least (stops day) v.taken (takeable day v.trip v.cargo) (near_key day v.trip), unrouted_least (stops day) v.taken (waitable day v.trip v.cargo) (open_key day))
