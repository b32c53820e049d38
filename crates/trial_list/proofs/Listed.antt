-- Each trial of a plan's list may be made: its stops differ and are on the vehicles that it names, its tip is one of the day's. The day may
-- be any list of words.
-- Assumes nothing.
use Prim.Native.Nat.{ℕ, zero, suc, ◌+◌, ◌≤◌, ◌<◌}
use mathlib.Core.Path.{◌≡◌, sym, subst}
use mathlib.Core.Bool.{true, not}
use mathlib.Core.List.{List, [], ◌∷◌}
use mathlib.Core.Logic.{inl, inr}
use native.Mathlib.Omega.{arith}
use lib.Dec.{eqb}
use lib.ListN.{length}
use borrow.Author.Tests.{eqb-true, eqb-false, not-true}
use Rattle.rules.specs.Lists.{Every}
use Rattle.rules.specs.Fields.{stops, tips}
use Rattle.rules.specs.Plan.{Task, serve, empty, lunch, Round, Known}
use Rattle.rules.specs.Neighbours.{compatible, neighbours}
use Rattle.rules.specs.TrialList.{each, rising, vehicle_of, pair_trials, stop_trials, other_tip, task_trials, round_trials, tip_trials, trial_list}
use Rattle.laws.proofs.Fresh.{every_append}
use Rattle.laws.proofs.Tests.{both_true}
use Rattle.neighbours.proofs.NeighbourLaws.{neighbours_are}
use Rattle.laws.proofs.Decided.{known}
use Rattle.trial_list.specs.Shapes.{Shaped, On, Valid, moved_before, moved_after, swapped, removed, replaced}
use Rattle.trial_list.proofs.Shapes.{shaped_once, vehicle_found}

-- the lists of elements with two properties, and of rising numbers
module _ {M : Type 0} (P : M → Type 0) where
  pub each_every : {A : Type 0} (Q R : A → Type 0) (f : A → List M) → ((x : A) → Q x → R x → Every P (f x))
      → (xs : List A) → Every Q xs → Every R xs → Every P (each f xs)
  unfolding each Every
  each_every Q R f h [] q r = tt
  each_every Q R f h (x ∷ xs) q r = every_append P (f x) (each f xs) (h x q.0 r.0) (each_every Q R f h xs q.1 r.1)

  pub rising_every : (f : ℕ → List M) (k r : ℕ) → ((x : ℕ) → k ≤ x → x < k + r → Every P (f x)) → Every P (rising f k r)
  unfolding rising Every
  rising_every f k zero h = tt
  rising_every f k (suc r) h =
      every_append P (f k) (rising f (suc k) r) (h k (omega arith) (omega arith)) (rising_every f (suc k) r (λ x a b. h x (omega arith) (omega arith)))

-- a neighbour is another stop
compatible_apart : (day : List ℕ) (i j : ℕ) → compatible day i j ≡ true → i ≡ j → ⊥
unfolding compatible
compatible_apart day i j e = eqb-false i j (not-true (eqb i j) (both_true (not (eqb i j)) _ e).0)

module _ (day : List ℕ) (rounds : List Round) (s : Shaped day rounds) where
  -- a stop that a vehicle serves is on that vehicle
  pub found_on : (k : ℕ) → Known day (serve k) → (vehicle_of rounds k ≡ 0 → ⊥) → On day rounds k (vehicle_of rounds k)
  unfolding Known
  found_on k n z = elim (vehicle_found 0 k rounds) [
    | inl e ↦ absurd (z e)
    | inr f ↦
        let most = shaped_once day rounds s k n.0 n.1 in
        record { known = n; first = f.above; within = omega (arith, f.within); once = omega (arith, f.named); stands = f.stands most }
  ]

  pub pair_valid : (i j : ℕ) → Known day (serve i) → Known day (serve j) → (i ≡ j → ⊥) → Every (Valid day rounds) (pair_trials rounds i j)
  unfolding pair_trials Every
  pair_valid i j a b apart = elim (known (eqb (vehicle_of rounds i) 0)) [
    | inl p ↦ rw p tt
    | inr p ↦ elim (known (eqb (vehicle_of rounds j) 0)) [
      | inl q ↦ rw (p, q) tt
      | inr q ↦
          let one = found_on i a (eqb-false (vehicle_of rounds i) 0 p) in
          let two = found_on j b (eqb-false (vehicle_of rounds j) 0 q) in
          elim (known (eqb (vehicle_of rounds i) (vehicle_of rounds j))) [
            | inl e ↦
                let same = subst (On day rounds j) (sym (eqb-true (vehicle_of rounds i) (vehicle_of rounds j) e)) two in
                rw (p, q, e) (moved_before i j (vehicle_of rounds i) apart one same, (moved_after i j (vehicle_of rounds i) apart one same, tt))
            | inr e ↦ rw (p, q, e) (swapped i j (vehicle_of rounds i) (vehicle_of rounds j) apart (eqb-false (vehicle_of rounds i) (vehicle_of rounds j) e) one two, tt)
          ]
    ]
  ]

  stops_valid : (K : ℕ) → Every (Valid day rounds) (stop_trials day K rounds)
  unfolding stop_trials Known
  stops_valid K =
      rising_every (Valid day rounds) (λ i. each (pair_trials rounds i) (neighbours day K i)) 1 (stops day)
      (λ i a b. each_every (Valid day rounds) (λ j. (1 ≤ j) × (j ≤ stops day)) (λ j. compatible day i j ≡ true) (pair_trials rounds i)
      (λ j n c. pair_valid i j (a, omega arith) n (compatible_apart day i j c)) (neighbours day K i)
      (neighbours_are day K i).known (neighbours_are day K i).suited)

  -- a tip of a vehicle
  module _ (number : ℕ) (first : 1 ≤ number) (within : number ≤ length rounds) where
    other_valid : (t y x : ℕ) → Known day (empty x) → Every (Valid day rounds) (other_tip number t y x)
    unfolding other_tip Every
    other_valid t y x n = elim (known (eqb x y)) [ inl e ↦ rw e tt | inr e ↦ rw e (replaced t x number n first within, tt) ]

    task_valid : (t : ℕ) (task : Task) → Every (Valid day rounds) (task_trials day number t task)
    unfolding task_trials Every Known
    task_valid t (empty y) = (
      removed t number first within,
      rising_every (Valid day rounds) (other_tip number t y) 1 (tips day) (λ x a b. other_valid t y x (a, omega arith)),
    )
    task_valid t (serve k) = tt
    task_valid t lunch = tt

    pub round_valid : (t : ℕ) (tasks : Round) → Every (Valid day rounds) (round_trials day number t tasks)
    unfolding round_trials Every
    round_valid t [] = tt
    round_valid t (task ∷ tasks) =
        every_append (Valid day rounds) (task_trials day number t task) (round_trials day number (suc t) tasks) (task_valid t task) (round_valid (suc t) tasks)

  tips_valid : (from : ℕ) (others : List Round) → from + length others ≡ length rounds → Every (Valid day rounds) (tip_trials day from others)
  unfolding tip_trials Every
  tips_valid from [] e = tt
  tips_valid from (tasks ∷ others) e =
      every_append (Valid day rounds) (round_trials day (suc from) 0 tasks) (tip_trials day (suc from) others)
      (round_valid (suc from) (omega arith) (omega arith) 0 tasks) (tips_valid (suc from) others (omega arith))

  pub listed_all : (K : ℕ) → Every (Valid day rounds) (trial_list day K rounds)
  unfolding trial_list
  listed_all K =
      every_append (Valid day rounds) (stop_trials day K rounds) (tip_trials day 0 rounds) (stops_valid K) (tips_valid 0 rounds (omega arith))
