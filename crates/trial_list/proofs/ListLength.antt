-- How long a trial list is: at most 2K trials for each stop and one for each tip of the day for each stop served. The day may be any list
-- of words.
-- Assumes nothing.
use Prim.Native.Nat.{ℕ, zero, suc, ◌+◌, ◌*◌, ◌≤◌, ◌<◌}
use mathlib.Core.Path.{◌≡◌, refl}
use mathlib.Core.Bool.{◌||◌}
use mathlib.Core.List.{List, [], ◌∷◌}
use mathlib.Core.Logic.{inl, inr}
use native.Mathlib.Nat.{mul-le-mul_right, eq-or-lt_of_le}
use native.Mathlib.Omega.{arith}
use lib.Dec.{eqb}
use lib.ListN.{length, length-append}
use borrow.Author.Tests.{eq-eqb}
use Rattle.rules.specs.Lists.{Every, total}
use Rattle.rules.specs.Fields.{stops, tips}
use Rattle.rules.specs.Plan.{serve, empty, lunch, Round, Known}
use Rattle.rules.specs.Neighbours.{neighbours}
use Rattle.rules.specs.TrialList.{each, rising, vehicle_of, pair_trials, stop_trials, other_tip, task_trials, round_trials, tip_trials, trial_list}
use Rattle.neighbours.proofs.NeighbourLaws.{neighbours_are}
use Rattle.laws.proofs.Decided.{known}
use Rattle.greedy_laws.specs.Rooms.{empties_in}
use Rattle.greedy_laws.proofs.GreedyRoom.{rounds_tips}
use Rattle.trial_list.specs.Shapes.{Shaped}
use Rattle.trial_list.proofs.Shapes.{shaped_stops}

-- lists of at most so many each
each_length : {A M : Type 0} (f : A → List M) (most : ℕ) → ((x : A) → length (f x) ≤ most) → (xs : List A) → length (each f xs) ≤ length xs * most
unfolding each
each_length f most h [] = omega arith
each_length f most h (x ∷ xs) = omega (arith, h x, each_length f most h xs, length-append (f x) (each f xs))

rising_length : {M : Type 0} (f : ℕ → List M) (most : ℕ) → ((x : ℕ) → length (f x) ≤ most) → (k r : ℕ) → length (rising f k r) ≤ r * most
unfolding rising
rising_length f most h k zero = omega arith
rising_length f most h k (suc r) = omega (arith, h k, rising_length f most h (suc k) r, length-append (f k) (rising f (suc k) r))

pair_length : (rounds : List Round) (i j : ℕ) → length (pair_trials rounds i j) ≤ 2
unfolding pair_trials
pair_length rounds i j = elim (known (eqb (vehicle_of rounds i) 0 || eqb (vehicle_of rounds j) 0)) [
  | inl a ↦ rw a (omega arith)
  | inr a ↦ elim (known (eqb (vehicle_of rounds i) (vehicle_of rounds j))) [ inl b ↦ rw (a, b) (omega arith) | inr b ↦ rw (a, b) (omega arith) ]
]

-- for each stop, two for each of K neighbours
stops_length : (day : List ℕ) (K : ℕ) (rounds : List Round) → length (stop_trials day K rounds) ≤ stops day * (2 * K)
unfolding stop_trials
stops_length day K rounds =
    rising_length (λ i. each (pair_trials rounds i) (neighbours day K i)) (2 * K)
    (λ i. omega (arith, each_length (pair_trials rounds i) 2 (pair_length rounds i) (neighbours day K i), (neighbours_are day K i).few)) 1 (stops day)

-- for each tip, one less than the day has, and its removal
other_most : (number t y x : ℕ) → length (other_tip number t y x) ≤ 1
unfolding other_tip
other_most number t y x = elim (known (eqb x y)) [ inl e ↦ rw e (omega arith) | inr e ↦ rw e (omega arith) ]

other_same : (number t y x : ℕ) → x ≡ y → length (other_tip number t y x) ≡ 0
unfolding other_tip
other_same number t y x e = rw (eq-eqb x y e) refl

others_most : (number t y k r : ℕ) → length (rising (other_tip number t y) k r) ≤ r
others_most number t y k r = omega (arith, rising_length (other_tip number t y) 1 (other_most number t y) k r)

others_less : (number t y k r : ℕ) → k ≤ y → y < k + r → length (rising (other_tip number t y) k r) < r
unfolding rising
others_less number t y k zero h g = absurd (omega arith)
others_less number t y k (suc r) h g = elim (eq-or-lt_of_le h) [
  | inl e ↦ omega (arith, others_most number t y (suc k) r, other_same number t y k e, length-append (other_tip number t y k) (rising (other_tip number t y) (suc k) r))
  | inr l ↦ omega (arith, others_less number t y (suc k) r l (omega arith), other_most number t y k, length-append (other_tip number t y k) (rising (other_tip number t y) (suc k) r))
]

module _ (day : List ℕ) where
  round_length : (number t : ℕ) (tasks : Round) → Every (Known day) tasks → length (round_trials day number t tasks) ≤ empties_in tasks * tips day
  unfolding round_trials task_trials empties_in Every Known
  round_length number t [] h = omega arith
  round_length number t (serve k ∷ tasks) h = round_length number (suc t) tasks h.1
  round_length number t (lunch ∷ tasks) h = round_length number (suc t) tasks h.1
  round_length number t (empty y ∷ tasks) h =
      omega (
        arith,
        others_less number t y 1 (tips day) h.0.0 (omega (arith, h.0.1)),
        round_length number (suc t) tasks h.1,
        length-append (rising (other_tip number t y) 1 (tips day)) (round_trials day number (suc t) tasks),
      )

  tips_length : (from : ℕ) (rounds : List Round) → Every (Every (Known day)) rounds → length (tip_trials day from rounds) ≤ total empties_in rounds * tips day
  unfolding tip_trials total Every
  tips_length from [] h = omega arith
  tips_length from (tasks ∷ rounds) h =
      omega (
        arith,
        round_length (suc from) 0 tasks h.0,
        tips_length (suc from) rounds h.1,
        length-append (round_trials day (suc from) 0 tasks) (tip_trials day (suc from) rounds),
      )

  pub trials_bound : (K : ℕ) (rounds : List Round) → Shaped day rounds → length (trial_list day K rounds) ≤ stops day * (2 * K + tips day)
  unfolding trial_list
  trials_bound K rounds s =
      let few : total empties_in rounds ≤ stops day = omega (arith, rounds_tips rounds s.rooms, shaped_stops day rounds s) in
      omega (
        arith,
        stops_length day K rounds,
        tips_length 0 rounds s.known,
        mul-le-mul_right (tips day) few,
        length-append (stop_trials day K rounds) (tip_trials day 0 rounds),
      )
