-- The plans that trials work on: they serve the greedy plan's stops, each once, by as many busy vehicles with room. Which vehicle a stop is
-- on, and what a trial that may be made names. The day may be any list of words.
-- Assumes nothing.
use Prim.Native.Nat.{ℕ, zero, suc, ◌+◌, ◌*◌, ◌≤◌, ◌<◌}
use mathlib.Core.Path.{◌≡◌, refl, subst}
use mathlib.Core.Bool.{true, false, true≢false, false≢true}
use mathlib.Core.List.{List, [], ◌∷◌, ◌++◌}
use mathlib.Core.Logic.{◌⊎◌, inl, inr}
use native.Mathlib.Omega.{arith}
use lib.Dec.{eqb}
use lib.ListN.{length, get_or}
use borrow.Author.Tests.{eq-eqb, ne_eqb}
use Rattle.rules.specs.Lists.{mem, times}
use Rattle.rules.specs.Fields.{stops, IsAccepted}
use Rattle.rules.specs.Plan.{Round, stops_on, stops_on_all, plan_words, Formed}
use Rattle.rules.specs.Build.{greedy_rounds, greedy_lefts}
use Rattle.rules.specs.TrialList.{vehicle_from}
use Rattle.laws.proofs.Decided.{known}
use Rattle.laws.proofs.Lists.{times_append}
use Rattle.day.proofs.Ranges.{accepted_ranges}
use Rattle.plan_laws.proofs.Theorems.{busy_rounds}
use Rattle.greedy_laws.proofs.GreedyForm.{greedy_known, greedy_busy, greedy_rising, greedy_once, greedy_others, greedy_named}
use Rattle.greedy_laws.proofs.GreedyRoom.{rounds_words_lem, plan_length, greedy_rooms}
use Rattle.trial_list.specs.Shapes.{Shaped, EachFrom, StandsOn}

pub greedy_shaped : (day : List ℕ) → Shaped day (greedy_rounds day)
greedy_shaped day =
    record { known = greedy_known day; rooms = greedy_rooms day; busy = greedy_busy day; once = λ k. refl; count = refl; vehicles = refl }

module _ (day : List ℕ) (rounds : List Round) (s : Shaped day rounds) where
  -- 5n words are enough
  pub shaped_length : length (plan_words rounds (greedy_lefts day)) ≤ 5 * stops day
  shaped_length = omega (arith, plan_length rounds (greedy_lefts day), rounds_words_lem 0 rounds s.rooms s.busy, greedy_named day, s.count)

  pub shaped_stops : length (stops_on_all rounds) ≤ stops day
  shaped_stops = omega (arith, greedy_named day, s.count)

  -- no more vehicles than stops
  pub shaped_few : length rounds ≤ stops day
  shaped_few = omega (arith, busy_rounds rounds s.busy, shaped_stops)

  -- no stop stands twice
  pub shaped_once : (k : ℕ) → 1 ≤ k → k ≤ stops day → times k (stops_on_all rounds) ≤ 1
  shaped_once k a b = omega (arith, greedy_once day k a b, times_append k (stops_on_all (greedy_rounds day)) (greedy_lefts day), s.once k)

  -- on an accepted day, a plan of the form
  pub shaped_formed : IsAccepted day → Formed day (plan_words rounds (greedy_lefts day)) rounds (greedy_lefts day)
  shaped_formed a =
      record {
        short = omega (arith, shaped_length, (accepted_ranges day a).stops_most);
        text = refl;
        known = s.known;
        busy = s.busy;
        rising = greedy_rising day;
        once = λ k l m. omega (
          arith,
          greedy_once day k l m,
          s.once k,
          times_append k (stops_on_all rounds) (greedy_lefts day),
          times_append k (stops_on_all (greedy_rounds day)) (greedy_lefts day),
        );
        others = greedy_others day;
      }

-- what holds of each vehicle holds of one, and of those in front
pub each_vehicle : (P : ℕ → Round → Type 0) (from : ℕ) (rounds : List Round) (v n : ℕ) → v < length rounds → n ≡ from + v + 1
    → EachFrom P from rounds → P n (get_or rounds v [])
unfolding EachFrom
each_vehicle P from [] v n l e h = absurd (omega arith)
each_vehicle P from (tasks ∷ rounds) zero n l e h = subst (λ (k : ℕ). P k tasks) (omega arith) h.0
each_vehicle P from (tasks ∷ rounds) (suc v) n l e h = each_vehicle P (suc from) rounds v n (omega arith) (omega arith) h.1

pub each_front : (P : ℕ → Round → Type 0) (from : ℕ) (front rest : List Round) → EachFrom P from (front ++ rest) → EachFrom P from front
unfolding EachFrom
each_front P from [] rest h = tt
each_front P from (tasks ∷ front) rest h = (h.0, each_front P (suc from) front rest h.1)

-- standing in a list, and how often
pub mem_times : (k : ℕ) (ks : List ℕ) → mem k ks ≡ true → 1 ≤ times k ks
unfolding mem times
mem_times k [] e = absurd (false≢true e)
mem_times k (x ∷ ks) e = elim (known (eqb k x)) [ inl a ↦ rw a (omega arith) | inr a ↦ rw a (omega (arith, mem_times k ks (rw a at e))) ]

pub not_mem_times : (k : ℕ) (ks : List ℕ) → mem k ks ≡ false → times k ks ≡ 0
unfolding mem times
not_mem_times k [] e = refl
not_mem_times k (x ∷ ks) e = elim (known (eqb k x)) [
  | inl a ↦ absurd (true≢false (rw a at e))
  | inr a ↦ rw a (omega (arith, not_mem_times k ks (rw a at e)))
]

times_all_front : (k : ℕ) (tasks : Round) (rounds : List Round) → times k (stops_on_all (tasks ∷ rounds)) ≡ times k (stops_on tasks) + times k (stops_on_all rounds)
unfolding stops_on_all
times_all_front k tasks rounds = times_append k (stops_on tasks) (stops_on_all rounds)

-- a stop on no vehicle
stands_none : (k number from : ℕ) (rounds : List Round) → number ≤ from → times k (stops_on_all rounds) ≡ 0 → EachFrom (StandsOn k number) from rounds
unfolding EachFrom StandsOn
stands_none k number from [] h z = tt
stands_none k number from (tasks ∷ rounds) h z = (
  rw (ne_eqb (suc from) number (λ e. omega arith)) (omega (arith, times_all_front k tasks rounds)),
  stands_none k number (suc from) rounds (omega arith) (omega (arith, times_all_front k tasks rounds)),
)

-- the number of the vehicle that a stop is on
pub record Found (k from number : ℕ) (rounds : List Round) : Type 0 where
  pub above : from < number
  pub within : number ≤ from + length rounds
  pub named : 1 ≤ times k (stops_on_all rounds)
  pub stands : times k (stops_on_all rounds) ≤ 1 → EachFrom (StandsOn k number) from rounds

pub vehicle_found : (from k : ℕ) (rounds : List Round) → (vehicle_from from k rounds ≡ 0) ⊎ Found k from (vehicle_from from k rounds) rounds
unfolding vehicle_from EachFrom StandsOn
vehicle_found from k [] = inl refl
vehicle_found from k (tasks ∷ rounds) = elim (known (mem k (stops_on tasks))) [
  | inl a ↦ rw a (inr (record {
    above = omega arith;
    within = omega arith;
    named = omega (arith, times_all_front k tasks rounds, mem_times k (stops_on tasks) a);
    stands = λ l. (
      rw (eq-eqb (suc from) (suc from) refl) (omega (arith, times_all_front k tasks rounds, mem_times k (stops_on tasks) a)),
      stands_none k (suc from) (suc from) rounds (omega arith) (omega (arith, times_all_front k tasks rounds, mem_times k (stops_on tasks) a)),
    );
  }))
  | inr a ↦ rw a (elim (vehicle_found (suc from) k rounds) [
    | inl z ↦ inl z
    | inr f ↦ inr (record {
      above = omega (arith, f.above);
      within = omega (arith, f.within);
      named = omega (arith, f.named, times_all_front k tasks rounds);
      stands = λ l. (
        rw (ne_eqb (suc from) (vehicle_from (suc from) k rounds) (λ e. omega (arith, f.above))) (not_mem_times k (stops_on tasks) a),
        f.stands (omega (arith, times_all_front k tasks rounds)),
      );
    })
  ])
]
