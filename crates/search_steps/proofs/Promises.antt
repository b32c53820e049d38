-- What is promised of planning with trials holds on every accepted day, for any list of K. Assumes nothing.
use Prim.Native.Nat.{ℕ, ◌+◌, ◌*◌, ◌≤◌, ◌<◌}
use mathlib.Core.Path.{◌≡◌, ap}
use mathlib.Core.Bool.{true}
use mathlib.Core.List.{List, [], ◌∷◌, Memᴰ}
use mathlib.Core.Option.{Option, some}
use native.Mathlib.Nat.{mul_assoc}
use native.Mathlib.Omega.{arith}
use lib.ListN.{length}
use Rattle.rules.specs.Answers.{is_given}
use Rattle.rules.specs.Lists.{Every, total}
use Rattle.rules.specs.Fields.{stops, tips, IsAccepted}
use Rattle.rules.specs.Plan.{Round}
use Rattle.rules.specs.Check.{check_plan}
use Rattle.rules.specs.Build.{greedy_rounds, greedy_lefts, greedy_plan}
use Rattle.rules.specs.Edits.{Trial}
use Rattle.rules.specs.TrialList.{trial_list}
use Rattle.rules.specs.Attempts.{distance_of, is_lawful, attempt}
use Rattle.rules.specs.Search.{in_turn, trial_lists, searched}
use Rattle.laws.proofs.Fresh.{every_mem, every_append}
use Rattle.greedy_laws.proofs.GreedyLawful.{greedy_answer}
use Rattle.greedy_laws.proofs.LeftOut.{left_out_justified}
use Rattle.trial_list.proofs.ListLength.{trials_bound}
use Rattle.trial_list.proofs.Listed.{listed_all}
use Rattle.trial_list.specs.Shapes.{Shaped, Valid}
use Rattle.trial_list.proofs.Shapes.{greedy_shaped, shaped_length, shaped_formed}
use Rattle.plan_laws.proofs.Theorems.{told_lawful, told_totals, formed_only}
use Rattle.candidates.proofs.ShapeKept.{valid_shaped}
use Rattle.search_laws.specs.Promised.{Promised}
use Rattle.search_laws.proofs.KeptTrials.{attempt_kept}
use Rattle.search_laws.proofs.Searching.{outcome, settled_iff, result_keeps, improve_dist, more_budget, settles, in_turn_bound}

-- each trial of each K may be made
lists_valid : (day Ks : List ℕ) (rounds : List Round) → Shaped day rounds → Every (Valid day rounds) (in_turn (trial_lists day Ks rounds))
unfolding in_turn Every
lists_valid day [] rounds s = tt
lists_valid day (K ∷ Ks) rounds s =
    every_append (Valid day rounds) (trial_list day K rounds) (in_turn (trial_lists day Ks rounds)) (listed_all day rounds s K) (lists_valid day Ks rounds s)

-- what every plan that is held is: in shape and lawful
pub record Sound (day : List ℕ) (rounds : List Round) : Type 0 where
  pub shaped : Shaped day rounds
  pub lawful : is_lawful day (greedy_lefts day) rounds ≡ true

module _ (day : List ℕ) (a : IsAccepted day) where
  pub greedy_sound : Sound day (greedy_rounds day)
  unfolding greedy_plan is_lawful check_plan
  greedy_sound =
      let answer = rw a at (greedy_answer day a) in
      record { shaped = greedy_shaped day; lawful = ap is_given answer }

abbrev attempted : List ℕ → List Round → Trial → Option (List Round)
attempted day = attempt day (greedy_lefts day)

shortens : (day : List ℕ) (p q : List Round) (m : Trial) → attempted day p m ≡ some q → distance_of day q < distance_of day p
shortens day p q m e = (attempt_kept day (greedy_lefts day) p m q e).shorter

-- a search from the greedy plan, with these K
module _ (day Ks : List ℕ) where
  abbrev lists : List Round → List (List Trial)
  lists = trial_lists day Ks

  keeps : (p q : List Round) (m : Trial) → Memᴰ m (in_turn (lists p)) → Sound day p → attempted day p m ≡ some q → Sound day q
  keeps p q m i s e =
      let k = attempt_kept day (greedy_lefts day) p m q e in
      let valid = every_mem (Valid day p) (in_turn (lists p)) m (lists_valid day Ks p s.shaped) i in
      record { shaped = valid_shaped day p q m s.shaped valid k.given; lawful = k.lawful }

  most : ℕ
  most = stops day * total (λ K. 2 * K + tips day) Ks

  bound : (p : List Round) → Sound day p → length (in_turn (lists p)) ≤ most
  unfolding most
  bound p s = in_turn_bound (trial_list day) (stops day) (λ K. 2 * K + tips day) p (λ K. trials_bound day K p s.shaped) Ks

  module _ (budget : ℕ) (a : IsAccepted day) where
    -- the plan that is handed over is sound
    planned_sound : Sound day (searched day Ks budget).plan
    unfolding searched
    planned_sound = result_keeps lists (attempted day) (Sound day) keeps budget (greedy_rounds day) (greedy_sound day a)

    -- (D + 1) × n × (2K + d) trials settle, D being the greedy plan's distance; with several K these are added up
    enough : (distance_of day (greedy_rounds day) + 1) * stops day * total (λ K. 2 * K + tips day) Ks ≤ budget → (searched day Ks budget).settled ≡ true
    unfolding searched most
    enough h =
        settles lists (attempted day) (distance_of day) (shortens day) (Sound day) keeps most bound budget (greedy_rounds day) (greedy_sound day a)
        (omega (arith, h, mul_assoc (distance_of day (greedy_rounds day) + 1) (stops day) (total (λ K. 2 * K + tips day) Ks)))

    pub promised : Promised day Ks budget
    unfolding searched is_lawful planned_sound
    promised =
        let s = planned_sound in
        let o = outcome lists (attempted day) budget (greedy_rounds day) in
        let plan = (searched day Ks budget).plan in
        let form = shaped_formed day plan s.shaped a in
        let told = told_lawful day a plan (greedy_lefts day) form s.lawful in
        let same = formed_only day _ told.rounds plan told.lefts (greedy_lefts day) told.formed form in
        record {
          lawful = told;
          rounds = same.0;
          lefts = same.1;
          answered = told_totals day a plan (greedy_lefts day) form s.lawful;
          fits = shaped_length day plan s.shaped;
          served = s.shaped.once;
          left_out = left_out_justified day;
          no_longer = improve_dist lists (attempted day) (distance_of day) (shortens day) budget (greedy_rounds day);
          at = o.at;
          held = o.held;
          since = o.since;
          within = o.within;
          spent = o.spent;
          missed = o.missed;
          whole = o.whole;
          settled_when = settled_iff lists (attempted day) budget (greedy_rounds day) _ o;
          settles = enough;
        }

  -- a larger budget never lengthens the plan
  pub larger_budget : (budget larger : ℕ) → budget ≤ larger → distance_of day (searched day Ks larger).plan ≤ distance_of day (searched day Ks budget).plan
  unfolding searched
  larger_budget budget larger = more_budget lists (attempted day) (distance_of day) (shortens day) budget larger (greedy_rounds day)
