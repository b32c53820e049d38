-- What demand 3 says of one call that plans with trials: on every accepted day, any list of K, any budget and buffers long enough, whatever
-- they held. Assumes nothing.
use Prim.Native.Nat.{ℕ, ◌+◌, ◌-◌, ◌*◌, ◌≤◌, ◌<◌}
use mathlib.Core.Path.{◌≡◌, refl, ap, subst, ◌∙◌}
use mathlib.Core.Bool.{true, false}
use mathlib.Core.List.{List, [], ◌∷◌, ◌++◌, append_assoc}
use native.Mathlib.Omega.{arith}
use lib.ListN.{length, take, drop, replicate, length-append, length-replicate}
use lib.Seq.{take_at}
use borrow.Author.Tests.{le-leb}
use Rattle.rules.specs.Answers.{given}
use Rattle.rules.specs.Lists.{over, Every}
use Rattle.rules.specs.Fields.{stops, IsAccepted}
use Rattle.rules.specs.Plan.{Round, plan_words}
use Rattle.rules.specs.Lawful.{Loads, Timed, Lawful}
use Rattle.rules.specs.Build.{greedy_lefts}
use Rattle.rules.specs.Attempts.{distance_of}
use Rattle.rules.specs.Search.{in_turn, trial_lists, searched, growing_sets}
use Rattle.rules.specs.Planned.{planned, few_neighbours, long_enough, result_values, search_answer, search_buffer}
use Rattle.rules.specs.Planned.{plan_answer, plan_buffer, growing_answer, growing_buffer}
use Rattle.rules.specs.Demands.{PlannedBy}
use Rattle.laws.proofs.Buffer.{length_over}
use Rattle.search_laws.proofs.NoneShorter.{none_shorter}
use Rattle.search_steps.proofs.Promises.{promised}

long_true : (day : List ℕ) (room spare : ℕ) → 5 * stops day ≤ room → 5 * stops day ≤ spare → long_enough day room spare ≡ true
unfolding long_enough
long_true day room spare l m = rw (le-leb (5 * stops day) room l, le-leb (5 * stops day) spare m) refl

-- the plan stands at the front of its buffer
planned_front : (day words plan : List ℕ) → take (length words) (planned day words plan) ≡ words
unfolding planned over
planned_front day words plan =
    let zeros : List ℕ = replicate (5 * stops day - length words) 0 in
    let rest = drop (length (words ++ zeros)) plan in
    ap (take (length words)) (append_assoc words zeros rest) ∙ take_at words (zeros ++ rest) (length words) refl

planned_length : (day words plan : List ℕ) → length words ≤ 5 * stops day → 5 * stops day ≤ length plan → length (planned day words plan) ≡ length plan
unfolding planned
planned_length day words plan l m =
    let zeros : List ℕ = replicate (5 * stops day - length words) 0 in
    length_over (words ++ zeros) plan (omega (arith, length-append words zeros, length-replicate {A = ℕ} (5 * stops day - length words) 0))

-- words that are those of a lawful plan, by its vehicles and its stops left out
lawful_as : {day words plan : List ℕ} {rounds : List Round} {lefts : List ℕ} (l : Lawful day plan) → l.rounds ≡ rounds → l.lefts ≡ lefts → words ≡ plan → Lawful day words
lawful_as {day} {words} {rounds = rounds} {lefts = lefts} l r f e =
    record {
      rounds = rounds;
      lefts = lefts;
      formed = rw (e, ← r, ← f) l.formed;
      loads = subst (Every (Loads day)) r l.loads;
      timed = subst (Every (Timed day)) r l.timed;
    }

-- what a call answers and leaves: the day, the K and the budget, and how long the lent buffers are
module _ (day Ks : List ℕ) (ok : IsAccepted day) (budget : ℕ) (plan : List ℕ) (spare : ℕ) (p : 5 * stops day ≤ length plan) (q : 5 * stops day ≤ spare)
    {answer buffer : List ℕ} (a : answer ≡ search_answer day Ks budget (length plan) spare) (b : buffer ≡ search_buffer day Ks budget spare plan) where
  answer_is : answer ≡ given (result_values day (searched day Ks budget))
  unfolding search_answer
  answer_is = a ∙ rw (long_true day (length plan) spare p q) refl

  buffer_is : buffer ≡ planned day (plan_words (searched day Ks budget).plan (greedy_lefts day)) plan
  unfolding search_buffer
  buffer_is = b ∙ rw (long_true day (length plan) spare p q) refl

  abbrev words : List ℕ
  words = plan_words (searched day Ks budget).plan (greedy_lefts day)

  front_is : take (length words) buffer ≡ words
  front_is = ap (take (length words)) buffer_is ∙ planned_front day words plan

  -- what demand 3 says of them
  pub planned_by : PlannedBy day Ks budget answer buffer
  unfolding result_values lawful_as
  planned_by =
      let r = searched day Ks budget in
      let facts = promised day Ks budget ok in
      let none = none_shorter day (greedy_lefts day) ok Ks r.plan in
      record {
        distance = distance_of day r.plan;
        trials = r.trials;
        settled = r.settled;
        words = length words;
        lawful = lawful_as facts.lawful facts.rounds facts.lefts front_is;
        inside = omega (arith, ap length buffer_is, planned_length day words plan facts.fits p, facts.fits);
        answered = answer_is;
        exactly = front_is;
        rounds = refl;
        left_out = facts.left_out;
        drives = refl;
        no_longer = facts.no_longer;
        counted = refl;
        within = facts.within;
        before = facts.at;
        held = facts.held;
        settled_when = (λ s. let h = facts.settled_when.0 s in (h.0, none.0 h.1), λ h. facts.settled_when.1 (h.0, none.1 h.1));
        whole = facts.whole;
        spent = facts.spent;
        settles = facts.settles;
      }

  -- it leaves out the stops that the greedy plan leaves out
  pub planned_lefts : planned_by.lawful.lefts ≡ greedy_lefts day
  unfolding planned_by lawful_as
  planned_lefts = refl

  -- not settled, a trial listed for it was not made
  pub planned_missed : planned_by.settled ≡ false
      → planned_by.trials < planned_by.before + length (in_turn (trial_lists day Ks planned_by.lawful.rounds))
  unfolding planned_by lawful_as
  planned_missed = (promised day Ks budget ok).missed

-- of the call with one K from 1 to 50, and of that with growing neighbour sets
few_true : (K : ℕ) → 1 ≤ K → K ≤ 50 → few_neighbours K ≡ true
unfolding few_neighbours
few_true K l m = rw (le-leb 1 K l, le-leb K 50 m) refl

module _ (day : List ℕ) (ok : IsAccepted day) (K budget : ℕ) (l : 1 ≤ K) (m : K ≤ 50) (plan : List ℕ) (spare : ℕ) where
  pub plan_is : plan_answer day K budget (length plan) spare ≡ search_answer day (K ∷ []) budget (length plan) spare
  unfolding plan_answer
  plan_is = rw (ok, few_true K l m) refl

  pub plan_leaves : plan_buffer day K budget spare plan ≡ search_buffer day (K ∷ []) budget spare plan
  unfolding plan_buffer
  plan_leaves = rw (ok, few_true K l m) refl

module _ (day : List ℕ) (ok : IsAccepted day) (budget : ℕ) (plan : List ℕ) (spare : ℕ) where
  pub growing_is : growing_answer day budget (length plan) spare ≡ search_answer day growing_sets budget (length plan) spare
  unfolding growing_answer
  growing_is = rw ok refl

  pub growing_leaves : growing_buffer day budget spare plan ≡ search_buffer day growing_sets budget spare plan
  unfolding growing_buffer
  growing_leaves = rw ok refl
