-- Laws of the walk over a plan: what is left to check, from the state and the stops met so far, is answered as the whole plan is.
-- Assumes nothing.
use Rattle.std.specs.Prelude.{Result, Ok, Err, if◌then◌else◌}
use Prim.Native.Nat.{ℕ, ◌+◌, ◌<◌, ◌≤◌}
use mathlib.Core.Path.{◌≡◌, refl, sym, ap, ◌∙◌}
use mathlib.Core.Bool.{Bool, true, false, not}
use mathlib.Core.List.{List, [], ◌∷◌}
use native.Mathlib.Decide.{ℕ_discrete, dec_lt}
use native.Mathlib.Numerals.{add-one}
use native.Mathlib.Omega.{arith}
use lib.Dec.{eqb, ltb}
use lib.ListN.{length, get_or, set, drop, length-set, length-replicate, get_or-replicate, drop_of_length-le}
use lib.Seq.{drop-cons, get_or-set_same, get_or-set_other}
use borrow.Author.Tests.{ne_eqb, lt-ltb, le-ltb}
use Rattle.rules.specs.Answers.{refused}
use Rattle.rules.specs.Faults.{plan_fault_number}
use Rattle.rules.specs.declared.faults.PlanFault.{PlanFault}
use Rattle.rules.specs.declared.faults.PlanFault.TheVariants as Faults
use Rattle.rules.specs.Lists.{mem, unmet}
use Rattle.rules.specs.Fields.{stops}
use Rattle.rules.specs.PlanWords.{Word, vehicle, stop, tip, rest, back, left, stray, word_of}
use Rattle.rules.specs.Check.{well_formed, met_again, met_after, tally_after, Walk, start, fault_at, walk_after, finished, check_from}
use Rattle.rules.specs.declared.walk.Trip.{Trip}
use Rattle.laws.proofs.Lists.{mem_same, mem_other, unmet_nil, unmet_less}
use Rattle.word_steps.specs.Steps.{is_met, stop_in, is_met_in, formed_fault, fault_by, Next, StepOf, Within}
use Rattle.trips.specs.Trips.{TallyWithin}
use Rattle.word_steps.specs.declared.steps.State.{State}
use Rattle.word_steps.specs.declared.steps.Step.{Step}
use Rattle.word_steps.proofs.Naming.{stop_known, left_known, step_below}
use Rattle.plan_laws.proofs.Passing.{Passes, fault_passes}
use Rattle.plan_parts.specs.Walked.{none_met, walk_of, end_of, met_by, Reached}
use Rattle.plan_parts.proofs.Bounds.{within_step, within_start, within_more}

-- no fault has number 0
fault_some : (f : PlanFault) → plan_fault_number f ≡ 0 → ⊥
fault_some Faults.Form e = omega arith
fault_some Faults.Stop e = omega arith
fault_some Faults.Limit e = omega arith
fault_some Faults.Load e = omega arith
fault_some Faults.Late e = omega arith
fault_some Faults.Rest e = omega arith

-- marks and list agree on every stop's number
module _ (flags : List Bool) (met : List ℕ) (marks : (k : ℕ) → 0 < k → k < 256 → is_met flags k ≡ mem k met) where
  same_again : (day : List ℕ) (s : State) (w : Word) → well_formed day s.tally s.cargo w ≡ true → is_met_in flags w ≡ met_again met w
  unfolding is_met_in met_again
  same_again day s (vehicle k) f = refl
  same_again day s (stop k) f = let known = stop_known day s k f in marks k known.0 (omega (arith, known.1))
  same_again day s (tip k) f = refl
  same_again day s rest f = refl
  same_again day s back f = refl
  same_again day s (left k) f = let known = left_known day s k f in marks k known.0 (omega (arith, known.1))
  same_again day s stray f = refl

  -- the fault by the marks is the fault by the list
  same_fault : (day : List ℕ) (s : State) (w : Word) → fault_by day flags s w ≡ fault_at day (walk_of s met) w
  unfolding fault_by formed_fault fault_at
  same_fault day s w = go (well_formed day s.tally s.cargo w) (same_again day s w)
    where
      go : (f : Bool) → (f ≡ true → is_met_in flags w ≡ met_again met w)
          → ◌≡◌ {A = ℕ} (if not f then 7 else if is_met_in flags w then 8 else formed_fault day s w) (if not f then 7 else if met_again met w then 8 else formed_fault day s w)
      go true same = rw (same refl)
      go false same = refl

  -- one more stop is met; a word that names none marks number 0
  mark_stop : length flags ≡ 256 → (k j : ℕ) → 0 < j → j < 256 → is_met (set flags k true) j ≡ mem j (k ∷ met)
  mark_stop long k j h g = go (ℕ_discrete j k)
    where
      go : Dec (j ≡ k) → is_met (set flags k true) j ≡ mem j (k ∷ met)
      go (yes q) = rw (q, get_or-set_same flags k true false (omega arith)) (sym (mem_same k k met refl))
      go (no q) = rw (get_or-set_other flags k j true false q) (marks j h g ∙ sym (mem_other k j met q))

  mark_none : (j : ℕ) → 0 < j → j < 256 → is_met (set flags 0 true) j ≡ mem j met
  mark_none j h g = rw (get_or-set_other flags 0 j true false (λ q. omega arith)) (marks j h g)

  mark_word : length flags ≡ 256 → (w : Word) → (j : ℕ) → 0 < j → j < 256 → is_met (set flags (stop_in w) true) j ≡ mem j (met_after met w)
  unfolding stop_in met_after
  mark_word long (vehicle k) = mark_none
  mark_word long (stop k) = mark_stop long k
  mark_word long (tip k) = mark_none
  mark_word long rest = mark_none
  mark_word long back = mark_none
  mark_word long (left k) = mark_stop long k
  mark_word long stray = mark_none

-- each stop that is met counts as served or left out
count_word : (day : List ℕ) (s : State) (met : List ℕ) (w : Word) (t : Trip) → Passes day (walk_of s met) w
    → unmet (stops day) met + (s.tally.served + s.tally.left) ≡ stops day
    → unmet (stops day) (met_after met w) + ((tally_after s.tally t w).served + (tally_after s.tally t w).left) ≡ stops day
unfolding met_after tally_after met_again
count_word day s met (vehicle k) t p c = c
count_word day s met (stop k) t p c =
    let known = stop_known day s k p.formed in
    omega (arith, unmet_less (stops day) k met known.0 known.1 p.new)
count_word day s met (tip k) t p c = c
count_word day s met rest t p c = c
count_word day s met back t p c = c
count_word day s met (left k) t p c =
    let known = left_known day s k p.formed in
    omega (arith, unmet_less (stops day) k met known.0 known.1 p.new)
count_word day s met stray t p c = c

-- one word: what is left to check is decided by the fault
module _ (day plan : List ℕ) (i : ℕ) (s : State) (flags : List Bool) (so_far : Reached day plan i s flags) (here : i < length plan) where
  abbrev word_here : Word
  word_here = word_of (get_or plan i 0)

  turn : (if eqb (fault_by day flags s word_here) 0 then check_from day (drop (i + 1) plan) (i + 1) (walk_after day (walk_of s (met_by plan i)) word_here)
      else refused (fault_by day flags s word_here) i) ≡ check_from day plan 0 (start day)
  unfolding check_from
  turn = rw (same_fault flags (met_by plan i) so_far.marks day s word_here, add-one) (sym (rw (drop-cons plan i 0)) ∙ so_far.remains)

  abbrev StepsTo : Result Step PlanFault → Type 0
  StepsTo r = StepOf (fault_by day flags s word_here) day s word_here r

  pub reached_fault : {f : PlanFault} → StepsTo (Err f) → refused (plan_fault_number f) i ≡ check_from day plan 0 (start day)
  reached_fault {f} step = rw (← step.fault_is, ne_eqb _ _ (fault_some f)) at turn

  module _ {r : Step} (step : StepsTo (Ok r)) where
    no_fault : fault_by day flags s word_here ≡ 0
    no_fault = sym step.fault_is

    next : Next day s word_here r
    next = step.next_is

    passed : Passes day (walk_of s (met_by plan i)) word_here
    passed = fault_passes day _ word_here (sym (same_fault flags (met_by plan i) so_far.marks day s word_here) ∙ no_fault)

    pub reached_passed : Next day s word_here r × Passes day (walk_of s (met_by plan i)) word_here
    reached_passed = (next, passed)

    -- the number of the stop that the word names has a mark
    pub stop_below : r.stop < 256
    stop_below = step_below day flags s word_here step

    -- behind the word, where marks tell the stops met
    reached_by : {after : List Bool} → length after ≡ 256 → ((k : ℕ) → 0 < k → k < 256 → is_met after k ≡ mem k (met_after (met_by plan i) word_here))
        → Reached day plan (i + 1) r.state after
    unfolding met_by
    reached_by long marks =
        record {
          remains = rw (next.tally_is, next.cargo_is, next.trip_is, add-one) (rw (no_fault, add-one) at turn);
          within = within_step day i s so_far.within (met_by plan i) word_here r passed next;
          long = long;
          marks = rw add-one marks;
          count = rw (next.tally_is, add-one) (count_word day s (met_by plan i) word_here _ passed so_far.count);
        }

    pub reached_next : {after : List Bool} → after ≡ set flags r.stop true → Reached day plan (i + 1) r.state after
    reached_next m =
        reached_by (rw m (length-set flags r.stop true ∙ so_far.long))
        (rw (m, next.stop_is) (mark_word flags (met_by plan i) so_far.marks so_far.long word_here))

    -- a vehicle's word marks nothing
    pub reached_vehicle : (k : ℕ) → word_here ≡ vehicle k → Reached day plan (i + 1) r.state flags
    unfolding met_after
    reached_vehicle k word = reached_by so_far.long (rw word so_far.marks)

-- before the first word
pub reached_start : (day plan : List ℕ) (s : State) (flags : List Bool) → walk_of s [] ≡ start day → flags ≡ none_met → Reached day plan 0 s flags
unfolding met_by none_met mem
reached_start day plan s flags e b =
    record {
      remains = ap (check_from day plan 0) e;
      within =
          within_start day s (ap (λ (x : Walk). x.tally) e) (ap (λ (x : Walk). x.cargo) e) (ap (λ (x : Walk). x.trip) e);
      long = rw b (length-replicate 256 false);
      marks = λ k h g. rw (b, get_or-replicate 256 k false false g);
      count = rw (ap (λ (x : Walk). x.tally) e) (omega (arith, unmet_nil (stops day)));
    }

-- at most 4,096 words are behind
module _ (day plan : List ℕ) (i : ℕ) (s : State) (flags : List Bool) (so_far : Reached day plan i s flags) (short : length plan ≤ 4096) where
  pub reached_small : i < length plan → Within day 4096 s
  reached_small h = within_more day i 4096 s (omega arith) so_far.within

  pub reached_tally : i ≤ length plan → TallyWithin 4096 s.tally
  reached_tally h = (within_more day i 4096 s (omega arith) so_far.within).tally_small

-- at the plan's end: a stop is missing where fewer are served or left out than there are
missing : (u x n : ℕ) → u + x ≡ n → ltb 0 u ≡ ltb x n
missing u x n e = go (dec_lt 0 u)
  where
    go : Dec (0 < u) → ltb 0 u ≡ ltb x n
    go (yes h) = lt-ltb 0 u h ∙ sym (lt-ltb x n (omega arith))
    go (no h) = le-ltb 0 u (omega arith) ∙ sym (le-ltb x n (omega arith))

pub reached_end : (day plan : List ℕ) (i : ℕ) (s : State) (flags : List Bool) (n : ℕ) (answer : List ℕ) → Reached day plan i s flags → length plan ≤ i
    → n ≡ stops day → answer ≡ end_of n i s.tally → answer ≡ check_from day plan 0 (start day)
unfolding check_from finished end_of
reached_end day plan i s flags n answer so_far h l e =
    e
    ∙ rw (l, ← missing _ _ _ so_far.count) (rw (drop_of_length-le plan h) at so_far.remains)
