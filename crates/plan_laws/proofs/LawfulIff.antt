-- Demand 2: a plan is called lawful exactly when it has document 01's form, meets its loads and counts, and a timetable exists; its
-- distance, vehicles and stops served are document 01's. Assumes nothing.
use Rattle.std.specs.Prelude.{if◌then◌else◌}
use Prim.Native.Nat.{ℕ, suc, ◌+◌, ◌≤◌}
use mathlib.Core.Path.{◌≡◌, refl, sym, ap, ap₂, ◌∙◌}
use mathlib.Core.Bool.{Bool, true, false, false≢true}
use mathlib.Core.List.{List, [], ◌∷◌, ◌++◌}
use mathlib.Core.Logic.{◌↔◌}
use native.Mathlib.Omega.{arith}
use lib.ListN.{length}
use lib.Dec.{ltb, eqb}
use borrow.Author.Tests.{eqb-true, ltb-false}
use Rattle.rules.specs.Answers.{given, is_given}
use Rattle.rules.specs.Lists.{Every, unmet, total}
use Rattle.rules.specs.DayFile.{judge_day}
use Rattle.rules.specs.Fields.{stops, IsAccepted}
use Rattle.rules.specs.PlanWords.{word_of}
use Rattle.rules.specs.Plan.{Round, plan_words, stops_on_all}
use Rattle.rules.specs.Lawful.{Loads, Timed, Lawful, totals, distance_from}
use Rattle.rules.specs.Trip.{leaving}
use Rattle.rules.specs.Check.{Walk, start, fault_at, walk_after, finished, check_from, check_words, check_plan}
use Rattle.laws.proofs.Answering.{Answering, values, refusal, answering_if, answering_fault}
use Rattle.laws.proofs.Fresh.{fresh_once, every_weaker}
use Rattle.laws.proofs.Tests.{only_second}
use Rattle.day.proofs.Answered.{judged_accepted}
use Rattle.plan_laws.specs.Vehicles.{Clear, trip_home}
use Rattle.plan_laws.proofs.Clear.{clear_loads, clear_timed, timed_clear}
use Rattle.plan_laws.proofs.Passing.{given_not_refused}
use Rattle.plan_laws.proofs.PlanChecks.{plan_check}
use Rattle.plan_laws.proofs.PlanParsing.{plan_parse}
use Rattle.plan_laws.proofs.Timetables.{home_distance}

-- an answer of the check: distance, vehicles and stops served, or a refusal
pub data Totals : List ℕ → Type 0 where
  totalled : (distance vehicles served : ℕ) → Totals (distance ∷ vehicles ∷ served ∷ [])

checked_from : (most : ℕ) (day ws : List ℕ) (i : ℕ) (s : Walk) → i + length ws ≤ most → Answering Totals most (check_from day ws i s)
unfolding check_from finished
checked_from most day [] i s h =
    answering_if s.tally.inside (refusal 7 i (omega arith) (omega arith))
    (answering_if (ltb 0 (unmet (stops day) s.met)) (refusal 8 i (omega arith) (omega arith))
    (values _ (totalled s.tally.distance s.tally.vehicles s.tally.served) (omega arith)))
checked_from most day (w ∷ ws) i s h =
    let fault = fault_at day s (word_of w) in
    answering_fault (eqb fault 0) fault i refl (omega arith) (checked_from most day ws (suc i) (walk_after day s (word_of w)) (omega arith))

pub words_checked : (day plan : List ℕ) → Answering Totals (length plan + 4096) (check_words day plan)
unfolding check_words
words_checked day plan =
    answering_if (ltb 4096 (length plan)) (refusal 6 4096 (omega arith) (omega arith)) (checked_from (length plan + 4096) day plan 0 (start day) (omega arith))

-- each vehicle of a lawful plan is clear by itself
clear_all : (day : List ℕ) (rounds : List Round) → Every (Loads day) rounds → Every (Timed day) rounds → Every (Clear day) rounds
unfolding Every
clear_all day [] h g = tt
clear_all day (tasks ∷ rounds) h g = (timed_clear day tasks h.0 g.0, clear_all day rounds h.1 g.1)

-- the distance that the walk adds up is the sum over the legs
distance_all : (day : List ℕ) (rounds : List Round) → total (λ tasks. (trip_home day (leaving day) tasks).distance) rounds ≡ total (distance_from day 0) rounds
unfolding total
distance_all day [] = refl
distance_all day (tasks ∷ rounds) = ap₂ (λ (a b : ℕ). a + b) (home_distance day tasks) (distance_all day rounds)

-- a lawful plan of an accepted day is answered with its distance, its vehicles and its stops served
pub lawful_totals : (day plan : List ℕ) → IsAccepted day → (l : Lawful day plan) → check_plan day plan ≡ given (totals day l.rounds)
unfolding check_plan totals
lawful_totals day plan e l =
    rw e
    (plan_check day plan l.rounds l.lefts l.formed (clear_all day l.rounds l.loads l.timed) ∙ rw (distance_all day l.rounds))

-- words that are answered are at most 4,096, and make a lawful plan
short_answered : (day plan : List ℕ) (a b c : ℕ) → check_words day plan ≡ given (a ∷ b ∷ c ∷ [])
    → (length plan ≤ 4096) × (check_from day plan 0 (start day) ≡ given (a ∷ b ∷ c ∷ []))
unfolding check_words
short_answered day plan a b c e =
    let p = only_second (ltb 4096 (length plan)) given_not_refused e in
    (ltb-false _ _ p.0, p.1)

words_lawful : (day plan : List ℕ) (a b c : ℕ) → check_words day plan ≡ given (a ∷ b ∷ c ∷ []) → Lawful day plan
unfolding plan_words
words_lawful day plan a b c e =
    let q = short_answered day plan a b c e in
    let r = plan_parse day a b c plan 0 (start day) refl refl q.1 in
    record {
      rounds = r.rounds;
      lefts = r.lefts;
      formed = record {
        short = q.0;
        text = r.text;
        known = r.known;
        busy = r.busy;
        rising = r.rising;
        once = fresh_once (stops day) (stops_on_all r.rounds ++ r.lefts) r.fresh r.missing;
        others = r.others;
      };
      loads = every_weaker (Clear day) (Loads day) (clear_loads day) r.rounds r.clear;
      timed = every_weaker (Clear day) (Timed day) (clear_timed day) r.rounds r.clear;
    }

-- an answer is given, or not
checked_lawful : (day plan : List ℕ) {most : ℕ} {answer : List ℕ} → Answering Totals most answer → check_words day plan ≡ answer → is_given answer ≡ true → Lawful day plan
checked_lawful day plan (values vs (totalled a b c) l) e g = words_lawful day plan a b c e
checked_lawful day plan (refusal number place h l) e g = absurd (omega (arith, eqb-true number 0 g))

answered : (day plan : List ℕ) (b : Bool) → is_given (judge_day day) ≡ b → is_given (if b then check_words day plan else judge_day day) ≡ true → IsAccepted day × Lawful day plan
answered day plan true e g = (judged_accepted day e, checked_lawful day plan (words_checked day plan) refl g)
answered day plan false e g = absurd (false≢true (sym e ∙ g))

-- a day and a plan are called lawful exactly when the day is accepted and the plan is lawful
pub lawful_iff : (day plan : List ℕ) → (is_given (check_plan day plan) ≡ true) ↔ (IsAccepted day × Lawful day plan)
unfolding check_plan
lawful_iff day plan = (answered day plan (is_given (judge_day day)) refl, λ h. ap is_given (lawful_totals day plan h.0 h.1))
