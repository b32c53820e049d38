-- The calls that plan with trials answer, and leave the plan's buffer, as the definitions say. Assumes nothing.
use Rattle.std.specs.Prelude.{if◌then◌else◌}
use Prim.Native.Nat.{ℕ, zero, suc, ◌-◌, ◌*◌, ◌≤◌, ◌<◌}
use mathlib.Core.Path.{◌≡◌, refl, sym, ap, ◌∙◌}
use mathlib.Core.Bool.{Bool, true, false, true≢false, ◌&&◌}
use mathlib.Core.List.{List, [], ◌∷◌, ◌++◌}
use native.Mathlib.Omega.{arith}
use borrow.Rule.Slice.PartMut.{put_mid}
use lib.Dec.{ltb, leb}
use lib.ListN.{length, length-append, length-replicate, get_or, take, drop, replicate}
use lib.Seq.{take_at, drop_at}
use borrow.Author.Tests.{le-ltb, leb-true}
use Rattle.rules.specs.Answers.{given, refused}
use Rattle.rules.specs.Lists.{over}
use Rattle.rules.specs.DayFile.{judge_day}
use Rattle.rules.specs.Fields.{stops, IsAccepted}
use Rattle.rules.specs.Plan.{Round, plan_words}
use Rattle.rules.specs.Build.{greedy_rounds, greedy_lefts, greedy_plan}
use Rattle.rules.specs.Attempts.{distance_of}
use Rattle.rules.specs.Search.{Result, searched, growing_sets}
use Rattle.rules.specs.AnswerValues.{plan_values}
use Rattle.rules.specs.Planned.{built_answer, planned, built_buffer, few_neighbours, long_enough, result_values, SpareKept}
use Rattle.rules.specs.Planned.{search_answer, search_buffer, plan_answer, plan_buffer, growing_answer, growing_buffer}
use Rattle.rules.specs.declared.answers.PlanAnswer.{PlanAnswer}
use Rattle.rules.specs.declared.answers.PlanAnswer.TheVariants as Plans
use Rattle.laws.proofs.Buffer.{over_drop}
use Rattle.laws.proofs.Tests.{both_true}
use Rattle.day.proofs.Answered.{refused_not_given}
use Rattle.day.proofs.Ranges.{accepted_ranges}
use Rattle.greedy_laws.proofs.GreedyRoom.{greedy_room}
use Rattle.trial_list.proofs.Shapes.{greedy_shaped}
use Rattle.search_steps.specs.Searches.{PlanAt, k_at, is_settled, SetsFit}
use Rattle.search_steps.specs.declared.steps.Search.{Search}
use Rattle.trials.specs.Improvements.{Improved}
use Rattle.planner.specs.WorkedOver.{WorkedOver}

-- K, and the lengths of the buffers
pub few_by : (K : ℕ) → (leb 1 K && leb K 50) ≡ few_neighbours K
unfolding few_neighbours
few_by K = refl

few_is : (K : ℕ) {few : Bool} → few ≡ few_neighbours K → few ≡ true → K ≤ 50
unfolding few_neighbours
few_is K e y = leb-true K 50 (both_true (leb 1 K) (leb K 50) (sym e ∙ y)).1

-- so the K that are asked for fit
pub one_fits : (K : ℕ) {few : Bool} → few ≡ few_neighbours K → few ≡ true → SetsFit (K ∷ [])
one_fits K e y = record { some = omega arith; greatest = least; most = few_is K e y }
  where
    least : (stage : ℕ) → stage < 1 → k_at (K ∷ []) stage ≤ K
    least zero h = omega arith
    least (suc stage) h = omega arith

pub growing_fit : SetsFit growing_sets
growing_fit = record { some = omega arith; greatest = least; most = omega arith }
  where
    least : (stage : ℕ) → stage < 4 → k_at growing_sets stage ≤ 50
    least zero h = omega arith
    least (suc zero) h = omega arith
    least (suc (suc zero)) h = omega arith
    least (suc (suc (suc zero))) h = omega arith
    least (suc (suc (suc (suc stage)))) h = omega arith

module _ (day : List ℕ) {n : ℕ} (h : n ≡ stops day) where
  pub few_stops : IsAccepted day → n ≤ 240
  few_stops ok = omega (arith, h, (accepted_ranges day ok).stops_most)

  pub long_by : (room spare : ℕ) → (leb (5 * n) room && leb (5 * n) spare) ≡ long_enough day room spare
  unfolding long_enough
  long_by room spare = rw h

  module _ (room spare : ℕ) {long : Bool} (e : long ≡ long_enough day room spare) (y : long ≡ true) where
    both_long : (leb (5 * stops day) room ≡ true) × (leb (5 * stops day) spare ≡ true)
    unfolding long_enough
    both_long = both_true (leb (5 * stops day) room) (leb (5 * stops day) spare) (sym e ∙ y)

    pub long_plan : 5 * n ≤ room
    long_plan = omega (arith, h, leb-true (5 * stops day) room both_long.0)

    pub long_spare : 5 * n ≤ spare
    long_spare = omega (arith, h, leb-true (5 * stops day) spare both_long.1)

-- the greedy plan that was built
module _ (day plan : List ℕ) {n : ℕ} (h : n ≡ stops day) (l : 5 * n ≤ length plan) where
  long : ltb (length plan) (5 * stops day) ≡ false
  long = le-ltb (length plan) (5 * stops day) (omega (arith, h))

  pub not_refused : {r : PlanAnswer} {number place : ℕ} → plan_values r ≡ built_answer day (length plan) → r ≡ Plans.Refused number place → ⊥
  unfolding built_answer
  not_refused {number = number} {place = place} e q =
      let same : refused number place ≡ built_answer day (length plan) = sym (ap plan_values q) ∙ e in
      let n : ◌≡◌ {A = ℕ} 2 6 = ap length (rw long at same) in
      omega (arith, n)

  abbrev zeros : List ℕ
  zeros = replicate (5 * stops day - length (greedy_plan day)) 0

  front_long : length (greedy_plan day ++ zeros) ≡ 5 * n
  front_long =
      omega (arith, length-append (greedy_plan day) zeros, length-replicate {A = ℕ} (5 * stops day - length (greedy_plan day)) 0, greedy_room day, h)

  module _ {now : List ℕ} (b : now ≡ built_buffer day plan) where
    built_is : now ≡ (greedy_plan day ++ zeros) ++ drop (5 * n) plan
    unfolding built_buffer planned
    built_is = b ∙ rw long (over_drop (greedy_plan day ++ zeros) plan (5 * n) front_long)

    behind_is : drop (5 * n) now ≡ drop (5 * n) plan
    behind_is = ap (drop (5 * n)) built_is ∙ drop_at (greedy_plan day ++ zeros) (drop (5 * n) plan) (5 * n) front_long

    lent_is : take (5 * n - 0) (drop 0 now) ≡ greedy_plan day ++ zeros
    lent_is =
        let whole : 5 * n - 0 ≡ 5 * n = omega arith in
        ap (λ (k : ℕ). take k now) whole ∙ ap (take (5 * n)) built_is
        ∙ take_at (greedy_plan day ++ zeros) (drop (5 * n) plan) (5 * n) front_long

    pub lent_long : length (take (5 * n - 0) (drop 0 now)) ≡ 5 * n
    lent_long = ap length lent_is ∙ front_long

    -- what is said of it
    module _ {r : PlanAnswer} {distance trials left words : ℕ} {settled : Bool} (e : plan_values r ≡ built_answer day (length plan))
        (q : r ≡ Plans.Planned distance trials settled left words) where
      abbrev greedy_values : List ℕ
      greedy_values = given (distance_of day (greedy_rounds day) ∷ 0 ∷ 0 ∷ length (greedy_lefts day) ∷ length (greedy_plan day) ∷ [])

      values_are : given (distance ∷ trials ∷ (if settled then 1 else 0) ∷ left ∷ words ∷ []) ≡ greedy_values
      unfolding built_answer distance_of
      values_are = sym (ap plan_values q) ∙ e ∙ rw long refl

      pub distance_is : distance ≡ distance_of day (greedy_rounds day)
      distance_is = ap (λ (xs : List ℕ). get_or xs 1 0) values_are

      left_is : left ≡ length (greedy_lefts day)
      left_is = ap (λ (xs : List ℕ). get_or xs 4 0) values_are

      words_are : words ≡ length (greedy_plan day)
      words_are = ap (λ (xs : List ℕ). get_or xs 5 0) values_are

      pub greedy_at : PlanAt day (take (5 * n - 0) (drop 0 now)) words (greedy_rounds day)
      unfolding greedy_plan
      greedy_at =
          record {
            shaped = greedy_shaped day;
            fits = omega (arith, lent_long, words_are, greedy_room day, h);
            text = ap (take words) lent_is ∙ take_at (greedy_plan day) zeros words (sym words_are);
          }

      -- the plan that was worked over
      module _ {buffer Ks : List ℕ} {budget : ℕ} {last : Search} (i : Improved day Ks budget buffer last)
          (kept : length buffer ≡ length (take (5 * n - 0) (drop 0 now))) {done : Bool} (t : done ≡ is_settled last.standing) where
        size : length buffer ≡ 5 * n
        size = kept ∙ lent_long

        result_is : searched day Ks budget ≡ record { plan = i.rounds; trials = last.made; settled = is_settled last.standing }
        result_is = sym i.is

        abbrev improved : List ℕ
        improved = plan_words i.rounds (greedy_lefts day)

        filled : buffer ≡ improved ++ replicate (5 * stops day - length improved) 0
        filled =
            let left_over : length buffer - last.words ≡ 5 * stops day - length improved = omega (arith, size, i.count, h) in
            i.text ∙ ap (λ (k : ℕ). improved ++ replicate k 0) left_over

        put_back : put_mid 0 (5 * n - 0) now buffer ≡ planned day improved plan
        unfolding planned
        put_back =
            let whole : 5 * n - 0 ≡ 5 * n = omega arith in
            ap (λ (k : ℕ). put_mid 0 k now buffer) whole ∙ ap (λ (ws : List ℕ). buffer ++ ws) behind_is
            ∙ sym (over_drop buffer plan (5 * n) size) ∙ ap (λ (ws : List ℕ). over ws plan) filled

        pub worked_over : WorkedOver day Ks budget plan (put_mid 0 (5 * n - 0) now buffer)
            (given (last.distance ∷ last.made ∷ (if done then 1 else 0) ∷ left ∷ last.words ∷ []))
        unfolding result_values
        worked_over =
            record {
              values = rw (result_is, i.distance, left_is, i.count, t) refl;
              buffer = put_back ∙ ap (λ (x : Result (List Round)). planned day (plan_words x.plan (greedy_lefts day)) plan) (sym result_is);
            }

-- the answer and the buffers on an accepted day with these K, by the test of the buffers' lengths
module _ (day Ks : List ℕ) (budget spare : ℕ) (plan : List ℕ) {long : Bool} (f : long ≡ long_enough day (length plan) spare) where
  pub short_answer : {n : ℕ} → n ≡ stops day → long ≡ false → refused 14 (5 * n) ≡ search_answer day Ks budget (length plan) spare
  unfolding search_answer
  short_answer h n = rw (← f, n, h)

  pub short_buffer : long ≡ false → plan ≡ search_buffer day Ks budget spare plan
  unfolding search_buffer
  short_buffer n = rw (← f, n)

  module _ (z : long ≡ true) where
    pub worked_answer : {now answer : List ℕ} → WorkedOver day Ks budget plan now answer → answer ≡ search_answer day Ks budget (length plan) spare
    unfolding search_answer
    worked_answer w = rw (← f, z) w.values

    pub worked_buffer : {now answer : List ℕ} → WorkedOver day Ks budget plan now answer → now ≡ search_buffer day Ks budget spare plan
    unfolding search_buffer
    worked_buffer w = rw (← f, z) w.buffer

    -- the working buffer is as it was where the day is not planned
    pub worked_spare : {before after : List ℕ} → SpareKept (search_answer day Ks budget (length plan) spare) before after
    unfolding search_answer
    worked_spare n = absurd (true≢false (rw (← f, z) at n))

-- with one K, by the test of K
module _ (day : List ℕ) (ok : IsAccepted day) (K budget spare : ℕ) (plan : List ℕ) {few : Bool} (e : few ≡ few_neighbours K) where
  module _ (n : few ≡ false) where
    pub outside_answer : refused 13 K ≡ plan_answer day K budget (length plan) spare
    unfolding plan_answer
    outside_answer = rw (ok, ← e, n)

    pub outside_buffer : plan ≡ plan_buffer day K budget spare plan
    unfolding plan_buffer
    outside_buffer = rw (ok, ← e, n)

  module _ (y : few ≡ true) where
    pub few_answer : {answer : List ℕ} → answer ≡ search_answer day (K ∷ []) budget (length plan) spare → answer ≡ plan_answer day K budget (length plan) spare
    unfolding plan_answer
    few_answer h = rw (ok, ← e, y) h

    pub few_buffer : {now : List ℕ} → now ≡ search_buffer day (K ∷ []) budget spare plan → now ≡ plan_buffer day K budget spare plan
    unfolding plan_buffer
    few_buffer h = rw (ok, ← e, y) h

    pub few_spare : {before after : List ℕ} → SpareKept (search_answer day (K ∷ []) budget (length plan) spare) before after
        → SpareKept (plan_answer day K budget (length plan) spare) before after
    unfolding plan_answer
    few_spare h = rw (ok, ← e, y) h

-- with growing neighbour sets
module _ (day : List ℕ) (ok : IsAccepted day) (budget spare : ℕ) (plan : List ℕ) where
  pub growing_answer_lem : {answer : List ℕ} → answer ≡ search_answer day growing_sets budget (length plan) spare → answer ≡ growing_answer day budget (length plan) spare
  unfolding growing_answer
  growing_answer_lem h = rw ok h

  pub growing_buffer_lem : {now : List ℕ} → now ≡ search_buffer day growing_sets budget spare plan → now ≡ growing_buffer day budget spare plan
  unfolding growing_buffer
  growing_buffer_lem h = rw ok h

  pub growing_spare : {before after : List ℕ} → SpareKept (search_answer day growing_sets budget (length plan) spare) before after
      → SpareKept (growing_answer day budget (length plan) spare) before after
  unfolding growing_answer
  growing_spare h = rw ok h

-- on a day that is refused
module _ (day : List ℕ) (budget spare : ℕ) (plan : List ℕ) {number place : ℕ} (same : refused number place ≡ judge_day day) where
  pub refused_plan_answer : (K : ℕ) → refused number place ≡ plan_answer day K budget (length plan) spare
  unfolding plan_answer
  refused_plan_answer K = rw (refused_not_given day same) same

  pub refused_plan_buffer : (K : ℕ) → plan ≡ plan_buffer day K budget spare plan
  unfolding plan_buffer
  refused_plan_buffer K = rw (refused_not_given day same) refl

  pub refused_growing_answer : refused number place ≡ growing_answer day budget (length plan) spare
  unfolding growing_answer
  refused_growing_answer = rw (refused_not_given day same) same

  pub refused_growing_buffer : plan ≡ growing_buffer day budget spare plan
  unfolding growing_buffer
  refused_growing_buffer = rw (refused_not_given day same) refl
