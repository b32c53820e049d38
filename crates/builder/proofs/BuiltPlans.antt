-- The greedy plan in the plan's buffer, and what the call says of it.
-- Assumes nothing.
use Prim.Native.Nat.{ℕ, ◌+◌, ◌-◌, ◌*◌, ◌≤◌, ◌<◌}
use mathlib.Core.Path.{◌≡◌, refl, sym, ap, ap₂, ◌∙◌}
use mathlib.Core.Bool.{true, false}
use mathlib.Core.List.{List, [], ◌∷◌, ◌++◌, append_assoc}
use native.Mathlib.Omega.{arith}
use lib.Dec.{ltb}
use lib.ListN.{length, take, drop, replicate, get_or, length-append, length-replicate}
use lib.Seq.{drop-drop, take_at}
use borrow.Author.Tests.{lt-ltb, le-ltb}
use borrow.Rule.Slice.PartMut.{put_mid}
use Rattle.rules.specs.Answers.{given, refused}
use Rattle.rules.specs.Lists.{total, over}
use Rattle.rules.specs.DayFile.{judge_day}
use Rattle.rules.specs.Fields.{stops, IsAccepted}
use Rattle.rules.specs.Lawful.{distance_from, totals}
use Rattle.rules.specs.Check.{check_words, check_plan}
use Rattle.rules.specs.Build.{greedy_rounds, greedy_lefts, greedy_plan, routed}
use Rattle.rules.specs.AnswerValues.{answer_values}
use Rattle.rules.specs.Planned.{planned, built_answer, built_buffer, build_answer, build_buffer}
use Rattle.rules.specs.declared.answers.Answer.{Answer}
use Rattle.rules.specs.declared.answers.Answer.TheVariants as Answers
use Rattle.laws.specs.Buffer.{Wrote}
use Rattle.laws.specs.Marks.{ones_of}
use Rattle.laws.proofs.Buffer.{over_drop, over_front, over_rest, length_over}
use Rattle.day.proofs.Answered.{refused_not_given}
use Rattle.marks.specs.declared.Marks.{Marks}
use Rattle.plan_words.proofs.SaidLaws.{said_lend, said_same, says_lefts}
use Rattle.plan_words.proofs.SaidOnce.{plan_wrote}
use Rattle.builder.specs.Fleet.{AllWritten}
use Rattle.builder.specs.Lefts.{LeavesAll}
use Rattle.greedy_laws.proofs.GreedyLawful.{greedy_answer}
use Rattle.greedy_laws.proofs.GreedyRoom.{greedy_room}
use Rattle.greedy_laws.proofs.LeftOut.{remaining_count}

-- what the words of the vehicles say, and behind them those of the stops left out, is what the plan's say: so they are the plan's
plan_words_lem : {day p part lent : List ℕ} {m : Marks} {words end : ℕ} → AllWritten day p part m words
    → LeavesAll (take (length part - words) (drop words part)) m lent end
    → Wrote (greedy_plan day) p (put_mid words (length part - words) part lent) (words + end)
unfolding greedy_plan
plan_words_lem {day} {p} w l =
    let rounds = greedy_rounds day in
    let lefts = greedy_lefts day in
    let said = said_lend w.text (l (stops day) (routed day (stops day + 1) []) (omega arith) w.left_is.are) in
    plan_wrote rounds lefts (said_same said (says_lefts 0 rounds lefts) refl)

-- zeros behind the words
over_later : (ws p : List ℕ) (n to : ℕ) → length ws ≡ n → n ≤ to → drop to (over ws p) ≡ drop to p
over_later ws p n to e l =
    ap (λ (k : ℕ). drop k (over ws p)) split
    ∙ sym (drop-drop (to - n) n (over ws p))
    ∙ ap (drop (to - n)) (over_rest ws p n e)
    ∙ drop-drop (to - n) n p
    ∙ ap (λ (k : ℕ). drop k p) (sym split)
  where
    split : to ≡ n + (to - n)
    split = omega arith

filled : (day : List ℕ) {p part now : List ℕ} {end : ℕ} (to : ℕ) → Wrote (greedy_plan day) p part end → to ≡ 5 * stops day → end ≤ to
    → now ≡ (take end part ++ replicate (to - end) 0) ++ drop to part → now ≡ planned day (greedy_plan day) p
unfolding planned
filled day {p} {part} {now} {end} to w e l x =
    let plan = greedy_plan day in
    let rest = 5 * stops day - length plan in
    let same : to - end ≡ rest = omega (arith, w.count) in
    let size : length (plan ++ replicate rest 0) ≡ to =
    omega (arith, w.count, length-append plan (replicate rest 0), length-replicate {A = ℕ} rest 0) in
    x
    ∙ ap₂ (λ (a b : List ℕ). (a ++ replicate (to - end) 0) ++ b) (ap (take end) w.text ∙ over_front plan p end (sym w.count))
    (ap (drop to) w.text ∙ over_later plan p end to (sym w.count) l)
    ∙ ap (λ (k : ℕ). (plan ++ replicate k 0) ++ drop to p) same
    ∙ sym (over_drop (plan ++ replicate rest 0) p to size)

-- the vehicles are written
module _ {day p part : List ℕ} {m : Marks} {words : ℕ} (w : AllWritten day p part m words) where
  -- as many stops are left out as marks are left
  pub lefts_are : ones_of m.words ≡ length (greedy_lefts day)
  lefts_are = w.left_is.count ∙ sym (remaining_count (routed day (stops day + 1) []) (stops day))

  -- and the stops left out, in the part that is left
  module _ {lent : List ℕ} {end : ℕ} (l : LeavesAll (take (length part - words) (drop words part)) m lent end) where
    abbrev now : List ℕ
    now = put_mid words (length part - words) part lent

    pub plan_size : words + end ≡ length (greedy_plan day)
    plan_size = (plan_words_lem w l).count

    pub plan_filled : {n : ℕ} {after : List ℕ} → n ≡ stops day → end ≤ ones_of m.words
        → after ≡ (take (words + end) now ++ replicate (5 * n - (words + end)) 0) ++ drop (5 * n) now → after ≡ planned day (greedy_plan day) p
    plan_filled {n} e most x =
        filled day (5 * n) (plan_words_lem w l) (ap (λ (k : ℕ). 5 * k) e) (omega (arith, most, w.left_is.count, w.room)) x

planned_length : (day p : List ℕ) → 5 * stops day ≤ length p → length (planned day (greedy_plan day) p) ≡ length p
unfolding planned
planned_length day p l =
    let plan = greedy_plan day in
    let rest = 5 * stops day - length plan in
    length_over _ p (omega (arith, greedy_room day, length-append plan (replicate rest 0), length-replicate {A = ℕ} rest 0))

-- the answer and the buffer where it is too short, and where it is long enough
module _ (day plan : List ℕ) {n : ℕ} (i : n ≡ stops day) where
  module _ (l : length plan < 5 * n) where
    short : ltb (length plan) (5 * stops day) ≡ true
    short = lt-ltb (length plan) (5 * stops day) (omega (arith, i))

    pub short_answer : refused 14 (5 * n) ≡ built_answer day (length plan)
    unfolding built_answer
    short_answer = rw short (ap (λ (k : ℕ). refused 14 (5 * k)) i)

    pub short_buffer : plan ≡ built_buffer day plan
    unfolding built_buffer
    short_buffer = rw short refl

  module _ (l : 5 * n ≤ length plan) where
    long : ltb (length plan) (5 * stops day) ≡ false
    long = le-ltb (length plan) (5 * stops day) (omega (arith, i))

    pub long_buffer : {now : List ℕ} → now ≡ planned day (greedy_plan day) plan → now ≡ built_buffer day plan
    unfolding built_buffer
    long_buffer x = x ∙ rw long refl

    pub plan_fits : {now : List ℕ} {words : ℕ} → words ≡ length (greedy_plan day) → now ≡ planned day (greedy_plan day) plan → words ≤ length now
    plan_fits e x = omega (arith, greedy_room day, ap length x, planned_length day plan (omega (arith, i)))

-- the check of the plan as it stands in the buffer
planned_front : (day p : List ℕ) (n : ℕ) → n ≡ length (greedy_plan day) → take n (planned day (greedy_plan day) p) ≡ greedy_plan day
unfolding planned over
planned_front day p n e =
    ap (take n) (append_assoc (greedy_plan day) _ _) ∙ take_at (greedy_plan day) _ n (sym e)

-- it has its words, and no fewer
pub plan_cut : (day p : List ℕ) {now : List ℕ} {words : ℕ} → words ≡ length (greedy_plan day) → now ≡ planned day (greedy_plan day) p
    → words ≡ length (take words now)
plan_cut day p {now} {words} e x = e ∙ ap length (sym (ap (take words) x ∙ planned_front day p words e))

words_answer : (day : List ℕ) → IsAccepted day → check_words day (greedy_plan day) ≡ given (totals day (greedy_rounds day))
unfolding check_plan
words_answer day a = rw a at (greedy_answer day a)

module _ (day p : List ℕ) (a : IsAccepted day) {now : List ℕ} {words : ℕ} (answer : Answer) (x : now ≡ planned day (greedy_plan day) p)
    (w : words ≡ length (greedy_plan day)) (c : answer_values answer ≡ check_words day (take words now)) where
  plan_answer_lem : answer_values answer ≡ given (totals day (greedy_rounds day))
  plan_answer_lem = c ∙ ap (check_words day) (ap (take words) x ∙ planned_front day p words w) ∙ words_answer day a

  -- it is lawful, so it is answered with its distance
  pub long_answer : {n d v s lefts marks : ℕ} → n ≡ stops day → 5 * n ≤ length p → answer ≡ Answers.Lawful d v s
      → lefts ≡ marks → marks ≡ length (greedy_lefts day) → given (d ∷ 0 ∷ 0 ∷ lefts ∷ words ∷ []) ≡ built_answer day (length p)
  unfolding built_answer totals
  long_answer {n} {d} {v} {s} {lefts} {marks} i l e many m =
      let same : d ≡ total (distance_from day 0) (greedy_rounds day) = ap (λ (xs : List ℕ). get_or xs 1 0) (sym (ap answer_values e) ∙ plan_answer_lem) in
      rw (long day p i l, same, many, m, w) refl

  -- and not refused
  pub not_refused : {k i : ℕ} → answer ≡ Answers.Refused k i → ⊥
  unfolding totals
  not_refused e = omega (arith, ap length (sym (ap answer_values e) ∙ plan_answer_lem))

-- the answer and the buffer of any day
module _ (day : List ℕ) where
  module _ {number place : ℕ} (same : refused number place ≡ judge_day day) where
    pub refused_answer : (room : ℕ) → refused number place ≡ build_answer day room
    unfolding build_answer
    refused_answer room = rw (refused_not_given day same) same

    pub refused_buffer : (plan : List ℕ) → plan ≡ build_buffer day plan
    unfolding build_buffer
    refused_buffer plan = rw (refused_not_given day same)

  module _ (accepted : IsAccepted day) where
    pub accepted_answer : (room : ℕ) (answer : List ℕ) → answer ≡ built_answer day room → answer ≡ build_answer day room
    unfolding build_answer
    accepted_answer room answer h = rw accepted h

    pub accepted_buffer : (plan now : List ℕ) → now ≡ built_buffer day plan → now ≡ build_buffer day plan
    unfolding build_buffer
    accepted_buffer plan now h = rw accepted h
