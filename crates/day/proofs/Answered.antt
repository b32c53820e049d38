-- What the judge's answer tells: it is a day's size or a refusal of 1 to 5, and an accepted day has no word at fault.
-- Assumes nothing.
use Prim.Native.Nat.{ℕ, zero, suc, ◌+◌, ◌/◌, ◌<◌, ◌≤◌}
use mathlib.Core.Path.{◌≡◌, refl, sym, ap, subst, ◌∙◌}
use mathlib.Core.List.{List, [], ◌∷◌}
use mathlib.Core.Bool.{true, false}
use native.Mathlib.Omega.{arith}
use lib.ListN.{length, get_or, drop, length-drop}
use lib.Seq.{get_or-drop}
use lib.Dec.{eqb, ltb}
use borrow.Author.Tests.{eqb-true, eqb-false, ltb-false, not-false}
use Rattle.rules.specs.Tests.{neb}
use Rattle.rules.specs.Answers.{given, refused, is_given}
use Rattle.rules.specs.DayFile.{tips_in, stops_in, words_of, form_at, fault_of, judge_from, judge_sized, judge_day}
use Rattle.rules.specs.Fields.{word_at, tips, stops, IsAccepted}
use Rattle.laws.proofs.Answering.{Answering, values, refusal, answering_if, answering_fault, refusal_not_given}
use Rattle.laws.proofs.Tests.{only_first, only_second}

-- an answer of the judge: stops and tips, or a refusal
pub data Size : List ℕ → Type 0 where
  size : (n d : ℕ) → Size (n ∷ d ∷ [])

judged_from_lem : (most d n : ℕ) (ws : List ℕ) (i : ℕ) → i + length ws ≤ most → Answering Size most (judge_from d n ws i)
unfolding judge_from
judged_from_lem most d n [] i h = values (n ∷ d ∷ []) (size n d) (omega arith)
judged_from_lem most d n (w ∷ ws) i h =
    answering_fault (eqb (fault_of (form_at d n i) w) 0) (fault_of (form_at d n i) w) i refl (omega arith) (judged_from_lem most d n ws (suc i) (omega arith))

pub day_judged : (day : List ℕ) → Answering Size (length day + 1) (judge_day day)
unfolding judge_day judge_sized
day_judged day =
    let w = get_or day 0 0 in
    answering_if (ltb (length day) 7) (refusal 1 (length day) (omega arith) (omega arith))
    (answering_if (neb (w / 4096) 65536) (refusal 2 0 (omega arith) (omega arith))
    (answering_if (ltb 240 (stops_in w)) (refusal 3 0 (omega arith) (omega arith))
    (answering_if (eqb (tips_in w) 0) (refusal 3 0 (omega arith) (omega arith))
    (answering_if (neb (length day) (words_of (tips_in w) (stops_in w))) (refusal 4 (length day) (omega arith) (omega arith))
    (judged_from_lem (length day + 1) (tips_in w) (stops_in w) (drop 1 day) 1 (omega (arith, length-drop 1 day)))))))

-- a refused day has no answer
pub refused_not_given : (day : List ℕ) {number place : ℕ} → refused number place ≡ judge_day day → is_given (judge_day day) ≡ false
refused_not_given day e = refusal_not_given (day_judged day) e

-- an accepted day: its size, its length, and no word at fault
pub record Faultless (day : List ℕ) (d n : ℕ) : Type 0 where
  pub tips_are : tips day ≡ d
  pub stops_are : stops day ≡ n
  pub tips_some : 0 < d
  pub stops_most : n ≤ 240
  pub long : length day ≡ words_of d n
  pub right : (i : ℕ) → 0 < i → i < length day → fault_of (form_at d n i) (word_at day i) ≡ 0

refused_not : {k i n d : ℕ} → refused k i ≡ given (n ∷ d ∷ []) → ⊥
refused_not e = let z : ◌≡◌ {A = ℕ} 2 3 = ap length e in omega arith

first_right : (d n w : ℕ) (ws : List ℕ) (i : ℕ) {n' d' : ℕ} → judge_from d n (w ∷ ws) i ≡ given (n' ∷ d' ∷ [])
    → (fault_of (form_at d n i) w ≡ 0) × (judge_from d n ws (suc i) ≡ given (n' ∷ d' ∷ []))
unfolding judge_from
first_right d n w ws i e =
    let p = only_first (eqb (fault_of (form_at d n i) w) 0) refused_not e in
    (eqb-true _ _ p.0, p.1)

all_right : (d n : ℕ) (ws : List ℕ) (i : ℕ) {n' d' : ℕ} → judge_from d n ws i ≡ given (n' ∷ d' ∷ [])
    → (k : ℕ) → k < length ws → fault_of (form_at d n (i + k)) (get_or ws k 0) ≡ 0
all_right d n [] i e k h = absurd (omega arith)
all_right d n (w ∷ ws) i e zero h = subst (λ (j : ℕ). fault_of (form_at d n j) w ≡ 0) (omega arith) (first_right d n w ws i e).0
all_right d n (w ∷ ws) i e (suc k) h =
    subst (λ (j : ℕ). fault_of (form_at d n j) (get_or ws k 0) ≡ 0) (omega arith) (all_right d n ws (suc i) (first_right d n w ws i e).1 k (omega arith))

-- the size in the answer is the size that was judged
same_size : (d n : ℕ) (ws : List ℕ) (i : ℕ) {n' d' : ℕ} → judge_from d n ws i ≡ given (n' ∷ d' ∷ []) → (n ≡ n') × (d ≡ d')
unfolding judge_from
same_size d n [] i e = (cc, cc)
same_size d n (w ∷ ws) i e = same_size d n ws (suc i) (first_right d n w ws i e).1

tail_right : (d n : ℕ) (day : List ℕ) {n' d' : ℕ} → judge_from d n (drop 1 day) 1 ≡ given (n' ∷ d' ∷ [])
    → (i : ℕ) → 0 < i → i < length day → fault_of (form_at d n i) (word_at day i) ≡ 0
tail_right d n day e zero h0 h = absurd (omega arith)
tail_right d n day e (suc k) h0 h =
    subst (λ (j : ℕ). fault_of (form_at d n j) (word_at day j) ≡ 0) (omega arith)
    (rw get_or-drop at (all_right d n (drop 1 day) 1 e k (simp length-drop (omega arith))))

sized_faultless : (day : List ℕ) (d n : ℕ) {n' d' : ℕ} → tips day ≡ d → stops day ≡ n → judge_sized d n day ≡ given (n' ∷ d' ∷ []) → Faultless day d' n'
unfolding judge_sized
sized_faultless day d n {n'} {d'} td sn e =
    let a = only_second (ltb 240 n) refused_not e in
    let b = only_second (eqb d 0) refused_not a.1 in
    let g = only_second (neb (length day) (words_of d n)) refused_not b.1 in
    let z = same_size d n (drop 1 day) 1 g.1 in
    let n-most : n ≤ 240 = ltb-false _ _ a.0 in
    let d-some : d ≡ 0 → ⊥ = eqb-false _ _ b.0 in
    let len : length day ≡ words_of d n = eqb-true _ _ (not-false _ g.0) in
    rw (← z.0, ← z.1)
    (record { tips_are = td; stops_are = sn; tips_some = omega arith; stops_most = n-most; long = len; right = tail_right d n day g.1 })

pub given_faultless : (day : List ℕ) (n d : ℕ) → judge_day day ≡ given (n ∷ d ∷ []) → Faultless day d n
unfolding judge_day
given_faultless day n d e =
    let a = only_second (ltb (length day) 7) refused_not e in
    let b = only_second (neb (word_at day 0 / 4096) 65536) refused_not a.1 in
    sized_faultless day (tips day) (stops day) refl refl b.1

-- the stops and tips that the answer carries are the day's
pub given_accepted : (day : List ℕ) {n d : ℕ} → given (n ∷ d ∷ []) ≡ judge_day day → IsAccepted day
given_accepted day {n} {d} e = let f = given_faultless day n d (sym e) in sym e ∙ rw (f.tips_are, f.stops_are)

pub judged_accepted : (day : List ℕ) → is_given (judge_day day) ≡ true → IsAccepted day
judged_accepted day g = go (day_judged day) refl g
  where
    go : {answer : List ℕ} → Answering Size (length day + 1) answer → answer ≡ judge_day day → is_given answer ≡ true → IsAccepted day
    go (values vs (size n d) l) e h = given_accepted day e
    go (refusal number place some l) e h = absurd (omega (arith, eqb-true number 0 h))
