-- What one word, and one leg, adds to the judge's answer. Assumes nothing.
use Prim.Native.Nat.{ℕ, ◌+◌, ◌*◌, ◌<◌, ◌≤◌}
use mathlib.Core.Path.{◌≡◌, refl}
use native.Mathlib.Nat.{mul-le-mul, suc-mul}
use native.Mathlib.Numerals.{add-one}
use native.Mathlib.Omega.{arith}
use mathlib.Core.List.{List, [], ◌∷◌}
use lib.ListN.{length, get_or, drop_of_length-le}
use lib.Seq.{drop-cons}
use lib.Dec.{eqb}
use Rattle.std.specs.Prelude.{Result, Ok, Err, MatchResult, if◌then◌else◌}
use Rattle.rules.specs.Answers.{given}
use Rattle.rules.specs.DayFile.{Form, leg, stay, places_of, words_of, form_at, fault_of, judge_from}
use Rattle.rules.specs.Faults.{day_fault_number, number_of_fault}
use Rattle.rules.specs.declared.faults.DayFault.{DayFault}
use Rattle.rules.specs.declared.faults.DayFault.TheVariants as Days
use Rattle.day.proofs.Forms.{row_below, leg_form_lem}
use Rattle.day_faults.specs.Judging.{judged_from, judged_after, Whole, row_at}
use Rattle.day_faults.specs.declared.faults.Fault.{Fault}

pub row_next : (d n from : ℕ) → row_at d n from + places_of d n ≡ row_at d n (from + 1)
row_next d n from = rw add-one (omega (arith, suc-mul from (places_of d n)))

module _ (d n : ℕ) (day : List ℕ) where
  word_of_day : (place : ℕ) (form : Form) (tested : Result (Unit {0}) DayFault) (result : Result (Unit {0}) Fault) → place < length day
      → form_at d n place ≡ form → number_of_fault day_fault_number tested ≡ fault_of form (get_or day place 0)
      → MatchResult tested (λ _. result ≡ Ok tt) (λ fault. result ≡ Err (record { fault = fault; place = place }))
      → judged_from d n day place ≡ judged_after d n day (place + 1) result
  unfolding judged_from judge_from
  word_of_day place form (Ok x) result h ef et er = rw (er, add-one, drop-cons day place 0, ef, ← et) refl
  word_of_day place form (Err Days.Form) result h ef et er = rw (er, drop-cons day place 0, ef, ← et) refl
  word_of_day place form (Err Days.Range) result h ef et er = rw (er, drop-cons day place 0, ef, ← et) refl

  -- one word: what its test tells of the answer from it on
  pub word_judged : (place : ℕ) (form : Form) (tested : Result (Unit {0}) DayFault) (result : Result (Unit {0}) Fault) → length day ≡ words_of d n → place < words_of d n
      → form_at d n place ≡ form → number_of_fault day_fault_number tested ≡ fault_of form (get_or day place 0)
      → MatchResult tested (λ _. result ≡ Ok tt) (λ fault. result ≡ Err (record { fault = fault; place = place }))
      → judged_from d n day place ≡ judged_after d n day (place + 1) result
  word_judged place form tested result long inside = word_of_day place form tested result (omega (arith, long))

  -- where the row of a place stands
  pub row_inside : (from : ℕ) → length day ≡ words_of d n → from < places_of d n → row_at d n from + places_of d n ≤ length day
  row_inside from long h = omega (arith, long, row_below from (places_of d n) h)

  -- one leg: the word that is read, and the place that is named
  pub leg_judged : (from to at place : ℕ) (tested : Result (Unit {0}) DayFault) (result : Result (Unit {0}) Fault)
      → number_of_fault day_fault_number tested ≡ fault_of (if eqb from to then stay else leg) (get_or day at 0)
      → MatchResult tested (λ _. result ≡ Ok tt) (λ fault. result ≡ Err (record { fault = fault; place = place }))
      → at ≡ row_at d n from + to → place ≡ row_at d n from + to → length day ≡ words_of d n → from < places_of d n → to < places_of d n
      → judged_from d n day (row_at d n from + to) ≡ judged_after d n day (row_at d n from + to + 1) result
  leg_judged from to at place tested result et er ea ep long h g =
      let inside : row_at d n from + to < words_of d n = omega (arith, long, row_inside from long h) in
      word_judged (row_at d n from + to) (if eqb from to then stay else leg) tested result long inside (leg_form_lem d n from to g) (rw ea at et) (rw ep at er)

  -- the end of the words
  pub end_judged : judged_from d n day (length day) ≡ given (n ∷ d ∷ [])
  unfolding judged_from judge_from
  end_judged = rw (drop_of_length-le day {i = length day} (omega arith))

-- a day of the right length is whole: its legs are few
legs_few : (d n : ℕ) → d < 16 → n < 256 → places_of d n * places_of d n ≤ 90000
legs_few d n h g = let few : places_of d n ≤ 300 = omega arith in mul-le-mul few few

pub whole_day : (d n : ℕ) (day : List ℕ) → d < 16 → n < 256 → length day ≡ words_of d n → Whole day d n
whole_day d n day h g e = record { tips_few = h; stops_few = g; long = e; short = omega (arith, legs_few d n h g) }
