-- Cases (h) and (i) of document 01, by computation. Assumes nothing.
use Prim.Native.Nat.{ℕ}
use mathlib.Core.Path.{◌≡◌, refl}
use mathlib.Core.List.{List, [], ◌∷◌}
use Rattle.rules.specs.Answers.{given, refused}
use Rattle.rules.specs.Lists.{mem, unmet}
use Rattle.rules.specs.DayFile.{head_form, tip_form, stop_form, leg_form, form_at, kind_right, value_right, fault_of, judge_from, judge_sized, judge_day}
use Rattle.rules.specs.Fields.{window_index}
use Rattle.rules.specs.PlanWords.{word_of}
use Rattle.rules.specs.Cargo.{over_limits, cargo_fault, cargo_after}
use Rattle.rules.specs.Trip.{visit_fault, rest_fault, back_fault}
use Rattle.rules.specs.Check.{within, well_formed, met_again, met_after, tally_after, fault_at, finished, check_from, check_words, check_plan}
use Rattle.rules.proofs.DayM.{legs_m, day_m}

-- all that the judge computes by
unfoldable judged : Unit {0}
unfolding mem unmet head_form tip_form stop_form leg_form form_at kind_right value_right fault_of judge_from judge_sized judge_day window_index legs_m day_m
judged = tt

-- all that the check computes by
unfoldable pub computed : Unit {0}
unfolding judged over_limits cargo_fault cargo_after within well_formed met_again met_after tally_after fault_at finished check_from check_words check_plan word_of visit_fault rest_fault back_fault
computed = tt

-- the plan A1 B1 C1 E F2
abbrev pub plan_h : List ℕ
plan_h = 0xA0000001 ∷ 0xB0000001 ∷ 0xC0000001 ∷ 0xE0000000 ∷ 0xF0000002 ∷ []

-- (h): rest window 20..40, back at 40: lawful
pub case_h : check_plan (day_m 100 20 40 60 50) plan_h ≡ given (21 ∷ 1 ∷ 1 ∷ [])
unfolding computed
case_h = refl

-- (i): rest window 20..39: refusal 12, place 3
pub case_i : check_plan (day_m 100 20 39 60 50) plan_h ≡ refused 12 3
unfolding computed
case_i = refl
