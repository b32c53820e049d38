-- Laws of the lines that are printed. Assumes nothing.
use Rattle.std.specs.Prelude.{if◌then◌else◌}
use Prim.Native.Nat.{ℕ}
use mathlib.Core.Path.{◌≡◌, refl, ap}
use mathlib.Core.Bool.{Bool, true, false}
use mathlib.Core.List.{List, ◌++◌}
use lib.Dec.{eqb}
use lib.ListN.{take}
use Rattle.rules.specs.AnswerValues.{plan_values}
use Rattle.rules.specs.declared.answers.PlanAnswer.TheVariants as Plans
use Rattle.text.specs.Lines.{refused_line, planned_line, word_lines, answer_text}

-- the answer's text: of a plan, and of a refusal
settled_told : (settled : Bool) → eqb (if settled then 1 else 0) 1 ≡ settled
settled_told true = refl
settled_told false = refl

module _ (plan : List ℕ) (distance trials : ℕ) (settled : Bool) (left words : ℕ) where
  pub plan_text : answer_text (plan_values (Plans.Planned distance trials settled left words)) plan
      ≡ planned_line distance trials settled left words ++ word_lines (take words plan)
  unfolding answer_text
  plan_text = ap (λ (x : Bool). planned_line distance trials x left words ++ word_lines (take words plan)) (settled_told settled)

pub refusal_text : (plan : List ℕ) (number place : ℕ) → answer_text (plan_values (Plans.Refused number place)) plan ≡ refused_line number place
unfolding answer_text
refusal_text plan number place = refl
