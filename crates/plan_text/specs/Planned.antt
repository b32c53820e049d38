-- How a day is planned that is to be printed: document 01, case (a), "K 5, budget 6". Each of the two buffers has 1,200 words, five for each
-- of 240 stops. Assumes nothing.
use Rattle.std.specs.Prelude.{ℕ, List, replicate}
use Rattle.rules.specs.Planned.{plan_answer, plan_buffer}

-- the plan's buffer at first
unfoldable pub empty_plan : List ℕ
empty_plan = replicate 1200 0

-- the answer
unfoldable pub printed_answer : List ℕ → List ℕ
printed_answer day = plan_answer day 5 6 1200 1200

-- the plan's buffer then
unfoldable pub printed_buffer : List ℕ → List ℕ
printed_buffer day = plan_buffer day 5 6 1200 empty_plan
