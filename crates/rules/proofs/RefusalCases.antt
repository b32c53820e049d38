-- Which refusal of document 01 comes first, and its place, by computation. Assumes nothing.
use mathlib.Core.Path.{◌≡◌, refl}
use mathlib.Core.List.{◌∷◌}
use lib.ListN.{replicate}
use Rattle.rules.specs.Answers.{refused}
use Rattle.rules.specs.DayFile.{judge_day}
use Rattle.rules.specs.Bytes.{read_answer}
use Rattle.rules.specs.Planned.{plan_answer}
use Rattle.rules.proofs.DayM.{day_m}
use Rattle.rules.proofs.CheckCases.{computed}
use Rattle.rules.proofs.LetteredCases.{planning}

-- "each later word: 2, 5": a depot window of another kind, which closes after 1,440 besides
pub kind_first : judge_day (0x10000100 ∷ 0x20000064 ∷ 0x300000C8 ∷ 0x40000005 ∷ 0x60000FFF ∷ replicate 8 0) ≡ refused 2 4
unfolding computed
kind_first = refl

-- "14 lent buffer too short (place: words needed)", and "byte reading one for each 4 bytes"
pub place_in_words : read_answer (replicate 28 0) 6 ≡ refused 14 7
unfolding read_answer
place_in_words = refl

-- "then 13, 14": K 0, and buffers without room
pub neighbours_first : plan_answer (day_m 100 30 60 60 50) 0 6 0 0 ≡ refused 13 0
unfolding planning
neighbours_first = refl
