-- The stops and tips of a day have small numbers, and so has an edit that names them.
-- Assumes nothing.
use Prim.Native.Nat.{ℕ}
use mathlib.Core.List.{List}
use native.Mathlib.Omega.{arith}
use Rattle.rules.specs.Plan.{Known}
use Rattle.edits.specs.EditWords.{EditKnown, EditSmall}
use Rattle.edits.specs.declared.Edit as Code
use Rattle.edits.specs.declared.Edit.TheVariants as Edits

pub known_small : (day : List ℕ) (e : Code.Edit) → EditKnown day e → EditSmall e
unfolding Known
known_small day (Edits.Before i j) h = (omega (arith, h.0.1), omega (arith, h.1.1))
known_small day (Edits.After i j) h = (omega (arith, h.0.1), omega (arith, h.1.1))
known_small day (Edits.Swap i j) h = (omega (arith, h.0.1), omega (arith, h.1.1))
known_small day (Edits.Remove at) h = tt
known_small day (Edits.Replace at x) h = omega (arith, h.1)
