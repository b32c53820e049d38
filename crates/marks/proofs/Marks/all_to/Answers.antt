-- `Marks::all_to` marks the numbers 1 to n: each turn adds the next, by `up_to_suc`.
use Prim.Native.Nat.{◌+◌}
use mathlib.Core.Path.{ap, ◌∙◌}
use native.Mathlib.Omega.{arith}
use Rattle.laws.specs.Marks.{including, marked, ones_of}
use Rattle.laws.proofs.Marks.{up_to_out, up_to_suc, marked_none, ones_of_none}
use Rattle.marks.proofs.Marks.all_to.Goals as goal

pub loop-k-init : goal.loop-k-init
loop-k-init c = record {
  marks = ap marked c.none-marks.ensures ∙ marked_none 4;
  count = ap ones_of c.none-marks.ensures ∙ ones_of_none 4;
}

pub mark-marks-requires-clause-unmarked : goal.mark-marks-requires-clause-unmarked
mark-marks-requires-clause-unmarked c =
    ap (λ p. p (c.loop-k.k + 1)) c.loop-k.invariant.marks ∙ up_to_out _ _ (omega arith)

pub loop-k-preserved : goal.loop-k-preserved
loop-k-preserved c = let h = c.loop-k in record {
  marks = c.mark-marks.ensures.marks ∙ ap (λ p. including p (h.k + 1)) h.invariant.marks ∙ up_to_suc _;
  count = omega arith;
}
