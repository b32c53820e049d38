-- `solomon_form::faults::range_fault` meets its contract.
use Prim.Native.Nat.{◌≤◌, ◌<◌}
use mathlib.Core.Logic.{◌⊎◌}
use native.Mathlib.Omega.{arith}
use Rattle.std.specs.Bool.{MatchBool}
use Rattle.std.proofs.lemmas.Grind.{common_steps}
use Rattle.solomon_form.proofs.FieldFaults.{range_told}
use Rattle.solomon_form.proofs.faults.range_fault.Goals as goal

pub returns : goal.returns
returns c =
    let within : MatchBool c.contains.result ((c.args.least ≤ c.number_at.result) × (c.number_at.result ≤ c.args.most))
    ((c.number_at.result < c.args.least) ⊎ (c.args.most < c.number_at.result)) = grind (arith, common_steps) in
    range_told _ _ c.in_ok-plain_fault.ensures c.number_at.ensures.0 _ _ c.contains.result c.requires.0 c.requires.1 within c.unless.ensures
