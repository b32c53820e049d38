-- `plan_queries::vehicles::part_length` meets its contract: the first E word ends the vehicle's words, or the plan does.
use native.Mathlib.Omega.{arith}
use mathlib.Core.Path.{sym, ap, ◌∙◌}
use lib.ListN.{length-drop}
use Rattle.laws.proofs.Buffer.{rest_whole}
use Rattle.rules.specs.VehiclePlace.{words_to_back}
use Rattle.plan_queries.proofs.VehicleParts.{part_ends, part_cut}
use Rattle.plan_queries.proofs.vehicles.part_length.Goals as goal

pub returns-in-Some : goal.returns-in-Some
returns-in-Some c =
    let t = part_ends _ (rw rest_whole at c.first_back.ensures) c.in-Some.before c.in-Some.is in
    (t.0, omega (arith, t.0, t.1, length-drop c.args.from c.args.plan.now))

pub returns-in-None : goal.returns-in-None
returns-in-None c =
    let t = part_cut _ c.first_back.ensures c.in-None.is in
    (sym t ∙ ap words_to_back (rest_whole c.args.plan.now c.args.from), omega arith)
