-- `day_faults::legs::all_legs` meets its contract: the chain is a fold, and what a fold finds.
use Rattle.std.proofs.Common.{◌≡◌, ◌∙◌, ◌&&◌, arith, sym, true}
use Rattle.std.specs.List.{fold}
use Rattle.std.proofs.lemmas.Grind.{common_steps}
use Rattle.day_faults.specs.Rows.{is_leg}
use Rattle.day_faults.proofs.Glance.{fold_in_range}
use Rattle.day_faults.proofs.legs.all_legs.Goals as goal

pub returns : goal.returns
returns c =
    let folded : c.fold.result ≡ fold (λ right word. right && is_leg word) true c.args.row.now = grind (arith, common_steps) in
    λ all. fold_in_range c.args.row.now (sym folded ∙ all)
