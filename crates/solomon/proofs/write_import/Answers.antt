-- `solomon::write_import` meets its contract: of the rows as many as there are customers are lent.
use Rattle.std.proofs.Common.{◌≡◌, ◌+◌, length, arith}
use Rattle.std.proofs.lemmas.Grind.{common_steps}
use Rattle.solomon.proofs.ImportLaws.{table_fit, table_imported}
use Rattle.solomon.proofs.write_import.Goals as goal

pub invariant_of-instance : goal.invariant_of-instance
invariant_of-instance c =
    let size : length c.store_numbers.new.customers ≡ c.args.stops + 1 = grind (arith, common_steps, c.store_numbers.auto.customers) in
    record {
      depot = omega arith;
      fits = table_fit _ _ _ _ c.requires.0 c.store_numbers.ensures (omega (arith, c.store_numbers.auto.customers)) size c.capacity_of.ensures;
    }

pub returns : goal.returns
returns c =
    let size : length c.store_numbers.new.customers ≡ c.args.stops + 1 = grind (arith, common_steps, c.store_numbers.auto.customers) in
    table_imported _ _ _ _ c.requires.0 c.store_numbers.ensures (omega (arith, c.store_numbers.auto.customers)) size c.capacity_of.ensures _ c.requires.1 c.write_day.ensures
