-- `trials::improve::improve` meets its contract.
use native.Mathlib.Omega.{arith}
use mathlib.Core.Path.{refl}
use Rattle.day.proofs.Ranges.{accepted_ranges}
use Rattle.trials.proofs.improve.improve.Goals as goal

pub fill_table-requires : goal.fill_table-requires
fill_table-requires c = ((accepted_ranges _ c.requires.buffers.0).stops_most, omega (arith, c.args.set.now.fit.most), refl)
