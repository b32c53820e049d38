-- `candidates::next_round` meets its contract.
use native.Mathlib.Omega.{arith}
use mathlib.Core.Path.{refl}
use Rattle.trial_list.proofs.LaidLaws.{round_are}
use Rattle.candidates.proofs.NextRounds.{round_able, round_retried, is_touches, some_roundable}
use Rattle.candidates.proofs.next_round.Goals as goal

pub write_round-requires : goal.write_round-requires
write_round-requires c =
    let s = c.requires.2 in (
      c.requires.0,
      c.requires.1,
      omega (arith, s.vehicle.few),
      some_roundable s c.requires.0 (is_touches _ _ c.is_touched-touched.ensures) refl,
    )

pub returns : goal.returns
returns c =
    let touched = is_touches _ _ c.is_touched-touched.ensures in
    λ rounds t l h. round_retried t l touched (c.write_round.ensures _ (round_able t l c.requires.0 h touched (round_are t.laid l)))
