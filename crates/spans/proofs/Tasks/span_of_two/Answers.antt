-- `spans::Tasks::span_of_two` meets its contract.
use native.Mathlib.Omega.{arith}
use Rattle.std.proofs.Math.Nat.{min-le_left, min-le_right, le-max_left, le-max_right}
use Rattle.spans.proofs.SpanLaws.{place_held}
use Rattle.spans.proofs.Tasks.span_of_two.Goals as goal

pub returns-in-Some-Some : goal.returns-in-Some-Some
returns-in-Some-Some c =
    let one = c.in-Some-Some.one in
    let two = c.in-Some-Some.two in (
      place_held c.place_of_stop-one.ensures c.in-Some-Some.is-0 (omega (arith, c.min.ensures, min-le_left one two)) (omega (arith, c.max.ensures, le-max_left one two)),
      place_held c.place_of_stop-two.ensures c.in-Some-Some.is-1 (omega (arith, c.min.ensures, min-le_right one two)) (omega (arith, c.max.ensures, le-max_right one two)),
    )
