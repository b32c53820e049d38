-- `spans::Tasks::span_of_stop` meets its contract.
use native.Mathlib.Omega.{arith}
use Rattle.spans.proofs.SpanLaws.{place_held}
use Rattle.spans.proofs.Tasks.span_of_stop.Goals as goal

pub returns-in-Some : goal.returns-in-Some
returns-in-Some c = place_held c.place_of_stop.ensures c.in-Some.is (omega arith) (omega arith)
