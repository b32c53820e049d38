-- `Instance::write_front` meets its contract: the first i words stand at the front.
use Rattle.std.proofs.Common.{◌≡◌, ◌+◌, ◌*◌, ◌≤◌, length, arith}
use Rattle.std.proofs.lemmas.List.{length-take-le}
use Rattle.laws.proofs.Listed.{wrote_first, wrote_next}
use Rattle.solomon_words.specs.Instances.{word_at}
use Rattle.solomon_words.proofs.FrontLaws.{front_whole}
use Rattle.solomon_words.proofs.Instance.write_front.Goals as goal

pub loop-i-init : goal.loop-i-init
loop-i-init c = search wrote_first

pub loop-i-preserved : goal.loop-i-preserved
loop-i-preserved c = wrote_next _ _ _ _ c.loop-i.invariant c.front_word.ensures (omega arith)

pub returns : goal.returns
returns c =
    let few : 9 + 3 * c.stops.result ≤ length c.args.words.now = omega arith in
    let all : c.loop-i.i ≡ 9 + 3 * c.stops.result = omega (arith, length-take-le (9 + 3 * c.stops.result) c.args.words.now few) in
    front_whole (word_at c.args.self.now) _ _ _ _ _ c.loop-i.invariant all few (omega arith)
