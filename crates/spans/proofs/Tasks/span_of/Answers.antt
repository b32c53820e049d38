-- `spans::Tasks::span_of` meets its contract.
use Rattle.spans.proofs.SpanLaws.{before_span, after_span, swap_span, remove_span, replace_span}
use Rattle.spans.proofs.Tasks.span_of.Goals as goal
use Rattle.spans.proofs.Tasks.span_of.Goals.{then-here, else-here}

pub returns-in-Before : goal.returns-in-Before
returns-in-Before c =
    λ tasks q s.
    let w = rw c.in-Before.is at c.requires in
    let o = rw c.in-Before.is at s in
    rw c.in-Before.is (before_span _ _ tasks q w.0 w.1 _ o c.span_of_two.ensures.0 c.span_of_two.ensures.1)

pub returns-in-After : goal.returns-in-After
returns-in-After c =
    λ tasks q s.
    let w = rw c.in-After.is at c.requires in
    let o = rw c.in-After.is at s in
    rw c.in-After.is (after_span _ _ tasks q w.0 w.1 _ o c.span_of_two-in-After.ensures.0 c.span_of_two-in-After.ensures.1)

pub returns-after-here : goal.returns-after-here
returns-after-here c =
    λ tasks q s.
    let w = rw c.in-Swap.is at c.requires in
    let o = rw c.in-Swap.is at s in
    rw c.in-Swap.is (swap_span _ _ tasks q w.0 w.1 _ o (elim c.if-here.branch [
      | then-here a ↦ rw a.if-here.true (rw a.span_of_stop-is at c.span_of_stop.ensures)
      | else-here a ↦ rw a.if-here.false (rw a.span_of_stop-is at c.span_of_stop.ensures)
    ]))

pub returns-in-Remove : goal.returns-in-Remove
returns-in-Remove c = λ tasks q s. rw c.in-Remove.is (remove_span _ tasks q c.span_of_word.ensures)

pub returns-in-Replace : goal.returns-in-Replace
returns-in-Replace c = λ tasks q s. rw c.in-Replace.is (replace_span _ tasks q c.span_of_word-in-Replace.ensures _)
