-- `judge::next_line` meets its contract: the feed's end, the next heading line, or the line judged.
-- Assumes nothing.
use mathlib.Core.Path.{sym, ap, ◌∙◌}
use native.Mathlib.Omega.{arith}
use Rattle.lines.proofs.Lists.{Placed, placed}
use Rattle.judge.specs.Message.{moved_to, SureNext}
use Rattle.judge.proofs.Laws.{over_up, up_stop, up_more, moved-end, moved_more}
use Rattle.judge.proofs.next_line.Goals as goal

pub returns-then-feed-at : goal.returns-then-feed-at
returns-then-feed-at c = sym (moved-end _ _ _ _ (over_up _ _ c.if-feed-at.true _))

pub slice_bounds-text-count : goal.slice_bounds-text-count
slice_bounds-text-count c =
    let here : Placed c.args.feed.now c.args.at c.line_at-ends.result = placed _ _ _ c.if-feed-at.false c.line_at-ends.ensures in
    omega (arith, here)

pub slice_bounds-text-start : goal.slice_bounds-text-start
slice_bounds-text-start c =
    let here : Placed c.args.feed.now c.args.at c.line_at-ends.result = placed _ _ _ c.if-feed-at.false c.line_at-ends.ensures in
    omega (arith, here)

pub slice_bounds-text-end : goal.slice_bounds-text-end
slice_bounds-text-end c =
    let here : Placed c.args.feed.now c.args.at c.line_at-ends.result = placed _ _ _ c.if-feed-at.false c.line_at-ends.ensures in
    omega (arith, here)

pub returns-then-is_over : goal.returns-then-is_over
returns-then-is_over c =
    sym (moved-end _ _ _ _ (up_stop _ _ _ c.if-feed-at.false c.line_at-ends.ensures _ (sym c.is_over.ensures ∙ c.if-is_over.true)))

pub step-requires : goal.step-requires
unfolding SureNext
step-requires c = rw (up_more _ _ _ c.if-feed-at.false c.line_at-ends.ensures _ (sym c.is_over.ensures ∙ c.if-is_over.false)) at c.requires

pub returns-in-Ok : goal.returns-in-Ok
returns-in-Ok c =
    let more = up_more _ _ _ c.if-feed-at.false c.line_at-ends.ensures _ (sym c.is_over.ensures ∙ c.if-is_over.false) in
    let m = moved_more _ _ _ c.args.state _ c.line_at-ends.ensures more in
    sym (m ∙ ap (moved_to c.line_at-ends.result.next) (sym c.step.ensures ∙ c.in-Ok.is))

pub returns-in-Err : goal.returns-in-Err
returns-in-Err c =
    let more = up_more _ _ _ c.if-feed-at.false c.line_at-ends.ensures _ (sym c.is_over.ensures ∙ c.if-is_over.false) in
    let m = moved_more _ _ _ c.args.state _ c.line_at-ends.ensures more in
    sym (m ∙ ap (moved_to c.line_at-ends.result.next) (sym c.step.ensures ∙ c.in-Err.is))
