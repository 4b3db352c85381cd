-- `explain::tell` meets its contract: the message's end, or the line that offends, with its text as it stands in the feed.
-- Assumes nothing.
use mathlib.Core.Path.{sym, ap, ◌∙◌}
use mathlib.Core.List.{List}
use Prim.Native.Nat.{ℕ}
use Rattle.explain.specs.Explain.{blamed, told}
use Rattle.lines.proofs.Lists.{text_left, line_within}
use Rattle.explain.proofs.tell.Goals as goal

pub slice_bounds-blame-count : goal.slice_bounds-blame-count
slice_bounds-blame-count c = (line_within _ _ _ c.requires.1 c.line_at-ends.ensures).0

pub slice_bounds-blame-start : goal.slice_bounds-blame-start
slice_bounds-blame-start c = (line_within _ _ _ c.requires.1 c.line_at-ends.ensures).0

pub slice_bounds-blame-end : goal.slice_bounds-blame-end
slice_bounds-blame-end c = (line_within _ _ _ c.requires.1 c.line_at-ends.ensures).1

pub returns-in-Some : goal.returns-in-Some
unfolding told
returns-in-Some c =
    let x = c.args.stop in
    c.blame.ensures
    ∙ ap (λ (t : List ℕ). blamed x.state x.line (record { start = x.at; text = t }) c.in-Some.reason) (text_left _ _ _ c.line_at-ends.ensures)
    ∙ sym (rw c.in-Some.is)
