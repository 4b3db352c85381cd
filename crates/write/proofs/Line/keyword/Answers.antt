-- `write::Line::keyword` meets its contract: the part is the keyword of the line's text.
-- Assumes nothing.
use mathlib.Core.Path.{◌≡◌}
use mathlib.Core.List.{List}
use Prim.Native.Nat.{ℕ, ◌-◌, ◌≤◌}
use native.Mathlib.Omega.{arith}
use lib.ListN.{length, take, drop, length-take}
use Rattle.words.proofs.Laws.{run-le}
use Rattle.lines.specs.Feed.{ends_of}
use Rattle.lines.specs.Text.{equals_at, trim_of}
use Rattle.lines.specs.declared.Ends.{Ends}
use Rattle.lines.specs.declared.Span.{Span}
use Rattle.lines.proofs.Lists.{text_left, placed}
use Rattle.step.specs.Step.{part}
use Rattle.step.proofs.Laws.{trim_inside}
use Rattle.write.specs.Inner.{text_at, name_of}
use Rattle.write.proofs.Line.keyword.Goals as goal

-- the part is the keyword
name : (f : List ℕ) (at : ℕ) (e : Ends) (k : ℕ) (p : Span) → e ≡ ends_of at (drop at f) → let t = take (e.end - at) (drop at f) in
    k ≡ equals_at t → p ≡ trim_of (take k t) → part p t ≡ name_of (text_at f at)
unfolding name_of
name f at e k p q r s = rw (s, r, text_left _ _ _ q)

pub slice_bounds-text-count : goal.slice_bounds-text-count
slice_bounds-text-count c = let here = placed _ _ _ c.args.self.now.at_in_bounds c.line_at-ends.ensures in omega (arith, here)

pub slice_bounds-text-start : goal.slice_bounds-text-start
slice_bounds-text-start c = let here = placed _ _ _ c.args.self.now.at_in_bounds c.line_at-ends.ensures in omega (arith, here)

pub slice_bounds-text-end : goal.slice_bounds-text-end
slice_bounds-text-end c = let here = placed _ _ _ c.args.self.now.at_in_bounds c.line_at-ends.ensures in omega (arith, here)

pub slice_bounds-trim-end : goal.slice_bounds-trim-end
slice_bounds-trim-end c =
    let t = take (c.line_at-ends.result.end - c.args.self.now.at) (drop c.args.self.now.at c.args.self.now.feed.now) in
    let within : c.byte_at-equals.result ≤ length t = rw c.byte_at-equals.ensures (run-le _ t) in
    omega (arith, length-take c.byte_at-equals.result t)

pub slice_bounds-result-count : goal.slice_bounds-result-count
slice_bounds-result-count c = let inside = trim_inside _ _ c.trim-name.ensures in omega (arith, inside)

pub slice_bounds-result-start : goal.slice_bounds-result-start
slice_bounds-result-start c = let inside = trim_inside _ _ c.trim-name.ensures in omega (arith, inside)

pub slice_bounds-result-end : goal.slice_bounds-result-end
slice_bounds-result-end c =
    let inside = trim_inside _ _ c.trim-name.ensures in
    omega (arith, inside, length-take c.byte_at-equals.result (take (c.line_at-ends.result.end - c.args.self.now.at) (drop c.args.self.now.at c.args.self.now.feed.now)))

pub returns : goal.returns
returns c = name _ _ _ _ _ c.line_at-ends.ensures c.byte_at-equals.ensures c.trim-name.ensures
