-- `lines::assignment_of` meets its contract: the text has an `=`, or not.
-- Assumes nothing.
use borrow.Author.Tests.{lt-ltb, le-ltb}
use Rattle.lines.specs.Text.{assignment_of}
use Rattle.lines.proofs.assignment_of.Goals as goal

pub returns-then-n-text : goal.returns-then-n-text
unfolding assignment_of
returns-then-n-text c = rw (c.sides_of.ensures, c.byte_at-n.ensures) (rw (rw c.byte_at-n.ensures at (lt-ltb _ _ c.if-n-text.true), assignment_of))

pub returns : goal.returns
unfolding assignment_of
returns c = rw (rw c.byte_at-n.ensures at (le-ltb _ _ c.if-n-text.false), assignment_of)
