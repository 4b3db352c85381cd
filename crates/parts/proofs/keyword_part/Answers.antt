-- `parts::keyword_part` meets its contract.
-- Assumes nothing.
use borrow.Author.Tests.{eq-eqb, ne_eqb}
use Rattle.parts.specs.Parts.{keyword_part}
use Rattle.parts.proofs.keyword_part.Goals as goal

pub returns-then-keyword-eq0 : goal.returns-then-keyword-eq0
unfolding keyword_part
returns-then-keyword-eq0 c = rw c.byte_at-n.ensures (rw (← c.sides_in.ensures, eq-eqb _ _ c.if-keyword-eq0.true, keyword_part))

pub returns : goal.returns
unfolding keyword_part
returns c = rw (← c.sides_in.ensures, ne_eqb _ _ c.if-keyword-eq0.false, keyword_part) (rw (← c.sides_in.ensures))
