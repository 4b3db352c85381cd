-- `keywords::code_in` meets its contract: the text's code is its code among the keywords from the place on.
-- Assumes nothing.
use Rattle.std.proofs.Common.{sym, ◌∙◌}
use Rattle.keywords.proofs.Table.{walk_hit, walk_more, walk_end}
use Rattle.keywords.proofs.code_in.Goals as goal

pub returns-then-is_it : goal.returns-then-is_it
returns-then-is_it c = walk_hit _ _ _ c.loop-code.invariant _ c.loop-code-test.true (sym c.is_it.ensures ∙ c.if-is_it.true)

pub loop-code-preserved : goal.loop-code-preserved
loop-code-preserved c = walk_more _ _ _ c.loop-code.invariant _ c.loop-code-test.true (sym c.is_it.ensures ∙ c.if-is_it.false)

pub returns : goal.returns
returns c = walk_end _ _ _ c.loop-code.invariant c.loop-code-test.false
