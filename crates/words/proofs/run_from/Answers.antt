-- `words::run_from` meets its contract: a walk along the bytes of the class.
-- Assumes nothing.
use mathlib.Core.Path.{sym, ◌∙◌}
use Rattle.words.proofs.Laws.{walk_more, walk_stop, walk_over}
use Rattle.words.proofs.run_from.Goals as goal

pub returns-then-not-has : goal.returns-then-not-has
returns-then-not-has g c = walk_stop _ _ _ _ c.loop-at.invariant c.loop-at-test.true (sym c.has.ensures ∙ c.if-not-has.true)

pub loop-at-preserved : goal.loop-at-preserved
loop-at-preserved g c = walk_more _ _ _ _ c.loop-at.invariant c.loop-at-test.true (sym c.has.ensures ∙ c.if-not-has.false)

pub returns : goal.returns
returns g c = c.max.ensures ∙ walk_over _ _ _ _ c.loop-at.invariant c.loop-at-test.false c.loop-at.auto.at-end
