-- `explain::blame` meets its contract: the part lies in the line, and the line in the feed.
-- Assumes nothing.
use native.Mathlib.Omega.{arith}
use Rattle.step.specs.Step.{Inside}
use Rattle.explain.specs.Explain.{blamed}
use Rattle.parts.proofs.Laws.{offending-inside}
use Rattle.explain.proofs.blame.Goals as goal

pub overflow_add-result : goal.overflow_add-result
overflow_add-result c =
    let lies : Inside c.offending_part-p.result c.args.text.now = rw c.offending_part-p.ensures (offending-inside _ _ _) in
    omega (arith, lies)

pub overflow_cast-result : goal.overflow_cast-result
overflow_cast-result c =
    let lies : Inside c.offending_part-p.result c.args.text.now = rw c.offending_part-p.ensures (offending-inside _ _ _) in
    omega (arith, lies)

pub overflow_sub-result : goal.overflow_sub-result
overflow_sub-result c =
    let lies : Inside c.offending_part-p.result c.args.text.now = rw c.offending_part-p.ensures (offending-inside _ _ _) in
    lies.order

pub overflow_cast-result-2 : goal.overflow_cast-result-2
overflow_cast-result-2 c =
    let lies : Inside c.offending_part-p.result c.args.text.now = rw c.offending_part-p.ensures (offending-inside _ _ _) in
    omega (arith, lies)

pub returns : goal.returns
unfolding blamed
returns c = rw c.codes_for.ensures (rw c.offending_part-p.ensures)
