-- `step::Part::trim` meets its contract: what is left lies in the text.
-- Assumes nothing.
use native.Mathlib.Omega.{arith}
use Rattle.step.proofs.Laws.{trim_part}
use Rattle.step.proofs.Part.trim.Goals as goal

pub overflow_add-result : goal.overflow_add-result
overflow_add-result c = let i = trim_part _ _ c.args.self.now.inside _ _ c.bytes.ensures c.trim-inner.ensures in omega (arith, i.order, i.end)

pub overflow_add-result-2 : goal.overflow_add-result-2
overflow_add-result-2 c = let i = trim_part _ _ c.args.self.now.inside _ _ c.bytes.ensures c.trim-inner.ensures in omega (arith, i.end)

pub invariant_of-result : goal.invariant_of-result
invariant_of-result c = record { inside = trim_part _ _ c.args.self.now.inside _ _ c.bytes.ensures c.trim-inner.ensures }
