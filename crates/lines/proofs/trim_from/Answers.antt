-- `lines::trim_from` meets its contract: the part is trimmed, and its places are moved.
-- Assumes nothing.
use mathlib.Core.Path.{ap, ◌∙◌}
use native.Mathlib.Omega.{arith}
use Rattle.words.proofs.Laws.{part_from}
use Rattle.lines.specs.Text.{trim_of, moved}
use Rattle.lines.proofs.Laws.{part_within}
use Rattle.lines.proofs.trim_from.Goals as goal

pub overflow_add-result : goal.overflow_add-result
overflow_add-result c = let a = c.args in omega (arith, part_within a.text.now a.n _ (omega arith) c.trim-p.ensures)

pub overflow_add-result-2 : goal.overflow_add-result-2
overflow_add-result-2 c = let a = c.args in omega (arith, part_within a.text.now a.n _ (omega arith) c.trim-p.ensures)

pub returns : goal.returns
returns c = let a = c.args in
    ap (moved a.n) (c.trim-p.ensures ∙ ap trim_of (part_from a.text.now a.n))
