-- `lines::trim` meets its contract: cut at the end first, then at the start of what is left.
-- Assumes nothing.
use native.Mathlib.Omega.{arith}
use Rattle.lines.proofs.Laws.{cut_le, trim_is}
use lib.ListN.{length-take}
use Rattle.lines.proofs.trim.Goals as goal

pub slice_bounds-blanks_end-end : goal.slice_bounds-blanks_end-end
slice_bounds-blanks_end-end c = let s = c.args.text.now in
    omega (arith, cut_le s, length-take c.cut_end-to.result s)

pub returns : goal.returns
returns c = trim_is _ _ _ c.cut_end-to.ensures c.blanks_end-from.ensures
