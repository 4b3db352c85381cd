-- `lines::line_at` meets its contract: the text's end, then the ending.
-- Assumes nothing.
use native.Mathlib.Omega.{arith}
use lib.ListN.{drop, length-drop}
use Rattle.lines.proofs.Laws.{end-le, line-is}
use Rattle.lines.proofs.line_at.Goals as goal

pub overflow_add-result : goal.overflow_add-result
overflow_add-result c = let f = c.args.feed.now in
    let e = c.text_end-end.result in
    omega (arith, end-le (drop e f), length-drop e f, c.end_len-n.ensures)

pub returns : goal.returns
returns c = line-is _ _ _ _ c.text_end-end.ensures c.end_len-n.ensures
