-- `lines::heads_with` meets its contract: the word after the blanks, then `=` after those behind it.
-- Assumes nothing.
use Rattle.words.specs.Words.{bytes}
use lib.ListN.{drop, length-drop}
use Rattle.words.proofs.Laws.{begins-le}
use mathlib.Core.Path.{sym, ◌∙◌}
use native.Mathlib.Omega.{arith}
use Rattle.lines.proofs.Laws.{heads_no, heads_yes}
use Rattle.lines.proofs.heads_with.Goals as goal

pub returns-else-begins_at : goal.returns-else-begins_at
returns-else-begins_at c = let e = c.if-begins_at.false in
    e ∙ sym (heads_no _ _ _ c.blanks_end-at.ensures (sym c.begins_at.ensures ∙ e))

pub overflow_add-at : goal.overflow_add-at
overflow_add-at c = let a = c.args in
    let at = c.blanks_end-at.result in
    omega (arith, begins-le a.word.now (drop at a.text.now) (sym c.begins_at.ensures ∙ c.if-begins_at.true), length-drop at a.text.now)

pub returns-then-begins_at : goal.returns-then-begins_at
unfolding bytes
returns-then-begins_at c = let a = c.args in
    c.begins_at-then-begins_at.ensures
    ∙ sym (heads_yes a.word.now a.text.now _ c.blanks_end-at.ensures _ (sym c.begins_at.ensures ∙ c.if-begins_at.true) c.blanks_end.ensures)
