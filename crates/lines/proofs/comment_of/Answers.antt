-- `lines::comment_of` meets its contract: the word after the blanks, then its end, then the rest.
-- Assumes nothing.
use mathlib.Core.Path.{sym, ◌∙◌, ap}
use native.Mathlib.Omega.{arith}
use lib.ListN.{drop, length-drop}
use Rattle.words.specs.Words.{bytes}
use Rattle.words.proofs.Laws.{begins-le}
use Rattle.lines.proofs.Laws.{comment_other, comment_longer, comment_value}
use Rattle.lines.proofs.comment_of.Goals as goal
use Rattle.std.specs.Prelude.{Some}

pub returns-then-not-begins_at : goal.returns-then-not-begins_at
unfolding bytes
returns-then-not-begins_at c = sym (comment_other c.args.text.now _ c.blanks_end-at.ensures (sym c.begins_at.ensures ∙ c.if-not-begins_at.true))

pub overflow_add-n : goal.overflow_add-n
overflow_add-n c = let s = c.args.text.now in
    let at = c.blanks_end-at.result in
    omega (arith, begins-le _ (drop at s) (sym c.begins_at.ensures ∙ c.if-not-begins_at.false), length-drop at s)

pub returns-then-not-word_ends : goal.returns-then-not-word_ends
unfolding bytes
returns-then-not-word_ends c = sym (comment_longer c.args.text.now _ c.blanks_end-at.ensures (sym c.begins_at.ensures ∙ c.if-not-begins_at.false) (sym c.word_ends.ensures ∙ c.if-not-word_ends.true))

pub trim_from-requires : goal.trim_from-requires
trim_from-requires c = let s = c.args.text.now in
    let at = c.blanks_end-at.result in
    omega (arith, begins-le _ (drop at s) (sym c.begins_at.ensures ∙ c.if-not-begins_at.false), length-drop at s)

pub returns : goal.returns
unfolding bytes
returns c = ap Some c.trim_from.ensures
    ∙ sym (comment_value c.args.text.now _ c.blanks_end-at.ensures (sym c.begins_at.ensures ∙ c.if-not-begins_at.false) (sym c.word_ends.ensures ∙ c.if-not-word_ends.false))
