-- `words::is_word` meets its contract: the text is as long as the word, and the rests agree as the whole does.
-- Assumes nothing.
use Rattle.std.proofs.Common.{sym, refl, ◌∙◌, arith, eqb}
use borrow.Author.Tests.{ne_eqb, eq-eqb}
use Rattle.words.specs.Words.{is_word}
use Rattle.words.proofs.Laws.{agrees-end, agrees_more, agrees_stop, word_long}
use Rattle.words.proofs.is_word.Goals as goal

pub returns-then-text-word : goal.returns-then-text-word
unfolding is_word
returns-then-text-word c = rw (ne_eqb _ _ c.if-text-word.true)

pub loop-i-init : goal.loop-i-init
loop-i-init c = (c.if-text-word.false, refl)

pub returns-then-text-i : goal.returns-then-text-i
returns-then-text-i c =
    let long = c.loop-i.invariant.0 in
    sym (agrees_stop (λ a b. eqb b a) _ _ _ c.loop-i-test.true (omega (arith, long, c.loop-i-test.true)) (ne_eqb _ _ c.if-text-i.true)) ∙ sym c.loop-i.invariant.1 ∙ word_long _ _ long

pub loop-i-preserved : goal.loop-i-preserved
loop-i-preserved c =
    let long = c.loop-i.invariant.0 in
    (long, c.loop-i.invariant.1 ∙ agrees_more (λ a b. eqb b a) _ _ _ c.loop-i-test.true (omega (arith, long, c.loop-i-test.true)) (eq-eqb _ _ c.if-text-i.false))

pub returns : goal.returns
returns c =
    let long = c.loop-i.invariant.0 in
    sym (agrees-end (λ a b. eqb b a) _ _ c.loop-i.i (omega (arith, c.loop-i-test.false))) ∙ sym c.loop-i.invariant.1 ∙ word_long _ _ long
