-- `words::is_word` meets its contract: the text is as long as the word, and the rests agree as the whole does.
-- Assumes nothing.
use Rattle.std.proofs.Common.{◌≡◌, length, drop}
use Rattle.words.specs.Words.{begins}
use Rattle.words.proofs.is_word.Given as goal

abbrev pub invariant-loop-i : goal.invariant-loop-i
invariant-loop-i l = (length l.text ≡ length l.word) × (begins l.word l.text ≡ begins (drop l.i l.word) (drop l.i l.text))
