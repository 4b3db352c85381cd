-- `spoken::put_words`: the bytes left, said from here on, give what all the words would have given.
-- Assumes nothing.
use Rattle.ink.proofs.Laws.{Left}
use Rattle.spoken.specs.Saying.{words_by}
use Rattle.spoken.proofs.Laws.{words_from}
use Rattle.spoken.proofs.put_words.Given as goal

abbrev pub invariant-loop-at : goal.invariant-loop-at
invariant-loop-at g l = Left g.I.Ink.after g.I.Ink.room l.fn.ink (words_by l.manner l.value) l.ink (words_from l.manner l.value l.at)
