-- `put` of a pen: the bytes left, put from here on, give what all of them would have given.
-- Assumes nothing.
use lib.ListN.{drop}
use Rattle.ink.specs.Ink.{written, Fits}
use Rattle.ink.proofs.Laws.{Left}
use Rattle.ink.proofs.PenInk.put.Given as goal

abbrev pub invariant-loop-byte : goal.invariant-loop-byte
invariant-loop-byte l = Left written Fits l.fn.self l.bytes l.self (drop l.byte-index l.bytes)
