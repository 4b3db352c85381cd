-- `write::Line::put_values`: the values left, put from here on, give what all of them would have given.
-- Assumes nothing.
use lib.ListN.{drop}
use Rattle.ink.proofs.Laws.{Left}
use Rattle.write.specs.Inner.{spaced, values_of}
use Rattle.write.proofs.Line.put_values.Given as goal

abbrev pub invariant-loop-span : goal.invariant-loop-span
invariant-loop-span g l = Left g.I.Ink.after g.I.Ink.room l.fn.ink (values_of l.self.feed.now l.self.at l.self.step) l.ink (spaced l.self.feed.now l.self.at (drop l.span-index l.span-items))
