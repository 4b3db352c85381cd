-- `write::walk` meets its contract. The invariant: the lines left are still accepted, so that the next is right, and what is written of them, put from here on, gives what all of them would have given.
-- Assumes nothing.
use Prim.Native.Nat.{◌-◌, ◌≤◌}
use lib.Dec.{eqb}
use lib.ListN.{length}
use Rattle.judge.proofs.Laws.{left}
use Rattle.write.specs.Inner.{items_from, written_from, plain_from}
use Rattle.ink.proofs.Laws.{Left}
use Rattle.write.proofs.Walks.{Accepts}
use Rattle.write.proofs.walk.Given as goal

abbrev pub invariant-lines : goal.invariant-lines
invariant-lines g l = Accepts l.state (left l.feed l.at (eqb l.at l.from)) × Left g.I.Ink.after g.I.Ink.room l.fn.ink (plain_from l.feed l.fn.found) l.ink (written_from l.first l.state.form (items_from l.state l.feed (left l.feed l.at (eqb l.at l.from)))) × (l.from ≤ l.at)

abbrev pub decreases-lines : goal.decreases-lines
decreases-lines g l = length l.feed - l.at
