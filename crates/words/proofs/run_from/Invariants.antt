-- `words::run_from` meets its contract: a walk along the bytes of the class.
-- Assumes nothing.
use Prim.Native.Nat.{◌+◌}
use mathlib.Core.Path.{◌≡◌}
use lib.ListN.{drop}
use Rattle.words.specs.Words.{run}
use Rattle.words.proofs.run_from.Given as goal

abbrev pub invariant-loop-at : goal.invariant-loop-at
invariant-loop-at g l = l.from + run (g.C.Class.has l.class) (drop l.from l.text) ≡ l.at + run (g.C.Class.has l.class) (drop l.at l.text)
