-- `values::at_most` sums digit by digit: what the sum so far goes on to is what the whole text says.
-- Assumes nothing.
use Prim.Native.Nat.{◌≤◌}
use mathlib.Core.Path.{◌≡◌}
use lib.ListN.{drop}
use Rattle.values.specs.Number.{digits_from}
use Rattle.values.proofs.at_most.Given as goal

abbrev pub invariant-loop-b : goal.invariant-loop-b
invariant-loop-b l = record { below : l.value ≤ l.top; same : digits_from 0 l.text ≡ digits_from l.value (drop l.b-index l.text) }
