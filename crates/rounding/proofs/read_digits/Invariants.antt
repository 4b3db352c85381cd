-- `rounding::read_digits` sums digit by digit: what the sum so far goes on to is what the whole text says.
-- Assumes nothing.
use mathlib.Core.Path.{◌≡◌}
use lib.ListN.{drop}
use Rattle.values.specs.Number.{digits_from}
use Rattle.rounding.proofs.read_digits.Given as goal

abbrev pub invariant-loop-b : goal.invariant-loop-b
invariant-loop-b l = digits_from l.v l.text ≡ digits_from l.value (drop l.b-index l.text)
