-- `rounding::lower` cuts off a place at each turn.
-- Assumes nothing.
use Prim.Native.Nat.{◌/◌, ◌^◌}
use mathlib.Core.Path.{◌≡◌}
use Rattle.rounding.proofs.lower.Given as goal

abbrev pub invariant-loop : goal.invariant-loop
invariant-loop l = l.v ≡ l.size / 10 ^ l.counter
