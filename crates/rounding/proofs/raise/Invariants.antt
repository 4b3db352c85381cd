-- `rounding::raise` adds a place at each turn: the size so far and the places to come make the whole.
-- Assumes nothing.
use Prim.Native.Nat.{◌*◌, ◌-◌, ◌^◌}
use mathlib.Core.Path.{◌≡◌}
use Rattle.rounding.proofs.raise.Given as goal

abbrev pub invariant-loop : goal.invariant-loop
invariant-loop l = l.v * 10 ^ (l.places - l.counter) ≡ l.size * 10 ^ l.places
