-- `lines::fields_of` meets its contract: the fields gathered, then those of what is left, are those of the whole.
-- Assumes nothing.
use Prim.Native.Nat.{◌-◌}
use mathlib.Core.Path.{◌≡◌}
use lib.ListN.{length, drop}
use Rattle.lines.specs.Text.{fields_from, gathered, split_of}
use Rattle.lines.proofs.fields_of.Given as goal

abbrev pub invariant-loop-from : goal.invariant-loop-from
invariant-loop-from l = split_of l.text ≡ gathered (record { count = l.count; spans = l.spans }) (fields_from l.from l.from (drop l.from l.text))

abbrev pub decreases-loop-from : goal.decreases-loop-from
decreases-loop-from l = length l.text - l.from
