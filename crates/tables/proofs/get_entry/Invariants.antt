-- `tables::get_entry` meets its contract. The invariant: the bytes up to here are read, and those behind them are 0.
-- Assumes nothing.
use mathlib.Core.List.{[], ◌∷◌, ◌++◌}
use mathlib.Core.Path.{◌≡◌}
use lib.ListN.{take, drop}
use Rattle.tables.proofs.get_entry.Given as goal

abbrev pub invariant-loop-k : goal.invariant-loop-k
invariant-loop-k g l = l.bytes ≡ take l.k (drop l.place l.table) ++ drop l.k (0 ∷ 0 ∷ 0 ∷ 0 ∷ [])
