-- `tables::copy_entries` meets its contract. The invariant: the entries up to here are put, and the bytes behind them are as they came.
-- Assumes nothing.
use Rattle.tables.proofs.Copies.{Copied}
use Rattle.tables.proofs.copy_entries.Given as goal

abbrev pub invariant-loop-i : goal.invariant-loop-i
invariant-loop-i g l = Copied g.row.FROM g.row.TO l.from l.initial.to l.to l.i
