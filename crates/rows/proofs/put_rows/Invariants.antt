-- `rows::put_rows` meets its contract. The invariant: the rows left, put from here on, give what all of them would have given.
-- Assumes nothing.
use Prim.Native.Nat.{◌+◌}
use mathlib.Core.Path.{◌≡◌}
use lib.ListN.{drop}
use Rattle.judge.specs.Message.{rows_at}
use Rattle.tables.specs.Table.{put_rows}
use Rattle.rows.proofs.put_rows.Given as goal

abbrev pub invariant-loop-i : goal.invariant-loop-i
invariant-loop-i l = put_rows l.n (rows_at l.fn.step.code l.group l.line l.at l.span-items) l.initial.table ≡ put_rows (l.n + l.i) (rows_at (l.fn.step.code + l.i) l.group l.line l.at (drop l.i l.span-items)) l.table
