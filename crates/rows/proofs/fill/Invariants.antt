-- `rows::fill` meets its contract. The invariant: the lines left are still accepted, so that the next is right, and their rows, put from here on, give what all of them would have given.
-- Assumes nothing.
use Prim.Native.Nat.{ℕ, ◌+◌, ◌-◌, ◌*◌, ◌≤◌, ◌<◌}
use mathlib.Core.Path.{◌≡◌}
use mathlib.Core.Bool.{true}
use lib.Dec.{eqb}
use lib.ListN.{length}
use Rattle.judge.specs.Message.{texts, judge_texts, rows_from}
use Rattle.judge.proofs.Laws.{left}
use Rattle.tables.specs.Table.{put_rows}
use Rattle.rows.proofs.fill.Given as goal
use Rattle.std.specs.Prelude.{Ok}

abbrev pub invariant-lines : goal.invariant-lines
invariant-lines l = ((total : ℕ) × (judge_texts l.state l.line l.n (texts (left l.feed l.at (eqb l.line 1))) ≡ Ok total)) × (put_rows 0 (rows_from l.initial.state 0 1 (left l.feed l.from true)) l.initial.table ≡ put_rows l.n (rows_from l.state l.group l.line (left l.feed l.at (eqb l.line 1))) l.table) × (1 ≤ l.line) × (l.line ≤ l.at + 1) × (l.group < l.line) × (l.n ≤ 7 * l.at) × (length l.table ≡ length l.initial.table)

abbrev pub decreases-lines : goal.decreases-lines
decreases-lines l = length l.feed - l.at
