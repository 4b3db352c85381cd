-- `judge::walk_from` meets its contract. The invariant: the lines left, walked along from here, end as the whole does; each takes at least
-- a byte and has at most seven rows, so that the counts fit.
use Prim.Native.Nat.{◌+◌, ◌*◌, ◌-◌, ◌≤◌}
use mathlib.Core.Path.{◌≡◌}
use mathlib.Core.Bool.{true}
use lib.Dec.{eqb}
use lib.ListN.{length, drop}
use Rattle.lines.specs.Feed.{lines_at}
use Rattle.judge.specs.Message.{stop_of}
use Rattle.judge.proofs.walk_from.Given as goal

abbrev pub invariant-lines : goal.invariant-lines
invariant-lines l =
    let n = length l.feed in
    let from = l.initial in
    (stop_of n true from.state 1 0 (lines_at from.at (drop from.at l.feed)) ≡ stop_of n (eqb l.line 1) l.state l.line l.rows (lines_at l.at (drop l.at l.feed)))
    × (1 ≤ l.line) × (l.line ≤ l.at + 1) × (l.rows ≤ 7 * l.line) × (l.at ≤ n)

abbrev pub decreases-lines : goal.decreases-lines
decreases-lines l = length l.feed - l.at
