-- `desk::Desk::value` meets its contract: nothing, or the span of the row that was spoken, which lies in the feed.
-- Assumes nothing.
use mathlib.Core.Path.{sym, ◌∙◌}
use native.Mathlib.Omega.{arith}
use native.Mathlib.Nat.{add-sub_cancel_left}
use Rattle.desk.specs.Placing.{part_heard}
use Rattle.desk.proofs.Reading.{spoken_within}
use Rattle.desk.proofs.Desk.value.Goals as goal

pub slice_bounds-result-end-in-Ok : goal.slice_bounds-result-end-in-Ok
slice_bounds-result-end-in-Ok c = omega (arith, spoken_within _ _ _ _ _ (sym c.read.ensures ∙ c.in-Ok.is))

pub returns-in-Err : goal.returns-in-Err
unfolding part_heard
returns-in-Err c = rw (sym c.read.ensures ∙ c.in-Err.is)

pub returns-in-Ok : goal.returns-in-Ok
unfolding part_heard
returns-in-Ok c = rw (sym c.read.ensures ∙ c.in-Ok.is, add-sub_cancel_left)
