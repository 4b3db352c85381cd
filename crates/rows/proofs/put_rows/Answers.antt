-- `rows::put_rows` meets its contract. The invariant: the rows left, put from here on, give what all of them would have given.
-- Assumes nothing.
use mathlib.Core.Path.{sym, ◌∙◌}
use Rattle.rows.proofs.Fills.{put_past}
use Rattle.rows.proofs.put_rows.Goals as goal

pub returns : goal.returns
returns c = sym (c.loop-i.invariant ∙ put_past _ _ _ _ _ _ _ _ c.loop-i-test.false)
