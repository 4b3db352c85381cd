-- `rows::put_found` meets its contract: NO_ROOM and nothing put, or every row put.
-- Assumes nothing.
use mathlib.Core.Path.{refl, sym, ◌∙◌}
use Rattle.tables.proofs.Tables.{put_table}
use Rattle.rows.specs.Filled.{table_after}
use Rattle.rows.proofs.Fills.{no_room, room_enough}
use Rattle.rows.proofs.put_found.Goals as goal

pub returns-then-table-rows : goal.returns-then-table-rows
unfolding table_after
returns-then-table-rows c = record { answer = rw c.into.ensures (no_room _ _ c.if-table-rows.true); table = refl }

pub returns : goal.returns
unfolding table_after
returns c = let h = c.if-table-rows.false in
    record { answer = room_enough _ _ h; table = c.fill.ensures ∙ put_table _ _ _ (sym c.requires.rows_value) h }
