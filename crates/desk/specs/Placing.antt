-- What placing does and what a ticket hears, by document 01, "Rows, desk and tickets" and its table of reasons.
-- Assumes nothing.
use Rattle.std.specs.Prelude.{ℕ, ◌+◌, List, [], true, false, eqb, ltb, length, take, drop, Result, Ok, Err}
use Rattle.reasons.specs.declared.Reason.TheVariants as Reasons
use Rattle.judge.specs.Message.{judge_of, rows_of, refused}
use Rattle.tables.specs.Table.{host_width}
use Rattle.tables.specs.Hearing.{row_heard}
use Rattle.rows.specs.Filled.{room_for, table_after}
use Rattle.desk.specs.declared.Desk.{Desk}
use Rattle.desk.specs.declared.Ticket.{Ticket}
use Rattle.desk.specs.declared.Placed.{Placed}
use Rattle.reasons.specs.declared.Reason.{Reason}
use Rattle.judge.specs.declared.Refusal.{Refusal}
use Rattle.judge.specs.declared.Row.{Row}

-- "Load numbers go up to 4,294,967,295."
abbrev pub top_load : ℕ
top_load = 4294967295

-- the next load number, holding so many rows
abbrev pub next_desk : Desk → ℕ → Desk
next_desk d n = record { load = record { 0 = d.load.0 + 1 }; count = n }

-- "after any other load the load number is one higher, and after a refusal the count is 0"
unfoldable pub desk_after : Desk → Result ℕ Refusal → Desk
desk_after d (Err e) = next_desk d 0
desk_after d (Ok n) = next_desk d n

-- document 02, (viii): "placing, which judges, fills the table and moves the desk. Placing answers as the old load did for every input." Document 01:
-- "A desk goes in by value and comes back." "A load answers accepted with its row count, or a reason and a line." "A load checks 13, 1, 2, 3-11, 12.
-- After 13 desk and table are as before"
unfoldable pub place_of : Desk → List ℕ → ℕ → ℕ → Placed
place_of d f k bytes =
    elim (eqb d.load.0 top_load) [
      | true ↦ record { desk = d; answer = refused Reasons.Spent 0 }
      | false ↦ let j = room_for bytes (judge_of f k) in record { desk = desk_after d j; answer = j }
    ]

-- the table after placing, whatever it answered
abbrev pub place_table : Desk → List ℕ → ℕ → List ℕ → List ℕ
place_table d f k t = table_after (place_of d f k (length t)).answer (rows_of f k) t

-- "Reading a ticket checks 14, 15, 16, changes nothing, and gives the row and its part of the feed."
unfoldable pub read_of : Desk → Ticket → List ℕ → List ℕ → Result Row Reason
read_of d k f t =
    elim (eqb k.load.0 d.load.0) [
      | false ↦ Err Reasons.Gone
      | true ↦ elim (ltb k.row.0 d.count) [ false ↦ Err Reasons.NoRow | true ↦ row_heard host_width k.row.0 f t ]
    ]

-- the row's part of the feed, "empty on a refusal"
unfoldable pub part_heard : Result Row Reason → List ℕ → List ℕ
part_heard (Err r) f = []
part_heard (Ok r) f = take r.length (drop r.start f)
