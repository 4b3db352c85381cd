-- Own row: what placing put into the table is what its tickets hear.
-- Assumes nothing.
use Prim.Native.Nat.{ℕ, ◌+◌, ◌*◌, ◌<◌}
use mathlib.Core.Path.{◌≡◌, refl, sym, ◌∙◌}
use mathlib.Core.List.{List, ◌++◌}
use native.Mathlib.Omega.{arith}
use lib.ListN.{length, drop, get_or, length-append, length-drop}
use Rattle.judge.specs.Message.{judge_of, rows_of}
use Rattle.tables.specs.Table.{host_width, host_row, table_bytes, row_at}
use Rattle.desk.specs.Placing.{top_load, next_desk, place_of, read_of, part_heard}
use Rattle.desk.specs.declared.Desk.{Desk}
use Rattle.desk.proofs.Reading.{read_row}
use Rattle.tables.proofs.Hearing.{span_in}
use Rattle.judge.proofs.Laws.{accepted_short}
use Rattle.rows.proofs.Fills.{rows_count, room-right}
use Rattle.tables.proofs.Tables.{table-length, row_back}
use Rattle.demands.specs.Placing.{ticket, no_row, OwnRow}
use Rattle.demands.proofs.Placing.{answer_free, placing_fills}
use Rattle.demands.proofs.Rows.{Held, at_every, all_held, all_small}
use Rattle.std.specs.Prelude.{Ok}

module _ (d : Desk) (f : List ℕ) (k : ℕ) (t : List ℕ) (n i : ℕ) (h : d.load.0 ≡ top_load → ⊥) (e : (place_of d f k (length t)).answer ≡ Ok n) (lt : i < n) where
  right : judge_of f k ≡ Ok n
  right = (placing_fills d f k t n e).0

  counted : length (rows_of f k) ≡ n
  counted = rows_count f k n right

  own : Held (length f) (get_or (rows_of f k) i no_row)
  own = at_every (Held (length f)) no_row (rows_of f k) (all_held f k (accepted_short f k n right)) i (omega (arith, counted))

  back : row_at host_width (table_bytes (rows_of f k) ++ drop (host_row * n) t) i ≡ get_or (rows_of f k) i no_row
  back =
      row_back (rows_of f k) (drop (host_row * n) t) no_row (all_small (length f) (rows_of f k) (all_held f k (accepted_short f k n right))) i (omega (arith, counted))

  heard : read_of (next_desk d n) (ticket (d.load.0 + 1) i) f (table_bytes (rows_of f k) ++ drop (host_row * n) t) ≡ Ok (get_or (rows_of f k) i no_row)
  heard =
      let room = (room-right (length t) (judge_of f k) n (sym e ∙ answer_free d f k (length t) h)).1 in
      read_row (next_desk d n) (ticket (d.load.0 + 1) i) f _ refl lt
      ∙ span_in host_width i f _ (get_or (rows_of f k) i no_row) (sym back)
      (simp (length-append, length-drop, table-length) (omega (arith, counted)))
      own.within

  heard_on : (b : Desk) (u : List ℕ) → b ≡ next_desk d n → u ≡ table_bytes (rows_of f k) ++ drop (host_row * n) t
      → read_of b (ticket b.load.0 i) f u ≡ Ok (get_or (rows_of f k) i no_row)
  heard_on b u p q = rw (p, q) heard

pub own_row : OwnRow
unfolding part_heard
own_row d f k t n i h e lt =
    let j = placing_fills d f k t n e in
    let w = heard_on d f k t n i h e lt _ _ j.1 j.2 in
    (w, rw w, (own d f k t n i h e lt).within)
