-- Laws of placing's answer and of what a ticket hears, one a case.
-- Assumes nothing.
use mathlib.Core.Path.{◌≡◌}
use mathlib.Core.List.{List}
use mathlib.Core.Bool.{Bool, true, false}
use Prim.Native.Nat.{ℕ, ◌+◌, ◌≤◌, ◌<◌}
use lib.Dec.{eqb, ltb}
use lib.ListN.{length}
use borrow.Author.Tests.{eq-eqb, ne_eqb, lt-ltb, le-ltb}
use Rattle.reasons.specs.declared.Reason.TheVariants as Reasons
use Rattle.judge.specs.declared.Row.{Row}
use Rattle.desk.specs.Placing.{top_load, desk_after, place_of, read_of}
use Rattle.tables.specs.Table.{host_width}
use Rattle.tables.specs.Hearing.{row_heard}
use Rattle.rows.specs.Filled.{room_for}
use Rattle.tables.proofs.Hearing.{Within, row_within}
use Rattle.judge.specs.Message.{judge_of, refused}
use Rattle.desk.specs.declared.Desk.{Desk}
use Rattle.desk.specs.declared.Ticket.{Ticket}
use Rattle.std.specs.Prelude.{Result, Ok, Err}
use Rattle.judge.specs.declared.Refusal.{Refusal}

-- ---- placing

module _ (d : Desk) (f : List ℕ) (k : ℕ) (bytes : ℕ) where
  pub place_spent : d.load.0 ≡ top_load → place_of d f k bytes ≡ record { desk = d; answer = refused Reasons.Spent 0 }
  unfolding place_of
  place_spent h = rw (eq-eqb _ _ h, place_of)

  pub place_answer : (d.load.0 ≡ top_load → ⊥) → (j : Result ℕ Refusal) → j ≡ room_for bytes (judge_of f k) → place_of d f k bytes ≡ record { desk = desk_after d j; answer = j }
  unfolding place_of
  place_answer more j e = rw (ne_eqb _ _ more, place_of) (rw (← e))

-- ---- the ticket

module _ (d : Desk) (k : Ticket) (f t : List ℕ) where
  pub read_gone : (k.load.0 ≡ d.load.0 → ⊥) → read_of d k f t ≡ Err Reasons.Gone
  unfolding read_of
  read_gone h = rw (ne_eqb _ _ h, read_of)

  pub read_none : k.load.0 ≡ d.load.0 → d.count ≤ k.row.0 → read_of d k f t ≡ Err Reasons.NoRow
  unfolding read_of
  read_none h l = rw (eq-eqb _ _ h, read_of) (rw (le-ltb _ _ l))

  pub read_row : k.load.0 ≡ d.load.0 → k.row.0 < d.count → read_of d k f t ≡ row_heard host_width k.row.0 f t
  unfolding read_of
  read_row h l = rw (eq-eqb _ _ h, read_of) (rw (lt-ltb _ _ l))

-- ---- a row that is spoken has its span in the feed

read_within : (d : Desk) (k : Ticket) (f t : List ℕ) → Within (read_of d k f t) f
unfolding read_of Within
read_within d k f t = go (eqb k.load.0 d.load.0) (ltb k.row.0 d.count)
  where
    go : (a b : Bool) → Within (elim a [ false ↦ Err Reasons.Gone | true ↦ elim b [ false ↦ Err Reasons.NoRow | true ↦ row_heard host_width k.row.0 f t ] ]) f
    go false b = tt
    go true false = tt
    go true true = row_within _ _ f t

pub spoken_within : (d : Desk) (k : Ticket) (f t : List ℕ) (r : Row) → read_of d k f t ≡ Ok r → r.start + r.length ≤ length f
unfolding Within
spoken_within d k f t r e = rw e at (read_within d k f t)
