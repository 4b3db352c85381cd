-- Demands 1 and 2, in the user's words, of judging, placing and tickets.
-- Assumes nothing.
use Rattle.std.specs.Prelude.{ℕ, ◌+◌, ◌*◌, ◌≤◌, ◌<◌, ◌≡◌, ◌↔◌, List, [], ◌∷◌, ◌++◌, length, take, drop, get_or, Result, Ok, Err}
use Rattle.reasons.specs.Reasons.{reason_no}
use Rattle.reasons.specs.declared.Reason.{Reason}
use Rattle.reasons.specs.declared.Reason.TheVariants as Reasons
use Rattle.judge.specs.Message.{judge_of, rows_of, refused}
use Rattle.judge.specs.declared.Row.{Row}
use Rattle.tables.specs.Table.{host_row, table_bytes}
use Rattle.desk.specs.Placing.{top_load, next_desk, place_of, place_table, read_of, part_heard}
use Rattle.desk.specs.declared.Desk.{Desk}
use Rattle.desk.specs.declared.Ticket.{Ticket}

abbrev pub ticket : ℕ → ℕ → Ticket
ticket l n = record { load = record { 0 = l }; row = record { 0 = n } }

-- "A refused load leaves the row table untouched and the desk holding no rows, its load number one higher"
abbrev pub RefusedKeeps : Type 0
RefusedKeeps = (d : Desk) (f : List ℕ) (k : ℕ) (t : List ℕ) (r : Reason) (l : ℕ) → (d.load.0 ≡ top_load → ⊥)
    → (place_of d f k (length t)).answer ≡ refused r l → (place_table d f k t ≡ t) × ((place_of d f k (length t)).desk ≡ next_desk d 0)

-- "when load numbers are spent, nothing at all changes."
abbrev pub SpentKeeps : Type 0
SpentKeeps = (d : Desk) (f : List ℕ) (k : ℕ) (t : List ℕ) → d.load.0 ≡ top_load
    → (place_table d f k t ≡ t) × (place_of d f k (length t) ≡ record { desk = d; answer = refused Reasons.Spent 0 })

-- what a host has between calls: the desk, "always handed on as it last came back", and the table as it was last left
pub record Host : Type 0 where
  pub desk : Desk
  pub table : List ℕ

-- document 02, (viii): "judging, which needs no desk and no table, and placing, which judges, fills the table and moves the desk": a feed and a message
-- number, and for placing the table that it is lent
pub data Call : Type 0 where
  judging : List ℕ → ℕ → Call
  placing : List ℕ → ℕ → List ℕ → Call

-- the host after one placing, and after a run of calls
abbrev pub placed_for : Host → List ℕ → ℕ → List ℕ → Host
placed_for h f k t = record { desk = (place_of h.desk f k (length t)).desk; table = place_table h.desk f k t }

unfoldable pub after : Host → List Call → Host
after h [] = h
after h (judging f k ∷ cs) = after h cs
after h (placing f k t ∷ cs) = after (placed_for h f k t) cs

-- "a ticket from a load before the last one not refused as spent hears GONE.": a ticket of the host's desk, after any run of calls that begins with a placing
-- not refused as spent, whatever the row, the feed and the table
abbrev pub EarlierGone : Type 0
EarlierGone = (h : Host) → h.desk.load.0 < top_load → (g : List ℕ) (k : ℕ) (u : List ℕ) (cs : List Call) (n : ℕ) (f t : List ℕ)
    → read_of (after h (placing g k u ∷ cs)).desk (ticket h.desk.load.0 n) f t ≡ Err Reasons.Gone

-- a run of calls without its judgements
unfoldable pub placings : List Call → List Call
placings [] = []
placings (judging f k ∷ cs) = placings cs
placings (placing f k t ∷ cs) = placing f k t ∷ placings cs

-- what a ticket hears from a host, with this feed
abbrev pub heard_from : Host → Ticket → List ℕ → Result Row Reason
heard_from h x f = read_of h.desk x f h.table

-- document 02, (viii): "The preview wants judgement and row count, and no ticket ended.": after any run of judgements each ticket is answered as it was
-- before; and wherever judgements stand among placings, as if they had not been made
abbrev pub PreviewKeeps : Type 0
PreviewKeeps = (h : Host) (cs : List Call) (x : Ticket) (f : List ℕ)
    → (placings cs ≡ [] → heard_from (after h cs) x f ≡ heard_from h x f) × (heard_from (after h cs) x f ≡ heard_from (after h (placings cs)) x f)

-- document 02, (viii): "Judging gives no 12 and no 13.", and no number above them
abbrev pub JudgingPlain : Type 0
JudgingPlain = (f : List ℕ) (k : ℕ) (r : Reason) (l : ℕ) → judge_of f k ≡ refused r l → reason_no r ≤ 11

-- demand 2: "With the feed in its limit, room for the rows and load numbers left, a message is accepted exactly when it meets every rule of CCSDS 502.0-B-1 as
-- document 01 fixes them, and then the rows are exactly its fields. Otherwise the refusal names the first offending line and the first reason there, in
-- document 01's order."

-- placing's answer is judging's, but for 13 and 12, which come exactly as document 01's table says
pub record AsJudged (d : Desk) (f : List ℕ) (k bytes : ℕ) : Type 0 where
  pub spent : ((place_of d f k bytes).answer ≡ refused Reasons.Spent 0) ↔ (d.load.0 ≡ top_load)
  pub no_room : ((place_of d f k bytes).answer ≡ refused Reasons.NoRoom 0)
      ↔ ((d.load.0 ≡ top_load → ⊥) × ((n : ℕ) × (judge_of f k ≡ Ok n) × (bytes < host_row * n)))
  pub judged : ((place_of d f k bytes).answer ≡ refused Reasons.Spent 0 → ⊥) → ((place_of d f k bytes).answer ≡ refused Reasons.NoRoom 0 → ⊥)
      → (place_of d f k bytes).answer ≡ judge_of f k

abbrev pub PlacingJudges : Type 0
PlacingJudges = (d : Desk) (f : List ℕ) (k : ℕ) (t : List ℕ) → AsJudged d f k (length t)

-- an acceptance puts the message's rows, and the desk holds as many
abbrev pub PlacingFills : Type 0
PlacingFills = (d : Desk) (f : List ℕ) (k : ℕ) (t : List ℕ) (n : ℕ) → (place_of d f k (length t)).answer ≡ Ok n
    → (judge_of f k ≡ Ok n) × ((place_of d f k (length t)).desk ≡ next_desk d n) × (place_table d f k t ≡ table_bytes (rows_of f k) ++ drop (host_row * n) t)

-- where there is no row
abbrev pub no_row : Row
no_row = record { code = 0; group = 0; line = 0; start = 0; length = 0 }

-- "a ticket is promised silence or its own row only on the desk that issued it.": after an acceptance, with feed and table as it left them, each
-- ticket of that load whose row is below the count hears exactly that row of the message and its part of the feed; "If feed and table are as the load
-- left them, 16 never comes."
abbrev pub OwnRow : Type 0
OwnRow = (d : Desk) (f : List ℕ) (k : ℕ) (t : List ℕ) (n i : ℕ) → (d.load.0 ≡ top_load → ⊥) → (place_of d f k (length t)).answer ≡ Ok n → i < n
    → let r = get_or (rows_of f k) i no_row in
    let h = read_of (place_of d f k (length t)).desk (ticket (place_of d f k (length t)).desk.load.0 i) f (place_table d f k t) in
    (h ≡ Ok r) × (part_heard h f ≡ take r.length (drop r.start f)) × (r.start + r.length ≤ length f)
