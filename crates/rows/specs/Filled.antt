-- A message's rows in a table, by document 01, "Rows, desk and tickets" and its table of reasons.
-- Assumes nothing.
use Rattle.std.specs.Prelude.{ℕ, ◌+◌, ◌*◌, ◌<◌, ◌≤◌, ◌≡◌, List, ◌++◌, true, false, ltb, length, drop, get_or, Result, Ok, Err}
use Rattle.lines.specs.Feed.{lines_at}
use Rattle.lines.specs.Text.{no_span}
use Rattle.lines.specs.declared.Form.{Form}
use Rattle.step.specs.Step.{fresh_state}
use Rattle.step.specs.declared.Step.{Step}
use Rattle.reasons.specs.declared.Reason.TheVariants as Reasons
use Rattle.judge.specs.Message.{feed_limit, judge_texts, texts, up_to, rows_from, refused}
use Rattle.judge.specs.declared.Row.{Row}
use Rattle.tables.specs.Table.{host_row, table_bytes}
use Rattle.judge.specs.declared.Refusal.{Refusal}

-- NO_ROOM: "message right, table under 5 x count entries": the judgement of a message, with a table of so many bytes
unfoldable pub room_for : ℕ → Result ℕ Refusal → Result ℕ Refusal
room_for bytes (Err e) = Err e
room_for bytes (Ok n) = elim (ltb bytes (host_row * n)) [ true ↦ refused Reasons.NoRoom 0 | false ↦ Ok n ]

-- "Acceptance fills the first 5 x count entries of the table and keeps the others as they came"; "after a refusal [..] the table untouched"
unfoldable pub table_after : Result ℕ Refusal → List Row → List ℕ → List ℕ
table_after (Err e) rs t = t
table_after (Ok n) rs t = table_bytes rs ++ drop (host_row * n) t

-- ---- what the inner functions ask

-- a line's rows fit: its spans lie in a line of the feed, and their numbers do not run over
pub record StepFits (x : Step) (n at : ℕ) : Type 0 where
  pub few : x.count ≤ 7
  pub size : length x.spans ≡ 7
  pub order : (i : ℕ) → i < x.count → (get_or x.spans i no_span).from ≤ (get_or x.spans i no_span).to
  pub end : (i : ℕ) → i < x.count → at + (get_or x.spans i no_span).to ≤ feed_limit
  pub code : x.code ≤ 45
  pub last : n + x.count ≤ 4294967295

-- the rows of the message from a place on
abbrev pub rows_found : List ℕ → ℕ → Form → List Row
rows_found f from form = rows_from (fresh_state form) 0 1 (up_to true (lines_at from (drop from f)))

-- it is accepted
pub record Fillable (f : List ℕ) (from : ℕ) (form : Form) : Type 0 where
  pub limit : length f ≤ feed_limit
  pub total : ℕ
  pub right : judge_texts (fresh_state form) 1 0 (texts (up_to true (lines_at from (drop from f)))) ≡ Ok total
