-- A feed's messages and their judgement, by document 01, "Feeds, lines and headings" and its table of reasons.
-- Assumes nothing.
use Rattle.std.specs.Prelude.{ℕ, ◌+◌, ◌-◌, ◌<◌, ◌≤◌, ◌≡◌, List, [], ◌∷◌, ◌++◌, map, Option, Some, None, is_some, unwrap_or, option_map, Result, Ok, Err, Bool, true, false, not, ◌&&◌, eqb, ltb, length, take, drop}
use Rattle.lines.specs.Feed.{Line, lines, lines_at, text_len, line_len}
use Rattle.lines.specs.Text.{heading_of}
use Rattle.lines.specs.declared.Span.{Span}
use Rattle.grammar.specs.Order.{next_of}
use Rattle.lines.specs.declared.Form.{Form}
use Rattle.lines.specs.declared.Form.TheVariants.{Opm, Oem}
use Rattle.step.specs.Step.{fresh_state, Sure, step_of}
use Rattle.reasons.specs.declared.Reason.{Reason}
use Rattle.reasons.specs.declared.Reason.TheVariants as Reasons
use Rattle.judge.specs.declared.Refusal.{Refusal}
use Rattle.judge.specs.declared.Stop.{Stop}
use Rattle.judge.specs.declared.Moved.{Moved}
use Rattle.judge.specs.declared.Offence.{Offence}
use Rattle.judge.specs.declared.Found.{Found}
use Rattle.judge.specs.declared.Sighted.{Sighted}
use Rattle.step.specs.declared.State.{State}
use Rattle.step.specs.declared.Step.{Step}
use Rattle.judge.specs.declared.Row.{Row}

abbrev pub is_heading : List ℕ → Bool
is_heading s = is_some (heading_of s)

-- the message type that a heading line opens
abbrev pub form_of : List ℕ → Form
form_of s = unwrap_or (heading_of s) Opm

-- the lines from the k-th heading line on, none where k is 0 or above the headings: "Lines before the first heading belong to no message."
unfoldable pub from_heading : ℕ → List Line → List Line
from_heading k [] = []
from_heading k (l ∷ ls) =
    elim (is_heading l.text) [
      | true ↦ elim (eqb k 1) [ true ↦ l ∷ ls | false ↦ from_heading (k - 1) ls ]
      | false ↦ from_heading k ls
    ]

-- how many heading lines there are
unfoldable pub headings : List Line → ℕ
headings [] = 0
headings (l ∷ ls) = elim (is_heading l.text) [ true ↦ headings ls + 1 | false ↦ headings ls ]

-- "Message k (from 1) runs from the k-th heading line up to the next heading line or the end of the feed." The first line is kept, heading or not.
unfoldable pub up_to : Bool → List Line → List Line
up_to first [] = []
up_to first (l ∷ ls) = elim (not first && is_heading l.text) [ true ↦ [] | false ↦ l ∷ up_to false ls ]

unfoldable pub message_of : ℕ → List ℕ → List Line
message_of k f = up_to true (from_heading k (lines f))

abbrev pub texts : List Line → List (List ℕ)
texts ls = map (λ (l : Line). l.text) ls

-- a refusal: "a reason and a line"
abbrev pub refused : Reason → ℕ → Result ℕ Refusal
refused r line = Err (record { reason = r; line = line })

-- a refusal that is no line's
abbrev pub of_feed : Reason → Refusal
of_feed r = record { reason = r; line = 0 }

-- SHORT: "no line offends, but an obligatory item or the rest of a begun set is missing at the end", at "last line + 1"
unfoldable pub end_of : State → ℕ → ℕ → Result ℕ Refusal
end_of st line rows = elim (next_of st.form st.last).end [ true ↦ Ok rows | false ↦ refused Reasons.Short line ]

-- the lines' texts judged one after the other: the first that offends is named, with its first reason; line numbers count from 1
unfoldable pub judge_texts : State → ℕ → ℕ → List (List ℕ) → Result ℕ Refusal
judge_texts st line rows [] = end_of st line rows
judge_texts st line rows (t ∷ ts) =
    elim (step_of st t) [ Err r ↦ refused r line | Ok x ↦ judge_texts x.state (line + 1) (rows + x.count) ts ]

-- the judgement of a message, from its lines; NO_MESSAGE: "message number 0 or above the headings"
unfoldable pub judge_lines : List Line → Result ℕ Refusal
judge_lines [] = refused Reasons.NoMessage 0
judge_lines (l ∷ ls) = judge_texts (fresh_state (form_of l.text)) 1 0 (texts (l ∷ ls))

-- FEED_LONG: "feed over 65,535 bytes", and by document 02, (vi), "The feed limit becomes 16,777,215"
abbrev pub feed_limit : ℕ
feed_limit = 16777215

unfoldable pub judge_of : List ℕ → ℕ → Result ℕ Refusal
judge_of f k = elim (ltb feed_limit (length f)) [ true ↦ refused Reasons.FeedLong 0 | false ↦ judge_lines (message_of k f) ]

-- "Counting headings refuses only with 1."
unfoldable pub count_of : List ℕ → Result ℕ Reason
count_of f = elim (ltb feed_limit (length f)) [ true ↦ Err Reasons.FeedLong | false ↦ Ok (headings (lines f)) ]

-- ---- where a walk along a message comes to its end

-- the lines of a message one after the other, up to the next heading line, the feed's end, n, or a line that offends; the first line is kept, heading or not
unfoldable pub stop_of : ℕ → Bool → State → ℕ → ℕ → List Line → Stop
stop_of n first st line rows [] = record { at = n; line = line; rows = rows; state = st; offence = None }
stop_of n first st line rows (l ∷ ls) =
    elim (not first && is_heading l.text) [
      | true ↦ record { at = l.start; line = line; rows = rows; state = st; offence = None }
      | false ↦
          elim (step_of st l.text) [
            | Err r ↦ record { at = l.start; line = line; rows = rows; state = st; offence = Some r }
            | Ok x ↦ stop_of n false x.state (line + 1) (rows + x.count) ls
          ]
    ]

-- NO_MESSAGE where there are no lines
unfoldable pub stop_lines : ℕ → List Line → Result Stop Reason
stop_lines n [] = Err Reasons.NoMessage
stop_lines n (l ∷ ls) = Ok (stop_of n true (fresh_state (form_of l.text)) 1 0 (l ∷ ls))

unfoldable pub walk_of : List ℕ → ℕ → Result Stop Reason
walk_of f k = elim (ltb feed_limit (length f)) [ true ↦ Err Reasons.FeedLong | false ↦ stop_lines (length f) (from_heading k (lines f)) ]

-- what the end says of the message
unfoldable pub judged_by : Stop → Result ℕ Refusal
judged_by x = elim x.offence [ Some r ↦ refused r x.line | None ↦ end_of x.state x.line x.rows ]

-- ---- one step of a walk along a message

-- a line judged, behind which the next one starts at n, whether it offends or not
abbrev pub moved_to : ℕ → Result Step Reason → Result (Option Moved) Offence
moved_to n (Err r) = Err (record { reason = r; next = n })
moved_to n (Ok x) = Ok (Some (record { step = x; next = n }))

-- the next line of a message, judged, or none at the message's end: `ls` is what is left of the message, s the bytes from its place on
unfoldable pub moved_of : State → ℕ → List ℕ → List Line → Result (Option Moved) Offence
moved_of st at s [] = Ok None
moved_of st at s (l ∷ ls) = moved_to (at + line_len s) (step_of st l.text)

-- whoever is sure of a message's lines knows that the next one is right
unfoldable pub SureNext : Bool → State → List Line → Type 0
SureNext sure st [] = Unit {0}
SureNext sure st (l ∷ ls) = Sure sure (step_of st l.text)

-- the place of the first of these lines, and the message type that it opens
unfoldable pub found_of : List Line → Option Found
found_of [] = None
found_of (l ∷ ls) = Some (record { at = l.start; form = form_of l.text })

-- the message that a line opens, where it is a heading line
abbrev pub opened_by : Line → Option Found
opened_by l = option_map (λ y. record { at = l.start; form = y }) (heading_of l.text)

-- what follows from it: the message's lines are those from the place on, and its first line is a heading of this type
unfoldable pub FoundIs : Option Found → ℕ → List ℕ → Type 0
FoundIs (Some x) k s =
    (from_heading k (lines s) ≡ lines_at x.at (drop x.at s)) × (x.at < length s) × (x.form ≡ form_of (take (text_len (drop x.at s)) (drop x.at s)))
FoundIs None k s = from_heading k (lines s) ≡ []

-- a message found in a feed that is not too long, and none found: the reason is that of judging it and of walking along it
pub record Sought (s : List ℕ) (k : ℕ) (x : Found) : Type 0 where
  pub short : length s ≤ feed_limit
  pub place : Some x ≡ found_of (from_heading k (lines s))
  pub lines : FoundIs (Some x) k s

pub record Unfound (s : List ℕ) (k : ℕ) (r : Reason) : Type 0 where
  pub judged : judge_of s k ≡ Err (of_feed r)
  pub walked : walk_of s k ≡ Err r

-- ---- a message judged, with its place

-- an acceptance has the place where its message was found, and a refusal none; what is accepted was found, so the last line never comes
abbrev pub sighted : Result ℕ Refusal → Option Found → Result Sighted Refusal
sighted (Err e) x = Err e
sighted (Ok n) (Some x) = Ok (record { found = x; rows = n })
sighted (Ok n) None = Err (record { reason = Reasons.NoMessage; line = 0 })

unfoldable pub sighted_of : List ℕ → ℕ → Result Sighted Refusal
sighted_of f k = sighted (judge_of f k) (found_of (from_heading k (lines f)))

-- what follows from it: the judgement, and for an acceptance that the message is found there
unfoldable pub SightedIs : Result Sighted Refusal → ℕ → List ℕ → Type 0
SightedIs (Ok x) k s = (judge_of s k ≡ Ok x.rows) × FoundIs (Some x.found) k s
SightedIs (Err e) k s = judge_of s k ≡ Err e

-- ---- rows

-- "Group is 0 in an OPM except the set number, from 1, for 29-35; in an OEM 0 in the header and the segment number, from 1, starting with
-- META_START. A comment takes the group of the row before it."
unfoldable pub group_of : Form → ℕ → ℕ → ℕ
group_of Opm g c = elim (eqb c 29) [ true ↦ g + 1 | false ↦ g ]
group_of Oem g c = elim (eqb c 37) [ true ↦ g + 1 | false ↦ g ]

-- a line's rows: "five 16-bit numbers: code, group, line, start, length. Start is the value's position in the feed, from 0, unit excluded."; by document 02,
-- (vi), "rows become 32-bit numbers"
unfoldable pub rows_at : ℕ → ℕ → ℕ → ℕ → List Span → List Row
rows_at c g line at [] = []
rows_at c g line at (p ∷ ps) =
    record { code = c; group = g; line = line; start = at + p.from; length = p.to - p.from } ∷ rows_at (c + 1) g line at ps

-- "Rows stand in reading order." A line that offends has none.
unfoldable pub rows_from : State → ℕ → ℕ → List Line → List Row
rows_from st g line [] = []
rows_from st g line (l ∷ ls) =
    elim (step_of st l.text) [
      | Err r ↦ rows_from st g (line + 1) ls
      | Ok x ↦
          let h = group_of st.form g x.code in
          rows_at x.code h line l.start (take x.count x.spans) ++ rows_from x.state h (line + 1) ls
    ]

unfoldable pub rows_lines : List Line → List Row
rows_lines [] = []
rows_lines (l ∷ ls) = rows_from (fresh_state (form_of l.text)) 0 1 (l ∷ ls)

-- the rows of message k, where it is accepted
abbrev pub rows_of : List ℕ → ℕ → List Row
rows_of f k = rows_lines (message_of k f)
