-- Why a message is refused, by document 02, (vii). Places are positions in the feed, from 0.
-- Assumes nothing.
use Rattle.std.specs.Prelude.{ℕ, ◌+◌, ◌-◌, List, [], ◌∷◌, Bool, true, false, not, ◌&&◌, ltb, length, take, drop, Some, None, Result, Ok, Err}
use Rattle.reasons.specs.declared.Reason.{Reason}
use Rattle.reasons.specs.declared.Reason.TheVariants as Reasons
use Rattle.lines.specs.Feed.{Line, lines, text_len}
use Rattle.grammar.specs.Order.{next_of}
use Rattle.step.specs.Step.{fresh_state, step_of}
use Rattle.step.specs.declared.State.{State}
use Rattle.judge.specs.Message.{is_heading, form_of, from_heading, feed_limit, refused}
use Rattle.parts.specs.Parts.{offending}
use Rattle.explain.specs.Codes.{no_codes, codes_of, codes_for}
use Rattle.explain.specs.declared.Explained.{Explained}
use Rattle.judge.specs.declared.Refusal.{Refusal}
use Rattle.judge.specs.declared.Stop.{Stop}

-- "1, 2 and acceptance are answered as such"
abbrev pub plainly : Result ℕ Refusal → Explained
plainly j = record { judged = j; start = 0; length = 0; listed = no_codes }

-- a line that offends: "reason, line, the offending bytes' place and length", and the codes
unfoldable pub blamed : State → ℕ → Line → Reason → Explained
blamed st line l r =
    let p = offending st l.text r in
    record { judged = refused r line; start = l.start + p.from; length = p.to - p.from; listed = codes_for st r }

-- no line offends: "for SHORT nothing, at the message's end", which is n
unfoldable pub ended : State → ℕ → ℕ → ℕ → Explained
ended st n line rows =
    elim (next_of st.form st.last).end [
      | true ↦ plainly (Ok rows)
      | false ↦ record { judged = refused Reasons.Short line; start = n; length = 0; listed = codes_of st }
    ]

-- the lines of a message one after the other, as they are judged, up to the next heading line or the feed's end, n; the first line is kept, heading or not
unfoldable pub explain_from : ℕ → Bool → State → ℕ → ℕ → List Line → Explained
explain_from n first st line rows [] = ended st n line rows
explain_from n first st line rows (l ∷ ls) =
    elim (not first && is_heading l.text) [
      | true ↦ ended st l.start line rows
      | false ↦
          elim (step_of st l.text) [ Err r ↦ blamed st line l r | Ok x ↦ explain_from n false x.state (line + 1) (rows + x.count) ls ]
    ]

-- where the walk along a message of a feed came to its end, in the same words: a line that offends stands there, or the message is over
unfoldable pub told : List ℕ → Stop → Explained
told f x =
    elim x.offence [
      | Some r ↦ blamed x.state x.line (record { start = x.at; text = take (text_len (drop x.at f)) (drop x.at f) }) r
      | None ↦ ended x.state x.at x.line x.rows
    ]

-- NO_MESSAGE where there are no lines
unfoldable pub explain_lines : ℕ → List Line → Explained
explain_lines n [] = plainly (refused Reasons.NoMessage 0)
explain_lines n (l ∷ ls) = explain_from n true (fresh_state (form_of l.text)) 1 0 (l ∷ ls)

unfoldable pub explain_of : List ℕ → ℕ → Explained
explain_of f k =
    elim (ltb feed_limit (length f)) [
      | true ↦ plainly (refused Reasons.FeedLong 0)
      | false ↦ explain_lines (length f) (from_heading k (lines f))
    ]
