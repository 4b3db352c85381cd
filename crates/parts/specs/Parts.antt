-- The bytes that offend in a line, by document 02, (vii). Places are within the line's text, and the bytes lie in it whatever it is.
-- Assumes nothing.
use Rattle.std.specs.Prelude.{ℕ, ◌+◌, List, [], ◌∷◌, true, false, eqb, length, take, drop, get_or, Option, Some, None}
use Rattle.reasons.specs.Reasons.{reason_no}
use Rattle.reasons.specs.declared.Reason.{Reason}
use Rattle.lines.specs.Text.{odd_at, equals_at, trim_of, moved, assignment_of, split_of, no_span}
use Rattle.lines.specs.declared.Span.{Span}
use Rattle.lines.specs.declared.Sides.{Sides}
use Rattle.values.specs.Number.{is_number}
use Rattle.epochs.specs.Epoch.{epoch_of}
use Rattle.grammar.specs.Rows.{Row, one, pick}
use Rattle.grammar.specs.Keywords.{keyword_of, kind_of}
use Rattle.lines.specs.declared.Form.{Form}
use Rattle.grammar.specs.declared.Kind.{Kind}
use Rattle.grammar.specs.declared.Kind.TheVariants.{Version, Text, Integer, Number, Epoch}
use Rattle.step.specs.Step.{part, word_len, sixty_stands}
use Rattle.step.specs.declared.State.{State}

-- "For LONG the bytes are the text past 254"
abbrev pub past_long : List ℕ → Span
past_long s = record { from = length (take 254 s); to = length s }

-- "for BYTE the first such byte"
abbrev pub first_odd : List ℕ → Span
first_odd s = record { from = odd_at s; to = length (take (odd_at s + 1) s) }

-- an assignment's keyword and value field, both empty where the line is none
unfoldable pub sides_in : List ℕ → Sides
sides_in s = elim (assignment_of s) [ Some x ↦ x | None ↦ record { keyword = no_span; value = no_span } ]

-- "for KEYWORD the keyword": "an empty keyword" lies at the `=`
unfoldable pub keyword_part : List ℕ → Span
keyword_part s =
    elim (eqb (sides_in s).keyword.to 0) [
      | true ↦ record { from = equals_at s; to = equals_at s }
      | false ↦ (sides_in s).keyword
    ]

-- in the value field p: "In an assignment a number runs to the first blank." "Texts, integers and assigned epochs are the whole trimmed field." The heading's value too.
unfoldable pub value_in : Option Kind → Span → List ℕ → Span
value_in (Some Number) p s = record { from = p.from; to = p.from + word_len (part p s) }
value_in (Some Version) p s = p
value_in (Some Text) p s = p
value_in (Some Integer) p s = p
value_in (Some Epoch) p s = p
value_in None p s = p

-- what kind of value an assignment's keyword has
unfoldable pub kind_in : Form → Sides → List ℕ → Option Kind
kind_in f x s = elim (keyword_of f (part x.keyword s)) [ Some c ↦ kind_of c | None ↦ None ]

-- the first of these fields that is no number, or d where each is one
unfoldable pub first_wrong : Span → List Span → List ℕ → Span
first_wrong d [] s = d
first_wrong d (p ∷ ps) s = elim (is_number (part p s)) [ true ↦ first_wrong d ps s | false ↦ p ]

-- in a data line the one field: "VALUE field by field from the left, then TIME_ORDER", which is the epoch's
unfoldable pub data_part : State → List ℕ → Span
data_part st s =
    let ps = (split_of s).spans in
    let e = get_or ps 0 no_span in
    elim (epoch_of (part e s) (sixty_stands st 9)) [ None ↦ e | Some t ↦ first_wrong e (drop 1 ps) s ]

-- "for VALUE and TIME_ORDER the value": "An empty value lies just past the `=`", where an empty field of document 01 stands
unfoldable pub value_part : State → List ℕ → Span
value_part st s = elim (assignment_of s) [ Some x ↦ value_in (kind_in st.form x s) x.value s | None ↦ data_part st s ]

-- "for UNIT the remainder": what follows the number, trimmed
unfoldable pub unit_part : List ℕ → Span
unit_part s =
    let p = (sides_in s).value in
    let n = word_len (part p s) in
    moved (p.from + n) (trim_of (drop n (part p s)))

-- by the reason's number: LONG, BYTE, KEYWORD, VALUE, UNIT, TIME_ORDER
abbrev pub offences : State → List ℕ → List (Row Span)
offences st s =
    one 3 (past_long s)
    ∷ one 4 (first_odd s)
    ∷ one 6 (keyword_part s)
    ∷ one 8 (value_part st s)
    ∷ one 9 (unit_part s)
    ∷ one 10 (value_part st s)
    ∷ []

-- "otherwise the trimmed line"
unfoldable pub offending : State → List ℕ → Reason → Span
offending st s r = pick (offences st s) (trim_of s) (reason_no r)
