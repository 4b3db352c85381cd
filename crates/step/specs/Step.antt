-- One line judged from its text and the state alone, by document 01, "What a line can be" and "Values", and document 02, (ii). Places are within the text.
-- Assumes nothing.
use Rattle.std.specs.Prelude.{ℕ, ◌+◌, ◌-◌, ◌≤◌, ◌≡◌, List, [], ◌∷◌, Bool, true, false, not, ◌&&◌, ◌||◌, eqb, ltb, length, take, drop, get_or, IsOk, Option, Some, None, Result, Ok, Err}
use Rattle.words.specs.Words.{bytes, first_at, is_word}
use Rattle.lines.specs.Text.{is_long, odd_at, trim_of, comment_of, assignment_of, split_of, no_span}
use Rattle.lines.specs.declared.Span.{Span}
use Rattle.lines.specs.declared.Sides.{Sides}
use Rattle.lines.specs.declared.Fields.{Fields}
use Rattle.values.specs.Number.{is_number, is_integer, is_text, is_version}
use Rattle.epochs.specs.Epoch.{epoch_of, is_before}
use Rattle.epochs.specs.declared.Instant.{Instant}
use Rattle.grammar.specs.Rows.{between}
use Rattle.grammar.specs.Keywords.{keyword_of, kind_of, is_unit}
use Rattle.grammar.specs.Order.{next_of, allows}
use Rattle.lines.specs.declared.Form.{Form}
use Rattle.lines.specs.declared.Form.TheVariants.{Opm, Oem}
use Rattle.grammar.specs.declared.Kind.TheVariants.{Version, Text, Integer, Number, Epoch}
use Rattle.reasons.specs.declared.Reason.{Reason}
use Rattle.reasons.specs.declared.Reason.TheVariants as Reasons
use Rattle.step.specs.declared.State.{State}
use Rattle.step.specs.declared.Step.{Step}

-- ---- what a step answers: a reason, where the line offends, or the line's rows and the next state

abbrev pub no_spans : List Span
no_spans = no_span ∷ no_span ∷ no_span ∷ no_span ∷ no_span ∷ no_span ∷ no_span ∷ []

-- the line is right and has no row
abbrev pub no_row : State → Step
no_row st = record { state = st; code = 0; count = 0; spans = no_spans }

-- the line is right and has one row
abbrev pub one_row : State → ℕ → Span → Step
one_row st c p =
    record {
      state = st;
      code = c;
      count = 1;
      spans = p ∷ no_span ∷ no_span ∷ no_span ∷ no_span ∷ no_span ∷ no_span ∷ [];
    }

-- the line is right and has seven rows: "A data line's fields carry codes 9 to 15."
abbrev pub seven_rows : State → List Span → Step
seven_rows st ps = record { state = st; code = 9; count = 7; spans = ps }

-- ---- states

-- before a message's first line
abbrev pub no_instant : Instant
no_instant = record { day = 0; second = 0; nano = 0 }

abbrev pub fresh_state : Form → State
fresh_state f = record { form = f; last = 0; utc = false; start = no_instant; latest = no_instant; seen = no_instant }

-- a line of this code has stood
abbrev pub past : State → ℕ → State
past st c = record { form = st.form; last = c; utc = st.utc; start = st.start; latest = st.latest; seen = st.seen }

-- may a line of this code stand here? "ORDER: not allowed next, whether repeated, too early or too late."
abbrev pub fits_here : State → ℕ → Bool
fits_here st c = allows (next_of st.form st.last) c

-- may second 60 stand in an epoch of this code? "for CREATION_DATE always and for the other epochs where the message or segment has TIME_SYSTEM exactly `UTC`"
abbrev pub sixty_stands : State → ℕ → Bool
sixty_stands st c = eqb c 2 || st.utc

-- a part of a text
abbrev pub part : Span → List ℕ → List ℕ
part p s = take (p.to - p.from) (drop p.from s)

-- a part lies in a text
pub record Inside (p : Span) (s : List ℕ) : Type 0 where
  pub order : p.from ≤ p.to
  pub end : p.to ≤ length s

-- seven parts lie in a text
pub record SevenInside (ps : List Span) (s : List ℕ) : Type 0 where
  pub size : length ps ≡ 7
  pub inside : (i : ℕ) → Inside (get_or ps i no_span) s

-- whoever is sure of a line knows that it is right
abbrev pub Sure : Bool → Result Step Reason → Type 0
Sure sure x = sure ≡ true → IsOk x

-- ---- data lines

-- "data epochs strictly increase within a segment and lie from START_TIME to STOP_TIME, ends included"; STOP_TIME is the latest time given
unfoldable pub is_timely : State → Instant → Bool
is_timely st t = not (is_before t st.start) && (not (is_before st.latest t) && (not (eqb st.last 9) || is_before st.seen t))

-- each of these fields is a number
unfoldable pub are_numbers : List Span → List ℕ → Bool
are_numbers [] s = true
are_numbers (p ∷ ps) s = is_number (part p s) && are_numbers ps s

-- a data line of this epoch has stood
abbrev pub past_data : State → Instant → State
past_data st t = record { form = st.form; last = 9; utc = st.utc; start = st.start; latest = st.latest; seen = t }

-- "A data line: ORDER, then VALUE field by field from the left, then TIME_ORDER."
unfoldable pub data_at : State → Fields → Instant → List ℕ → Result Step Reason
data_at st f t s =
    elim (are_numbers (drop 1 f.spans) s) [
      | false ↦ Err Reasons.Value
      | true ↦ elim (is_timely st t) [ false ↦ Err Reasons.TimeOrder | true ↦ Ok (seven_rows (past_data st t) f.spans) ]
    ]

unfoldable pub data_of : State → Fields → List ℕ → Result Step Reason
data_of st f s =
    elim (fits_here st 9) [
      | false ↦ Err Reasons.Order
      | true ↦ elim (epoch_of (part (get_or f.spans 0 no_span) s) (sixty_stands st 9)) [ None ↦ Err Reasons.Value | Some t ↦ data_at st f t s ]
    ]

-- "OEM only, trimmed, exactly seven fields parted by runs of blanks: a data line." "Anything else: FORM."
unfoldable pub fields_of : State → List ℕ → Result Step Reason
fields_of st s =
    let f = split_of s in
    elim st.form [
      | Opm ↦ Err Reasons.Form
      | Oem ↦ elim (eqb f.count 7) [ false ↦ Err Reasons.Form | true ↦ data_of st f s ]
    ]

-- ---- assignments

-- a line of this code and value has stood; TIME_SYSTEM is kept for the epochs after it: is it "exactly `UTC`"?
unfoldable pub past_whole : State → ℕ → List ℕ → State
past_whole st c v =
    elim (eqb c 8) [
      | true ↦ record { form = st.form; last = c; utc = is_word (bytes "UTC") v; start = st.start; latest = st.latest; seen = st.seen }
      | false ↦ past st c
    ]

-- "Texts, integers [..] are the whole trimmed field." The heading's value too. Here v is the field.
unfoldable pub whole_of : State → ℕ → Span → List ℕ → Bool → Result Step Reason
whole_of st c p v right = elim right [ false ↦ Err Reasons.Value | true ↦ Ok (one_row (past_whole st c v) c p) ]

-- how many bytes stand before the first blank
abbrev pub word_len : List ℕ → ℕ
word_len s = first_at 32 s

-- "In an assignment a number runs to the first blank. What follows, trimmed, is empty or exactly the unit in brackets, else UNIT"
unfoldable pub number_of : State → ℕ → Span → List ℕ → Result Step Reason
number_of st c p s =
    let v = part p s in
    let n = word_len v in
    let r = drop n v in
    elim (is_number (take n v)) [
      | false ↦ Err Reasons.Value
      | true ↦
          elim (is_unit c (part (trim_of r) r)) [
            | false ↦ Err Reasons.Unit
            | true ↦ Ok (one_row (past st c) c (record { from = p.from; to = p.from + n }))
          ]
    ]

-- START_TIME opens a segment's times; the others of 39, 40, 41 are the latest given; any other epoch is none of them
unfoldable pub past_time : State → ℕ → Instant → State
past_time st c t =
    elim (eqb c 38) [
      | true ↦ record { form = st.form; last = c; utc = st.utc; start = t; latest = t; seen = st.seen }
      | false ↦
          elim (between 39 41 c) [
            | true ↦ record { form = st.form; last = c; utc = st.utc; start = st.start; latest = t; seen = st.seen }
            | false ↦ past st c
          ]
    ]

-- "the present ones of 38, 39, 40, 41 never decrease"
unfoldable pub is_early : State → ℕ → Instant → Bool
is_early st c t = between 39 41 c && is_before t st.latest

unfoldable pub time_of : State → ℕ → Span → List ℕ → Result Step Reason
time_of st c p s =
    elim (epoch_of (part p s) (sixty_stands st c)) [
      | None ↦ Err Reasons.Value
      | Some t ↦ elim (is_early st c t) [ true ↦ Err Reasons.TimeOrder | false ↦ Ok (one_row (past_time st c t) c p) ]
    ]

unfoldable pub value_of : State → ℕ → Span → List ℕ → Result Step Reason
value_of st c p s =
    elim (kind_of c) [
      | Some Version ↦ whole_of st c p (part p s) (is_version (part p s))
      | Some Text ↦ whole_of st c p (part p s) (is_text (part p s))
      | Some Integer ↦ whole_of st c p (part p s) (is_integer (part p s))
      | Some Number ↦ number_of st c p s
      | Some Epoch ↦ time_of st c p s
      | None ↦ Err Reasons.Value
    ]

-- "An assignment is checked for KEYWORD, ORDER, VALUE, UNIT, TIME_ORDER, in that order."
unfoldable pub assign_of : State → Sides → List ℕ → Result Step Reason
assign_of st x s =
    elim (keyword_of st.form (part x.keyword s)) [
      | None ↦ Err Reasons.Keyword
      | Some c ↦ elim (fits_here st c) [ false ↦ Err Reasons.Order | true ↦ value_of st c x.value s ]
    ]

-- ---- lines

-- "OEM only, trimmed text `META_START` or `META_STOP`": the code, where it is one of them
unfoldable pub meta_code : Form → List ℕ → Option ℕ
meta_code Opm t = None
meta_code Oem t =
    elim (is_word (bytes "META_START") t) [ true ↦ Some 37 | false ↦ elim (is_word (bytes "META_STOP") t) [ true ↦ Some 44 | false ↦ None ] ]

-- "A META line: ORDER." "For META lines and empty comments the length is 0 and start is just past the keyword", which ends at n.
unfoldable pub meta_of : State → ℕ → ℕ → Result Step Reason
meta_of st c n =
    elim (fits_here st c) [ false ↦ Err Reasons.Order | true ↦ Ok (one_row (past st c) c (record { from = n; to = n })) ]

-- "Contains `=`: an assignment."
unfoldable pub plain_of : State → List ℕ → Result Step Reason
plain_of st s = elim (assignment_of s) [ Some x ↦ assign_of st x s | None ↦ fields_of st s ]

-- a comment that follows a data line is noted, by the code 45; any other changes nothing
unfoldable pub past_comment : State → State
past_comment st =
    elim st.form [ Opm ↦ st | Oem ↦ elim (eqb st.last 9) [ true ↦ past st 45 | false ↦ st ] ]

-- a META line or one of the rest; t is the text's trimmed part
unfoldable pub uncommented_of : State → Span → List ℕ → Result Step Reason
uncommented_of st t s = elim (meta_code st.form (part t s)) [ Some c ↦ meta_of st c t.to | None ↦ plain_of st s ]

-- what is no blank line: "45 is COMMENT."
unfoldable pub filled_of : State → Span → List ℕ → Result Step Reason
filled_of st t s =
    elim (comment_of s) [ Some p ↦ Ok (one_row (past_comment st) 45 p) | None ↦ uncommented_of st t s ]

-- "Tried in this order": "LONG, then BYTE, for text over 254 bytes or with a byte outside 32 to 126." "Only blanks: skipped, allowed everywhere."
unfoldable pub step_of : State → List ℕ → Result Step Reason
step_of st s =
    elim (is_long s) [
      | true ↦ Err Reasons.Long
      | false ↦
          elim (ltb (odd_at s) (length s)) [
            | true ↦ Err Reasons.Byte
            | false ↦ elim (eqb (trim_of s).to 0) [ true ↦ Ok (no_row st) | false ↦ filled_of st (trim_of s) s ]
          ]
    ]
