-- Why a message was refused, by document 02, (vii): what is true of the explanation.
-- Assumes nothing.
use Rattle.std.specs.Prelude.{ℕ, ◌+◌, ◌-◌, ◌*◌, ◌≤◌, ◌<◌, ◌≡◌, ◌⊎◌, ◌↔◌, true, length, take, get_or, replicate, Ok, Err}
use mathlib.Core.List.{List, [], ◌∷◌, ◌++◌, Memᴰ}
use Rattle.lines.specs.Feed.{Line, lines}
use Rattle.lines.specs.declared.Form.{Form}
use Rattle.lines.specs.declared.Form.TheVariants.{Opm}
use Rattle.step.specs.Step.{fresh_state, fits_here, step_of}
use Rattle.step.specs.declared.State.{State}
use Rattle.reasons.specs.Reasons.{reason_no}
use Rattle.reasons.specs.declared.Reason.{Reason}
use Rattle.judge.specs.Message.{form_of, from_heading, message_of, texts, refused}
use Rattle.tables.specs.Table.{host_row}
use Rattle.desk.specs.Placing.{top_load, place_of}
use Rattle.desk.specs.declared.Desk.{Desk}
use Rattle.explain.specs.Codes.{can_begin, no_codes}
use Rattle.explain.specs.Explain.{explain_of}
use Rattle.explain.specs.declared.Codes.{Codes}

-- "Reason and line are the load's": on every desk that is not spent, with a table that has room where the message is right
abbrev pub SameReason : Type 0
SameReason = (d : Desk) (f : List ℕ) (k bytes : ℕ) → (d.load.0 ≡ top_load → ⊥) → ((n : ℕ) → (explain_of f k).judged ≡ Ok n → host_row * n ≤ bytes)
    → (place_of d f k bytes).answer ≡ (explain_of f k).judged

-- the state that lines lead to, and the one before line n of message k
unfoldable pub state_after : State → List (List ℕ) → State
state_after st [] = st
state_after st (t ∷ ts) = elim (step_of st t) [ Err r ↦ state_after st ts | Ok x ↦ state_after x.state ts ]

abbrev pub form_in : List Line → Form
form_in [] = Opm
form_in (l ∷ ls) = form_of l.text

abbrev pub state_before : List ℕ → ℕ → ℕ → State
state_before f k n = let ls = message_of k f in state_after (fresh_state (form_in ls)) (take (n - 1) (texts ls))

-- the codes in the array, up to the count
abbrev pub listed_in : Codes → List ℕ
listed_in x = take x.count x.codes

-- "every listed code is one that wouldn't be ORDER there, and every code not listed would be. Only codes that can begin a line of this message type
-- count": for ORDER, 7, and SHORT, 11; for every other reason none is listed. The rest of the array is 0.
abbrev pub ListedExactly : Type 0
ListedExactly = (f : List ℕ) (k : ℕ) (r : Reason) (n : ℕ) → (explain_of f k).judged ≡ refused r n
    → ((reason_no r ≡ 7) ⊎ (reason_no r ≡ 11)
    → ((c : ℕ) → Memᴰ c (listed_in (explain_of f k).listed) ↔ ((can_begin (form_in (message_of k f)) c ≡ true) × (fits_here (state_before f k n) c ≡ true)))
    × ((explain_of f k).listed.codes ≡ listed_in (explain_of f k).listed ++ replicate (4 - (explain_of f k).listed.count) 0))
    × ((reason_no r ≡ 7 → ⊥) → (reason_no r ≡ 11 → ⊥) → (explain_of f k).listed ≡ no_codes)

-- where there is no line
abbrev pub no_line : Line
no_line = record { start = 0; text = [] }

-- where lines start, or n where there are none
abbrev pub start_or : ℕ → List Line → ℕ
start_or n [] = n
start_or n (l ∷ ls) = l.start

-- the offending bytes lie in the blamed line's text, for 3 to 10; "for SHORT nothing, at the message's end", which is where the next heading line begins, or
-- the feed's end
abbrev pub InTheLine : Type 0
InTheLine = (f : List ℕ) (k : ℕ) (r : Reason) (n : ℕ) → (explain_of f k).judged ≡ refused r n
    → (3 ≤ reason_no r → reason_no r ≤ 10
    → let l = get_or (message_of k f) (n - 1) no_line in
    (1 ≤ n) × (n ≤ length (message_of k f)) × (l.start ≤ (explain_of f k).start) × ((explain_of f k).start + (explain_of f k).length ≤ l.start + length l.text))
    × (reason_no r ≡ 11
    → (n ≡ length (message_of k f) + 1) × ((explain_of f k).start ≡ start_or (length f) (from_heading (k + 1) (lines f))) × ((explain_of f k).length ≡ 0))

-- "in code order"
abbrev pub Rising : List ℕ → Type 0
Rising [] = Unit
Rising (c ∷ cs) = ((d : ℕ) → Memᴰ d cs → c < d) × Rising cs

abbrev pub InOrder : Type 0
InOrder = (f : List ℕ) (k : ℕ) → Rising (listed_in (explain_of f k).listed)
