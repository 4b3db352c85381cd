-- What the inner functions put and ask. No public promise speaks of these.
-- Assumes nothing.
use Rattle.std.specs.Prelude.{ℕ, ◌+◌, ◌-◌, ◌≤◌, ◌<◌, ◌≡◌, List, [], ◌∷◌, ◌++◌, Bool, true, false, eqb, length, take, drop, get_or, Ok, Err}
use Rattle.lines.specs.Feed.{Line, lines_at, text_len}
use Rattle.lines.specs.Text.{equals_at, trim_of, no_span}
use Rattle.lines.specs.declared.Span.{Span}
use Rattle.lines.specs.declared.Form.{Form}
use Rattle.step.specs.Step.{part, fresh_state, step_of}
use Rattle.step.specs.declared.State.{State}
use Rattle.step.specs.declared.Step.{Step}
use Rattle.judge.specs.Message.{feed_limit, judge_texts, texts, up_to}
use Rattle.judge.specs.declared.Found.{Found}
use Rattle.write.specs.Plain.{Item, item, word_of, lead_of, behind, plain}

-- ---- what is put

-- a part of the line that starts at `at` lies in the feed
pub record Held (f : List ℕ) (at : ℕ) (p : Span) : Type 0 where
  pub order : p.from ≤ p.to
  pub end : at + p.to ≤ length f

abbrev pub held : List ℕ → ℕ → Span → List ℕ
held f at p = take (p.to - p.from) (drop (at + p.from) f)

-- the values of a line's rows, parted by one blank
unfoldable pub spaced : List ℕ → ℕ → List Span → List ℕ
spaced f at [] = []
spaced f at (p ∷ ps) = 32 ∷ held f at p ++ spaced f at ps

unfoldable pub values_of : List ℕ → ℕ → Step → List ℕ
values_of f at x = held f at (get_or x.spans 0 no_span) ++ spaced f at (drop 1 (take x.count x.spans))

pub record ValuesHeld (f : List ℕ) (at : ℕ) (x : Step) : Type 0 where
  pub some : 0 < x.count
  pub few : x.count ≤ 7
  pub size : length x.spans ≡ 7
  pub inside : (i : ℕ) → i < x.count → Held f at (get_or x.spans i no_span)

-- the text of the line that starts at `at`, and its keyword, where it is an assignment
abbrev pub text_at : List ℕ → ℕ → List ℕ
text_at f at = let s = drop at f in take (text_len s) s

unfoldable pub name_of : List ℕ → List ℕ
name_of t = part (trim_of (take (equals_at t) t)) t

-- it is the code's
abbrev pub Named : List ℕ → ℕ → ℕ → Type 0
Named f at c = (c ≡ 37 → ⊥) → (c ≡ 44 → ⊥) → (c ≡ 45 → ⊥) → name_of (text_at f at) ≡ word_of c

-- a data line has seven rows, and nothing before their values
unfoldable pub leads_of : Step → List ℕ
leads_of x = let p = get_or x.spans 0 no_span in elim (eqb x.count 1) [ true ↦ lead_of x.code (eqb p.from p.to) | false ↦ [] ]

-- an LF before each line but the first
abbrev pub break_of : Bool → List ℕ
break_of true = []
break_of false = 10 ∷ []

-- a line that has rows
unfoldable pub line_of : Bool → List ℕ → ℕ → Step → List ℕ
line_of first f at x = break_of first ++ (leads_of x ++ values_of f at x)

-- ---- a message's rows, line by line

-- a line's rows as they are written, the first of them with this code
unfoldable pub items_at : ℕ → List ℕ → ℕ → List Span → List Item
items_at c f at [] = []
items_at c f at (p ∷ ps) = item c (held f at p) ∷ items_at (c + 1) f at ps

unfoldable pub items_from : State → List ℕ → List Line → List Item
items_from st f [] = []
items_from st f (l ∷ ls) =
    elim (step_of st l.text) [ Err r ↦ items_from st f ls | Ok x ↦ items_at x.code f l.start (take x.count x.spans) ++ items_from x.state f ls ]

-- from the first row of a message on, or from a later one
unfoldable pub written_from : Bool → Form → List Item → List ℕ
written_from true f is = plain f is
written_from false f is = behind f is

-- the message that is found at a place, in plain form
abbrev pub plain_from : List ℕ → Found → List ℕ
plain_from f x = plain x.form (items_from (fresh_state x.form) f (up_to true (lines_at x.at (drop x.at f))))

-- it is accepted
pub record Writable (f : List ℕ) (x : Found) : Type 0 where
  pub limit : length f ≤ feed_limit
  pub rows : ℕ
  pub right : judge_texts (fresh_state x.form) 1 0 (texts (up_to true (lines_at x.at (drop x.at f)))) ≡ Ok rows
