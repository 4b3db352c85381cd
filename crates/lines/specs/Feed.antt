-- A feed's lines, by document 01, "Feeds, lines and headings".
-- Assumes nothing.
use Rattle.std.specs.Prelude.{ℕ, ◌+◌, Bool, true, false, not, ◌&&◌, ◌||◌, eqb, ltb, length, drop}
use mathlib.Core.List.{List, [], ◌∷◌, ◌++◌, map, Memᴰ}
use Rattle.words.specs.Words.{run}
use Rattle.lines.specs.declared.Ends.{Ends}
use Rattle.lines.specs.declared.FeedLine.{FeedLine}
use Rattle.lines.specs.declared.Lines.{Lines}

-- a line: where its text starts in the feed, and its text, the ending left out
pub record Line : Type 0 where
  pub start : ℕ
  pub text : List ℕ

-- "A line ends at CR, LF, CR LF or LF CR."
abbrev pub is_end : ℕ → Bool
is_end b = eqb b 13 || eqb b 10

-- "a CR or LF followed by the other one is one ending"
abbrev pub joins : ℕ → ℕ → Bool
joins e b = (eqb e 13 && eqb b 10) || (eqb e 10 && eqb b 13)

-- "Text after the last ending is a line if it isn't empty [H]."
unfoldable pub last_line : ℕ → List ℕ → List Line
last_line at [] = []
last_line at (b ∷ t) = record { start = at; text = b ∷ t } ∷ []

-- "Read from the left": what is still to be read is the list; e is the ending byte just read, which the other one still joins
-- (0 where there is none); t is the text of the line in hand, which starts at `at`.
unfoldable pub lines_from : ℕ → ℕ → List ℕ → List ℕ → List Line
lines_from e at t [] = last_line at t
lines_from e at t (b ∷ s) =
    elim (joins e b) [
      | true ↦ lines_from 0 (at + 1) t s
      | false ↦
          elim (is_end b) [
            | true ↦ record { start = at; text = t } ∷ lines_from b (at + (length t + 1)) [] s
            | false ↦ lines_from 0 at (t ++ (b ∷ [])) s
          ]
    ]

-- the lines of what stands in a feed from a place on, where a line starts
abbrev pub lines_at : ℕ → List ℕ → List Line
lines_at at s = lines_from 0 at [] s

-- the lines of a feed. "The empty feed has no lines."
abbrev pub lines : List ℕ → List Line
lines s = lines_at 0 s

-- how many bytes stand before the first ending
abbrev pub text_len : List ℕ → ℕ
text_len s = run (λ b. not (is_end b)) s

-- how many bytes an ending takes whose first byte is b, with c after it: none where b is no ending
unfoldable pub end_with : ℕ → ℕ → ℕ
end_with b c = elim (joins b c) [ true ↦ 2 | false ↦ elim (is_end b) [ true ↦ 1 | false ↦ 0 ] ]

-- how many bytes the ending takes that stands first; 0 is neither CR nor LF
unfoldable pub end_len : List ℕ → ℕ
end_len [] = 0
end_len (b ∷ []) = end_with b 0
end_len (b ∷ c ∷ s) = end_with b c

-- how many bytes the first line takes, its ending with it
unfoldable pub line_len : List ℕ → ℕ
line_len s = text_len s + end_len (drop (text_len s) s)

-- where the text of the line ends that starts at `at`, and where the next line starts
unfoldable pub ends_of : ℕ → List ℕ → Ends
ends_of at s = record { end = at + text_len s; next = at + line_len s }

-- a place where a line of the feed starts
abbrev pub Starts : List ℕ → ℕ → Type 0
Starts f q = Memᴰ q (map (λ (l : Line). l.start) (lines f))

-- the lines that start before a place
unfoldable pub lines_before : ℕ → List Line → List Line
lines_before q [] = []
lines_before q (l ∷ ls) = elim (ltb l.start q) [ true ↦ l ∷ lines_before q ls | false ↦ lines_before q ls ]

-- a line that stands d bytes further on
abbrev pub moved_line : ℕ → Line → Line
moved_line d l = record { start = d + l.start; text = l.text }

-- ---- the lines as a feed gives them one after the other

-- a line that was given
abbrev pub line_of : FeedLine → Line
line_of x = record { start = x.at; text = x.text.now }

-- the lines still to come
abbrev pub lines_left : Lines → List Line
lines_left x = lines_at x.at (drop x.at x.feed.now)
