-- What is true of a message written out, by document 02, (iii).
-- Assumes nothing.
use Rattle.std.specs.Prelude.{ℕ, ◌-◌, ◌≤◌, ◌≡◌, List, [], ◌∷◌, map, true, false, length, Ok}
use Rattle.lines.specs.Feed.{Line, lines}
use Rattle.judge.specs.Message.{is_heading, from_heading, headings, judge_of, rows_of}
use Rattle.judge.specs.declared.Row.{Row}
use Rattle.write.specs.Plain.{item_of, plain_of}
use Rattle.write.specs.Written.{written_of}

-- "Loaded again, it gives the same codes, groups and value bytes in the same order."
abbrev pub WrittenLoads : Type 0
WrittenLoads = (f : List ℕ) (k n : ℕ) → judge_of f k ≡ Ok n → let o = plain_of f k in
    (judge_of o 1 ≡ Ok n)
    × (map (item_of o) (rows_of o 1) ≡ map (item_of f) (rows_of f k))
    × (map (λ (r : Row). r.group) (rows_of o 1) ≡ map (λ (r : Row). r.group) (rows_of f k))

-- "Writing that result again gives the same bytes."
abbrev pub WrittenAgain : Type 0
WrittenAgain = (f : List ℕ) (k n : ℕ) → judge_of f k ≡ Ok n → plain_of (plain_of f k) 1 ≡ plain_of f k

-- "Message k (from 1) runs from the k-th heading line up to the next heading line or the end of the feed": how many bytes that is
unfoldable pub next_heading : ℕ → List Line → ℕ
next_heading end [] = end
next_heading end (l ∷ ls) = elim (is_heading l.text) [ true ↦ l.start | false ↦ next_heading end ls ]

unfoldable pub bytes_from : ℕ → List Line → ℕ
bytes_from end [] = 0
bytes_from end (l ∷ ls) = next_heading end ls - l.start

abbrev pub message_bytes : List ℕ → ℕ → ℕ
message_bytes f k = bytes_from (length f) (from_heading k (lines f))

-- "The output is never longer than the message": so a buffer as long as the message always has room
abbrev pub NeverLonger : Type 0
NeverLonger = (f : List ℕ) (k n : ℕ) → judge_of f k ≡ Ok n → let o = plain_of f k in
    (length o ≤ message_bytes f k) × ((room : ℕ) → message_bytes f k ≤ room → written_of f k room ≡ Ok (length o))

-- what is written is one message
abbrev pub OneMessage : Type 0
OneMessage = (f : List ℕ) (k n : ℕ) → judge_of f k ≡ Ok n → headings (lines (plain_of f k)) ≡ 1
