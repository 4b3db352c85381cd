-- Demand 3, in the user's words: damage heals at the next heading.
-- Assumes nothing.
use Rattle.std.specs.Prelude.{ℕ, ◌+◌, ◌*◌, ◌≤◌, ◌≡◌, List, map, ◌++◌, length, drop, Ok}
use Rattle.lines.specs.Feed.{lines, lines_before, Starts}
use Rattle.judge.specs.Message.{headings, feed_limit, judge_of, rows_of, refused}
use Rattle.words.specs.Words.{bytes}
use Rattle.reasons.specs.declared.Reason.TheVariants as Reasons
use Rattle.judge.specs.declared.Row.{Row}
use Rattle.tables.specs.Table.{host_row, table_bytes}
use Rattle.desk.specs.Placing.{top_load, place_of, place_table}
use Rattle.desk.specs.declared.Desk.{Desk}
use Rattle.demands.specs.Marked.{feed_in_full}

-- a row that stands q bytes further on
abbrev pub moved_row : ℕ → Row → Row
moved_row q r = record { code = r.code; group = r.group; line = r.line; start = q + r.start; length = r.length }

-- how many heading lines there are among the feed's lines before a place
abbrev pub headings_before : List ℕ → ℕ → ℕ
headings_before f q = headings (lines_before q (lines f))

-- the number that "the first, second and each later message from there" has in the feed: j is 1 for the first, 2 for the second
abbrev pub from_there : List ℕ → ℕ → ℕ → ℕ
from_there f q j = headings_before f q + j

-- "Damage heals at the next heading.": from a place q on where a line of the feed starts, the feed's messages are those of what stands there alone, but
-- that each start is q further on; whether the line there is a heading or not
pub record Healed (f : List ℕ) (q : ℕ) : Type 0 where
  pub judged : (j : ℕ) → 1 ≤ j → judge_of f (from_there f q j) ≡ judge_of (drop q f) j
  pub rows : (j : ℕ) → 1 ≤ j → rows_of f (from_there f q j) ≡ map (moved_row q) (rows_of (drop q f) j)

abbrev pub Healing : Type 0
Healing = (f : List ℕ) (q : ℕ) → length f ≤ feed_limit → Starts f q → Healed f q

pub record Alike (f₁ f₂ : List ℕ) (q₁ q₂ : ℕ) : Type 0 where
  -- "Then the first, second and each later message from there gets the same judgement, judged by demand 2's rules, with the same rows, reason and
  -- line, given tables of equal length and load numbers not spent."
  pub answers : (j : ℕ) → 1 ≤ j → (d₁ d₂ : Desk) (t₁ t₂ : List ℕ) → (d₁.load.0 ≡ top_load → ⊥) → (d₂.load.0 ≡ top_load → ⊥) → length t₁ ≡ length t₂
      → (place_of d₁ f₁ (from_there f₁ q₁ j) (length t₁)).answer ≡ (place_of d₂ f₂ (from_there f₂ q₂ j) (length t₂)).answer
  pub counts : (j : ℕ) → 1 ≤ j → (d₁ d₂ : Desk) (t₁ t₂ : List ℕ) → (d₁.load.0 ≡ top_load → ⊥) → (d₂.load.0 ≡ top_load → ⊥) → length t₁ ≡ length t₂
      → (place_of d₁ f₁ (from_there f₁ q₁ j) (length t₁)).desk.count ≡ (place_of d₂ f₂ (from_there f₂ q₂ j) (length t₂)).desk.count
  -- "Only positions in the feed differ, all by the same distance, and load numbers.": both messages' rows are the same rows, each start moved by its
  -- own feed's place, and after an acceptance each table holds them and then its own old bytes
  pub base : ℕ → List Row
  pub rows₁ : (j : ℕ) → 1 ≤ j → rows_of f₁ (from_there f₁ q₁ j) ≡ map (moved_row q₁) (base j)
  pub rows₂ : (j : ℕ) → 1 ≤ j → rows_of f₂ (from_there f₂ q₂ j) ≡ map (moved_row q₂) (base j)
  pub tables₁ : (j n : ℕ) → 1 ≤ j → (d : Desk) (t : List ℕ) → (d.load.0 ≡ top_load → ⊥) → (place_of d f₁ (from_there f₁ q₁ j) (length t)).answer ≡ Ok n
      → place_table d f₁ (from_there f₁ q₁ j) t ≡ table_bytes (map (moved_row q₁) (base j)) ++ drop (host_row * n) t
  pub tables₂ : (j n : ℕ) → 1 ≤ j → (d : Desk) (t : List ℕ) → (d.load.0 ≡ top_load → ⊥) → (place_of d f₂ (from_there f₂ q₂ j) (length t)).answer ≡ Ok n
      → place_table d f₂ (from_there f₂ q₂ j) t ≡ table_bytes (map (moved_row q₂) (base j)) ++ drop (host_row * n) t

-- "Take two feeds within the size limit, and a place in each that starts a line, from which both run on with the same bytes, beginning with a heading
-- line." The heading is not asked for: what follows holds without it.
abbrev pub HealingPlaced : Type 0
HealingPlaced = (f₁ f₂ : List ℕ) (q₁ q₂ : ℕ) → length f₁ ≤ feed_limit → length f₂ ≤ feed_limit → Starts f₁ q₁ → Starts f₂ q₂ → drop q₁ f₁ ≡ drop q₂ f₂
    → Alike f₁ f₂ q₁ q₂

-- the hypotheses can be met: two feeds with different damage before the feed in full
abbrev pub damaged_one : List ℕ
damaged_one = bytes "x\n" ++ feed_in_full

abbrev pub damaged_two : List ℕ
damaged_two = bytes "CCSDS_OPM_VERS=9\r\n\nX=" ++ (bytes "\r" ++ feed_in_full)

-- the first message from there is message 1 of the one and message 2 of the other
abbrev pub Met : Type 0
Met =
    Starts damaged_one 2
    × Starts damaged_two 22
    × (drop 2 damaged_one ≡ drop 22 damaged_two)
    × (from_there damaged_one 2 1 ≡ 1)
    × (from_there damaged_two 22 1 ≡ 2)
    × (judge_of damaged_one 1 ≡ Ok 19)
    × (judge_of damaged_two 1 ≡ refused Reasons.Value 1)
    × (judge_of damaged_two 2 ≡ Ok 19)
