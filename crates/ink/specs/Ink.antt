-- Bytes put one behind the other, into a lent buffer or only counted.
-- Assumes nothing.
use Rattle.std.specs.Prelude.{ℕ, ◌+◌, ◌≤◌, ◌≡◌, List, [], ◌++◌, length}
use Rattle.std.proofs.lemmas.List.Edits.{sets}
use Rattle.ink.specs.declared.Ruler.{Ruler}
use Rattle.ink.specs.declared.Pen.{Pen}

-- what takes bytes is, after some and then others, what it is after them all; room for them all is room for the first, and then for the others
pub record Lawful {A : Type 0} (after : A → List ℕ → A) (room : A → List ℕ → Type 0) : Type 0 where
  pub put_none : (x : A) → after x [] ≡ x
  pub put_then : (x : A) (o p : List ℕ) → after (after x o) p ≡ after x (o ++ p)
  pub room_first : (x : A) (o p : List ℕ) → room x (o ++ p) → room x o
  pub room_then : (x : A) (o p : List ℕ) → room x (o ++ p) → room (after x o) p

-- some bytes that are only counted: a length fits 32 bits
abbrev pub counted : Ruler → List ℕ → Ruler
counted r o = record { len = r.len + length o }

abbrev pub Counts : Ruler → List ℕ → Type 0
Counts r o = r.len + length o ≤ 4294967295

-- some bytes put behind those that the buffer has, where it has room for them
abbrev pub written : Pen → List ℕ → Pen
written p o = record { buffer = record p.buffer { now = sets p.buffer.now p.len o }; len = p.len + length o }

abbrev pub Fits : Pen → List ℕ → Type 0
Fits p o = p.len + length o ≤ length p.buffer.now
