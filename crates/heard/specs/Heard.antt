-- What is true of a value's words.
-- Assumes nothing.
use Rattle.std.specs.Prelude.{ℕ, ◌≤◌, ◌≡◌, List, Bool, true, ◌⊎◌, length, take, drop, Option, Some, None, Ok}
use Rattle.words.specs.Words.{Each}
use Rattle.lines.specs.Text.{odd_at}
use Rattle.values.specs.Number.{is_number, is_integer, is_text, is_version}
use Rattle.epochs.specs.Epoch.{epoch_of}
use Rattle.epochs.specs.declared.Instant.{Instant}
use Rattle.grammar.specs.Keywords.{kind_of}
use Rattle.grammar.specs.declared.Kind.{Kind}
use Rattle.grammar.specs.declared.Kind.TheVariants.{Version, Text, Integer, Number, Epoch}
use Rattle.judge.specs.Message.{judge_of, rows_of}
use Rattle.judge.specs.declared.Row.{Row}
use Rattle.spoken.specs.Way.{way_of}
use Rattle.spoken.specs.Spoken.{spoken_of, words_of}
use Rattle.heard.specs.Hearing.{heard_of, spelled_of}

-- the value of this code has words
abbrev pub IsSaid : ℕ → List ℕ → Type 0
IsSaid c v = way_of c v ≡ None → ⊥

-- reading back undoes the words: it gives the value's bytes, `e` in a number as `E`
abbrev pub HeardBack : Type 0
HeardBack = (c : ℕ) (v : List ℕ) → IsSaid c v → heard_of c (words_of c v) ≡ spelled_of c v

-- two values of one code whose words are the same are the same bytes, but for `E` and `e` in a number
abbrev pub HeardApart : Type 0
HeardApart = (c : ℕ) (v w : List ℕ) → IsSaid c v → IsSaid c w → words_of c v ≡ words_of c w → spelled_of c v ≡ spelled_of c w

-- a text has "bytes 32 to 126 only": none is the first that is not
abbrev pub AllPlain : List ℕ → Type 0
AllPlain v = odd_at v ≡ length v

-- a value is right in its kind: an epoch is, whether or not second 60 may stand
abbrev pub RightIn : Option Kind → List ℕ → Type 0
RightIn (Some Version) v = is_version v ≡ true
RightIn (Some Text) v = (is_text v ≡ true) × AllPlain v
RightIn (Some Integer) v = is_integer v ≡ true
RightIn (Some Number) v = is_number v ≡ true
RightIn (Some Epoch) v = (sixty : Bool) × (t : Instant) × (epoch_of v sixty ≡ Some t)
RightIn None v = ⊥

-- and a comment is any such text
abbrev pub RightOf : ℕ → List ℕ → Type 0
RightOf c v = ((c ≡ 45) × AllPlain v) ⊎ RightIn (kind_of c) v

-- a buffer of so many bytes is always room enough
abbrev pub words_room : ℕ
words_room = 259

-- every value that is right in its kind and has at most 254 bytes has words, and there is room for them
abbrev pub AllSaid : Type 0
AllSaid = (c : ℕ) (v : List ℕ) (room : ℕ) → RightOf c v → length v ≤ 254 → words_room ≤ room → spoken_of c v room ≡ Ok (length (words_of c v))

-- the value of this code has words, and there is room for them; but for META_START and META_STOP, which have no value
abbrev pub IsHeard : ℕ → List ℕ → ℕ → Type 0
IsHeard c v room = ((c ≡ 37) ⊎ (c ≡ 44)) ⊎ (spoken_of c v room ≡ Ok (length (words_of c v)))

-- so has a row's, which is its part of the feed
abbrev pub RowHeard : List ℕ → ℕ → Row → Type 0
RowHeard f room r = IsHeard r.code (take r.length (drop r.start f)) room

-- no row of an accepted message goes unheard
abbrev pub RowsSaid : Type 0
RowsSaid = (f : List ℕ) (k n room : ℕ) → judge_of f k ≡ Ok n → words_room ≤ room → Each (RowHeard f room) (rows_of f k)
