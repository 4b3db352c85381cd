-- A value's words written into a lent buffer.
-- Assumes nothing.
use Rattle.std.specs.Prelude.{ℕ, List, [], ◌++◌, true, false, ltb, length, drop, Option, Some, None, Result, Ok, Err}
use Rattle.reasons.specs.declared.Reason.TheVariants as Reasons
use Rattle.spoken.specs.Saying.{words_by}
use Rattle.spoken.specs.Way.{way_of}
use Rattle.spoken.specs.declared.Manner.{Manner}
use Rattle.reasons.specs.declared.Reason.{Reason}

-- NO_ROOM exactly if the buffer is too short for the words
unfoldable pub fitted : List ℕ → ℕ → Result ℕ Reason
fitted o room = elim (ltb room (length o)) [ true ↦ Err Reasons.NoRoom | false ↦ Ok (length o) ]

-- VALUE, before NO_ROOM, for what is not said
unfoldable pub spoken_by : Option Manner → List ℕ → ℕ → Result ℕ Reason
spoken_by (Some m) v room = fitted (words_by m v) room
spoken_by None v room = Err Reasons.Value

-- how the value of a code is said, into a buffer of so many bytes
abbrev pub spoken_of : ℕ → List ℕ → ℕ → Result ℕ Reason
spoken_of c v room = spoken_by (way_of c v) v room

-- the words themselves; none where it is not said
unfoldable pub words_in : Option Manner → List ℕ → List ℕ
words_in (Some m) v = words_by m v
words_in None v = []

abbrev pub words_of : ℕ → List ℕ → List ℕ
words_of c v = words_in (way_of c v) v

-- on a refusal the buffer is as it was, else the bytes past the words are
unfoldable pub buffer_after : Result ℕ Reason → List ℕ → List ℕ → List ℕ
buffer_after (Err r) o b = b
buffer_after (Ok n) o b = o ++ drop n b
