-- A message written into a lent buffer, by document 02, (iii).
-- Assumes nothing.
use Rattle.std.specs.Prelude.{ℕ, List, ◌++◌, true, false, ltb, length, drop, Result, Ok, Err}
use Rattle.reasons.specs.declared.Reason.TheVariants as Reasons
use Rattle.judge.specs.Message.{judge_of, refused}
use Rattle.write.specs.Plain.{plain_of}
use Rattle.judge.specs.declared.Refusal.{Refusal}

-- "NO_ROOM, buffer untouched, exactly if it is too short": a plain form o, for a buffer of so many bytes
unfoldable pub fitted : List ℕ → ℕ → Result ℕ Refusal
fitted o room = elim (ltb room (length o)) [ true ↦ refused Reasons.NoRoom 0 | false ↦ Ok (length o) ]

-- "a refusal is the answer": else the message's plain form o is written where there is room
unfoldable pub answer_of : Result ℕ Refusal → List ℕ → ℕ → Result ℕ Refusal
answer_of (Err e) o room = Err e
answer_of (Ok n) o room = fitted o room

-- message k of a feed, for a buffer of so many bytes
abbrev pub written_of : List ℕ → ℕ → ℕ → Result ℕ Refusal
written_of f k room = answer_of (judge_of f k) (plain_of f k) room

-- "the buffer untouched"; else the bytes past what was written are kept as they came
unfoldable pub buffer_after : Result ℕ Refusal → List ℕ → List ℕ → List ℕ
buffer_after (Err e) o b = b
buffer_after (Ok n) o b = o ++ drop n b
