-- Recorded tables made wide and narrow again, by document 02, (vi): what is true of them.
-- Assumes nothing.
use Rattle.std.specs.Prelude.{ℕ, ◌*◌, ◌<◌, ◌≡◌, ◌↔◌, List, ◌++◌, take, drop, get_or, Ok, Err}
use Rattle.reasons.specs.declared.Reason.{Reason}
use Rattle.reasons.specs.declared.Reason.TheVariants as Reasons
use Rattle.tables.specs.Table.{host_width, recorded_width, entry_at}
use Rattle.tables.specs.Hearing.{row_heard}
use Rattle.tables.specs.Widths.{entries_in, widen_of, widened, narrow_of, narrowed}

-- a list of bytes, as every table that is lent is one
abbrev pub Bytes : List ℕ → Type 0
Bytes t = (i : ℕ) → get_or t i 0 < 256

-- a recorded table and one of the host's have as many entries
abbrev pub AsMany : List ℕ → List ℕ → Type 0
AsMany t u = entries_in recorded_width t ≡ entries_in host_width u

-- "widen them so that each row reads as it did": whatever the row number and the feed, ASTRAY too
abbrev pub WidenedReads : Type 0
WidenedReads = (t u : List ℕ) → Bytes t → widen_of t u ≡ Ok tt
    → (n : ℕ) (f : List ℕ) → row_heard host_width n f (widened t u) ≡ row_heard recorded_width n f t

-- "Narrowing back": what was widened gives its entries' bytes back, into any recorded table s of as many entries, whose spare byte is kept; so into the table
-- that was widened all its bytes
abbrev pub NarrowedBack : Type 0
NarrowedBack = (t u s : List ℕ) → Bytes t → widen_of t u ≡ Ok tt → entries_in recorded_width s ≡ entries_in recorded_width t
    → let n = recorded_width * entries_in recorded_width t in
    (narrow_of (widened t u) s ≡ Ok tt) × (narrowed (widened t u) s ≡ take n t ++ drop n s) × (narrowed (widened t u) t ≡ t)

-- "refused with 19 WIDE exactly if some number is above 65,535": any entry, in a row or not
abbrev pub WideExactly : Type 0
WideExactly = (t u : List ℕ)
    → (narrow_of u t ≡ Err Reasons.Wide) ↔ (AsMany t u × ((i : ℕ) × (i < entries_in host_width u) × (65535 < entry_at host_width u i)))

-- "Two tables of unequal length are NO_ROOM, checked first."
abbrev pub UnequalExactly : Type 0
UnequalExactly = (t u : List ℕ)
    → ((widen_of t u ≡ Err Reasons.NoRoom) ↔ (AsMany t u → ⊥)) × ((narrow_of u t ≡ Err Reasons.NoRoom) ↔ (AsMany t u → ⊥))

-- "and then changes nothing"
abbrev pub RefusedLeaves : Type 0
RefusedLeaves = (t u : List ℕ) (r : Reason)
    → (widen_of t u ≡ Err r → widened t u ≡ u) × (narrow_of u t ≡ Err r → narrowed u t ≡ t)
