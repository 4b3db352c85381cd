-- Recorded tables made wide and narrow again, by document 02, (vi): "Consoles have recorded old 16-bit tables: widen them so that each row reads as it did."
-- Assumes nothing.
use Rattle.std.specs.Prelude.{ℕ, zero, suc, ◌+◌, ◌*◌, ◌/◌, List, [], ◌++◌, Bool, true, false, eqb, ltb, length, drop, Result, Ok, Err, ⊤}
use Rattle.reasons.specs.declared.Reason.TheVariants as Reasons
use Rattle.tables.specs.Table.{host_width, recorded_width, entry_bytes, entry_at}
use Rattle.reasons.specs.declared.Reason.{Reason}

-- how many entries a table of a width has; spare bytes at its end make none
abbrev pub entries_in : ℕ → List ℕ → ℕ
entries_in w t = length t / w

-- the first k entries of a table of width v as bytes at width w, one behind the other
unfoldable pub rewritten : ℕ → ℕ → List ℕ → ℕ → List ℕ
rewritten v w t zero = []
rewritten v w t (suc k) = rewritten v w t k ++ entry_bytes w (entry_at v t k)

-- a table with the entries of another in place of its own; "up to three spare bytes kept"
abbrev pub copied : ℕ → ℕ → List ℕ → List ℕ → List ℕ
copied v w t u = rewritten v w t (entries_in v t) ++ drop (w * entries_in v t) u

-- whether one of k entries from the i-th on is above 65,535, of a table of four bytes an entry
unfoldable pub some_wide : List ℕ → ℕ → ℕ → Bool
some_wide u i zero = false
some_wide u i (suc k) = elim (ltb 65535 (entry_at host_width u i)) [ true ↦ true | false ↦ some_wide u (i + 1) k ]

-- "Two tables of unequal length are NO_ROOM, checked first.": the lengths are in entries
unfoldable pub widen_of : List ℕ → List ℕ → Result ⊤ Reason
widen_of t u = elim (eqb (entries_in recorded_width t) (entries_in host_width u)) [ false ↦ Err Reasons.NoRoom | true ↦ Ok tt ]

-- "Narrowing back is refused with 19 WIDE exactly if some number is above 65,535"
unfoldable pub narrow_of : List ℕ → List ℕ → Result ⊤ Reason
narrow_of u t =
    elim (eqb (entries_in recorded_width t) (entries_in host_width u)) [
      | false ↦ Err Reasons.NoRoom
      | true ↦ elim (some_wide u 0 (entries_in host_width u)) [ true ↦ Err Reasons.Wide | false ↦ Ok tt ]
    ]

-- the table that was to be made, by the answer; a refusal "changes nothing"
unfoldable pub made_by : Result ⊤ Reason → List ℕ → List ℕ → List ℕ
made_by (Err r) made kept = kept
made_by (Ok tt) made kept = made

abbrev pub widened : List ℕ → List ℕ → List ℕ
widened t u = made_by (widen_of t u) (copied recorded_width host_width t u) u

abbrev pub narrowed : List ℕ → List ℕ → List ℕ
narrowed u t = made_by (narrow_of u t) (copied host_width recorded_width u t) t
