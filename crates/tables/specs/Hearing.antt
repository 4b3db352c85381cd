-- A row heard from a table, by document 01's table of reasons.
-- Assumes nothing.
use Rattle.std.specs.Prelude.{ℕ, ◌+◌, ◌*◌, List, true, false, ltb, length, Result, Ok, Err}
use Rattle.reasons.specs.declared.Reason.TheVariants as Reasons
use Rattle.judge.specs.declared.Row.{Row}
use Rattle.tables.specs.Table.{row_width, row_at}
use Rattle.reasons.specs.declared.Reason.{Reason}

-- ASTRAY: "the row isn't wholly in the table, or its span not in the feed"
unfoldable pub span_of : Row → List ℕ → Result Row Reason
span_of r f = elim (ltb (length f) (r.start + r.length)) [ true ↦ Err Reasons.Astray | false ↦ Ok r ]

-- the row at a row number of a table of a width
unfoldable pub row_heard : ℕ → ℕ → List ℕ → List ℕ → Result Row Reason
row_heard w n f t = elim (ltb (length t) (row_width w * (n + 1))) [ true ↦ Err Reasons.Astray | false ↦ span_of (row_at w t n) f ]
