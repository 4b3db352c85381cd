-- The table's bytes, by document 01: "five 16-bit numbers: code, group, line, start, length"; "low byte first"; and document 02, (vi): "rows become 32-bit
-- numbers".
-- Assumes nothing.
use Rattle.std.specs.Prelude.{ℕ, zero, suc, ◌+◌, ◌*◌, ◌/◌, ◌%◌, List, [], ◌∷◌, ◌++◌, true, false, ltb, length, get_or}
use Rattle.std.proofs.lemmas.List.Edits.{sets}
use Rattle.judge.specs.declared.Row.{Row}

-- ---- an entry, at a width

-- how many bytes an entry takes: "the host's table takes four bytes an entry", a recorded one is "a table as two bytes an entry"
abbrev pub host_width : ℕ
host_width = 4

abbrev pub recorded_width : ℕ
recorded_width = 2

-- a number's bytes at a width, low byte first
unfoldable pub entry_bytes : ℕ → ℕ → List ℕ
entry_bytes zero n = []
entry_bytes (suc w) n = n % 256 ∷ entry_bytes w (n / 256)

-- the number whose bytes at a width stand from a place on
unfoldable pub number_at : ℕ → List ℕ → ℕ → ℕ
number_at zero t p = 0
number_at (suc w) t p = get_or t p 0 + 256 * number_at w t (p + 1)

-- the i-th entry of a table
abbrev pub entry_at : ℕ → List ℕ → ℕ → ℕ
entry_at w t i = number_at w t (w * i)

-- ---- a row: five entries

-- how many bytes it takes at a width, and in the host's table
abbrev pub row_width : ℕ → ℕ
row_width w = 5 * w

abbrev pub host_row : ℕ
host_row = row_width host_width

-- the row at a row number
unfoldable pub row_at : ℕ → List ℕ → ℕ → Row
row_at w t n =
    record {
      code = entry_at w t (5 * n);
      group = entry_at w t (5 * n + 1);
      line = entry_at w t (5 * n + 2);
      start = entry_at w t (5 * n + 3);
      length = entry_at w t (5 * n + 4);
    }

-- ---- the host's table

-- a row's bytes
abbrev pub row_bytes : Row → List ℕ
row_bytes r =
    entry_bytes host_width r.code ++ (entry_bytes host_width r.group ++ (entry_bytes host_width r.line ++ (entry_bytes host_width r.start ++ entry_bytes host_width r.length)))

-- some rows' bytes, one after the other
unfoldable pub table_bytes : List Row → List ℕ
table_bytes [] = []
table_bytes (r ∷ rs) = row_bytes r ++ table_bytes rs

-- a row written at a row number, where it is wholly in the table, and some rows from a row number on
unfoldable pub put_row : ℕ → Row → List ℕ → List ℕ
put_row n r t = elim (ltb (length t) (host_row * (n + 1))) [ true ↦ t | false ↦ sets t (host_row * n) (row_bytes r) ]

unfoldable pub put_rows : ℕ → List Row → List ℕ → List ℕ
put_rows n [] t = t
put_rows n (r ∷ rs) t = put_rows (n + 1) rs (put_row n r t)
