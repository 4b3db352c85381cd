-- Laws of tables: how long a table is, that each row reads back as it was written, whatever follows, and rows put one behind the other.
-- Assumes nothing.
use mathlib.Core.Path.{◌≡◌, refl, ap, ◌∙◌}
use mathlib.Core.List.{List, [], ◌∷◌, ◌++◌, append_assoc}
use mathlib.Core.Bool.{Bool, true, false}
use Prim.Native.Nat.{ℕ, zero, suc, ◌+◌, ◌*◌, ◌≤◌, ◌<◌}
use native.Mathlib.Numerals.{one-add}
use native.Mathlib.Nat.{not-suc-le-zero, le_of_suc-le-suc}
use native.Mathlib.Omega.{arith}
use lib.Dec.{ltb}
use lib.ListN.{length, drop, get_or, length-append}
use lib.Seq.{sets, sets-eq, length-sets}
use borrow.Author.Tests.{lt-ltb, le-ltb}
use Rattle.words.proofs.Laws.{sets_more}
use Rattle.judge.specs.declared.Row.{Row}
use Rattle.tables.specs.Table.{host_width, host_row, entry_bytes, number_at, entry_at, row_bytes, row_at, table_bytes, put_row, put_rows}
use Rattle.tables.proofs.Entries.{reach, bytes-length, number_past, number_back}

-- a row takes five entries' bytes
row-length : (r : Row) → length (row_bytes r) ≡ host_row
row-length r = simp (length-append, bytes-length)

pub table-length : (rs : List Row) → length (table_bytes rs) ≡ host_row * length rs
unfolding table_bytes
table-length [] = refl
table-length (r ∷ rs) = omega (arith, length-append (row_bytes r) (table_bytes rs), row-length r, table-length rs)

-- past some whole rows the others have the places that they have without those
row-past : (xs ys : List ℕ) (m i : ℕ) → length xs ≡ host_row * m → row_at host_width (xs ++ ys) (m + i) ≡ row_at host_width ys i
unfolding row_at
row-past xs ys m i e =
    rw (at (5 * (m + i)) (5 * i) (omega arith), at (5 * (m + i) + 1) (5 * i + 1) (omega arith), at (5 * (m + i) + 2) (5 * i + 2) (omega arith), at (5 * (m + i) + 3) (5 * i + 3) (omega arith), at (5 * (m + i) + 4) (5 * i + 4) (omega arith))
  where
    at : (j k : ℕ) → j ≡ 5 * m + k → entry_at host_width (xs ++ ys) j ≡ entry_at host_width ys k
    at j k q = let p : 4 * j ≡ length xs + 4 * k = omega arith in rw p (number_past host_width xs ys (4 * k))

-- the five numbers of a row, and of each row, fit their entries
pub record Fit (r : Row) : Type 0 where
  pub code : r.code < reach host_width
  pub group : r.group < reach host_width
  pub line : r.line < reach host_width
  pub start : r.start < reach host_width
  pub length : r.length < reach host_width

unfoldable pub Small : List Row → Type 0
Small [] = Unit
Small (r ∷ rs) = Fit r × Small rs

row_first : (r : Row) (u : List ℕ) → Fit r → row_at host_width (row_bytes r ++ u) 0 ≡ r
unfolding row_at number_at entry_bytes
row_first r u s =
    let back = number_back host_width in
    rw (back r.code [] s.code, back r.group [] s.group, back r.line [] s.line, back r.start [] s.start, back r.length [] s.length)

pub row_back : (rs : List Row) (u : List ℕ) (d : Row) → Small rs → (i : ℕ) → i < length rs → row_at host_width (table_bytes rs ++ u) i ≡ get_or rs i d
unfolding table_bytes Small
row_back [] u d s i h = absurd (not-suc-le-zero h)
row_back (r ∷ rs) u d s zero h = rw append_assoc (row_first r (table_bytes rs ++ u) s.0)
row_back (r ∷ rs) u d s (suc i) h =
    rw (append_assoc, ← (one-add i)) (row-past (row_bytes r) (table_bytes rs ++ u) 1 i (row-length r) ∙ row_back rs u d s.1 i (le_of_suc-le-suc h))

-- ---- a row put

behind : (l : List ℕ) (i : ℕ) (a : List ℕ) (j : ℕ) (b : List ℕ) → j ≡ i + length a → sets (sets l i a) j b ≡ sets l i (a ++ b)
behind l i a j b e = rw e (sets_more a l i b)

-- its five entries stored one behind the other
pub row_stored : (t : List ℕ) (n : ℕ) (r : Row) → let e = entry_bytes host_width in
    sets (sets (sets (sets (sets t (4 * (5 * n)) (e r.code)) (4 * (5 * n + 1)) (e r.group)) (4 * (5 * n + 2)) (e r.line)) (4 * (5 * n + 3)) (e r.start)) (4 * (5 * n + 4)) (e r.length)
    ≡ sets t (host_row * n) (row_bytes r)
row_stored t n r =
    let e = entry_bytes host_width in
    let i = 4 * (5 * n) in
    let a = e r.code in
    let b = a ++ e r.group in
    let c = b ++ e r.line in
    let d = c ++ e r.start in
    let la = bytes-length 4 r.code in
    let lb : length b ≡ 8 = simp (length-append, bytes-length) in
    let lc : length c ≡ 12 = simp (length-append, bytes-length) in
    let ld : length d ≡ 16 = simp (length-append, bytes-length) in
    let z : i ≡ host_row * n = omega arith in
    rw (behind t i a (4 * (5 * n + 1)) (e r.group) (omega arith), behind t i b (4 * (5 * n + 2)) (e r.line) (omega arith), behind t i c (4 * (5 * n + 3)) (e r.start) (omega arith), behind t i d (4 * (5 * n + 4)) (e r.length) (omega arith))
    (rw z (simp append_assoc))

module _ (n : ℕ) (r : Row) (t : List ℕ) where
  pub put_out : length t < host_row * (n + 1) → put_row n r t ≡ t
  unfolding put_row
  put_out h = rw (lt-ltb _ _ h, put_row)

  pub put_in : host_row * (n + 1) ≤ length t → put_row n r t ≡ sets t (host_row * n) (row_bytes r)
  unfolding put_row
  put_in h = rw (le-ltb _ _ h, put_row)

  -- the table is as long as it was
  put_length : length (put_row n r t) ≡ length t
  unfolding put_row
  put_length = go (ltb (length t) (host_row * (n + 1)))
    where
      go : (b : Bool) → length {A = ℕ} (elim b [ true ↦ t | false ↦ sets t (host_row * n) (row_bytes r) ]) ≡ length t
      go true = refl
      go false = length-sets t (host_row * n) (row_bytes r)

put_sets : (rs : List Row) (n : ℕ) (t : List ℕ) → host_row * (n + length rs) ≤ length t → put_rows n rs t ≡ sets t (host_row * n) (table_bytes rs)
unfolding put_rows table_bytes
put_sets [] n t h = refl
put_sets (r ∷ rs) n t h =
    let e : host_row * (n + 1) ≡ host_row * n + length (row_bytes r) = omega (arith, row-length r) in
    put_sets rs (n + 1) (put_row n r t) (omega (arith, put_length n r t))
    ∙ rw (put_in n r t (omega arith), e) (sets_more (row_bytes r) t (host_row * n) (table_bytes rs))

-- the first rows' entries are filled, and the others as they came
pub put_table : (rs : List Row) (n : ℕ) (t : List ℕ) → length rs ≡ n → host_row * n ≤ length t → put_rows 0 rs t ≡ table_bytes rs ++ drop (host_row * n) t
put_table rs n t e h =
    let q : 0 + length (table_bytes rs) ≡ host_row * n = omega (arith, table-length rs) in
    put_sets rs 0 t (omega arith) ∙ sets-eq (table_bytes rs) t 0 (omega arith) ∙ ap (λ (j : ℕ). table_bytes rs ++ drop j t) q
