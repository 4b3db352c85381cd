-- Laws of the row at a row number, one a case, and that the span of a row that is spoken lies in the feed.
-- Assumes nothing.
use mathlib.Core.Path.{◌≡◌, refl, ◌∙◌}
use mathlib.Core.List.{List}
use mathlib.Core.Bool.{Bool, true, false}
use Prim.Native.Nat.{ℕ, ◌+◌, ◌*◌, ◌≤◌, ◌<◌}
use lib.Dec.{ltb}
use lib.ListN.{length}
use borrow.Author.Tests.{lt-ltb, le-ltb, ltb-false}
use Rattle.reasons.specs.declared.Reason.TheVariants as Reasons
use Rattle.judge.specs.declared.Row.{Row}
use Rattle.tables.specs.Table.{row_width, row_at}
use Rattle.tables.specs.Hearing.{span_of, row_heard}
use Rattle.std.specs.Prelude.{Result, Ok, Err}
use Rattle.reasons.specs.declared.Reason.{Reason}

-- ---- the row at a row number

module _ (w n : ℕ) (f t : List ℕ) where
  pub row_out : length t < row_width w * (n + 1) → row_heard w n f t ≡ Err Reasons.Astray
  unfolding row_heard
  row_out h = rw (lt-ltb _ _ h, row_heard)

  pub row_in : row_width w * (n + 1) ≤ length t → row_heard w n f t ≡ span_of (row_at w t n) f
  unfolding row_heard
  row_in h = rw (le-ltb _ _ h, row_heard)

  module _ (r : Row) (e : r ≡ row_at w t n) (h : row_width w * (n + 1) ≤ length t) where
    pub span_out : length f < r.start + r.length → row_heard w n f t ≡ Err Reasons.Astray
    unfolding span_of
    span_out k = row_in h ∙ rw (← e) (rw (lt-ltb _ _ k, span_of))

    pub span_in : r.start + r.length ≤ length f → row_heard w n f t ≡ Ok r
    unfolding span_of
    span_in k = row_in h ∙ rw (← e) (rw (le-ltb _ _ k, span_of))

-- ---- a row that is spoken has its span in the feed

unfoldable pub Within : Result Row Reason → List ℕ → Type 0
Within (Err r) f = Unit
Within (Ok r) f = r.start + r.length ≤ length f

span_within : (r : Row) (f : List ℕ) → Within (span_of r f) f
unfolding span_of Within
span_within r f = go (ltb (length f) (r.start + r.length)) refl
  where
    go : (b : Bool) → ltb (length f) (r.start + r.length) ≡ b → Within (elim b [ true ↦ Err Reasons.Astray | false ↦ Ok r ]) f
    go true e = tt
    go false e = ltb-false _ _ e

pub row_within : (w n : ℕ) (f t : List ℕ) → Within (row_heard w n f t) f
unfolding row_heard Within
row_within w n f t = go (ltb (length t) (row_width w * (n + 1)))
  where
    go : (b : Bool) → Within (elim b [ true ↦ Err Reasons.Astray | false ↦ span_of (row_at w t n) f ]) f
    go true = tt
    go false = span_within _ f
