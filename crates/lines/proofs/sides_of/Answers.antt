-- `lines::sides_of` meets its contract: each side is trimmed.
-- Assumes nothing.
use mathlib.Core.Path.{ap₂}
use native.Mathlib.Omega.{arith}
use lib.ListN.{length-take}
use Rattle.lines.specs.Text.{sides_of}
use Rattle.lines.specs.declared.Span.{Span}
use Rattle.lines.proofs.sides_of.Goals as goal

pub slice_bounds-trim-end : goal.slice_bounds-trim-end
slice_bounds-trim-end c = let a = c.args in omega (arith, length-take a.n a.text.now)

pub returns : goal.returns
unfolding sides_of
returns c = ap₂ (λ (k v : Span). record { keyword = k; value = v }) c.trim-keyword.ensures c.trim_from-value.ensures
