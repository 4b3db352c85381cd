-- `lines::text_end` meets its contract: the walk to the ending may begin behind the whole blocks of bytes 32 to 126.
-- Assumes nothing.
use Prim.Native.Nat.{ℕ}
use mathlib.Core.Path.{◌≡◌, refl, sym, ◌∙◌}
use mathlib.Core.Bool.{Bool, true, false, not, ◌||◌, false≢true}
use native.Mathlib.Omega.{arith}
use Rattle.words.proofs.Laws.{walk_skip}
use lib.Dec.{ltb}
use borrow.Author.Tests.{ne_eqb, ltb-false}
use Rattle.lines.specs.Feed.{is_end}
use Rattle.lines.specs.Text.{is_odd}
use Rattle.lines.proofs.text_end.Goals as goal

-- no byte of 32 to 126 is an ending
plain-no-end : (b : ℕ) → not (is_odd b) ≡ true → not (is_end b) ≡ true
plain-no-end b = go (ltb b 32) refl
  where
    go : (t : Bool) → ltb b 32 ≡ t → not (t || ltb 126 b) ≡ true → not (is_end b) ≡ true
    go true q e = absurd (false≢true e)
    go false q e = let h = ltb-false b 32 q in simp (ne_eqb b 13 (λ k. omega arith), ne_eqb b 10 (λ k. omega arith))

pub returns : goal.returns
returns c = c.run_from.ensures ∙ sym (walk_skip _ _ plain-no-end _ _ _ c.blocks_from.ensures)
