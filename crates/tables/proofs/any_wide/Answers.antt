-- `tables::any_wide` meets its contract: each entry in turn, up to the first that does not fit.
-- Assumes nothing.
use Prim.Native.Nat.{◌/◌}
use mathlib.Core.Bool.{true, false}
use mathlib.Core.Path.{◌≡◌}
use lib.ListN.{length}
use Rattle.std.proofs.Common.{rules}
use Rattle.std.proofs.lemmas.Iterator.{cases_from_any, YieldsList-from_range}
use Rattle.tables.proofs.Copies.{is_wide, wide_found}
use Rattle.tables.proofs.any_wide.Goals as goal

pub returns : goal.returns
returns c = let t = c.args.table.now in
    let k = length t / 4 in
    wide_found t k _ (cases_from_any _ _ _ (λ i. is_wide t i ≡ true) (λ i. is_wide t i ≡ false) c.any.ensures.ran (YieldsList-from_range 0 k k (search rules) (search rules)) (λ x q s. search rules) (λ x q s. search rules))
