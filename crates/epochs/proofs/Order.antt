-- The order that `Instant` derives, field by field, is `is_before`.
-- Assumes nothing.
use mathlib.Core.Path.{◌≡◌}
use Rattle.std.specs.Ordering.{partial_lt}
use Rattle.std.proofs.Common.{rules}
use Rattle.epochs.specs.declared.Instant.{Instant}
use Rattle.epochs.specs.contracts.InstantPartialOrd.TheImpl.{partial_cmp-value}
use Rattle.epochs.specs.Epoch.{is_before}

pub ordered : (a b : Instant) → partial_lt partial_cmp-value.it a b ≡ is_before a b
unfolding is_before
ordered a b = search rules
