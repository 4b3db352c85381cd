-- Laws of a plain form and a buffer that has room for it or has not.
-- Assumes nothing.
use mathlib.Core.Path.{◌≡◌}
use mathlib.Core.List.{List}
use Prim.Native.Nat.{ℕ, ◌≤◌, ◌<◌}
use lib.ListN.{length}
use borrow.Author.Tests.{lt-ltb, le-ltb}
use Rattle.reasons.specs.declared.Reason.TheVariants as Reasons
use Rattle.write.specs.Written.{fitted}
use Rattle.std.specs.Prelude.{Ok}
use Rattle.judge.specs.Message.{refused}

module _ (o : List ℕ) (room : ℕ) where
  pub fitted_no : room < length o → fitted o room ≡ refused Reasons.NoRoom 0
  unfolding fitted
  fitted_no h = rw (lt-ltb room (length o) h, fitted)

  pub fitted_whole : length o ≤ room → fitted o room ≡ Ok (length o)
  unfolding fitted
  fitted_whole h = rw (le-ltb room (length o) h, fitted)
