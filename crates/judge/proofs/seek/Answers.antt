-- `judge::seek` meets its contract: a feed that is too long has no message found.
-- Assumes nothing.
use native.Mathlib.Omega.{arith}
use Rattle.judge.proofs.Laws.{sought_long}
use Rattle.judge.proofs.seek.Goals as goal

pub returns-clause-missing : goal.returns-clause-missing
returns-clause-missing c = sought_long _ _ (omega (arith, c.if-feed-le-FEED_LIMIT.false))
