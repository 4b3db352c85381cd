-- `rounding::raise` meets its contract: what is past the limit stays past it.
-- Assumes nothing.
use mathlib.Core.Path.{sym}
use Rattle.rounding.proofs.Laws.{said_big}
use Rattle.rounding.proofs.Rounds.{raise_over}
use Rattle.rounding.proofs.raise.Goals as goal

pub returns-then-v-gt-LIMIT : goal.returns-then-v-gt-LIMIT
returns-then-v-gt-LIMIT c = sym (said_big _ _ (raise_over c.loop.v _ _ _ c.loop.invariant c.if-v-gt-LIMIT.true))
