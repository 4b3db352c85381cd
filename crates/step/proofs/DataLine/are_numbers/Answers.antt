-- `step::DataLine::are_numbers` meets its contract.
-- Assumes nothing.
use Rattle.std.proofs.Common.{rules}
use Rattle.step.proofs.Laws.{numbers_none}
use Rattle.step.proofs.DataLine.are_numbers.Goals as goal

pub returns : goal.returns
returns c = rw (← numbers_none _ _, ← c.wrong.ensures) (search rules)
