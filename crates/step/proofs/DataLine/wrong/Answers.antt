-- `step::DataLine::wrong` meets its contract: each of the fields looked at lies in the text.
-- Assumes nothing.
use Rattle.step.proofs.Laws.{rest_inside}
use Rattle.step.proofs.DataLine.wrong.Goals as goal

pub no_number-requires : goal.no_number-requires
no_number-requires c = rest_inside _ _ c.args.self.now.inside
