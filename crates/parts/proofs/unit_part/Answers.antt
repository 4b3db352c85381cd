-- `parts::unit_part` meets its contract.
-- Assumes nothing.
use Rattle.parts.proofs.Laws.{unit_found}
use Rattle.parts.proofs.unit_part.Goals as goal

pub returns : goal.returns
returns c = unit_found _ _ _ _ _ c.sides_in.ensures c.split.ensures.rest c.split.ensures.rest_text c.trim.ensures.span
