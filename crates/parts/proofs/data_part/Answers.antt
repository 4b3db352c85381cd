-- `parts::data_part` meets its contract: the first of the others that is wrong.
-- Assumes nothing.
use Rattle.std.proofs.Common.{rules}
use Rattle.parts.proofs.Laws.{data_later}
use Rattle.parts.proofs.data_part.Goals as goal

pub returns-in-Some : goal.returns-in-Some
returns-in-Some c = rw (← data_later c.args.state c.args.text.now _ c.in-Some.field-0 c.wrong.result c.fields_of-fields.ensures (search rules) (search rules)) (search rules)
