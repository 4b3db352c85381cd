-- `keywords::is_it` meets its contract: a word with another first letter is not the text.
-- Assumes nothing.
use Rattle.std.proofs.Common.{sym, ◌∙◌}
use Rattle.keywords.proofs.Table.{unlike}
use Rattle.keywords.proofs.is_it.Goals as goal

pub returns-else-eq : goal.returns-else-eq
returns-else-eq c = c.if-eq.false ∙ unlike _ _ _ _ c.first.ensures.value c.first-2.ensures.value (sym c.eq.ensures ∙ c.if-eq.false)
