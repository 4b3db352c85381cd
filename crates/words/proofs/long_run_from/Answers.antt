-- `words::long_run_from` meets its contract: the walk may begin behind the whole blocks of the class.
-- Assumes nothing.
use mathlib.Core.Path.{sym, ◌∙◌}
use Rattle.words.proofs.Laws.{walk_skip}
use Rattle.words.proofs.long_run_from.Goals as goal

pub returns : goal.returns
returns g c = c.run_from.ensures ∙ sym (walk_skip _ _ (λ b e. e) _ _ _ c.blocks_from.ensures)
