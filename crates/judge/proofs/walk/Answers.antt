-- `judge::walk` meets its contract: the message found, then walked along.
-- Assumes nothing.
use mathlib.Core.Path.{sym, ap, ◌∙◌}
use Rattle.std.specs.Prelude.{Ok}
use Rattle.judge.proofs.Laws.{sought_in, walk_found}
use Rattle.judge.proofs.walk.Goals as goal

pub walk_from-requires : goal.walk_from-requires
walk_from-requires c = let w = c.in_ok-found.ensures.found in (w.short, sought_in _ _ _ w)

pub returns : goal.returns
returns c =
    let w = c.in_ok-found.ensures.found in
    ap Ok c.walk_from.ensures ∙ sym (walk_found _ _ w.short _ w.lines)
