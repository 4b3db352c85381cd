-- `lines::cut_end` meets its contract: the blanks taken from the end are those that are cut.
-- Assumes nothing.
use mathlib.Core.Path.{ap, ◌∙◌}
use native.Mathlib.Omega.{arith}
use Rattle.std.specs.Iterator.Adapters.{rev_source}
use Rattle.std.specs.Prelude.{reverse}
use Rattle.std.specs.Slice.Iter.{iter_rest}
use Rattle.std.proofs.Common.{rules, tests}
use Rattle.std.proofs.lemmas.Iterator.Adapters.{YieldsList-from_rev_slice}
use Rattle.std.proofs.lemmas.Iterator.Consumers.{count_from_yields_List}
use Rattle.std.proofs.lemmas.Iterator.Search.{YieldsList-from_take_while}
use Rattle.std.proofs.lemmas.List.Folds.{length-prefix_len}
use Rattle.lines.specs.Text.{is_blank}
use Rattle.lines.proofs.Laws.{cut-is}
use Rattle.lines.proofs.cut_end.Goals as goal

pub returns : goal.returns
returns c = let s = c.args.text.now in
    let items = ap (λ r. iter_rest (rev_source r)) c.take_while.ensures.source ∙ ap iter_rest c.rev.ensures.source ∙ c.iter.ensures.rest in
    let e = count_from_yields_List c.take_while.result _ c.count.ensures.ran (YieldsList-from_take_while _ (λ b. is_blank b) (YieldsList-from_rev_slice s items) c.take_while.ensures.closure c.take_while.ensures.done (λ x b q k. search (rules, tests))) in
    omega (arith, e, length-prefix_len (λ b. is_blank b) (reverse s), cut-is s)
