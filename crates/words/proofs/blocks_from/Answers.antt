-- `words::blocks_from` meets its contract: the blocks taken are those that stand first and are all of the class.
-- Assumes nothing.
use mathlib.Core.Path.{ap, ◌∙◌}
use native.Mathlib.Omega.{arith}
use Prim.Native.Nat.{◌/◌}
use lib.ListN.{length, drop}
use Rattle.std.specs.Simd.{first_chunks}
use Rattle.std.proofs.Common.{rules, tests}
use Rattle.std.proofs.lemmas.Iterator.{YieldsList-from_slice}
use Rattle.std.proofs.lemmas.Iterator.Consumers.{count_from_yields_List}
use Rattle.std.proofs.lemmas.Iterator.Search.{YieldsList-from_take_while}
use Rattle.words.specs.Words.{every}
use Rattle.std.specs.Slice.Iter.{iter_rest}
use Rattle.words.proofs.Laws.{passed-is}
use Rattle.words.proofs.blocks_from.Goals as goal

pub returns : goal.returns
returns g c = let a = c.args in
    let p = g.C.Class.has a.class in
    let whole = ap (λ s. first_chunks 16 (length s / 16) s) c.rest_from.ensures in
    let items = ap iter_rest c.take_while.ensures.source ∙ c.iter.ensures.rest ∙ c.as_chunks.ensures.front ∙ whole in
    let e = count_from_yields_List c.take_while.result _ c.count.ensures.ran (YieldsList-from_take_while _ (every p) (YieldsList-from_slice _ items) c.take_while.ensures.closure c.take_while.ensures.done (λ x b q k. search (rules, tests))) in
    omega (arith, e, passed-is p (drop a.from a.text.now))
