-- `words::block_has` meets its contract: what is kept along the block is whether each byte so far is of the class.
-- Assumes nothing.
use mathlib.Core.Path.{◌≡◌, refl, ap, ◌∙◌}
use mathlib.Core.Bool.{◌&&◌}
use Rattle.std.proofs.Common.{rules, tests}
use Rattle.std.proofs.lemmas.Fn.{fold_over, fronts, slice_gives}
use Rattle.words.specs.Words.{every}
use Rattle.words.proofs.Laws.{every-push}
use Rattle.words.proofs.block_has.Goals as goal

pub returns : goal.returns
unfolding every
returns g c =
    let p = g.C.Class.has c.args.class in
    fold_over fronts (λ y. y.now) _ (λ ys kept. kept ≡ every p ys) _
    (λ ys kept x now f e k. let q : now ≡ kept && p x.now = search (rules, tests) in (every-push p ys x.now kept now e q, search (rules, tests)))
    c.iter.result _ _ _ (slice_gives c.iter.result) refl c.fold.ensures.ran
    ∙ ap (every p) c.iter.ensures.rest
