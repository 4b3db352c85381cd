-- `judge::judge` meets its contract: the judgement of the message sighted.
-- Assumes nothing.
use mathlib.Core.Path.{◌≡◌, sym, ◌∙◌}
use Rattle.std.specs.Prelude.{Err}
use Rattle.std.proofs.Common.{rules}
use Rattle.judge.specs.Message.{SightedIs}
use Rattle.judge.proofs.judge.Goals as goal

pub returns-in_err-sight : goal.returns-in_err-sight
unfolding SightedIs
returns-in_err-sight c =
    let z : c.from_residual.result ≡ Err c.in_err-sight.field-0.0 = search rules in
    z ∙ sym (rw c.in_err-sight.was at c.sight.ensures.judged)

pub returns : goal.returns
unfolding SightedIs
returns c = sym (rw c.in_ok-sight.was at c.sight.ensures.judged).0
