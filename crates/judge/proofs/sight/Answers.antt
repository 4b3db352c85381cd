-- `judge::sight` meets its contract: the message found, then judged from its place.
-- Assumes nothing.
use mathlib.Core.Path.{◌≡◌, sym, ap, ◌∙◌}
use Rattle.std.specs.Prelude.{Err}
use Rattle.std.proofs.Common.{rules}
use Rattle.judge.specs.Message.{of_feed, judged_by}
use Rattle.judge.proofs.Laws.{sought_in, judge_stopped, sighted-wrong, sighted-right}
use Rattle.judge.proofs.sight.Goals as goal

pub returns-in_err-found-clause-answer : goal.returns-in_err-found-clause-answer
returns-in_err-found-clause-answer c =
    let z : c.from_residual.result ≡ Err (of_feed c.in_err-found.field-0.0) = search rules in
    z ∙ (sighted-wrong _ _ _ c.in_err-found.ensures.missing.judged).0

pub returns-in_err-found-clause-judged : goal.returns-in_err-found-clause-judged
returns-in_err-found-clause-judged c =
    let z : c.from_residual.result ≡ Err (of_feed c.in_err-found.field-0.0) = search rules in
    rw z (sighted-wrong _ _ _ c.in_err-found.ensures.missing.judged).1

pub walk_from-requires : goal.walk_from-requires
walk_from-requires c = let w = c.in_ok-found.ensures.found in (w.short, sought_in _ _ _ w)

-- `judged`: what the walk's end says is the judgement
pub returns-in_err-rows-clause-answer : goal.returns-in_err-rows-clause-answer
returns-in_err-rows-clause-answer c =
    let w = c.in_ok-found.ensures.found in
    let judged = judge_stopped _ _ w.short _ w.lines ∙ ap judged_by (sym c.walk_from.ensures) ∙ sym c.judged.ensures in
    let z : c.from_residual-in_err-rows.result ≡ Err c.in_err-rows.field-0.0 = search rules in
    z ∙ (sighted-wrong _ _ _ (judged ∙ c.in_err-rows.was)).0

pub returns-in_err-rows-clause-judged : goal.returns-in_err-rows-clause-judged
returns-in_err-rows-clause-judged c =
    let w = c.in_ok-found.ensures.found in
    let judged = judge_stopped _ _ w.short _ w.lines ∙ ap judged_by (sym c.walk_from.ensures) ∙ sym c.judged.ensures in
    let z : c.from_residual-in_err-rows.result ≡ Err c.in_err-rows.field-0.0 = search rules in
    rw z (sighted-wrong _ _ _ (judged ∙ c.in_err-rows.was)).1

pub returns-clause-answer : goal.returns-clause-answer
returns-clause-answer c =
    let w = c.in_ok-found.ensures.found in
    let judged = judge_stopped _ _ w.short _ w.lines ∙ ap judged_by (sym c.walk_from.ensures) ∙ sym c.judged.ensures in
    (sighted-right _ _ _ _ (judged ∙ c.in_ok-rows.was) w.place w.lines).0

pub returns-clause-judged : goal.returns-clause-judged
returns-clause-judged c =
    let w = c.in_ok-found.ensures.found in
    let judged = judge_stopped _ _ w.short _ w.lines ∙ ap judged_by (sym c.walk_from.ensures) ∙ sym c.judged.ensures in
    (sighted-right _ _ _ _ (judged ∙ c.in_ok-rows.was) w.place w.lines).1
