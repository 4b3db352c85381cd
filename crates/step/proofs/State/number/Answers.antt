-- `step::State::number` meets its contract: the number up to the first blank, then the unit.
-- Assumes nothing.
use mathlib.Core.Path.{sym, ◌∙◌}
use Rattle.step.proofs.Laws.{number_bytes, unit_bytes, number_bad, number_unit, number_right}
use Rattle.step.proofs.State.number.Goals as goal

pub returns-then-not-is_number : goal.returns-then-not-is_number
returns-then-not-is_number c =
    let v = number_bytes _ _ c.args.p.now.inside _ _ _ c.split.ensures.word c.split.ensures.word_text c.bytes.ensures in
    number_bad _ _ _ _ _ v (sym c.is_number.ensures ∙ c.if-not-is_number.true)

pub returns-then-not-unit_right : goal.returns-then-not-unit_right
returns-then-not-unit_right c =
    let v = number_bytes _ _ c.args.p.now.inside _ _ _ c.split.ensures.word c.split.ensures.word_text c.bytes.ensures in
    let u = unit_bytes _ _ c.args.p.now.inside _ _ _ _ _ c.split.ensures.rest c.split.ensures.rest_text c.trim.ensures.span c.trim.ensures.text c.bytes-2.ensures in
    number_unit _ _ _ _ _ v _ u (sym c.is_number.ensures ∙ c.if-not-is_number.false) (sym c.unit_right.ensures ∙ c.if-not-unit_right.true)

pub returns : goal.returns
returns c =
    let v = number_bytes _ _ c.args.p.now.inside _ _ _ c.split.ensures.word c.split.ensures.word_text c.bytes.ensures in
    let u = unit_bytes _ _ c.args.p.now.inside _ _ _ _ _ c.split.ensures.rest c.split.ensures.rest_text c.trim.ensures.span c.trim.ensures.text c.bytes-2.ensures in
    rw (c.one_row.ensures, c.past.ensures)
    (number_right _ _ _ _ _ v _ u (sym c.is_number.ensures ∙ c.if-not-is_number.false) _ c.split.ensures.word (sym c.unit_right.ensures ∙ c.if-not-unit_right.false))
