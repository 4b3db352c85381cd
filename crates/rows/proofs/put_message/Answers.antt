-- `rows::put_message` meets its contract: a refusal as it is, an acceptance by the table's room.
-- Assumes nothing.
use mathlib.Core.Path.{◌≡◌, refl}
use Rattle.std.specs.Prelude.{Err}
use Rattle.std.proofs.Common.{rules}
use Rattle.judge.specs.Message.{SightedIs}
use Rattle.judge.proofs.Laws.{found_rows}
use Rattle.rows.specs.Filled.{room_for, table_after}
use Rattle.rows.proofs.Fills.{found_fillable, found_count}
use Rattle.rows.proofs.put_message.Goals as goal

pub returns-in_err-sighted-clause-answer : goal.returns-in_err-sighted-clause-answer
unfolding SightedIs room_for
returns-in_err-sighted-clause-answer c =
    let z : c.from_residual.result ≡ Err c.in_err-sighted.field-0.0 = search rules in
    rw z (rw (rw c.in_err-sighted.was at c.sight.ensures.judged))

pub returns-in_err-sighted-clause-table : goal.returns-in_err-sighted-clause-table
unfolding table_after
returns-in_err-sighted-clause-table c =
    let z : c.from_residual.result ≡ Err c.in_err-sighted.field-0.0 = search rules in
    rw z refl

pub put_found-requires-clause-fillable : goal.put_found-requires-clause-fillable
unfolding SightedIs
put_found-requires-clause-fillable c =
    let w = rw c.in_ok-sighted.was at c.sight.ensures.judged in
    found_fillable _ _ _ w.0 _ w.1

pub put_found-requires-clause-rows_value : goal.put_found-requires-clause-rows_value
unfolding SightedIs
put_found-requires-clause-rows_value c =
    let w = rw c.in_ok-sighted.was at c.sight.ensures.judged in
    found_count _ _ _ w.0 _ w.1

pub returns-clause-answer : goal.returns-clause-answer
unfolding SightedIs
returns-clause-answer c =
    let w = rw c.in_ok-sighted.was at c.sight.ensures.judged in
    rw w.0 c.put_found.ensures.answer

pub returns-clause-table : goal.returns-clause-table
unfolding SightedIs
returns-clause-table c =
    let w = rw c.in_ok-sighted.was at c.sight.ensures.judged in
    rw (found_rows _ _ _ w.1) c.put_found.ensures.table
