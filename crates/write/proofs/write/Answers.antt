-- `write::write` meets its contract: a refusal is the answer; a message that is right is written from the place where it is found.
-- Assumes nothing.
use mathlib.Core.Path.{◌≡◌, refl}
use Rattle.std.specs.Prelude.{Ok, Err}
use Rattle.std.proofs.Common.{rules}
use Rattle.judge.specs.Message.{SightedIs}
use Rattle.write.specs.Written.{answer_of, buffer_after}
use Rattle.write.proofs.Walks.{found_writable, found_plain}
use Rattle.write.proofs.write.Goals as goal

pub write_found-requires : goal.write_found-requires
unfolding SightedIs
write_found-requires c =
    let s : c.sight.result ≡ Ok c.in_ok-sighted.sighted = search rules in
    let w = rw s at c.sight.ensures.judged in
    found_writable _ _ _ w.0 _ w.1

pub returns-in_err-sighted : goal.returns-in_err-sighted
unfolding SightedIs answer_of buffer_after
returns-in_err-sighted c =
    let s : c.sight.result ≡ Err c.in_err-sighted.field-0.0 = search rules in
    let w = rw s at c.sight.ensures.judged in
    let z : c.from_residual.result ≡ Err c.in_err-sighted.field-0.0 = search rules in
    rw z (record { answer = rw w; buffer = refl })

pub returns : goal.returns
unfolding SightedIs answer_of
returns c =
    let s : c.sight.result ≡ Ok c.in_ok-sighted.sighted = search rules in
    let w = rw s at c.sight.ensures.judged in
    let v = c.write_found.ensures in
    rw (w.0, ← found_plain _ _ _ w.0 _ w.1) (record { answer = v.answer; buffer = v.buffer })
