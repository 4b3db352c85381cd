-- `desk::Desk::place` meets its contract: the load number, then the message put into the table, whose answer settles the desk.
-- Assumes nothing.
use mathlib.Core.Path.{◌≡◌, sym, ◌∙◌}
use lib.ListN.{length}
use Rattle.judge.specs.Message.{judge_of}
use Rattle.rows.specs.Filled.{room_for, table_after}
use Rattle.desk.proofs.Reading.{place_spent, place_answer}
use Rattle.desk.proofs.Desk.place.Goals as goal

pub returns-then-self-eq-TOP_LOAD : goal.returns-then-self-eq-TOP_LOAD
unfolding table_after
returns-then-self-eq-TOP_LOAD c = let e = place_spent _ _ _ _ c.if-self-eq-TOP_LOAD.true in
    record { answer = rw c.into.ensures (sym e); table = rw e }

pub returns : goal.returns
returns c =
    -- the answer is that of the message asked for
    let answered : c.put_message-answer.result ≡ room_for (length c.args.table.now) (judge_of c.args.feed.now c.args.message) = c.put_message-answer.ensures.answer in
    let e = place_answer _ _ _ _ c.if-self-eq-TOP_LOAD.false _ answered in
    record { answer = rw c.after.ensures (sym e); table = c.put_message-answer.ensures.table ∙ rw e }
