-- `spoken::put_words` meets its contract: there is room for the next byte's words.
-- Assumes nothing.
use Rattle.std.proofs.Common.{sym, subst, [], ◌∷◌, get_or}
use Rattle.ink.proofs.Laws.{left_same, left_room}
use Rattle.spoken.specs.Saying.{said_by}
use Rattle.spoken.specs.declared.Mark.{Mark}
use Rattle.spoken.proofs.Laws.{words_turn}
use Rattle.spoken.proofs.put_words.Goals as goal

pub put_mark-requires : goal.put_mark-requires
put_mark-requires g c =
    let e = words_turn c.args.manner c.args.value.now c.loop-at.at c.loop-at-test.true in
    let room = left_room g.met.I.Ink.laws _ _ (left_same e c.loop-at.invariant) in
    subst (λ (m : Mark). g.I.Ink.room c.loop-at.ink (said_by m (get_or c.args.value.now c.loop-at.at 0 ∷ []))) (sym c.mark_at.ensures) room
