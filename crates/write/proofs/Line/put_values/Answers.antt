-- `write::Line::put_values` meets its contract: each value behind the first is put behind a blank.
-- Assumes nothing.
use mathlib.Core.Path.{sym, subst}
use Rattle.ink.proofs.Laws.{left_same, left_room, left_turn}
use Rattle.write.proofs.Turns.{later, values_turn, held_next}
use Rattle.write.proofs.Line.put_values.Goals as goal

pub put-requires-in-loop-span : goal.put-requires-in-loop-span
put-requires-in-loop-span g c =
    let a = c.args.self.now in
    left_room g.met.I.Ink.laws _ _ (left_same (values_turn a.feed.now a.at (later a.feed.now a.at a.step) c.loop-span.span-index c.loop-span-test.true) c.loop-span.invariant)

pub value-requires-in-loop-span : goal.value-requires-in-loop-span
value-requires-in-loop-span g c = held_next _ _ _ c.args.self.now.values_held _ c.loop-span-test.true

pub put-requires-in-loop-span-2 : goal.put-requires-in-loop-span-2
put-requires-in-loop-span-2 g c =
    let a = c.args.self.now in
    let l = left_same (values_turn a.feed.now a.at (later a.feed.now a.at a.step) c.loop-span.span-index c.loop-span-test.true) c.loop-span.invariant in
    subst (g.I.Ink.room _) (sym c.value-in-loop-span.ensures) (left_room g.met.I.Ink.laws _ _ (left_turn g.met.I.Ink.laws _ _ l c.put-in-loop-span.ensures))
