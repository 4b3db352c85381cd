-- `write::walk` meets its contract: a line with rows is put, and what is left after it, put from there on, gives what all of them would have given.
-- Assumes nothing.
use Prim.Native.Nat.{◌+◌}
use mathlib.Core.Path.{◌≡◌, refl, sym, ap, ◌∙◌}
use mathlib.Core.Bool.{true, false}
use native.Mathlib.Omega.{arith}
use lib.Dec.{eqb}
use borrow.Author.Tests.{eq-eqb, ne_eqb}
use Rattle.lines.specs.declared.Form.{Form}
use Rattle.judge.proofs.Laws.{left, sure_next, walk_on, walk_end, judged-wrong, judged-right, not_both}
use Rattle.write.specs.Inner.{items_from, written_from, plain_from}
use Rattle.ink.proofs.Laws.{Left, left_start, left_room, left_turn, left_same, left_done}
use Rattle.write.proofs.Walks.{kept, values_held, named, some_left, none_left, end_left}
use Rattle.write.proofs.walk.Goals as goal
use Rattle.write.proofs.walk.Goals.{else-step-gt0, then-step-gt0}
use Rattle.std.specs.Prelude.{Some, None, Ok}

pub lines-init : goal.lines-init
unfolding written_from
lines-init g c =
    let from = c.args.found.at in
    let z : eqb from from ≡ true = eq-eqb from from refl in
    rw (z, c.fresh-state.ensures) (record { line = 1; rows = 0; total = c.requires.writable.rows; right = c.requires.writable.right }, left_start refl c.requires.room, omega arith)

pub next_line-requires : goal.next_line-requires
next_line-requires g c = sure_next _ _ _ _ _ c.lines.invariant.0.right

pub returns-in_default : goal.returns-in_default
returns-in_default g c =
    let e : c.next_line.result ≡ Ok None = cc in
    left_done g.met.I.Ink.laws c.lines.invariant.1 (end_left _ _ _ _ _ (walk_end _ _ _ _ _ c.next_line.ensures e))

pub returns-in_default-2 : goal.returns-in_default-2
returns-in_default-2 g c =
    let r = c.lines.invariant.0 in
    absurd (not_both r.right (judged-wrong _ _ _ _ _ c.next_line.ensures r.line r.rows _ c.in_default.is))

pub invariant_of-put : goal.invariant_of-put
invariant_of-put g c =
    let e : c.next_line.result ≡ Ok (Some c.in-Ok-Some.moved) = cc in
    let o = walk_on _ _ _ _ _ c.next_line.ensures _ e in
    record { at_in_bounds = omega (arith, o.0.on, o.0.inside); values_held = values_held _ _ _ _ _ o c.if-step-gt0.true; named = named _ _ _ _ _ o }

pub put-requires : goal.put-requires
put-requires g c =
    let l = c.lines in
    let e : c.next_line.result ≡ Ok (Some c.in-Ok-Some.moved) = cc in
    let o = walk_on _ _ _ _ _ c.next_line.ensures _ e in
    left_room g.met.I.Ink.laws _ _ (left_same (some_left _ _ _ _ _ o l.first c.if-step-gt0.true) l.invariant.1)

pub lines-smaller : goal.lines-smaller
lines-smaller g c =
    let e : c.next_line.result ≡ Ok (Some c.in-Ok-Some.moved) = cc in
    let o = walk_on _ _ _ _ _ c.next_line.ensures _ e in
    omega (arith, o.0.on, o.0.inside)

pub lines-preserved : goal.lines-preserved
lines-preserved g c =
    let f = c.args.feed.now in
    let l = c.lines in
    let m = c.in-Ok-Some.moved in
    let from = c.args.found.at in
    let e : c.next_line.result ≡ Ok (Some m) = cc in
    let o = walk_on _ _ _ _ _ c.next_line.ensures m e in
    let w = o.0 in
    let went : Left g.I.Ink.after g.I.Ink.room c.args.ink.now (plain_from f c.args.found) c.if-step-gt0.ink (written_from c.if-step-gt0.first l.state.form (items_from m.step.state f (left f m.next false))) =
    elim c.if-step-gt0.branch [
      | then-step-gt0 t ↦
          rw (t.first-is, t.ink-is)
          (left_turn g.met.I.Ink.laws _ _ (left_same (some_left _ _ _ _ _ o l.first t.if-step-gt0.true) l.invariant.1) t.put.ensures)
      | else-step-gt0 t ↦ rw (t.first-is, t.ink-is) (left_same (none_left _ _ _ _ _ o l.first (omega (arith, t.if-step-gt0.false))) l.invariant.1)
    ] in
    let z : eqb m.next from ≡ false = ne_eqb m.next from (λ q. omega (arith, w.on, l.invariant.2)) in
    let r = l.invariant.0 in
    let j = sym (judged-right _ _ _ _ _ c.next_line.ensures r.line r.rows m e) ∙ r.right in
    rw z (
      record { line = r.line + 1; rows = r.rows + m.step.count; total = r.total; right = j },
      left_same (ap (λ (form : Form). written_from c.if-step-gt0.first form (items_from m.step.state f (left f m.next false))) (sym (kept _ _ _ _ _ o))) went,
      omega (arith, w.on, l.invariant.2),
    )
