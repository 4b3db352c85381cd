-- `rows::fill` meets its contract. The invariant: the lines left are still accepted, so that the next is right, and their rows, put from here on, give what all of them would have given.
-- Assumes nothing.
use Prim.Native.Nat.{ℕ, ◌+◌}
use mathlib.Core.Path.{◌≡◌, refl, sym, ◌∙◌}
use mathlib.Core.Bool.{false}
use native.Mathlib.Omega.{arith}
use lib.Dec.{eqb}
use borrow.Author.Tests.{ne_eqb}
use Rattle.judge.specs.Message.{texts, judge_texts}
use Rattle.judge.proofs.Laws.{left, sure_next, step_on, walk_on, walk_end, judged-wrong, judged-right, not_both}
use Rattle.rows.proofs.Fills.{step_fits, fill_end, fill_turn, group_le}
use Rattle.rows.proofs.fill.Goals as goal
use Rattle.std.specs.Prelude.{Some, None, Ok}

pub lines-init : goal.lines-init
lines-init c = let p = c.requires in ((p.total, rw c.fresh-state.ensures p.right), refl, omega arith, omega arith, omega arith, omega arith, refl)

pub next_line-requires : goal.next_line-requires
next_line-requires c = sure_next _ _ _ _ _ c.lines.invariant.0.1

pub returns-in_default : goal.returns-in_default
returns-in_default c =
    let p : c.next_line.result ≡ Ok None = cc in
    rw (← c.fresh-state.ensures) (sym (c.lines.invariant.1 ∙ fill_end _ _ _ _ _ _ (walk_end _ _ _ _ _ c.next_line.ensures p)))

pub returns-in_default-2 : goal.returns-in_default-2
returns-in_default-2 c = absurd (not_both c.lines.invariant.0.1 (judged-wrong _ _ _ _ _ c.next_line.ensures _ _ _ c.in_default.is))

pub group_after-group-requires : goal.group_after-group-requires
group_after-group-requires c =
    let p : c.next_line.result ≡ Ok (Some c.in-Ok-Some.moved) = cc in
    omega (arith, step_on _ _ _ _ _ c.next_line.ensures _ p)

pub put_rows-requires : goal.put_rows-requires
put_rows-requires c =
    let p : c.next_line.result ≡ Ok (Some c.in-Ok-Some.moved) = cc in
    let w = walk_on _ _ _ _ _ c.next_line.ensures _ p in
    step_fits _ w.0.text _ _ _ w.1 (omega (arith, w.0.fits, w.0.inside, c.requires.limit)) (omega (arith, step_on _ _ _ _ _ c.next_line.ensures _ p, c.requires.limit))

pub overflow_cast-n : goal.overflow_cast-n
overflow_cast-n c =
    let p : c.next_line.result ≡ Ok (Some c.in-Ok-Some.moved) = cc in
    omega (arith, step_on _ _ _ _ _ c.next_line.ensures _ p)

pub overflow_add-n : goal.overflow_add-n
overflow_add-n c =
    let p : c.next_line.result ≡ Ok (Some c.in-Ok-Some.moved) = cc in
    omega (arith, step_on _ _ _ _ _ c.next_line.ensures _ p, c.requires.limit)

pub overflow_add-line : goal.overflow_add-line
overflow_add-line c =
    let p : c.next_line.result ≡ Ok (Some c.in-Ok-Some.moved) = cc in
    omega (arith, step_on _ _ _ _ _ c.next_line.ensures _ p)

pub lines-smaller : goal.lines-smaller
lines-smaller c =
    let p : c.next_line.result ≡ Ok (Some c.in-Ok-Some.moved) = cc in
    omega (arith, step_on _ _ _ _ _ c.next_line.ensures _ p)

pub lines-preserved : goal.lines-preserved
lines-preserved c =
    let p : c.next_line.result ≡ Ok (Some c.in-Ok-Some.moved) = cc in
    let on = step_on _ _ _ _ _ c.next_line.ensures _ p in
    let w = walk_on _ _ _ _ _ c.next_line.ensures _ p in
    -- the lines after it are accepted too
    let still-right : let m = c.in-Ok-Some.moved in (total : ℕ) × (judge_texts m.step.state (c.lines.line + 1) (c.lines.n + m.step.count) (texts (left c.args.feed.now m.next false)) ≡ Ok total) = let h = c.lines.invariant.0 in
    (h.0, sym (judged-right _ _ _ _ _ c.next_line.ensures _ _ _ p) ∙ h.1) in
    let l = c.lines in
    let n : eqb (l.line + 1) 1 ≡ false = ne_eqb (l.line + 1) 1 (λ e. omega arith) in (
      rw n still-right,
      l.invariant.1 ∙ fill_turn _ _ _ _ _ w.0 w.1 _ _ _ _ ∙ rw (n, c.put_rows.ensures, c.group_after-group.ensures),
      omega arith,
      omega (arith, on),
      rw c.group_after-group.ensures (omega (arith, group_le l.state.form l.group c.in-Ok-Some.moved.step.code)),
      omega (arith, on),
      c.put_rows.auto.table ∙ l.invariant.6,
    )
