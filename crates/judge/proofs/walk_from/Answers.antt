-- `judge::walk_from` meets its contract. The invariant: the lines left, walked along from here, end as the whole does; each takes at least
-- a byte and has at most seven rows, so that the counts fit.
-- Assumes nothing.
use mathlib.Core.Path.{◌≡◌, refl, sym, ◌∙◌}
use mathlib.Core.Bool.{false}
use native.Mathlib.Omega.{arith}
use Prim.Native.Nat.{◌+◌}
use lib.Dec.{eqb}
use borrow.Author.Tests.{ne_eqb}
use Rattle.std.specs.Prelude.{Some, None, Ok}
use Rattle.judge.proofs.Laws.{unsure, step_on, stopped-end, stopped-wrong, stopped-right}
use Rattle.judge.proofs.walk_from.Goals as goal

pub lines-init : goal.lines-init
lines-init c = (refl, omega arith, omega arith, omega arith, omega arith)

pub next_line-requires : goal.next_line-requires
next_line-requires c = unsure _ _

pub returns-in-Err : goal.returns-in-Err
returns-in-Err c =
    rw (← c.fresh-state.ensures) (sym (c.lines.invariant.0 ∙ stopped-wrong _ _ _ _ _ c.next_line.ensures _ _ _ c.in-Err.is))

pub returns-in-Ok-None : goal.returns-in-Ok-None
returns-in-Ok-None c =
    let p : c.next_line.result ≡ Ok None = cc in
    rw (← c.fresh-state.ensures) (sym (c.lines.invariant.0 ∙ stopped-end _ _ _ _ _ c.next_line.ensures _ _ c.lines.invariant.4 p))

pub overflow_add-rows : goal.overflow_add-rows
overflow_add-rows c =
    let p : c.next_line.result ≡ Ok (Some c.in-Ok-Some.moved) = cc in
    omega (arith, step_on _ _ _ _ _ c.next_line.ensures _ p)

pub overflow_cast-rows : goal.overflow_cast-rows
overflow_cast-rows c =
    let p : c.next_line.result ≡ Ok (Some c.in-Ok-Some.moved) = cc in
    omega (arith, step_on _ _ _ _ _ c.next_line.ensures _ p)

pub lines-smaller : goal.lines-smaller
lines-smaller c =
    let p : c.next_line.result ≡ Ok (Some c.in-Ok-Some.moved) = cc in
    omega (arith, step_on _ _ _ _ _ c.next_line.ensures _ p)

pub lines-preserved : goal.lines-preserved
lines-preserved c =
    let p : c.next_line.result ≡ Ok (Some c.in-Ok-Some.moved) = cc in
    let on = step_on _ _ _ _ _ c.next_line.ensures _ p in
    let n : eqb (c.lines.line + 1) 1 ≡ false = ne_eqb (c.lines.line + 1) 1 (λ e. omega arith) in (
      c.lines.invariant.0 ∙ stopped-right _ _ _ _ _ c.next_line.ensures _ _ _ p ∙ rw n,
      omega arith,
      omega (arith, on),
      omega (arith, on),
      omega (arith, on),
    )
