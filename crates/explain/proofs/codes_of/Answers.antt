-- `explain::codes_of` meets its contract: the codes gathered, then those from here on, are those of the whole.
-- Assumes nothing.
use Rattle.std.proofs.Common.{rules, ◌≡◌, sym, ◌∙◌, suc, ◌+◌, ◌-◌, ◌&&◌, true, false, arith}
use Rattle.grammar.specs.Order.{allows}
use Rattle.explain.specs.Codes.{can_begin, code_more}
use Rattle.explain.proofs.Laws.{those_on, those_done, those-all}
use Rattle.explain.proofs.codes_of.Goals.{then-can_begin+then-allows_code, else-can_begin, else-can_begin-via-then-can_begin+else-allows_code, else-can_begin-via-else-can_begin}
use Rattle.explain.proofs.codes_of.Goals as goal

pub loop-code-preserved : goal.loop-code-preserved
loop-code-preserved c = let l = c.loop-code in
    let n : 46 - l.code ≡ suc (46 - (l.code + 1)) = omega arith in
    let e : elim (can_begin c.args.state.form l.code && allows c.next_of-next.result l.code) [ true ↦ code_more l.codes l.code | false ↦ l.codes ] ≡ c.if-can_begin.codes =
    elim c.if-can_begin.branch [
      | then-can_begin+then-allows_code w ↦ search rules
      | else-can_begin w ↦
          elim w.else-can_begin.branch [
            | else-can_begin-via-then-can_begin+else-allows_code w' ↦ search rules
            | else-can_begin-via-else-can_begin w' ↦ search rules
          ]
    ] in
    rw n at l.invariant ∙ those_on _ _ _ _ ∙ rw e

pub returns : goal.returns
returns c = let l = c.loop-code in
    let n : 46 - l.code ≡ 0 = omega arith in
    sym (sym (those-all _ _ _ c.no_codes-codes.ensures c.next_of-next.ensures) ∙ rw n at l.invariant ∙ those_done _ _ _)
