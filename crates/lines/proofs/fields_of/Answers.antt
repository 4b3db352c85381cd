-- `lines::fields_of` meets its contract: the fields gathered, then those of what is left, are those of the whole.
-- Assumes nothing.
use Prim.Native.Nat.{ℕ, ◌+◌, ◌≤◌, ◌<◌}
use mathlib.Core.List.{List}
use Rattle.words.specs.Words.{run}
use mathlib.Core.Path.{◌≡◌, sym, ap, ◌∙◌}
use mathlib.Core.Bool.{not}
use native.Mathlib.Omega.{arith}
use lib.Dec.{eqb}
use lib.ListN.{length, drop, length-drop}
use Rattle.words.proofs.Laws.{run-le}
use Rattle.lines.specs.Text.{fields_from, field_then, gathered}
use Rattle.lines.proofs.Laws.{fields_next, fields_end, gather_none, gather_kept, gather_past}
use Rattle.lines.proofs.fields_of.Goals as goal
use Rattle.lines.specs.declared.Span.{Span}
use Rattle.lines.specs.declared.Fields.{Fields}
use Rattle.lines.specs.Text.{field_then}
use lib.ListN.{set}

-- the field's end is no further than the text's
within : (text : List ℕ) (from to : ℕ) → from < length text → to ≡ from + run (λ b. not (eqb b 32)) (drop from text) → to ≤ length text
within text from to h e = omega (arith, run-le (λ b. not (eqb b 32)) (drop from text), length-drop from text)

-- what the next field leaves to gather: it is kept, only counted, or there is none
record NextField (text : List ℕ) (all : Fields) (count : ℕ) (spans : List Span) (from to : ℕ) : Type 0 where
  kept : from < to → count < 7 → all ≡ gathered (record { count = count + 1; spans = set spans count (record { from = from; to = to }) }) (fields_from (to + 1) (to + 1) (drop (to + 1) text))
  past : from < to → 7 ≤ count → all ≡ gathered (record { count = 8; spans = spans }) (fields_from (to + 1) (to + 1) (drop (to + 1) text))
  none : to ≤ from → all ≡ gathered (record { count = count; spans = spans }) (fields_from (to + 1) (to + 1) (drop (to + 1) text))

next_field : (text : List ℕ) (all : Fields) (count : ℕ) (spans : List Span) (from to : ℕ)
    → all ≡ gathered (record { count = count; spans = spans }) (fields_from from from (drop from text))
    → to ≡ from + run (λ b. not (eqb b 32)) (drop from text)
    → NextField text all count spans from to
next_field text all count spans from to e k =
    let q : all ≡ gathered (record { count = count; spans = spans }) (field_then from to (fields_from (to + 1) (to + 1) (drop (to + 1) text)))
    = e ∙ ap (gathered _) (fields_next text from to k) in
    record {
      kept = λ a b. q ∙ gather_kept _ _ _ _ a b;
      past = λ a b. q ∙ gather_past _ _ _ _ a b;
      none = λ a. q ∙ gather_none _ _ _ _ a;
    }

pub overflow_add-from : goal.overflow_add-from
overflow_add-from c = omega (arith, within _ _ _ c.loop-from-test.true c.byte_from-to.ensures)

pub loop-from-smaller : goal.loop-from-smaller
loop-from-smaller c = omega (arith, within _ _ _ c.loop-from-test.true c.byte_from-to.ensures)

pub loop-from-preserved : goal.loop-from-preserved
loop-from-preserved c = let l = c.loop-from in
    let q = next_field c.args.text.now _ l.count l.spans l.from _ l.invariant c.byte_from-to.ensures in
    grind (arith, q.kept, q.past, q.none)

pub returns : goal.returns
unfolding gathered
returns c = sym (c.loop-from.invariant ∙ ap (gathered _) (fields_end _ _ c.loop-from-test.false))
