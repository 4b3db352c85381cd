-- `explain::codes_of` meets its contract: the codes gathered, then those from here on, are those of the whole.
-- Assumes nothing.
use Prim.Native.Nat.{ℕ, ◌-◌}
use mathlib.Core.Path.{◌≡◌}
use mathlib.Core.Bool.{Bool, ◌&&◌}
use Rattle.grammar.specs.Order.{allows}
use Rattle.explain.specs.Codes.{can_begin, those, gathered}
use Rattle.explain.proofs.codes_of.Given as goal

abbrev pub invariant-loop-code : goal.invariant-loop-code
invariant-loop-code l = let p : ℕ → Bool = λ c. can_begin l.state.form c && allows l.next c in
    gathered l.initial.codes (those p 1 45) ≡ gathered l.codes (those p l.code (46 - l.code))
