-- Laws of the codes that could stand in a place.
-- Assumes nothing.
use Prim.Native.Nat.{ℕ, suc, ◌+◌}
use mathlib.Core.Path.{◌≡◌, refl}
use mathlib.Core.List.{◌∷◌}
use mathlib.Core.Bool.{Bool, true, false, ◌&&◌}
use Rattle.grammar.specs.Order.{next_of, allows}
use Rattle.grammar.specs.declared.Next.{Next}
use Rattle.step.specs.declared.State.{State}
use Rattle.explain.specs.Codes.{can_begin, those, code_more, gathered, no_codes, codes_of}
use Rattle.explain.specs.declared.Codes.{Codes}

-- ---- the codes from one on, gathered

pub those_on : (p : ℕ → Bool) (x : Codes) (c n : ℕ)
    → gathered x (those p c (suc n)) ≡ gathered (elim (p c) [ true ↦ code_more x c | false ↦ x ]) (those p (c + 1) n)
unfolding those gathered
those_on p x c n = go (p c)
  where
    go : (t : Bool)
        → gathered x (elim t [ true ↦ c ∷ those p (c + 1) n | false ↦ those p (c + 1) n ])
        ≡ gathered (elim t [ true ↦ code_more x c | false ↦ x ]) (those p (c + 1) n)
    go true = refl
    go false = refl

pub those_done : (p : ℕ → Bool) (x : Codes) (c : ℕ) → gathered x (those p c 0) ≡ x
unfolding those gathered
those_done p x c = refl

-- from the first code on, they are those that could stand here
pub those-all : (st : State) (x : Codes) (next : Next) → x ≡ no_codes → next ≡ next_of st.form st.last
    → gathered x (those (λ c. can_begin st.form c && allows next c) 1 45) ≡ codes_of st
unfolding codes_of
those-all st x next hx hn = rw (hx, hn)
