-- The codes that are listed are exactly those that could stand there: at most four, in rising order.
-- Assumes nothing.
use Prim.Native.Nat.{ℕ, zero, suc, ◌+◌, ◌-◌, ◌≤◌, ◌<◌}
use mathlib.Core.Path.{◌≡◌, refl, sym, ap, ◌∙◌}
use mathlib.Core.Logic.{⊎_elim, ◌↔◌}
use mathlib.Core.Bool.{Bool, true, false, ◌&&◌, and-eq-true_iff, false≢true}
use mathlib.Core.List.Memᴰ
use mathlib.Core.List.{List, [], ◌∷◌, ◌++◌, Memᴰ}
use native.Mathlib.Omega.{arith}
use lib.Dec.{eqb, leb, ltb}
use lib.ListN.{length, replicate}
use borrow.Author.Tests.{eqb-true, eqb-false, leb-true, ltb-true, ltb-false}
use Rattle.grammar.specs.Rows.{pick}
use Rattle.grammar.specs.Order.{next_of, allows}
use Rattle.grammar.specs.declared.Next.{Next}
use Rattle.lines.specs.declared.Form.{Form}
use Rattle.lines.specs.declared.Form.TheVariants.{Opm, Oem}
use Rattle.grammar.proofs.Laws.{picks, below, next_all}
use Rattle.step.specs.Step.{fits_here}
use Rattle.step.specs.declared.State.{State}
use Rattle.explain.specs.Codes.{beginning, can_begin, those, codes_behind, code_more, gathered, no_codes, codes_of}
use Rattle.demands.specs.Why.{listed_in, Rising}

-- ---- the codes of which it is so, from one on

module _ (p : ℕ → Bool) where
  abbrev In : ℕ → ℕ → ℕ → Type 0
  In c n d = (c ≤ d) × (d < c + n) × (p d ≡ true)

  those_in : (n c d : ℕ) → Memᴰ d (those p c n) → In c n d
  unfolding those
  those_in zero c d m = absurd (Memᴰ.not-nil m)
  those_in (suc n) c d m = go (p c) refl (those_in n (c + 1) d) m
    where
      go : (t : Bool) → p c ≡ t → (Memᴰ d (those p (c + 1) n) → In (c + 1) n d)
          → Memᴰ d (elim t [ true ↦ c ∷ those p (c + 1) n | false ↦ those p (c + 1) n ]) → In c (suc n) d
      go true e ih q = ⊎_elim (λ z. (omega arith, omega arith, ap p z ∙ e)) (λ q'. let w = ih q' in (omega (arith, w.0), omega (arith, w.1), w.2)) (Memᴰ.cases_cons q)
      go false e ih q = let w = ih q in (omega (arith, w.0), omega (arith, w.1), w.2)

  in_those : (n c d : ℕ) → In c n d → Memᴰ d (those p c n)
  unfolding those
  in_those zero c d w = absurd (omega (arith, w.0, w.1))
  in_those (suc n) c d w = go (p c) refl (eqb d c) refl (λ h. in_those n (c + 1) d (h, omega (arith, w.1), w.2))
    where
      go : (t : Bool) → p c ≡ t → (u : Bool) → eqb d c ≡ u → (c + 1 ≤ d → Memᴰ d (those p (c + 1) n))
          → Memᴰ d (elim t [ true ↦ c ∷ those p (c + 1) n | false ↦ those p (c + 1) n ])
      go true e true z ih = Memᴰ.head (eqb-true d c z)
      go true e false z ih = Memᴰ.tail (ih (omega (arith, w.0, eqb-false d c z)))
      go false e true z ih = absurd (false≢true (sym e ∙ sym (ap p (eqb-true d c z)) ∙ w.2))
      go false e false z ih = ih (omega (arith, w.0, eqb-false d c z))

  those_rising : (n c : ℕ) → Rising (those p c n)
  unfolding those
  those_rising zero c = tt
  those_rising (suc n) c = go (p c) (those_rising n (c + 1))
    where
      go : (t : Bool) → Rising (those p (c + 1) n) → Rising (elim t [ true ↦ c ∷ those p (c + 1) n | false ↦ those p (c + 1) n ])
      go true r = (λ d m. omega (arith, (those_in n (c + 1) d m).0), r)
      go false r = r

-- ---- at most four of them, whatever the line before

few : (f : Form) → Next → Bool
few f x = leb (length (those (λ c. can_begin f c && allows x c) 1 45)) 4

all-few : (f : Form) (last : ℕ) → length (codes_behind f last) ≤ 4
unfolding few those allows next_of pick below
all-few Opm last = leb-true _ _ (next_all Opm (λ n. few Opm) refl (λ n. refl) last)
all-few Oem last = leb-true _ _ (next_all Oem (λ n. few Oem) refl (λ n. refl) last)

-- so they stand in the array, and behind them zeros
packed : (cs : List ℕ) → length cs ≤ 4
    → (listed_in (gathered no_codes cs) ≡ cs) × ((gathered no_codes cs).codes ≡ listed_in (gathered no_codes cs) ++ replicate (4 - (gathered no_codes cs).count) 0)
unfolding gathered code_more
packed [] h = (refl, refl)
packed (a ∷ []) h = (refl, refl)
packed (a ∷ b ∷ []) h = (refl, refl)
packed (a ∷ b ∷ c ∷ []) h = (refl, refl)
packed (a ∷ b ∷ c ∷ d ∷ []) h = (refl, refl)
packed (a ∷ b ∷ c ∷ d ∷ e ∷ cs) h = absurd (omega arith)

-- a code that can begin a line is one of 1 to 45
none_begin : (f : Form) (c : ℕ) → (1 ≤ c → c < 46 → ⊥) → false ≡ can_begin f c
none_begin Opm c h = picks (beginning Opm) false 1 c (λ a b. h (omega arith) (omega arith), tt)
none_begin Oem c h = picks (beginning Oem) false 2 c (λ a b. h (omega arith) (omega arith), (λ a b. h (omega arith) (omega arith), tt))

begins_small : (f : Form) (c : ℕ) → can_begin f c ≡ true → (1 ≤ c) × (c < 46)
begins_small f c e = go (ltb 0 c) refl (ltb c 46) refl
  where
    barred : (1 ≤ c → c < 46 → ⊥) → ⊥
    barred h = false≢true (none_begin f c h ∙ e)

    go : (t : Bool) → ltb 0 c ≡ t → (u : Bool) → ltb c 46 ≡ u → (1 ≤ c) × (c < 46)
    go true p true q = (ltb-true 0 c p, ltb-true c 46 q)
    go true p false q = absurd (barred (λ a b. omega (arith, ltb-false c 46 q, b)))
    go false p u q = absurd (barred (λ a b. omega (arith, ltb-false 0 c p, a)))

module _ (st : State) where
  abbrev codes : List ℕ
  codes = codes_behind st.form st.last

  pub codes_packed : (listed_in (codes_of st) ≡ codes) × ((codes_of st).codes ≡ listed_in (codes_of st) ++ replicate (4 - (codes_of st).count) 0)
  unfolding codes_of
  codes_packed = packed codes (all-few st.form st.last)

  pub codes_exactly : (c : ℕ) → Memᴰ c (listed_in (codes_of st)) ↔ ((can_begin st.form c ≡ true) × (fits_here st c ≡ true))
  codes_exactly c = rw codes_packed.0 (
    (λ m. let w = (those_in _ 45 1 c m).2 in let b = (and-eq-true_iff (can_begin st.form c) (fits_here st c)).0 w in (b.0, b.1)),
    (λ b. let s = begins_small st.form c b.0 in in_those _ 45 1 c (s.0, s.1, (and-eq-true_iff (can_begin st.form c) (fits_here st c)).1 (b.0, b.1))),
  )

  pub codes_rising : Rising (listed_in (codes_of st))
  codes_rising = rw codes_packed.0 (those_rising _ 45 1)
