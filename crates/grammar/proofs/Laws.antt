-- Laws of the tables on codes, and of what comes next.
-- Assumes nothing.
use mathlib.Core.Path.{◌≡◌, refl, sym, ◌∙◌}
use mathlib.Core.Bool.{Bool, true, false, not, ◌&&◌, ◌||◌, and-eq-true_iff, false≢true}
use mathlib.Core.List.{List, [], ◌∷◌}
use Prim.Native.Nat.{ℕ, zero, suc, zero-le, ◌≤◌, ◌<◌}
use native.Mathlib.Omega.{arith}
use lib.Dec.{eqb, leb}
use borrow.Author.Tests.{le-leb, lt-leb, leb-true, leb-false, ne_eqb}
use Rattle.grammar.specs.Rows.{between, Row, pick}
use Rattle.grammar.specs.Order.{only, opm_order, oem_order, next_of, allows}
use Rattle.grammar.specs.declared.Next.{Next}
use Rattle.lines.specs.declared.Form.{Form}
use Rattle.lines.specs.declared.Form.TheVariants.{Opm, Oem}

-- ---- a table's row by its number, from 0: past the last one, no row has the code

-- the first row with the code is the i-th; at a table and a number it computes to facts that `omega` proves in one call
abbrev pub First : {A : Type 0} → List (Row A) → ℕ → ℕ → Type 0
First [] i n = Unit
First (r ∷ rs) zero n = (r.low ≤ n) × (n ≤ r.high)
First (r ∷ rs) (suc i) n = (r.low ≤ n → n ≤ r.high → ⊥) × First rs i n

-- what the i-th row has
abbrev pub row : {A : Type 0} → List (Row A) → A → ℕ → ℕ → A
row [] d i n = d
row (r ∷ rs) d zero n = r.has n
row (r ∷ rs) d (suc i) n = row rs d i n

not_in : (l h n : ℕ) (a b : Bool) → leb l n ≡ a → leb n h ≡ b → (l ≤ n → n ≤ h → ⊥) → (a && b) ≡ false
not_in l h n true true p q e = absurd (e (leb-true l n p) (leb-true n h q))
not_in l h n true false p q e = refl
not_in l h n false b p q e = refl

pub picks : {A : Type 0} (rs : List (Row A)) (d : A) (i n : ℕ) → First rs i n → row rs d i n ≡ pick rs d n
unfolding pick
picks [] d i n s = refl
picks (r ∷ rs) d zero n s = rw (le-leb _ _ s.0, le-leb _ _ s.1, pick)
picks (r ∷ rs) d (suc i) n s = rw (not_in r.low r.high n _ _ refl refl s.0, pick) (picks rs d i n s.1)

-- ---- what comes next, at every code

-- whether it is so at each number below k
unfoldable pub below : (ℕ → Bool) → ℕ → Bool
below p zero = true
below p (suc k) = p 0 && below (λ n. p (suc n)) k

below_all : (p : ℕ → Bool) (k n : ℕ) → below p k ≡ true → n < k → p n ≡ true
unfolding below
below_all p zero n e h = absurd (omega arith)
below_all p (suc k) zero e h = ((and-eq-true_iff (p 0) _).0 e).0
below_all p (suc k) (suc n) e h = below_all (λ m. p (suc m)) k n ((and-eq-true_iff (p 0) _).0 e).1 (omega arith)

-- no row has this code or a later one
abbrev beyond : ℕ
beyond = 46

next_beyond : (f : Form) (n : ℕ) → beyond ≤ n → next_of f n ≡ only 0
unfolding next_of
next_beyond Opm n h = sym (picks opm_order (only 0) beyond n (omega arith))
next_beyond Oem n h = sym (picks oem_order (only 0) beyond n (omega arith))

-- what is so at each code that a row has, and where no row has the code, is so at every code
pub next_all : (f : Form) (p : ℕ → Next → Bool) → below (λ n. p n (next_of f n)) beyond ≡ true → ((n : ℕ) → p n (only 0) ≡ true)
    → (n : ℕ) → p n (next_of f n) ≡ true
next_all f p e h n = go (leb beyond n) refl
  where
    go : (t : Bool) → leb beyond n ≡ t → p n (next_of f n) ≡ true
    go true z = rw (next_beyond f n (leb-true beyond n z)) (h n)
    go false z = below_all (λ k. p k (next_of f k)) beyond n e (leb-false beyond n z)

none_allowed : (c : ℕ) (t : Bool) → leb 1 c ≡ t → t && between 0 0 c ≡ false
none_allowed c true e = let h = leb-true 1 c e in rw (lt-leb c 0 h, le-leb 0 c zero-le)
none_allowed c false e = refl

-- whether a code comes next behind one code alone: computed at every code that a row has
unfoldable pub comes_only : Form → ℕ → ℕ → Bool
comes_only f c m = below (λ n. not (allows (next_of f n) c) || eqb n m) beyond

pub next_only : (f : Form) (c m : ℕ) → comes_only f c m ≡ true → (n : ℕ) → (n ≡ m → ⊥) → allows (next_of f n) c ≡ false
unfolding comes_only allows
next_only f c m e n h = barred _ (next_all f (λ k x. not (allows x c) || eqb k m) e (λ k. rw (none_allowed c _ refl, allows)) n)
  where
    barred : (t : Bool) → not t || eqb n m ≡ true → t ≡ false
    barred true z = absurd (false≢true (sym (ne_eqb n m h) ∙ z))
    barred false z = refl
