-- Laws of the definitions on epochs, one a case.
-- Assumes nothing.
use mathlib.Core.Path.{◌≡◌, refl, sym, ◌∙◌}
use mathlib.Core.List.{List, [], ◌∷◌}
use native.Mathlib.Omega.{arith}
use mathlib.Core.Bool.{Bool, true, false, ◌&&◌, not-eq-not, and-true, and-false}
use Prim.Native.Nat.{ℕ, zero, suc, ◌+◌, ◌≤◌, ◌<◌}
use native.Mathlib.Nat.{le_of_suc-le-suc, not-suc-le-zero}
use lib.Dec.{eqb, leb, ltb}
use Rattle.std.specs.Int.{from_bool}
use Rattle.epochs.specs.declared.TheConstants.{MONTH_DAYS, DAYS_BEFORE}
use lib.ListN.{drop, length, get_or, get_or-eq_default}
use borrow.Author.Tests.{leb-true, eqb-true}
use Rattle.words.proofs.Laws.{agrees-le, agrees-end, agrees_more, agrees_stop}
use Rattle.epochs.specs.Epoch.{fits, shaped, month_days, days_before}

-- no shorter text has the shape
pub shorter : (w s : List ℕ) → length s < length w → false ≡ shaped w s
shorter w s h = sym (not-eq-not.0 (λ e. omega (arith, agrees-le _ _ _ e)))

-- a walk along both that keeps whether every byte so far fitted: that and what is left of both are what the whole was
module _ (w s : List ℕ) (i : ℕ) (kept : Bool) (q : shaped w s ≡ kept && shaped (drop i w) (drop i s)) where
  pub shape_more : i < length w → i < length s → fits (get_or w i 0) (get_or s i 0) ≡ true
      → shaped w s ≡ kept && shaped (drop (i + 1) w) (drop (i + 1) s)
  shape_more h k e = q ∙ rw (agrees_more (λ p b. fits p b) w s i h k e)

  pub shape_stop : i < length w → i < length s → fits (get_or w i 0) (get_or s i 0) ≡ false → shaped w s ≡ false
  shape_stop h k e = q ∙ rw (agrees_stop (λ p b. fits p b) w s i h k e, and-false)

  pub shape_end : length w ≤ i → kept ≡ shaped w s
  shape_end h = sym (q ∙ rw (agrees-end (λ p b. fits p b) w s i h, and-true))

-- ---- a test of every number below a bound, which antt computes

abbrev all : (ℕ → Bool) → ℕ → Bool
all f zero = true
all f (suc n) = f zero && all (λ k. f (suc k)) n

both : (a b : Bool) → a && b ≡ true → (a ≡ true) × (b ≡ true)
both true b e = (refl, e)
both false b e = (e, cc)

below : (f : ℕ → Bool) (n : ℕ) → all f n ≡ true → (k : ℕ) → k < n → f k ≡ true
below f zero e k h = absurd (not-suc-le-zero h)
below f (suc n) e zero h = (both (f 0) _ e).0
below f (suc n) e (suc k) h = below (λ j. f (suc j)) n (both (f 0) _ e).1 k (le_of_suc-le-suc h)

-- ---- months

-- the code's tables, with the leap day added, are right at every month, for either kind of year
abbrev days : Bool → ℕ → ℕ
days leap m = get_or MONTH_DAYS m 0 + from_bool (leap && eqb m 2)

abbrev before : Bool → ℕ → ℕ
before leap m = get_or DAYS_BEFORE m 0 + from_bool (leap && ltb 2 m)

right : Bool → ℕ → Bool
right leap m = eqb (days leap m) (month_days leap m) && (eqb (before leap m) (days_before leap m) && leb (before leap m + month_days leap m) 366)

all_right : (leap : Bool) → all (right leap) 13 ≡ true
unfolding right days_before month_days
all_right true = refl
all_right false = refl

module _ (leap : Bool) (m : ℕ) (h : m < 13) where
  halves : (eqb (days leap m) (month_days leap m) ≡ true)
      × (eqb (before leap m) (days_before leap m) && leb (before leap m + month_days leap m) 366 ≡ true)
  unfolding right
  halves = both _ _ (below (right leap) 13 (all_right leap) m h)

  pub days_right : (r : ℕ) → r ≡ from_bool (leap && eqb m 2) → get_or MONTH_DAYS m 0 + r ≡ month_days leap m
  days_right r e = rw e (eqb-true _ _ halves.0)

  pub before_right : (r : ℕ) → r ≡ from_bool (leap && ltb 2 m) → get_or DAYS_BEFORE m 0 + r ≡ days_before leap m
  before_right r e = rw e (eqb-true _ _ (both _ _ halves.1).0)

  pub before_small : (r : ℕ) → r ≡ from_bool (leap && ltb 2 m) → get_or DAYS_BEFORE m 0 + r + month_days leap m ≤ 366
  before_small r e = rw e (leb-true _ _ (both _ _ halves.1).1)

-- past December there is no day
pub no_days : (leap : Bool) (m : ℕ) → 12 < m → month_days leap m ≡ 0
unfolding month_days
no_days leap m h =
    get_or-eq_default
    (0 ∷ 31 ∷ elim leap [ true ↦ 29 | false ↦ 28 ] ∷ 31 ∷ 30 ∷ 31 ∷ 30 ∷ 31 ∷ 31 ∷ 30 ∷ 31 ∷ 30 ∷ 31 ∷ [])
    0
    h
