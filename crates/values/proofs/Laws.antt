-- Laws of the definitions on values, one a case.
-- Assumes nothing.
use mathlib.Core.Path.{◌≡◌, refl, sym, ◌∙◌}
use mathlib.Core.List.{List, [], ◌∷◌}
use mathlib.Core.Bool.{Bool, true, false, ◌||◌}
use Prim.Native.Nat.{ℕ, suc, ◌+◌, ◌-◌, ◌*◌, ◌≤◌, ◌<◌}
use native.Mathlib.Numerals.{add-one}
use native.Mathlib.Omega.{arith}
use lib.Dec.{eqb, leb}
use borrow.Author.Tests.{le-leb, lt-leb}
use lib.ListN.{length, get_or, take, drop, drop_of_length-le}
use lib.Seq.{drop-cons, length-take-le}
use Rattle.words.specs.Words.{is_digit}
use Rattle.words.proofs.Laws.{run-le}
use Rattle.values.specs.Number.{sign_len, digits, digits_from}

-- ---- the sign and the digits that stand first are in the list

either_le : (t : Bool) (a b n : ℕ) → a ≤ n → b ≤ n → elim t [ true ↦ a | false ↦ b ] ≤ n
either_le true a b n h k = h
either_le false a b n h k = k

pub sign_le : (s : List ℕ) → sign_len s ≤ length s
unfolding sign_len
sign_le [] = omega arith
sign_le (b ∷ s) = either_le (eqb b 43 || eqb b 45) 1 0 (suc (length s)) (omega arith) (omega arith)

pub digits_le : (s : List ℕ) → digits s ≤ length s
digits_le s = run-le (λ b. is_digit b) s

pub digits_taken : (s : List ℕ) (n : ℕ) → n ≡ digits s → n ≡ length (take n s)
digits_taken s n e = sym (length-take-le n s (rw e (digits_le s)))

-- ---- what digits say, seen from a place in a list

pub digits-end : (v : ℕ) (s : List ℕ) (i : ℕ) → length s ≤ i → digits_from v (drop i s) ≡ v
unfolding digits_from
digits-end v s i h = rw (drop_of_length-le s h)

pub digits_more : (v : ℕ) (s : List ℕ) (i : ℕ) → i < length s
    → digits_from v (drop i s) ≡ digits_from (v * 10 + (get_or s i 0 - 48)) (drop (i + 1) s)
unfolding digits_from
digits_more v s i h = rw (add-one (i), drop-cons s i 0 h)

-- more digits never say less
pub digits_least : (v : ℕ) (s : List ℕ) → v ≤ digits_from v s
unfolding digits_from
digits_least v [] = omega arith
digits_least v (b ∷ s) = omega (arith, digits_least (v * 10 + (b - 48)) s)

-- ---- a walk that sums digit by digit: what the sum so far goes on to is w, what the whole says

module _ (s : List ℕ) (i v w : ℕ) where
  pub sum_more : (d : ℕ) → w ≡ digits_from v (drop i s) → i < length s → d ≡ get_or s i 0 - 48 → w ≡ digits_from (v * 10 + d) (drop (i + 1) s)
  sum_more d q h e = rw e (q ∙ digits_more v s i h)

  pub sum_ten : w ≡ digits_from v (drop i s) → i < length s → v * 10 ≤ w
  sum_ten q h = omega (arith, sum_more (get_or s i 0 - 48) q h refl, digits_least (v * 10 + (get_or s i 0 - 48)) (drop (i + 1) s))

  pub sum_least : (d : ℕ) → w ≡ digits_from v (drop i s) → i < length s → d ≡ get_or s i 0 - 48 → v * 10 + d ≤ w
  sum_least d q h e = omega (arith, sum_more d q h e, digits_least (v * 10 + d) (drop (i + 1) s))

  pub sum_all : w ≡ digits_from v (drop i s) → length s ≤ i → v ≡ w
  sum_all q h = omega (arith, digits-end v s i h)

  pub sum_over : (d top : ℕ) → w ≡ digits_from v (drop i s) → i < length s → d ≡ get_or s i 0 - 48 → top < v * 10 + d → false ≡ leb w top
  sum_over d top q h e k = sym (lt-leb w top (omega (arith, sum_least d q h e)))

  pub sum_end : (top : ℕ) → w ≡ digits_from v (drop i s) → length s ≤ i → v ≤ top → true ≡ leb w top
  sum_end top q h k = sym (le-leb w top (omega (arith, sum_all q h)))
