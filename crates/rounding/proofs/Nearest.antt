-- A number said is near, away from zero at a half, and has the text's sign; and only one number is.
-- Assumes nothing.
use Prim.Native.Nat.{ℕ, zero, suc, ◌+◌, ◌*◌, ◌-◌, ◌≤◌, ◌<◌}
use mathlib.Core.Path.{◌≡◌, refl, sym, ap, ◌∙◌}
use mathlib.Core.List.{List}
use mathlib.Core.Bool.{Bool, true, false, not, cond, ◌&&◌, false≢true}
use native.Mathlib.Nat.{suc-ne-zero, not-suc-le_self, zero-mul, mul-div-le, lt-mul-div-succ, le-div_iff_mul-le}
use native.Mathlib.Omega.{arith}
use lib.Dec.{eqb, ltb}
use lib.IntN.{ℤ, pos, negsuc, neg_ℤ, nat_abs, ◌-ℤ◌, ◌*ℤ◌, neg_ℤ-+ℤ, zero-*ℤ, pos-*ℤ-pos, negsuc-*ℤ-pos}
use lib.Signed.{non_neg}
use borrow.Author.Tests.{ne_eqb, ltb-true, ltb-false}
use Rattle.reasons.specs.declared.Reason.TheVariants as Reasons
use Rattle.reasons.specs.declared.Reason.{Reason}
use Rattle.reasons.specs.Reasons.{reason_no}
use Rattle.values.specs.Number.{is_number}
use Rattle.rounding.specs.Exact.{is_minus, numerator, denominator}
use Rattle.rounding.specs.Say.{rounded, signed, size_limit, said_of, say_of}
use Rattle.rounding.specs.Nearest.{NearTo, AwayFromZero, SignOf, Near, Away, Sign, Largest, TooBig, OneAnswer}
use Rattle.rounding.proofs.Laws.{said_big, said_small, say_units}
use Rattle.rounding.proofs.Rounds.{rounds_to, pos_ten}
use Rattle.std.specs.Prelude.{Result, Ok, Err}

-- ---- how far two sizes with the same sign lie apart

apart : (a b : ℕ) → nat_abs (pos a -ℤ pos b) ≡ a - b + (b - a)
apart a zero = omega arith
apart a (suc b) = go (ltb a (suc b)) refl
  where
    go : (t : Bool) → ltb a (suc b) ≡ t → nat_abs (cond t (negsuc (suc b - suc a)) (pos (a - suc b))) ≡ a - suc b + (suc b - a)
    go true e = omega (arith, ltb-true a (suc b) e)
    go false e = omega (arith, ltb-false a (suc b) e)

abs_neg : (z : ℤ) → nat_abs (neg_ℤ z) ≡ nat_abs z
abs_neg (pos zero) = refl
abs_neg (pos (suc n)) = refl
abs_neg (negsuc n) = refl

abs_signed : (minus : Bool) (u : ℕ) → nat_abs (signed minus u) ≡ u
unfolding signed
abs_signed true u = abs_neg (pos u)
abs_signed false u = refl

times : (minus : Bool) (u q : ℕ) → signed minus u *ℤ pos q ≡ signed minus (u * q)
unfolding signed
times false u q = pos-*ℤ-pos u q
times true zero q = zero-*ℤ (pos q) ∙ ap (λ (k : ℕ). neg_ℤ (pos k)) (sym (zero-mul q))
times true (suc u) q = negsuc-*ℤ-pos u q

between : (minus : Bool) (a b : ℕ) → nat_abs (signed minus a -ℤ signed minus b) ≡ a - b + (b - a)
unfolding signed
between false a b = apart a b
between true a b = ap nat_abs (sym (neg_ℤ-+ℤ (pos a) (neg_ℤ (pos b)))) ∙ abs_neg (pos a -ℤ pos b) ∙ apart a b

distance : (minus : Bool) (u q n : ℕ) → nat_abs (signed minus u *ℤ pos q -ℤ signed minus n) ≡ u * q - n + (n - u * q)
distance minus u q n = ap (λ (z : ℤ). nat_abs (z -ℤ signed minus n)) (times minus u q) ∙ between minus (u * q) n

-- ---- the quotient's bounds

rounds_low : (n d : ℕ) → 2 * d * rounded n d ≤ 2 * n + d
rounds_low n d = mul-div-le (2 * n + d) (2 * d)

rounds_high : (n d : ℕ) → 0 < d → 2 * n + d < 2 * d * (rounded n d + 1)
rounds_high n d h = lt-mul-div-succ (2 * n + d) {b = 2 * d} (omega arith)

pub largest : Largest
largest n d h = (rounds_low n d, λ u k. (le-div_iff_mul-le {k = 2 * d} {x = u} {y = 2 * n + d} (omega arith)).1 (omega arith))

-- ---- the sign

sign_signed : (minus : Bool) (u : ℕ) → not (non_neg (signed minus u)) ≡ minus && not (eqb (nat_abs (signed minus u)) 0)
unfolding signed
sign_signed false u = refl
sign_signed true zero = refl
sign_signed true (suc u) = rw (ne_eqb (suc u) 0 (suc-ne-zero u))

unsigned-size : (minus : Bool) (z : ℤ) → not (non_neg z) ≡ minus && not (eqb (nat_abs z) 0) → z ≡ signed minus (nat_abs z)
unfolding signed
unsigned-size true (pos zero) e = refl
unsigned-size true (pos (suc n)) e = absurd (false≢true (e ∙ ap not (ne_eqb (suc n) 0 (suc-ne-zero n))))
unsigned-size true (negsuc n) e = refl
unsigned-size false (pos n) e = refl
unsigned-size false (negsuc n) e = absurd (false≢true (sym e))

-- ---- the theorems

clash : {r : Reason} {z : ℤ} → Err r ≡ Ok z → ⊥
clash e = let x : ◌≡◌ {A = ℕ} 0 1 = cc in omega arith

number_of : {r t : Reason} → ◌≡◌ {A = Result ℤ Reason} (Err r) (Err t) → reason_no r ≡ reason_no t
number_of {r} {t} e = let x : r ≡ t = cc in ap reason_no x

module _ (s : List ℕ) (decimals : ℕ) where
  abbrev minus : Bool
  minus = is_minus s

  abbrev n : ℕ
  n = numerator s decimals

  abbrev q : ℕ
  q = denominator s

  abbrev size : ℕ
  size = rounded n q

  some : 0 < q
  some = pos_ten _

  abbrev answer : Bool → Bool → Bool → Result ℤ Reason
  answer many number big =
      elim many [
        | true ↦ Err Reasons.Places
        | false ↦ elim number [ false ↦ Err Reasons.Value | true ↦ elim big [ true ↦ Err Reasons.TooBig | false ↦ Ok (signed minus size) ] ]
      ]

  is_answer : say_of s decimals ≡ answer (ltb 6 decimals) (is_number s) (ltb size_limit size)
  unfolding say_of said_of
  is_answer = refl

  module _ (z : ℤ) (e : say_of s decimals ≡ Ok z) where
    is_signed : z ≡ signed minus size
    is_signed = go (ltb 6 decimals) (is_number s) (ltb size_limit size) (sym is_answer ∙ e)
      where
        go : (a b c : Bool) → answer a b c ≡ Ok z → z ≡ signed minus size
        go true b c k = absurd (clash k)
        go false false c k = absurd (clash k)
        go false true true k = absurd (clash k)
        go false true false k = cc

    near_to : NearTo s decimals z
    near_to = rw is_signed (omega (arith, distance minus size q n, rounds_low n q, rounds_high n q some))

    away_from : AwayFromZero s decimals z
    away_from k h =
        let half = rounds_to n q (k + 1) (omega arith) (omega (arith, some)) in
        ap nat_abs is_signed ∙ abs_signed minus size ∙ half

    sign_of : SignOf s z
    sign_of = rw is_signed (sign_signed minus size)

  big_only : say_of s decimals ≡ Err Reasons.TooBig → (decimals ≤ 6) × (is_number s ≡ true) × (size_limit < size)
  big_only e = go (ltb 6 decimals) (is_number s) (ltb size_limit size) refl refl refl (sym is_answer ∙ e)
    where
      go : (a b c : Bool) → ltb 6 decimals ≡ a → is_number s ≡ b → ltb size_limit size ≡ c → answer a b c ≡ Err Reasons.TooBig
          → (decimals ≤ 6) × (is_number s ≡ true) × (size_limit < size)
      go true b c i j l k = absurd (let x = number_of k in omega arith)
      go false false c i j l k = absurd (let x = number_of k in omega arith)
      go false true true i j l k = (ltb-false 6 decimals i, j, ltb-true size_limit size l)
      go false true false i j l k = absurd (clash (sym k))

  module _ (few : decimals ≤ 6) (number : is_number s ≡ true) where
    big_if : size_limit < size → say_of s decimals ≡ Err Reasons.TooBig
    big_if h = say_units s decimals few number ∙ said_big minus size h

    module _ (z : ℤ) (near : NearTo s decimals z) (away : AwayFromZero s decimals z) (sign : SignOf s z) where
      as_signed : z ≡ signed minus (nat_abs z)
      as_signed = unsigned-size minus z sign

      apart_by : 2 * (nat_abs z * q - n + (n - nat_abs z * q)) ≤ q
      apart_by = rw (← distance minus (nat_abs z) q n, ← as_signed) near

      only : size ≡ nat_abs z
      only = go (ltb (2 * n + q) ((nat_abs z + 1) * (2 * q))) refl
        where
          go : (t : Bool) → ltb (2 * n + q) ((nat_abs z + 1) * (2 * q)) ≡ t → size ≡ nat_abs z
          go true e = rounds_to n q (nat_abs z) (omega (arith, apart_by)) (ltb-true _ _ e)
          go false e =
              let half : 2 * n ≡ (2 * nat_abs z + 1) * q = omega (arith, apart_by, ltb-false (2 * n + q) ((nat_abs z + 1) * (2 * q)) e) in
              absurd (not-suc-le_self (nat_abs z) (omega (arith, away (nat_abs z) half)))

      one : (nat_abs z ≤ size_limit → say_of s decimals ≡ Ok z) × (size_limit < nat_abs z → say_of s decimals ≡ Err Reasons.TooBig)
      one = (
        λ h. say_units s decimals few number ∙ said_small minus size (omega (arith, only)) ∙ ap Ok (ap (signed minus) only ∙ sym as_signed),
        λ h. big_if (omega (arith, only)),
      )

pub near : Near
near = near_to

pub away : Away
away = away_from

pub sign : Sign
sign = sign_of

pub too_big : TooBig
too_big s decimals = (big_only s decimals, λ h. big_if s decimals h.0 h.1 h.2)

pub one_answer : OneAnswer
one_answer s decimals z few number near away sign = one s decimals few number z near away sign
