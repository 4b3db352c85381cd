-- Laws of the definitions on a number said.
-- Assumes nothing.
use mathlib.Core.Path.{◌≡◌, ap, ◌∙◌}
use mathlib.Core.Bool.{Bool, true, false}
use mathlib.Core.List.{List}
use Prim.Native.Nat.{ℕ, zero, suc, ◌^◌, ◌<◌, ◌≤◌}
use native.Mathlib.Omega.{arith}
use lib.IntN.{ℤ, pos, ◌-ℤ◌, +ℤ_idl, neg_ℤ}
use mir.Syntax.{w64}
use mir.Val.{SFits, to_z, of_z}
use mir.Facts.{to_z_pos, to_z-of_z}
use borrow.Author.Tests.{lt-ltb, le-ltb}
use Rattle.reasons.specs.declared.Reason.TheVariants as Reasons
use Rattle.values.specs.Number.{is_number}
use Rattle.rounding.specs.Exact.{is_minus, numerator, denominator}
use Rattle.rounding.specs.Say.{rounded, signed, size_limit, said_of, say_of}
use Rattle.std.specs.Prelude.{Ok, Err}

-- ---- the sign

signed-fits : (minus : Bool) (u : ℕ) → u < 2 ^ 63 → SFits w64 (signed minus u)
unfolding signed
signed-fits false u h = record { sfits = h }
signed-fits true zero h = record { sfits = h }
signed-fits true (suc u) h = record { sfits = omega arith }

module _ (u : ℕ) (h : u < 2 ^ 63) where
  plus : to_z w64 u ≡ signed false u
  unfolding signed
  plus = to_z_pos w64 h

  -- what is left of 0 without the size
  from_zero : pos 0 -ℤ to_z w64 u ≡ signed true u
  unfolding signed
  from_zero = ap (λ (z : ℤ). pos 0 -ℤ z) (to_z_pos w64 h) ∙ +ℤ_idl (neg_ℤ (pos u))

  minus_fits : SFits w64 (pos 0 -ℤ to_z w64 u)
  minus_fits = rw from_zero (signed-fits true u h)

  pub plus_said : (minus : Bool) → minus ≡ false → to_z w64 u ≡ signed minus u
  plus_said minus e = rw e plus

  pub minus_said : (minus : Bool) → minus ≡ true → to_z w64 (of_z w64 (pos 0 -ℤ to_z w64 u)) ≡ signed minus u
  minus_said minus e = rw e (to_z-of_z minus_fits ∙ from_zero)

-- ---- the limit

module _ (minus : Bool) (u : ℕ) where
  pub said_big : size_limit < u → said_of minus u ≡ Err Reasons.TooBig
  unfolding said_of
  said_big h = rw (lt-ltb size_limit u h, said_of)

  pub said_small : u ≤ size_limit → said_of minus u ≡ Ok (signed minus u)
  unfolding said_of
  said_small h = rw (le-ltb size_limit u h, said_of)

-- ---- the checks, in their order

module _ (s : List ℕ) (decimals : ℕ) where
  pub say_places : 6 < decimals → say_of s decimals ≡ Err Reasons.Places
  unfolding say_of
  say_places h = rw (lt-ltb 6 decimals h, say_of)

  module _ (h : decimals ≤ 6) where
    pub say_value : is_number s ≡ false → say_of s decimals ≡ Err Reasons.Value
    unfolding say_of
    say_value k = rw (le-ltb 6 decimals h, k, say_of)

    pub say_units : is_number s ≡ true → say_of s decimals ≡ said_of (is_minus s) (rounded (numerator s decimals) (denominator s))
    unfolding say_of
    say_units k = rw (le-ltb 6 decimals h, k, say_of)
