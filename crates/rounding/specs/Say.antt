-- The number said, by document 02, (v): "the signed whole number of units of that decimal place, rounded to nearest, halves away from zero."
-- Assumes nothing.
use Rattle.std.specs.Prelude.{ℕ, ◌+◌, ◌*◌, ◌/◌, List, Bool, true, false, ltb, ℤ, pos, neg_ℤ, Result, Ok, Err}
use Rattle.values.specs.Number.{is_number}
use Rattle.reasons.specs.declared.Reason.TheVariants as Reasons
use Rattle.rounding.specs.Exact.{is_minus, numerator, denominator}
use Rattle.reasons.specs.declared.Reason.{Reason}

-- the largest u with 2·d·u ≤ 2·n + d: n/d to the nearest whole number, a half up
abbrev pub rounded : ℕ → ℕ → ℕ
rounded n d = (2 * n + d) / (2 * d)

-- the sign stands before the size, and a zero has none: "`-0.4` at 0 decimals is 0"
unfoldable pub signed : Bool → ℕ → ℤ
signed minus u = elim minus [ true ↦ neg_ℤ (pos u) | false ↦ pos u ]

-- "over 1,000,000,000,000,000"
abbrev pub size_limit : ℕ
size_limit = 1000000000000000

-- "Refuse with 17 TOO_BIG exactly if the rounded result's size is over" the limit
unfoldable pub said_of : Bool → ℕ → Result ℤ Reason
said_of minus u = elim (ltb size_limit u) [ true ↦ Err Reasons.TooBig | false ↦ Ok (signed minus u) ]

-- "with VALUE if the text is no number, and with 18 PLACES, checked first, if the count of decimals is over 6"
unfoldable pub say_of : List ℕ → ℕ → Result ℤ Reason
say_of s decimals =
    elim (ltb 6 decimals) [
      | true ↦ Err Reasons.Places
      | false ↦ elim (is_number s) [ false ↦ Err Reasons.Value | true ↦ said_of (is_minus s) (rounded (numerator s decimals) (denominator s)) ]
    ]
