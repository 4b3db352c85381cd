-- What is true of a number said, by document 02, (v). The exact decimal and the answer are whole numbers over the denominator, each with its sign.
-- Assumes nothing.
use Rattle.std.specs.Prelude.{ℕ, ◌+◌, ◌*◌, ◌≤◌, ◌<◌, ◌≡◌, ◌↔◌, List, true, not, ◌&&◌, eqb, ℤ, pos, nat_abs, ◌-ℤ◌, ◌*ℤ◌, Ok, Err}
use Rattle.std.specs.Int.Signed.{non_neg}
use Rattle.reasons.specs.declared.Reason.TheVariants as Reasons
use Rattle.values.specs.Number.{is_number}
use Rattle.rounding.specs.Exact.{is_minus, numerator, denominator}
use Rattle.rounding.specs.Say.{rounded, signed, size_limit, say_of}

-- "The distance from the exact decimal, taken as a fraction of two whole numbers, is at most half a unit": twice the distance is at most one
abbrev pub NearTo : List ℕ → ℕ → ℤ → Type 0
NearTo s decimals z = 2 * nat_abs (z *ℤ pos (denominator s) -ℤ signed (is_minus s) (numerator s decimals)) ≤ denominator s

-- "halves away from zero": where the exact decimal is k and a half, either way from zero, the size is k + 1
abbrev pub AwayFromZero : List ℕ → ℕ → ℤ → Type 0
AwayFromZero s decimals z = (k : ℕ) → 2 * numerator s decimals ≡ (2 * k + 1) * denominator s → nat_abs z ≡ k + 1

-- "the sign and behaviour at zero are fixed": what is said is below zero exactly if the text has a `-` and the size is not 0
abbrev pub SignOf : List ℕ → ℤ → Type 0
SignOf s z = not (non_neg z) ≡ is_minus s && not (eqb (nat_abs z) 0)

abbrev pub Near : Type 0
Near = (s : List ℕ) (decimals : ℕ) (z : ℤ) → say_of s decimals ≡ Ok z → NearTo s decimals z

abbrev pub Away : Type 0
Away = (s : List ℕ) (decimals : ℕ) (z : ℤ) → say_of s decimals ≡ Ok z → AwayFromZero s decimals z

abbrev pub Sign : Type 0
Sign = (s : List ℕ) (decimals : ℕ) (z : ℤ) → say_of s decimals ≡ Ok z → SignOf s z

-- the size is the largest u with 2·d·u ≤ 2·n + d
abbrev pub Largest : Type 0
Largest = (n d : ℕ) → 0 < d → (2 * d * rounded n d ≤ 2 * n + d) × ((u : ℕ) → 2 * d * u ≤ 2 * n + d → u ≤ rounded n d)

-- "Refuse with 17 TOO_BIG exactly if the rounded result's size is over 1,000,000,000,000,000"
abbrev pub TooBig : Type 0
TooBig = (s : List ℕ) (decimals : ℕ) → (say_of s decimals ≡ Err Reasons.TooBig)
    ↔ ((decimals ≤ 6) × (is_number s ≡ true) × (size_limit < rounded (numerator s decimals) (denominator s)))

-- one whole number is that near, away from zero at a half, with that sign; so it is what is said, or too big
abbrev pub OneAnswer : Type 0
OneAnswer = (s : List ℕ) (decimals : ℕ) (z : ℤ) → decimals ≤ 6 → is_number s ≡ true → NearTo s decimals z → AwayFromZero s decimals z → SignOf s z
    → (nat_abs z ≤ size_limit → say_of s decimals ≡ Ok z) × (size_limit < nat_abs z → say_of s decimals ≡ Err Reasons.TooBig)
