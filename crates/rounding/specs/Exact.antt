-- A number's text as an exact decimal, by document 02, (v): "the exact decimal, taken as a fraction of two whole numbers". The sign stands apart. The size
-- is the digits without the period, a power of ten that multiplies them, and one that divides them.
-- Assumes nothing.
use Rattle.std.specs.Prelude.{ℕ, ◌+◌, ◌*◌, ◌^◌, List, Bool, true, false, eqb, get_or, take, drop}
use Rattle.values.specs.Number.{digits, unsigned, digits_from}
use Rattle.rounding.specs.declared.Size.{Size}

-- whether `-` stands first
abbrev pub is_minus : List ℕ → Bool
is_minus s = eqb (get_or s 0 0) 45

-- the digits that stand first, read on after v
abbrev pub read_on : ℕ → List ℕ → ℕ
read_on v s = digits_from v (take (digits s) s)

-- what stands behind them and one byte more, the period or the `E`: nothing where there is none
abbrev pub behind : List ℕ → List ℕ
behind s = drop 1 (drop (digits s) s)

-- an exponent's power of ten, on the side that its sign says: the one multiplies, the other divides
abbrev pub up_by : List ℕ → ℕ
up_by e = elim (is_minus e) [ true ↦ 0 | false ↦ digits_from 0 (unsigned e) ]

abbrev pub down_by : List ℕ → ℕ
down_by e = elim (is_minus e) [ true ↦ digits_from 0 (unsigned e) | false ↦ 0 ]

-- a size by its digits, how many of them stand behind the period, and the exponent: each such place divides by ten, and the exponent does as its sign says
abbrev pub size_by : ℕ → ℕ → List ℕ → Size
size_by v places e = record { digits = v; up = up_by e; down = places + down_by e }

-- the same by what the digits before the period say, and what stands behind it
abbrev pub size_behind : ℕ → List ℕ → Size
size_behind v s = size_by (read_on v s) (digits s) (behind s)

-- a number's size: past the sign its digits up to the period are read, then what stands behind it
abbrev pub size_of : List ℕ → Size
size_of s = size_behind (read_on 0 (unsigned s)) (behind (unsigned s))

-- the size as a fraction in "units of that decimal place": with each decimal a unit is a tenth, and there are ten times as many
abbrev pub numerator : List ℕ → ℕ → ℕ
numerator s decimals = (size_of s).digits * 10 ^ ((size_of s).up + decimals)

abbrev pub denominator : List ℕ → ℕ
denominator s = 10 ^ (size_of s).down
