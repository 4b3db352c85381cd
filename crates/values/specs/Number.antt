-- Numbers, integers, texts and the heading value, by document 01, "Values". A value is the list of its bytes.
-- Assumes nothing.
use Rattle.std.specs.Prelude.{ℕ, ◌+◌, ◌-◌, ◌*◌, List, [], ◌∷◌, Bool, true, false, ◌&&◌, ◌||◌, eqb, leb, length, drop}
use Rattle.words.specs.Words.{bytes, run, is_word, is_digit}

-- how many digits stand first
abbrev pub digits : List ℕ → ℕ
digits s = run (λ b. is_digit b) s

-- "optional sign": how many bytes it takes, `+` or `-`
unfoldable pub sign_len : List ℕ → ℕ
sign_len [] = 0
sign_len (b ∷ s) = elim (eqb b 43 || eqb b 45) [ true ↦ 1 | false ↦ 0 ]

abbrev pub unsigned : List ℕ → List ℕ
unsigned s = drop (sign_len s) s

-- nothing but digits, from the first count to the second
abbrev pub is_digits : ℕ → ℕ → List ℕ → Bool
is_digits least most s = eqb (digits s) (length s) && (leb least (length s) && leb (length s) most)

-- "`E` or `e`, optional sign, 1 to 3 digits"
unfoldable pub is_exponent : List ℕ → Bool
is_exponent [] = false
is_exponent (b ∷ s) = (eqb b 69 || eqb b 101) && is_digits 1 3 (unsigned s)

-- what stands after n digits and m digits behind a period: nothing, and there are "16 digits at most in all", or an exponent, and there are
-- "one digit, a period, 1 to 15 digits"
unfoldable pub ends_number : ℕ → ℕ → List ℕ → Bool
ends_number n m [] = leb (n + m) 16
ends_number n m (b ∷ s) = eqb n 1 && (leb m 15 && is_exponent (b ∷ s))

-- what stands after n digits: nothing, or a period and "one digit at least on each side of the period"
unfoldable pub after_whole : ℕ → List ℕ → Bool
after_whole n [] = leb n 16
after_whole n (b ∷ s) = eqb b 46 && (leb 1 (digits s) && ends_number n (digits s) (drop (digits s) s))

-- "Number (the rest, save epochs): optional sign, then either digits with an optional period and more digits, [..]; or one digit, a period, 1 to 15
-- digits, `E` or `e`, optional sign, 1 to 3 digits"
unfoldable pub is_number : List ℕ → Bool
is_number s =
    let u = unsigned s in
    leb 1 (digits u) && after_whole (digits u) (drop (digits u) u)

-- what the digits of a list say, after v
unfoldable pub digits_from : ℕ → List ℕ → ℕ
digits_from v [] = v
digits_from v (b ∷ s) = digits_from (v * 10 + (b - 48)) s

-- the largest size that the sign allows: "from -2,147,483,648 to 2,147,483,647"
unfoldable pub integer_top : List ℕ → ℕ
integer_top [] = 2147483647
integer_top (b ∷ s) = elim (eqb b 45) [ true ↦ 2147483648 | false ↦ 2147483647 ]

-- "Integer (43): optional sign, one or more digits, [in range]; leading zeros allowed."
unfoldable pub is_integer : List ℕ → Bool
is_integer s =
    let u = unsigned s in
    leb 1 (length u) && (eqb (digits u) (length u) && leb (digits_from 0 u) (integer_top s))

-- "Text (3 to 8, 32, 42): one byte or more."
abbrev pub is_text : List ℕ → Bool
is_text s = leb 1 (length s)

-- "Heading value: exactly `1.0`."
abbrev pub is_version : List ℕ → Bool
is_version s = is_word (bytes "1.0") s
