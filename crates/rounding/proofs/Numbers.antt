-- How large a number's parts can be.
-- Assumes nothing.
use mathlib.Core.Path.{◌≡◌, refl, ap}
use mathlib.Core.List.{List, [], ◌∷◌}
use mathlib.Core.Bool.{Bool, true, false, ◌||◌, and-eq-true_iff}
use Prim.Native.Nat.{ℕ, ◌+◌, ◌*◌, ◌-◌, ◌^◌, ◌<◌, ◌≤◌}
use native.Mathlib.Nat.{pow-suc, mul-le-mul_right}
use native.Mathlib.Numerals.{add-one}
use native.Mathlib.Omega.{arith}
use lib.Dec.{leb, eqb}
use lib.ListN.{length, take, drop}
use borrow.Author.Tests.{leb-true, eqb-true}
use lib.Pow.{pow-add}
use lib.Seq.{take_all}
use Rattle.words.specs.Words.{run, is_digit}
use Rattle.values.specs.Number.{digits, sign_len, unsigned, is_digits, is_exponent, ends_number, after_whole, is_number, digits_from}
use Rattle.rounding.specs.Exact.{is_minus, read_on, behind, size_of}
use Rattle.rounding.proofs.Rounds.{ten_least}

-- k digits more say less than ten to the k times what comes next
read_below : (v : ℕ) (s : List ℕ) → read_on v s + 1 ≤ (v + 1) * 10 ^ digits s
unfolding run digits_from
read_below v [] = omega arith
read_below v (b ∷ s) = go (is_digit b) refl (read_below (v * 10 + (b - 48)) s)
  where
    go : (t : Bool) → is_digit b ≡ t → read_on (v * 10 + (b - 48)) s + 1 ≤ (v * 10 + (b - 48) + 1) * 10 ^ digits s
        → digits_from v (take (elim t [ true ↦ digits s + 1 | false ↦ 0 ]) (b ∷ s)) + 1 ≤ (v + 1) * 10 ^ elim t [ true ↦ digits s + 1 | false ↦ 0 ]
    go false e k = omega arith
    go true e k =
        let d = (and-eq-true_iff (leb 48 b) (leb b 57)).0 e in
        let w = v * 10 + (b - 48) in
        rw (add-one (digits s), pow-suc 10 (digits s))
        (omega (arith, k, mul-le-mul_right {m = w + 1} {n = v * 10 + 10} (10 ^ digits s) (omega (arith, leb-true b 57 d.1))))

-- an exponent: nothing, or at most three digits past its sign
abbrev Exponent : List ℕ → Type 0
Exponent e = (digits (unsigned e) ≡ length (unsigned e)) × (length (unsigned e) ≤ 3)

no_exponent : Exponent []
unfolding run sign_len
no_exponent = (refl, omega arith)

ends_sound : (n m : ℕ) (s : List ℕ) → ends_number n m s ≡ true → (n + m ≤ 16) × Exponent (drop 1 s)
unfolding ends_number is_exponent
ends_sound n m [] h = (leb-true _ _ h, no_exponent)
ends_sound n m (b ∷ s) h =
    let one = (and-eq-true_iff (eqb n 1) _).0 h in
    let few = (and-eq-true_iff (leb m 15) _).0 one.1 in
    let x = unsigned s in
    let all = ((and-eq-true_iff (eqb b 69 || eqb b 101) (is_digits 1 3 x)).0 few.1).1 in
    let each = (and-eq-true_iff (eqb (digits x) (length x)) _).0 all in
    (omega (arith, eqb-true n 1 one.0, leb-true m 15 few.0), (eqb-true _ _ each.0, leb-true _ _ ((and-eq-true_iff (leb 1 (length x)) (leb (length x) 3)).0 each.1).1))

whole_sound : (n : ℕ) (s : List ℕ) → after_whole n s ≡ true → (n + digits (drop 1 s) ≤ 16) × Exponent (behind (drop 1 s))
unfolding after_whole run
whole_sound n [] h = (omega (arith, leb-true n 16 h), no_exponent)
whole_sound n (b ∷ s) h = ends_sound n (digits s) (drop (digits s) s) ((and-eq-true_iff (leb 1 (digits s)) _).0 ((and-eq-true_iff (eqb b 46) _).0 h).1).1

exponent_below : (e : List ℕ) → Exponent e → digits_from 0 (unsigned e) < 1000
exponent_below e h =
    let x = unsigned e in
    let all : take (digits x) x ≡ x = take_all (digits x) x (omega (arith, h.0)) in
    omega (arith, ap (digits_from 0) all, read_below 0 x, ten_least (digits x) 3 (omega (arith, h.0, h.1)))

module _ (s : List ℕ) (h : is_number s ≡ true) where
  abbrev u : List ℕ
  u = unsigned s

  sound : (digits u + digits (behind u) ≤ 16) × Exponent (behind (behind u))
  unfolding is_number
  sound = whole_sound (digits u) (drop (digits u) u) ((and-eq-true_iff (leb 1 (digits u)) _).0 h).1

  pub few_places : digits (behind u) ≤ 16
  few_places = omega (arith, sound.0)

  pub whole_small : read_on 0 u < 2 ^ 64
  whole_small = omega (arith, read_below 0 u, ten_least (digits u) 16 (omega (arith, sound.0)))

  pub digits_small : (size_of s).digits < 2 ^ 64
  digits_small =
      let v = read_on 0 u in
      let m = digits (behind u) in
      let k : (v + 1) * 10 ^ m ≤ 10 ^ digits u * 10 ^ m = mul-le-mul_right (10 ^ m) (omega (arith, read_below 0 u)) in
      omega (arith, read_below v (behind u), k, pow-add 10 (digits u) m, ten_least (digits u + m) 16 sound.0)

  pub power_small : digits_from 0 (unsigned (behind (behind u))) < 1000
  power_small = exponent_below (behind (behind u)) sound.1

  -- the same of the parts that were read
  module _ (v : List ℕ) (e : v ≡ unsigned s) where
    pub whole_fits : read_on 0 v < 2 ^ 64
    whole_fits = rw e whole_small

    pub digits_fit : (w : ℕ) (b : List ℕ) → w ≡ read_on 0 v → b ≡ behind v → read_on w b < 2 ^ 64
    digits_fit w b f g = rw (f, g, e) digits_small

    pub power_fits : (b : List ℕ) → b ≡ behind v → digits b + digits_from 0 (unsigned (behind b)) < 2 ^ 64
    power_fits b g = rw (g, e) (omega (arith, few_places, power_small))

  pub up_small : (size_of s).up < 1000
  up_small = go (is_minus (behind (behind u)))
    where
      go : (t : Bool) → elim t [ true ↦ 0 | false ↦ digits_from 0 (unsigned (behind (behind u))) ] < 1000
      go true = omega arith
      go false = power_small
