-- Laws of a fraction rounded.
-- Assumes nothing.
use mathlib.Core.Path.{◌≡◌, ap, ◌∙◌}
use Prim.Native.Nat.{ℕ, ◌+◌, ◌*◌, ◌-◌, ◌/◌, ◌%◌, ◌^◌, ◌<◌, ◌≤◌}
use native.Mathlib.Nat.{pow-suc, one-le-pow, pow-le-pow_right, mul-le-mul_right, le-mul_of_pos_right, div-mul-le_self, lt-div-mul-add, div-eq_of_lt-le, div-div-eq-div-mul, mul-div-mul_right}
use native.Mathlib.Numerals.{add-one}
use native.Mathlib.Omega.{arith}
use lib.Pow.{pow-add}
use Rattle.rounding.specs.Say.{rounded}

-- the whole number that lies at most half a unit above the fraction, and less than half a unit below
pub rounds_to : (n d u : ℕ) → u * (2 * d) ≤ 2 * n + d → 2 * n + d < (u + 1) * (2 * d) → rounded n d ≡ u
rounds_to n d u h k = div-eq_of_lt-le (2 * d) h k

-- a factor of both sides goes
cancels : (n d c : ℕ) → 0 < c → rounded (n * c) (d * c) ≡ rounded n d
cancels n d c h =
    let up : 2 * (n * c) + d * c ≡ (2 * n + d) * c = omega arith in
    let down : 2 * (d * c) ≡ (2 * d) * c = omega arith in
    rw (up, down) (mul-div-mul_right (2 * n + d) (2 * d) h)

whole : (n : ℕ) → rounded n 1 ≡ n
whole n = rounds_to n 1 n (omega arith) (omega arith)

-- with all places but one cut off, the next place decides
module _ (n q u : ℕ) (h : 0 < q) where
  last_place : 10 * u ≤ n / q + 5 → n / q + 5 < 10 * u + 10 → rounded n (q * 10) ≡ u
  last_place lo hi = rounds_to n (q * 10) u
      (omega (arith, mul-le-mul_right q lo, div-mul-le_self n q))
      (omega (arith, mul-le-mul_right q hi, lt-div-mul-add {a = n} h))

-- ---- powers of ten

pub pos_ten : (k : ℕ) → 0 < 10 ^ k
pos_ten k = one-le-pow k 10 (omega arith)

ten_more : (k : ℕ) → 10 ^ (k + 1) ≡ 10 ^ k * 10
ten_more k = ap (λ (m : ℕ). 10 ^ m) (add-one k) ∙ pow-suc 10 k

pub ten_least : (j k : ℕ) → j ≤ k → 10 ^ j ≤ 10 ^ k
ten_least j k h = pow-le-pow_right {n = 10} (omega arith) h

-- one place more is cut off
pub cut_more : (n i : ℕ) → n / 10 ^ i / 10 ≡ n / 10 ^ (i + 1)
cut_more n i = rw (ten_more i) (div-div-eq-div-mul n (10 ^ i) 10)

module _ (n p v : ℕ) (e : v ≡ n / 10 ^ p) where
  pub half_down : v % 10 < 5 → rounded n (10 ^ (p + 1)) ≡ v / 10
  half_down h = rw (ten_more p) (last_place n (10 ^ p) (v / 10) (pos_ten p) (omega arith) (omega arith))

  pub half_up : 5 ≤ v % 10 → rounded n (10 ^ (p + 1)) ≡ v / 10 + 1
  half_up h = rw (ten_more p) (last_place n (10 ^ p) (v / 10 + 1) (pos_ten p) (omega arith) (omega arith))

-- one place less is to come
pub raise_more : (v p i : ℕ) → i < p → v * 10 * 10 ^ (p - (i + 1)) ≡ v * 10 ^ (p - i)
raise_more v p i h =
    let e : p - i ≡ p - (i + 1) + 1 = omega arith in
    rw (e, ten_more (p - (i + 1))) (omega arith)

pub raise_least : (v k : ℕ) → v ≤ v * 10 ^ k
raise_least v k = le-mul_of_pos_right v (pos_ten k)

pub raise_over : (v k w top : ℕ) → v * 10 ^ k ≡ w → top < v → top < w
raise_over v k w top e h = omega (arith, raise_least v k)

-- what multiplies and what divides cancel
pub scaled_down : (n up down : ℕ) → up < down → rounded (n * 10 ^ up) (10 ^ down) ≡ rounded n (10 ^ (down - up - 1 + 1))
scaled_down n up down h =
    let e : down ≡ down - up - 1 + 1 + up = omega arith in
    ap (λ (m : ℕ). rounded (n * 10 ^ up) m) (ap (λ (m : ℕ). 10 ^ m) e ∙ pow-add 10 (down - up - 1 + 1) up)
    ∙ cancels n (10 ^ (down - up - 1 + 1)) (10 ^ up) (pos_ten up)

pub scaled_up : (n up down : ℕ) → down ≤ up → rounded (n * 10 ^ up) (10 ^ down) ≡ n * 10 ^ (up - down)
scaled_up n up down h =
    let e : up ≡ up - down + down = omega arith in
    let m = n * 10 ^ (up - down) in
    let k : n * 10 ^ up ≡ m * 10 ^ down = ap (λ (j : ℕ). n * 10 ^ j) e ∙ rw (pow-add 10 (up - down) down) (omega arith) in
    let o : 10 ^ down ≡ 1 * 10 ^ down = omega arith in
    ap (λ (j : ℕ). rounded j (10 ^ down)) k ∙ ap (λ (j : ℕ). rounded (m * 10 ^ down) j) o ∙ cancels m 1 (10 ^ down) (pos_ten down) ∙ whole m
