-- Laws of an entry at a width, over the width: a number's bytes make it again, and an entry's number its bytes.
-- Assumes nothing.
use mathlib.Core.Path.{◌≡◌, refl, sym, ◌∙◌}
use mathlib.Core.List.{List, [], ◌∷◌, ◌++◌, append_assoc}
use Prim.Native.Nat.{ℕ, zero, suc, ◌+◌, ◌-◌, ◌*◌, ◌/◌, ◌%◌, ◌<◌, ◌≤◌}
use native.Mathlib.Nat.{zero-add, add-zero, div-div-eq-div-mul, div-add-mod', div-lt_iff_lt-mul}
use native.Mathlib.Numerals.{add-one}
use native.Mathlib.Omega.{arith}
use lib.ListN.{length, set, get_or, take, drop, length-take, length-drop, take-append-drop}
use Rattle.std.proofs.lemmas.List.{get_or-drop}
use borrow.Rule.Slice.PartMut.{put_mid}
use Rattle.std.specs.Int.{w32, to_le_bytes, from_le_bytes}
use lib.Seq.{sets, sets-eq, drop-drop, get_or-append-add}
use Rattle.tables.specs.Table.{entry_bytes, number_at}

-- how many numbers a width has: each of them is below
abbrev pub reach : ℕ → ℕ
reach zero = 1
reach (suc w) = reach w * 256

pub bytes-length : (w n : ℕ) → length (entry_bytes w n) ≡ w
unfolding entry_bytes
bytes-length zero n = refl
bytes-length (suc w) n = rw (bytes-length w (n / 256))

-- past some bytes a number stands where it stands without them
pub number_past : (w : ℕ) (xs ys : List ℕ) (p : ℕ) → number_at w (xs ++ ys) (length xs + p) ≡ number_at w ys p
unfolding number_at
number_past zero xs ys p = refl
number_past (suc w) xs ys p =
    let e : length xs + p + 1 ≡ length xs + (p + 1) = omega arith in
    rw (get_or-append-add xs ys p 0, e, number_past w xs ys (p + 1))

-- a number's bytes make it again
pub number_back : (w n : ℕ) (u : List ℕ) → n < reach w → number_at w (entry_bytes w n ++ u) 0 ≡ n
unfolding number_at entry_bytes
number_back zero n u h = omega arith
number_back (suc w) n u h =
    let ih = number_back w (n / 256) u ((div-lt_iff_lt-mul (omega arith)).1 h) in
    rw (number_past w (n % 256 ∷ []) (entry_bytes w (n / 256) ++ u) 0, ih) (omega (arith, div-add-mod' n 256))

-- ---- an entry's bytes by the words of std

-- the lowest bytes of a number of four
pub low_bytes : (w n : ℕ) → w ≤ 4 → take w (to_le_bytes w32 n) ≡ entry_bytes w n
unfolding entry_bytes
low_bytes zero n h = refl
low_bytes (suc zero) n h = refl
low_bytes (suc (suc zero)) n h = refl
low_bytes (suc (suc (suc zero))) n h = simp div-div-eq-div-mul
low_bytes (suc (suc (suc (suc zero)))) n h = simp div-div-eq-div-mul
low_bytes (suc (suc (suc (suc (suc w))))) n h = absurd (omega arith)

-- an entry's bytes put over others as one part, and one by one
pub entry_put : (w p k n : ℕ) (t ys : List ℕ) → ys ≡ take w (to_le_bytes w32 n) → k ≡ w → w ≤ 4 → p + w ≤ length t → put_mid p k t ys ≡ sets t p (entry_bytes w n)
entry_put w p k n t ys e q h i =
    let b = bytes-length w n in
    rw (e, low_bytes w n h, sets-eq (entry_bytes w n) t p (omega arith), q, b) (simp (drop-drop, append_assoc))

-- bytes that are 0 behind some add nothing to their number, and bytes past its width do not count
number_front : (xs ys : List ℕ) (k : ℕ) → number_at k ys 0 ≡ 0 → number_at (length xs + k) (xs ++ ys) 0 ≡ number_at (length xs) xs 0
unfolding number_at
number_front [] ys k z = rw zero-add z
number_front (x ∷ xs) ys k z =
    let e : suc (length xs) + k ≡ suc (length xs + k) = omega arith in
    rw (e, number_past (length xs + k) (x ∷ []) (xs ++ ys) 0, number_past (length xs) (x ∷ []) xs 0, number_front xs ys k z)

zeros : (w : ℕ) → w ≤ 4 → number_at (4 - w) (drop w (0 ∷ 0 ∷ 0 ∷ 0 ∷ [])) 0 ≡ 0
unfolding number_at
zeros zero h = refl
zeros (suc zero) h = refl
zeros (suc (suc zero)) h = refl
zeros (suc (suc (suc zero))) h = refl
zeros (suc (suc (suc (suc zero)))) h = refl
zeros (suc (suc (suc (suc (suc w))))) h = absurd (omega arith)

four_bytes : (l : List ℕ) → from_le_bytes w32 l ≡ number_at 4 l 0
unfolding number_at
four_bytes l = omega arith

-- an entry's bytes, with bytes that are 0 behind them up to four, are its number
pub from_four : (w p : ℕ) (t : List ℕ) → w ≤ 4 → p + w ≤ length t → from_le_bytes w32 (take w (drop p t) ++ drop w (0 ∷ 0 ∷ 0 ∷ 0 ∷ [])) ≡ number_at w t p
unfolding number_at
from_four w p t h k =
    let b = drop p t in
    let a = take w b in
    let z : List ℕ = drop w (0 ∷ 0 ∷ 0 ∷ 0 ∷ []) in
    let l : length a ≡ w = simp (length-take, length-drop) (omega arith) in
    let q : length (take p t) ≡ p = simp length-take (omega arith) in
    let e : w + (4 - w) ≡ 4 = omega arith in
    let short : number_at 4 (a ++ z) 0 ≡ number_at w a 0 = rw (l, e) at (number_front a z (4 - w) (zeros w h)) in
    let cut : number_at w b 0 ≡ number_at w a 0 = rw (take-append-drop, add-zero, l) at (number_front a (drop w b) 0 refl) in
    let past : number_at w t p ≡ number_at w b 0 = rw (take-append-drop, add-zero, q) at (number_past w (take p t) b 0) in
    four_bytes (a ++ z) ∙ short ∙ sym cut ∙ sym past

-- one more byte read into its place
over : (k : ℕ) (xs zs : List ℕ) → k < length xs → k < length zs → set (take k xs ++ drop k zs) k (get_or xs k 0) ≡ take (suc k) xs ++ drop (suc k) zs
over k [] zs h i = absurd (omega arith)
over k (x ∷ xs) [] h i = absurd (omega arith)
over zero (x ∷ xs) (z ∷ zs) h i = refl
over (suc k) (x ∷ xs) (z ∷ zs) h i = rw (over k xs zs (omega arith) (omega arith))

pub read_more : (t b zs : List ℕ) (p k : ℕ) → b ≡ take k (drop p t) ++ drop k zs → p + k < length t → k < length zs
    → set b k (get_or t (p + k) 0) ≡ take (k + 1) (drop p t) ++ drop (k + 1) zs
read_more t b zs p k e h i = rw (e, add-one k, ← (get_or-drop p t k 0)) (over k (drop p t) zs (simp length-drop (omega arith)) i)
