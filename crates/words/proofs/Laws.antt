-- Laws of the definitions on words, one a case. Other crates' proofs cite them too.
-- Assumes nothing.
use mathlib.Core.Path.{◌≡◌, refl, sym, ap, ap₂, ◌∙◌}
use mathlib.Core.List.{List, [], ◌∷◌, ◌++◌}
use mathlib.Core.Bool.{Bool, true, false, ◌&&◌, and-true, and-eq-true_iff, false≢true, true≢false}
use Prim.Native.Nat.{ℕ, zero, suc, ◌+◌, ◌-◌, ◌*◌, ◌/◌, ◌≤◌, ◌<◌, min, max, suc-le-suc}
use native.Mathlib.Nat.{div-mul-le_self}
use native.Mathlib.Numerals.{add-one}
use native.Mathlib.Omega.{arith}
use lib.Dec.{eqb, eqb-suc-zero, eqb-zero-suc, eqb-suc-suc}
use lib.ListN.{length, get_or, set, take, drop, length-drop, drop_of_length-le}
use lib.Seq.{drop-cons, drop-drop, take_all, sets}
use borrow.Author.Tests.{eqb-true, eq-eqb, ne_eqb}
use Rattle.std.specs.Prelude.{cond}
use Rattle.std.specs.List.{prefix_len, take_while, starts_with}
use Rattle.std.specs.Simd.{first_chunks}
use Rattle.std.specs.Cmp.Lexicographic.{pointwise}
use Rattle.std.proofs.lemmas.List.Folds.{length-prefix_len}
use Rattle.std.proofs.lemmas.List.{drop_min}
use Rattle.words.specs.Words.{agrees, begins, run, every, Each, blocks_of, is_word}

-- ---- a run of bytes that pass a test, seen from a place in a list

module _ (p : ℕ → Bool) (s : List ℕ) (i : ℕ) where
  pub run_end : length s ≤ i → run p (drop i s) ≡ 0
  unfolding run
  run_end h = rw (drop_of_length-le s h)

  pub run_more : i < length s → p (get_or s i 0) ≡ true → run p (drop i s) ≡ run p (drop (i + 1) s) + 1
  unfolding run
  run_more h e = rw (add-one (i), drop-cons s i 0 h) (rw (e, run))

  pub run_stop : i < length s → p (get_or s i 0) ≡ false → run p (drop i s) ≡ 0
  unfolding run
  run_stop h e = rw (drop-cons s i 0 h) (rw (e, run))

pub run-le : (p : ℕ → Bool) (s : List ℕ) → run p s ≤ length s
unfolding run
run-le p [] = omega arith
run-le p (b ∷ s) = go (p b) (run-le p s)
  where
    go : (t : Bool) → run p s ≤ length s → elim t [ true ↦ run p s + 1 | false ↦ 0 ] ≤ suc (length s)
    go true h = omega arith
    go false h = omega arith

-- ---- a walk along a run: the place and what is left from there make n, what the whole was

module _ (p : ℕ → Bool) (s : List ℕ) (i n : ℕ) where
  pub walk_more : n ≡ i + run p (drop i s) → i < length s → p (get_or s i 0) ≡ true → n ≡ i + 1 + run p (drop (i + 1) s)
  walk_more q h e = omega (arith, run_more p s i h e)

  pub walk_stop : n ≡ i + run p (drop i s) → i < length s → p (get_or s i 0) ≡ false → i ≡ n
  walk_stop q h e = omega (arith, run_stop p s i h e)

-- the walk ended at the text's end, or it began past it
pub walk_over : (p : ℕ → Bool) (s : List ℕ) (from i : ℕ) → from + run p (drop from s) ≡ i + run p (drop i s) → length s ≤ i → (from ≤ length s → i ≤ length s)
    → max from (length s) ≡ from + run p (drop from s)
walk_over p s from i q h k = grind (arith, q, run_end p s i h, run_end p s from, k)

-- ---- a walk along a run by whole blocks

-- where n bytes pass, the run takes them and goes on behind them; where one of them doesn't, it ends among them
pub run-all : (p : ℕ → Bool) (s : List ℕ) (n : ℕ) → n ≤ length s → every p (take n s) ≡ true → run p s ≡ n + run p (drop n s)
unfolding run every
run-all p s zero h e = omega arith
run-all p [] (suc n) h e = absurd (omega arith)
run-all p (b ∷ s) (suc n) h e = go (p b) e (run-all p s n (omega arith))
  where
    go : (t : Bool) → t && every p (take n s) ≡ true → (every p (take n s) ≡ true → run p s ≡ n + run p (drop n s))
        → elim t [ true ↦ run p s + 1 | false ↦ 0 ] ≡ suc n + run p (drop n s)
    go true q g = omega (arith, g q)
    go false q g = absurd (false≢true q)

pub run-some : (p : ℕ → Bool) (s : List ℕ) (n : ℕ) → every p (take n s) ≡ false → run p s < n
unfolding run every
run-some p s zero e = absurd (true≢false e)
run-some p [] (suc n) e = absurd (true≢false e)
run-some p (b ∷ s) (suc n) e = go (p b) e (run-some p s n)
  where
    go : (t : Bool) → t && every p (take n s) ≡ false → (every p (take n s) ≡ false → run p s < n)
        → elim t [ true ↦ run p s + 1 | false ↦ 0 ] < suc n
    go true q g = omega (arith, g q)
    go false q g = omega arith

-- ---- our words beside std's

pub prefix_is : (p : ℕ → Bool) (s : List ℕ) → prefix_len p s ≡ run p s
unfolding run
prefix_is p [] = refl
prefix_is p (b ∷ s) = go (p b) (prefix_is p s)
  where
    go : (t : Bool) → prefix_len p s ≡ run p s → cond t (1 + prefix_len p s) 0 ≡ elim t [ true ↦ run p s + 1 | false ↦ 0 ]
    go true e = omega (arith, e)
    go false e = refl

-- one byte more, on a walk that has no way out
pub every-push : (p : ℕ → Bool) (s : List ℕ) (b : ℕ) (kept now : Bool) → kept ≡ every p s → now ≡ kept && p b → now ≡ every p (s ++ (b ∷ []))
unfolding every
every-push p [] b kept now e q = q ∙ ap (λ (t : Bool). t && p b) e ∙ sym (and-true (p b))
every-push p (x ∷ s) b kept now e q = q ∙ ap (λ (t : Bool). t && p b) e ∙ go (p x) ∙ ap (λ (t : Bool). p x && t) (every-push p s b (every p s) (every p s && p b) refl refl)
  where
    go : (t : Bool) → (t && every p s) && p b ≡ t && (every p s && p b)
    go true = refl
    go false = refl

-- the whole blocks at the front that pass
chunks_is : (p : ℕ → Bool) (n : ℕ) (s : List ℕ) → n * 16 ≤ length s → length s < n * 16 + 16 → prefix_len (every p) (first_chunks 16 n s) ≡ run p s / 16
chunks_is p zero s h k = omega (arith, run-le p s)
chunks_is p (suc n) s h k =
    let l : length (drop 16 s) ≡ length s - 16 = length-drop 16 s in
    go (every p (take 16 s)) refl (chunks_is p n (drop 16 s) (omega arith) (omega arith))
  where
    go : (t : Bool) → every p (take 16 s) ≡ t → prefix_len (every p) (first_chunks 16 n (drop 16 s)) ≡ run p (drop 16 s) / 16
        → cond t (1 + prefix_len (every p) (first_chunks 16 n (drop 16 s))) 0 ≡ run p s / 16
    go true e q = omega (arith, run-all p s 16 (omega arith) e, q)
    go false e q = omega (arith, run-some p s 16 e)

pub passed-is : (p : ℕ → Bool) (s : List ℕ) → length (take_while (every p) (first_chunks 16 (length s / 16) s)) ≡ run p s / 16
passed-is p s = length-prefix_len (every p) (first_chunks 16 (length s / 16) s) ∙ chunks_is p (length s / 16) s (omega arith) (omega arith)

-- who passes the first test passes the second: so the second run may begin behind the first one's blocks
pub run_skip : (p q : ℕ → Bool) → ((b : ℕ) → p b ≡ true → q b ≡ true) → (s : List ℕ) (n : ℕ) → n ≤ run p s → run q s ≡ n + run q (drop n s)
unfolding run
run_skip p q f s zero h = omega arith
run_skip p q f [] (suc n) h = absurd (omega arith)
run_skip p q f (b ∷ s) (suc n) h = go (p b) refl h (run_skip p q f s n)
  where
    go : (t : Bool) → p b ≡ t → suc n ≤ elim t [ true ↦ run p s + 1 | false ↦ 0 ] → (n ≤ run p s → run q s ≡ n + run q (drop n s))
        → elim (q b) [ true ↦ run q s + 1 | false ↦ 0 ] ≡ suc n + run q (drop n s)
    go true e k g = rw (f b e) (omega (arith, g (omega arith)))
    go false e k g = absurd (omega arith)

pub walk_skip : (p q : ℕ → Bool) → ((b : ℕ) → p b ≡ true → q b ≡ true) → (s : List ℕ) (from i : ℕ) → i ≡ from + blocks_of (run p (drop from s))
    → from + run q (drop from s) ≡ i + run q (drop i s)
walk_skip p q f s from i e =
    let r = run p (drop from s) in
    let k = run_skip p q f (drop from s) (blocks_of r) (div-mul-le_self r 16) in
    rw e (omega (arith, k, ap (run q) (drop-drop (blocks_of r) from s)))

-- behind bytes that the run takes the rest of it is left: by this law two edits of `lines` walk on from a place of their own
pub run_behind : (p : ℕ → Bool) (s : List ℕ) (i : ℕ) → i ≤ run p s → run p (drop i s) ≡ run p s - i
run_behind p s i h = omega (arith, h, run_skip p p (λ b e. e) s i h)

-- ---- a pattern at the start of a text, seen from the same place in both

module _ (f : ℕ → ℕ → Bool) (w s : List ℕ) (i : ℕ) where
  pub agrees-end : length w ≤ i → agrees f (drop i w) (drop i s) ≡ true
  unfolding agrees
  agrees-end h = rw (drop_of_length-le w h)

  pub agrees_more : i < length w → i < length s → f (get_or w i 0) (get_or s i 0) ≡ true
      → agrees f (drop i w) (drop i s) ≡ agrees f (drop (i + 1) w) (drop (i + 1) s)
  unfolding agrees
  agrees_more h k e = rw (add-one, drop-cons w i 0 h, drop-cons s i 0 k, e)

  pub agrees_stop : i < length w → i < length s → f (get_or w i 0) (get_or s i 0) ≡ false → agrees f (drop i w) (drop i s) ≡ false
  unfolding agrees
  agrees_stop h k e = rw (drop-cons w i 0 h, drop-cons s i 0 k, e)

pub agrees-le : (f : ℕ → ℕ → Bool) (w s : List ℕ) → agrees f w s ≡ true → length w ≤ length s
unfolding agrees
agrees-le f [] s e = omega arith
agrees-le f (a ∷ w) [] e = absurd (false≢true e)
agrees-le f (a ∷ w) (b ∷ s) e = go (f a b) e (agrees-le f w s)
  where
    go : (t : Bool) → t && agrees f w s ≡ true → (agrees f w s ≡ true → length w ≤ length s) → suc (length w) ≤ suc (length s)
    go true q g = suc-le-suc (g q)
    go false q g = absurd (false≢true q)

pub begins-le : (w s : List ℕ) → begins w s ≡ true → length w ≤ length s
begins-le w s e = agrees-le (λ a b. eqb b a) w s e

eqb-sym : (a b : ℕ) → eqb a b ≡ eqb b a
eqb-sym a b = go (eqb a b) refl
  where
    go : (t : Bool) → eqb a b ≡ t → t ≡ eqb b a
    go true e = sym (eq-eqb b a (sym (eqb-true a b e)))
    go false e = sym (ne_eqb b a (λ q. true≢false (sym (eq-eqb a b (sym q)) ∙ e)))

same_start : (w s : List ℕ) → pointwise eqb w (take (length w) s) ≡ begins w s
unfolding agrees
same_start [] s = refl
same_start (a ∷ w) [] = refl
same_start (a ∷ w) (b ∷ s) = ap₂ ◌&&◌ (eqb-sym a b) (same_start w s)

pub begins_by_start : (w s : List ℕ) → starts_with eqb s w ≡ begins w s
begins_by_start w s = same_start w s

pub word_by_equal : (w s : List ℕ) → pointwise eqb s w ≡ is_word w s
unfolding agrees is_word
word_by_equal [] [] = refl
word_by_equal [] (b ∷ s) = rw (eqb-suc-zero (length s)) refl
word_by_equal (a ∷ w) [] = rw (eqb-zero-suc (length w)) refl
word_by_equal (a ∷ w) (b ∷ s) = rw (eqb-suc-suc (length s) (length w)) (ap (λ (t : Bool). eqb b a && t) (word_by_equal w s) ∙ go (eqb b a) (eqb (length s) (length w)))
  where
    go : (t u : Bool) → t && (u && begins w s) ≡ u && (t && begins w s)
    go true u = refl
    go false true = refl
    go false false = refl

-- a text as long as a word is the word where it begins with it
pub word_long : (w s : List ℕ) → length s ≡ length w → begins w s ≡ is_word w s
unfolding is_word
word_long w s e = rw (eq-eqb _ _ e)

-- a text that begins with a word has it there
pub begins-take : (w s : List ℕ) → begins w s ≡ true → take (length w) s ≡ w
unfolding agrees
begins-take [] s e = refl
begins-take (a ∷ w) [] e = absurd (false≢true e)
begins-take (a ∷ w) (b ∷ s) e =
    let c = (and-eq-true_iff (eqb b a) (begins w s)).0 e in
    ap₂ ◌∷◌ (eqb-true b a c.0) (begins-take w s c.1)

-- a text that is a word
pub word-is : (w s : List ℕ) → is_word w s ≡ true → s ≡ w
unfolding is_word
word-is w s e =
    let c = (and-eq-true_iff (eqb (length s) (length w)) (begins w s)).0 e in
    sym (take_all (length w) s (omega (arith, eqb-true (length s) (length w) c.0))) ∙ begins-take w s c.1

-- the part from n to the end
pub part_from : (s : List ℕ) (n : ℕ) → take (length s - n) (drop n s) ≡ drop n s
part_from s n = take_all (length s - n) (drop n s) (simp length-drop (omega arith))

-- the part from n to the end, where the walk begins no further than the end
pub rest_part : (s : List ℕ) (n m : ℕ) → m ≡ min n (length s) → take (length s - m) (drop m s) ≡ drop n s
rest_part s n m e = part_from s m ∙ ap (λ (k : ℕ). drop k s) e ∙ drop_min n s

-- ---- lists each of whose members has a property

pub each_append : {A : Type 0} (p : A → Type 0) (a b : List A) → Each p a → Each p b → Each p (a ++ b)
each_append p [] b g h = h
each_append p (x ∷ a) b g h = (g.0, each_append p a b g.1 h)

-- ---- stores

-- what is stored from here on goes behind what was stored up to here
pub sets_more : (a : List ℕ) (l : List ℕ) (i : ℕ) (b : List ℕ) → sets (sets l i a) (i + length a) b ≡ sets l i (a ++ b)
sets_more [] l i b = ap (λ (j : ℕ). sets l j b) (omega arith)
sets_more (x ∷ a) l i b = ap (λ (j : ℕ). sets (sets (set l i x) (suc i) a) j b) (omega arith) ∙ sets_more a (set l i x) (suc i) b
