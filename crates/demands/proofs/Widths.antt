-- Recorded tables made wide and narrow again: each row reads as it did, and the bytes come back.
-- Assumes nothing.
use Prim.Native.Nat.{ℕ, zero, suc, ◌+◌, ◌*◌, ◌/◌, ◌%◌, ◌≤◌, ◌<◌}
use mathlib.Core.Path.{◌≡◌, refl, sym, ap, ◌∙◌}
use mathlib.Core.List.{List, ◌∷◌, ◌++◌, append_assoc}
use mathlib.Core.Bool.{Bool, true, false, false≢true}
use native.Mathlib.Numerals.{add-one}
use native.Mathlib.Nat.{not-suc-le-zero, mod-eq_of_lt, div-eq_of_lt, mul-div-le, lt-div-mul-add, add-mul-mod_self_left, add-mul-div_left}
use native.Mathlib.Omega.{arith}
use lib.Dec.{eqb, ltb}
use lib.ListN.{length, take, drop, get_or, length-append, length-drop, take-append-drop}
use lib.Seq.{drop-cons, take-add}
use borrow.Author.Tests.{ltb-true, ltb-false, eqb-true, eq-eqb, ne_eqb}
use Rattle.judge.specs.declared.Row.{Row}
use Rattle.tables.specs.Table.{host_width, recorded_width, entry_bytes, number_at, entry_at, row_width, row_at}
use Rattle.tables.specs.Hearing.{span_of, row_heard}
use Rattle.tables.specs.Widths.{entries_in, rewritten, copied, some_wide, widen_of, made_by, widened, narrow_of, narrowed}
use Rattle.reasons.specs.declared.Reason.{Reason}
use Rattle.reasons.specs.declared.Reason.TheVariants as Reasons
use Rattle.tables.proofs.Entries.{reach, number_past, number_back}
use Rattle.tables.proofs.Hearing.{row_out, row_in}
use Rattle.tables.proofs.Copies.{rewritten-length, widen_unlike, widen_done, narrow_unlike, narrow_wide, narrow_done}
use Rattle.demands.specs.Widths.{Bytes, AsMany, WidenedReads, NarrowedBack, WideExactly, UnequalExactly, RefusedLeaves}
use Rattle.std.specs.Prelude.{Result, Ok, Err, ⊤}

-- ---- an entry's number and its bytes, over the width

-- it is below what the width reaches
number_small : (w : ℕ) (t : List ℕ) → Bytes t → (p : ℕ) → number_at w t p < reach w
unfolding number_at
number_small zero t b p = omega arith
number_small (suc w) t b p = omega (arith, b p, number_small w t b (p + 1))

-- its bytes are the table's
bytes_back : (w : ℕ) (t : List ℕ) → Bytes t → (p : ℕ) → p + w ≤ length t → entry_bytes w (number_at w t p) ≡ take w (drop p t)
unfolding number_at entry_bytes
bytes_back zero t b p h = refl
bytes_back (suc w) t b p h =
    let x = get_or t p 0 in
    let y = number_at w t (p + 1) in
    let low : (x + 256 * y) % 256 ≡ x = add-mul-mod_self_left x 256 y ∙ mod-eq_of_lt (b p) in
    let high : (x + 256 * y) / 256 ≡ y = add-mul-div_left x y (omega arith) ∙ rw (div-eq_of_lt (b p)) (omega arith) in
    rw (low, high, drop-cons t p 0 (omega arith), ← add-one p) (ap (λ (l : List ℕ). x ∷ l) (bytes_back w t b (p + 1) (omega arith)))

-- ---- entries put into another table read as they did

module _ (v w : ℕ) (t : List ℕ) where
  copied_entry : (k : ℕ) (s : List ℕ) → ((i : ℕ) → i < k → entry_at v t i < reach w) → (i : ℕ) → i < k
      → entry_at w (rewritten v w t k ++ s) i ≡ entry_at v t i
  unfolding rewritten
  copied_entry zero s fit i h = absurd (not-suc-le-zero h)
  copied_entry (suc k) s fit i h = rw append_assoc (go (ltb i k) refl (copied_entry k (entry_bytes w (entry_at v t k) ++ s) (λ j l. fit j (omega arith)) i))
    where
      go : (b : Bool) → ltb i k ≡ b → let u = rewritten v w t k ++ (entry_bytes w (entry_at v t k) ++ s) in
          (i < k → entry_at w u i ≡ entry_at v t i) → entry_at w u i ≡ entry_at v t i
      go true q ih = ih (ltb-true _ _ q)
      go false q ih =
          let e : i ≡ k = omega (arith, ltb-false i k q) in
          let r : w * k ≡ length (rewritten v w t k) + 0 = omega (arith, rewritten-length v w t k) in
          rw e (rw r (number_past w (rewritten v w t k) (entry_bytes w (entry_at v t k) ++ s) 0 ∙ number_back w (entry_at v t k) s (fit k (omega arith))))

-- ---- an entry above 65,535 among k of them from the i-th on

abbrev Above : List ℕ → ℕ → ℕ → Type 0
Above u i k = (j : ℕ) × (i ≤ j) × (j < i + k) × (65535 < entry_at host_width u j)

some_at : (k : ℕ) (u : List ℕ) (i : ℕ) → some_wide u i k ≡ true → Above u i k
unfolding some_wide
some_at zero u i e = absurd (false≢true e)
some_at (suc k) u i e = go (ltb 65535 (entry_at host_width u i)) refl (some_at k u (i + 1)) e
  where
    go : (b : Bool) → ltb 65535 (entry_at host_width u i) ≡ b → (some_wide u (i + 1) k ≡ true → Above u (i + 1) k)
        → elim b [ true ↦ true | false ↦ some_wide u (i + 1) k ] ≡ true → Above u i (suc k)
    go true q ih e = (i, omega arith, omega arith, ltb-true _ _ q)
    go false q ih e = let h = ih e in (h.0, omega (arith, h.1), omega (arith, h.2), h.3)

later : {i j : ℕ} → i ≤ j → (i ≡ j → ⊥) → i + 1 ≤ j
later {i} {j} a n = go (ltb i j) refl
  where
    go : (b : Bool) → ltb i j ≡ b → i + 1 ≤ j
    go true q = omega (arith, ltb-true i j q)
    go false q = absurd (n (omega (arith, ltb-false i j q)))

at_some : (k : ℕ) (u : List ℕ) (i j : ℕ) → i ≤ j → j < i + k → 65535 < entry_at host_width u j → some_wide u i k ≡ true
unfolding some_wide
at_some zero u i j a h e = absurd (omega arith)
at_some (suc k) u i j a h e = go (ltb 65535 (entry_at host_width u i)) refl (at_some k u (i + 1) j)
  where
    go : (b : Bool) → ltb 65535 (entry_at host_width u i) ≡ b → (i + 1 ≤ j → j < i + 1 + k → 65535 < entry_at host_width u j → some_wide u (i + 1) k ≡ true)
        → elim b [ true ↦ true | false ↦ some_wide u (i + 1) k ] ≡ true
    go true q ih = refl
    go false q ih =
        let n : i ≡ j → ⊥ = λ p. omega (arith, ltb-false 65535 (entry_at host_width u i) q, ap (entry_at host_width u) p) in
        ih (later a n) (omega arith) e

-- ---- the answers

even : (t u : List ℕ) → widen_of t u ≡ Ok tt → AsMany t u
even t u e = go (eqb (entries_in recorded_width t) (entries_in host_width u)) refl
  where
    go : (b : Bool) → eqb (entries_in recorded_width t) (entries_in host_width u) ≡ b → AsMany t u
    go true q = eqb-true _ _ q
    go false q = let z : ◌≡◌ {A = ℕ} 0 1 = cc (widen_unlike t u q).0 in absurd (omega arith)

-- a table that was widened
module _ (t u : List ℕ) (b : Bytes t) (e : widen_of t u ≡ Ok tt) where
  abbrev w : List ℕ
  w = copied recorded_width host_width t u

  is : widened t u ≡ w
  is = sym (widen_done t u (eq-eqb _ _ (even t u e)) _ refl).1

  as_long : length w ≡ length u
  as_long =
      simp (length-append, length-drop)
      (omega (arith, rewritten-length recorded_width host_width t (entries_in recorded_width t), even t u e, mul-div-le (length u) 4))

  entry_same : (i : ℕ) → i < entries_in recorded_width t → entry_at host_width w i ≡ entry_at recorded_width t i
  entry_same i h = copied_entry recorded_width host_width t (entries_in recorded_width t) _ (λ j l. omega (arith, number_small 2 t b (2 * j))) i h

  -- the rows that one of the tables has, the other has
  has-row : (n : ℕ) → row_width recorded_width * (n + 1) ≤ length t → 5 * (n + 1) ≤ entries_in recorded_width t
  has-row n h = let l : length t < length t / 2 * 2 + 2 = lt-div-mul-add (omega arith) in omega arith

  row_same : (n : ℕ) → 5 * (n + 1) ≤ entries_in recorded_width t → row_at host_width w n ≡ row_at recorded_width t n
  unfolding row_at
  row_same n h =
      let at = entry_same in
      rw (at (5 * n) (omega arith), at (5 * n + 1) (omega arith), at (5 * n + 2) (omega arith), at (5 * n + 3) (omega arith), at (5 * n + 4) (omega arith))

  heard_same : (n : ℕ) (f : List ℕ) → row_heard host_width n f w ≡ row_heard recorded_width n f t
  heard_same n f = go (ltb (length t) (row_width recorded_width * (n + 1))) refl
    where
      go : (c : Bool) → ltb (length t) (row_width recorded_width * (n + 1)) ≡ c → row_heard host_width n f w ≡ row_heard recorded_width n f t
      go true q =
          let h = ltb-true (length t) (row_width recorded_width * (n + 1)) q in
          let l : length u < length u / 4 * 4 + 4 = lt-div-mul-add (omega arith) in
          row_out host_width n f w (omega (arith, as_long, even t u e, mul-div-le (length t) 2)) ∙ sym (row_out recorded_width n f t h)
      go false q =
          let h = ltb-false (length t) (row_width recorded_width * (n + 1)) q in
          row_in host_width n f w (omega (arith, has-row n h, as_long, even t u e, mul-div-le (length u) 4))
          ∙ ap (λ (r : Row). span_of r f) (row_same n (has-row n h))
          ∙ sym (row_in recorded_width n f t h)

pub widened_reads : WidenedReads
widened_reads t u b e n f = rw (is t u b e) (heard_same t u b e n f)

-- ---- and narrowed back

module _ (t u : List ℕ) (b : Bytes t) (e : widen_of t u ≡ Ok tt) where
  abbrev v : List ℕ
  v = copied recorded_width host_width t u

  many : entries_in host_width v ≡ entries_in recorded_width t
  many = rw (as_long t u b e) (sym (even t u e))

  none_wide : some_wide v 0 (entries_in host_width v) ≡ false
  none_wide = go (some_wide v 0 (entries_in host_width v)) refl
    where
      go : (c : Bool) → some_wide v 0 (entries_in host_width v) ≡ c → c ≡ false
      go false q = refl
      go true q =
          let h = some_at _ _ 0 q in
          let l = h.2 in
          absurd (omega (arith, h.3, entry_same t u b e h.0 (omega (arith, l, many)), number_small 2 t b (2 * h.0)))

  back : (k : ℕ) → k ≤ entries_in recorded_width t → rewritten host_width recorded_width v k ≡ take (recorded_width * k) t
  unfolding rewritten
  back zero h = refl
  back (suc k) h =
      let x = entry_same t u b e k (omega arith) in
      let y = bytes_back 2 t b (2 * k) (omega (arith, mul-div-le (length t) 2)) in
      let z : 2 * suc k ≡ 2 * k + 2 = omega arith in
      rw (back k (omega arith), x, y, z) (sym (take-add (2 * k) 2 t))

  narrowed_by : (s : List ℕ) → entries_in recorded_width s ≡ entries_in recorded_width t → let n = recorded_width * entries_in recorded_width t in
      (Ok tt ≡ narrow_of (widened t u) s) × (take n t ++ drop n s ≡ narrowed (widened t u) s)
  narrowed_by s m = rw (is t u b e) (narrow_done s v (eq-eqb _ _ (m ∙ sym many)) (sym none_wide) _ (rw many (rw (back (entries_in recorded_width t) (omega arith)))))

pub narrowed_back : NarrowedBack
narrowed_back t u s b e m =
    let one = narrowed_by t u b e s m in
    let two = narrowed_by t u b e t refl in
    (sym one.0, sym one.1, sym two.1 ∙ take-append-drop (recorded_width * entries_in recorded_width t) t)

-- ---- refusals

unlike : (a : Result ⊤ Reason) (r : Reason) → a ≡ Ok tt → a ≡ Err r → ⊥
unlike a r p q = let z : ◌≡◌ {A = ℕ} 0 1 = cc in omega arith

module _ (t u : List ℕ) where
  abbrev same : Bool
  same = eqb (entries_in recorded_width t) (entries_in host_width u)

  wide_only : narrow_of u t ≡ Err Reasons.Wide → AsMany t u × Above u 0 (entries_in host_width u)
  wide_only e = go same (some_wide u 0 (entries_in host_width u)) refl refl
    where
      go : (a c : Bool) → same ≡ a → some_wide u 0 (entries_in host_width u) ≡ c → AsMany t u × Above u 0 (entries_in host_width u)
      go false c p q = let z : ◌≡◌ {A = ℕ} 0 1 = cc (narrow_unlike t u p).0 in absurd (omega arith)
      go true true p q = (eqb-true _ _ p, some_at _ u 0 q)
      go true false p q = absurd (unlike _ _ (sym (narrow_done t u p (sym q) _ refl).0) e)

  some-room : AsMany t u → narrow_of u t ≡ Err Reasons.NoRoom → ⊥
  some-room m e = go (some_wide u 0 (entries_in host_width u)) refl
    where
      go : (c : Bool) → some_wide u 0 (entries_in host_width u) ≡ c → ⊥
      go true q = let z : ◌≡◌ {A = ℕ} 0 1 = cc (narrow_wide t u (eq-eqb _ _ m) (sym q)).0 in omega arith
      go false q = unlike _ _ (sym (narrow_done t u (eq-eqb _ _ m) (sym q) _ refl).0) e

pub wide_exactly : WideExactly
wide_exactly t u = (
  (λ e. let h = wide_only t u e in let a = h.1 in (h.0, (a.0, omega (arith, a.2), a.3))),
  (λ h. let a = h.1 in sym (narrow_wide t u (eq-eqb _ _ h.0) (sym (at_some (entries_in host_width u) u 0 a.0 (omega arith) (omega (arith, a.1)) a.2))).0),
)

pub unequal_exactly : UnequalExactly
unequal_exactly t u = (
  ((λ e m. unlike _ _ (sym (widen_done t u (eq-eqb _ _ m) _ refl).0) e), (λ n. sym (widen_unlike t u (ne_eqb _ _ n)).0)),
  ((λ e m. some-room t u m e), (λ n. sym (narrow_unlike t u (ne_eqb _ _ n)).0)),
)

pub refused_leaves : RefusedLeaves
unfolding made_by
refused_leaves t u r = ((λ e. rw e), (λ e. rw e))
