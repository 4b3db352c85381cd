-- Laws of a table's entries put into another table, over both widths, of the search for an entry above 65,535, and of the answers.
-- Assumes nothing.
use mathlib.Core.Path.{◌≡◌, refl, sym, ◌∙◌}
use mathlib.Core.List.{List, ◌++◌, append_assoc}
use mathlib.Core.Bool.{Bool, true, false, ◌||◌}
use Prim.Native.Nat.{ℕ, zero, suc, ◌+◌, ◌-◌, ◌*◌, ◌≤◌, ◌<◌}
use native.Mathlib.Numerals.{add-one}
use native.Mathlib.Nat.{mul-zero, mul-suc, mul-le-mul_left, mul-div-le}
use native.Mathlib.Omega.{arith}
use lib.Dec.{eqb, ltb}
use Rattle.std.specs.List.{IsAnyAnswer, list_any, range_with_len}
use Rattle.std.proofs.lemmas.List.Folds.{list_any_at, list_any_none}
use lib.ListN.{length, drop, length-append, length-drop}
use lib.Seq.{sets, sets-eq, length-sets, drop-drop, take-append_seam, drop-append-add}
use borrow.Author.Tests.{lt-ltb, le-ltb}
use Rattle.reasons.specs.declared.Reason.TheVariants as Reasons
use Rattle.tables.specs.Table.{host_width, recorded_width, entry_bytes, entry_at}
use Rattle.tables.specs.Widths.{entries_in, rewritten, copied, some_wide, widen_of, narrow_of, made_by, widened, narrowed}
use Rattle.tables.proofs.Entries.{bytes-length}
use Rattle.std.specs.Prelude.{Ok, Err}

-- stores behind some bytes
sets_behind : (a s e : List ℕ) → length e ≤ length s → sets (a ++ s) (length a) e ≡ a ++ (e ++ drop (length e) s)
sets_behind a s e h =
    sets-eq e (a ++ s) (length a) (simp length-append (omega arith)) ∙ rw (take-append_seam a s, drop-append-add a s (length e), append_assoc)

pub rewritten-length : (v w : ℕ) (t : List ℕ) (k : ℕ) → length (rewritten v w t k) ≡ w * k
unfolding rewritten
rewritten-length v w t zero = omega arith
rewritten-length v w t (suc k) = simp (length-append, bytes-length) (rw (rewritten-length v w t k, mul-suc w k))

-- the first i entries of t are in u, which else is as u₀ was
pub record Copied (v w : ℕ) (t u₀ u : List ℕ) (i : ℕ) : Type 0 where
  pub some : i ≤ entries_in v t
  pub made : u ≡ rewritten v w t i ++ drop (w * i) u₀
  pub size : length u ≡ length u₀

module _ (v w : ℕ) (t u₀ : List ℕ) where
  pub copy_none : Copied v w t u₀ u₀ 0
  unfolding rewritten
  copy_none = record { some = omega arith; made = rw (mul-zero w); size = refl }

  pub copy_all : (u : List ℕ) (i : ℕ) → Copied v w t u₀ u i → entries_in v t ≤ i → u ≡ copied v w t u₀
  copy_all u i c h = let e : i ≡ entries_in v t = omega arith in rw e at c.made

  module _ (e : entries_in v t ≡ entries_in w u₀) (u : List ℕ) (i : ℕ) (c : Copied v w t u₀ u i) (h : i < entries_in v t) where
    -- the next entry lies in both tables
    pub copy_fits : (v * (i + 1) ≤ length t) × (w * (i + 1) ≤ length u)
    copy_fits = (
      omega (arith, mul-le-mul_left {m = i + 1} {n = entries_in v t} v (omega arith), mul-div-le (length t) v),
      omega (arith, mul-le-mul_left {m = i + 1} {n = entries_in w u₀} w (omega arith), mul-div-le (length u₀) w),
    )

    pub copy_next : (n : ℕ) → n ≡ entry_at v t i → (x : List ℕ) → x ≡ sets u (w * i) (entry_bytes w n) → Copied v w t u₀ x (i + 1)
    unfolding rewritten
    copy_next n q x m =
        let a = rewritten v w t i in
        let b = entry_bytes w (entry_at v t i) in
        let p : w * (i + 1) ≡ w * i + w = rw (add-one i) (mul-suc w i) in
        let l = bytes-length w (entry_at v t i) in
        let r = rewritten-length v w t i in
        let f = copy_fits.1 in
        record {
          some = omega arith;
          made =
              m
              ∙ rw (q, c.made, add-one i, mul-suc w i, ← r)
              (sets_behind a (drop (length a) u₀) b (simp length-drop (omega arith)) ∙ rw (drop-drop (length b) (length a) u₀, l, append_assoc));
          size = rw (m, length-sets) c.size;
        }

-- ---- an entry above 65,535, looked for by std's search

abbrev pub is_wide : List ℕ → ℕ → Bool
is_wide u i = ltb 65535 (entry_at host_width u i)

wide_any : (u : List ℕ) (i k : ℕ) → list_any (is_wide u) (range_with_len i k) ≡ some_wide u i k
unfolding some_wide
wide_any u i zero = refl
wide_any u i (suc k) = rw (wide_any u (i + 1) k) (either (is_wide u i) _)
  where
    either : (b c : Bool) → (b || c) ≡ elim b [ true ↦ true | false ↦ c ]
    either true c = refl
    either false c = refl

pub wide_found : (u : List ℕ) (k : ℕ) (b : Bool) → IsAnyAnswer (λ i a. is_wide u i ≡ a) (range_with_len 0 k) b → b ≡ some_wide u 0 k
wide_found u k true m = sym (list_any_at (is_wide u) (range_with_len 0 k) m.0 0 m.1 (m.2 0)) ∙ wide_any u 0 k
wide_found u k false m = sym (list_any_none (is_wide u) (range_with_len 0 k) (λ j d h. m j d (omega arith) h)) ∙ wide_any u 0 k

-- ---- the same, step by step

module _ (u : List ℕ) (i k : ℕ) where
  pub wide_here : i < k → 65535 < entry_at host_width u i → some_wide u i (k - i) ≡ true
  unfolding some_wide
  wide_here h e = let q : k - i ≡ suc (k - (i + 1)) = omega arith in rw q (rw (lt-ltb _ _ e, some_wide))

  -- the same of an entry as it was read
  pub wide_seen : (v : ℕ) → v ≡ entry_at host_width u i → 65535 < v → i < k → some_wide u i (k - i) ≡ true
  wide_seen v e w h = wide_here h (rw e at w)

  pub wide_on : i < k → entry_at host_width u i ≤ 65535 → some_wide u i (k - i) ≡ some_wide u (i + 1) (k - (i + 1))
  unfolding some_wide
  wide_on h e = let q : k - i ≡ suc (k - (i + 1)) = omega arith in rw q (rw (le-ltb _ _ e, some_wide))

  pub wide_none : k ≤ i → some_wide u i (k - i) ≡ false
  unfolding some_wide
  wide_none h = let q : k - i ≡ 0 = omega arith in rw q

-- ---- the answers and the tables, one law a case: t is a recorded table and u the host's

module _ (t u : List ℕ) where
  module _ (e : eqb (entries_in recorded_width t) (entries_in host_width u) ≡ false) where
    pub widen_unlike : (Err Reasons.NoRoom ≡ widen_of t u) × (u ≡ widened t u)
    unfolding widen_of made_by
    widen_unlike = (rw (e, widen_of), rw (e, widen_of))

    pub narrow_unlike : (Err Reasons.NoRoom ≡ narrow_of u t) × (t ≡ narrowed u t)
    unfolding narrow_of made_by
    narrow_unlike = (rw (e, narrow_of), rw (e, narrow_of))

  module _ (e : eqb (entries_in recorded_width t) (entries_in host_width u) ≡ true) where
    pub widen_done : (x : List ℕ) → x ≡ copied recorded_width host_width t u → (Ok tt ≡ widen_of t u) × (x ≡ widened t u)
    unfolding widen_of made_by
    widen_done x q = (rw (e, widen_of), rw (e, widen_of) q)

    pub narrow_wide : true ≡ some_wide u 0 (entries_in host_width u) → (Err Reasons.Wide ≡ narrow_of u t) × (t ≡ narrowed u t)
    unfolding narrow_of made_by
    narrow_wide q = (rw (e, narrow_of) (rw (← q)), rw (e, narrow_of) (rw (← q)))

    pub narrow_done : false ≡ some_wide u 0 (entries_in host_width u) → (x : List ℕ) → x ≡ copied host_width recorded_width u t
        → (Ok tt ≡ narrow_of u t) × (x ≡ narrowed u t)
    unfolding narrow_of made_by
    narrow_done q x r = (rw (e, narrow_of) (rw (← q)), rw (e, narrow_of) (rw (← q) r))
