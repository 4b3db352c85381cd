-- Texts with no blank at either end, and keyword lines and comments in their plain form: it is parted into what it was made of.
-- Assumes nothing.
use mathlib.Core.Path.{◌≡◌, refl, sym, ap, ◌∙◌}
use mathlib.Core.List.{List, [], ◌∷◌, ◌++◌}
use mathlib.Core.Bool.{true, false, not, ◌&&◌, and-false, and-eq-true_iff}
use Prim.Native.Nat.{ℕ, zero, suc, ◌+◌, ◌-◌, ◌≤◌, ◌<◌}
use native.Mathlib.Nat.{add-zero, add-sub_cancel_left, sub-zero, suc-sub-suc, zero-sub, not-suc-le-zero}
use native.Mathlib.Numerals.{add-one, one-add}
use native.Mathlib.Omega.{arith}
use lib.Dec.{eqb}
use lib.ListN.{length, take, drop, length-append, length-take, length-drop}
use lib.Seq.{take-length, length-take-le, take-nil, take-take, drop-drop, take-append_seam, drop-append-add}
use borrow.Author.Tests.{ne_eqb, lt-ltb, not-true}
use Rattle.words.specs.Words.{bytes, agrees, begins, run, first_at}
use Rattle.words.proofs.Laws.{begins-le}
use Rattle.lines.specs.Text.{is_blank, blanks, cut_end, trim_of, moved, equals_at, sides_of, assignment_of, word_ends, comment_of}
use Rattle.lines.specs.declared.Span.{Span}
use Rattle.lines.specs.declared.Sides.{Sides}
use Rattle.lines.proofs.Laws.{cut_le, trim_is, trim_within}
use Rattle.write.proofs.Readings.{whether, either}
use Rattle.write.proofs.Names.{parted}
use Rattle.written.proofs.Bytes.{run_past, pass_split, pass_part, at_run}
use Rattle.step.specs.Step.{part}
use Rattle.step.proofs.Laws.{part_length, trim_inside}
use Rattle.std.specs.Prelude.{Some}

abbrev pub span : ℕ → ℕ → Span
span a b = record { from = a; to = b }

-- ---- texts with no blank at either end: trimming leaves them alone

abbrev pub Trimmed : List ℕ → Type 0
Trimmed s = trim_of s ≡ span 0 (length s)

pub trimmed : (s : List ℕ) → cut_end s ≡ length s → blanks s ≡ 0 → Trimmed s
trimmed s c b = sym (trim_is s 0 (length s) (sym c) (rw take-length (omega arith)))

pub trimmed_end : (s : List ℕ) → Trimmed s → cut_end s ≡ length s
unfolding trim_of
trimmed_end s h = ap (λ (p : Span). p.to) h

trimmed_start : (s : List ℕ) → Trimmed s → blanks s ≡ 0
unfolding trim_of
trimmed_start s h = rw (trimmed_end s h, take-length) at (ap (λ (p : Span). p.from) h)

pub cut_more : (b : ℕ) (s : List ℕ) → eqb (cut_end s) 0 && is_blank b ≡ false → cut_end (b ∷ s) ≡ suc (cut_end s)
unfolding cut_end
cut_more b s e = rw (e, cut_end) (add-one (cut_end s))

-- a text cut at its end is not cut again
cut_cut : (s : List ℕ) → cut_end (take (cut_end s) s) ≡ cut_end s
unfolding cut_end
cut_cut [] = refl
cut_cut (b ∷ s) =
    whether (λ (n : ℕ). cut_end (take n (b ∷ s)) ≡ n) (eqb (cut_end s) 0 && is_blank b) (λ q. refl)
    (λ q. let h = cut_cut s in rw (add-one (cut_end s)) (cut_more b (take (cut_end s) s) (rw h q) ∙ ap suc h))

cut_tail : (b : ℕ) (s : List ℕ) → cut_end (b ∷ s) ≡ suc (length s) → cut_end s ≡ length s
unfolding cut_end
cut_tail b s = either (λ (n : ℕ). n ≡ suc (length s) → cut_end s ≡ length s) (eqb (cut_end s) 0 && is_blank b) (λ e. absurd (omega arith)) (λ e. omega arith)

-- a text that ends in no blank still does where its start is dropped
cut_drop : (n : ℕ) (s : List ℕ) → cut_end s ≡ length s → cut_end (drop n s) ≡ length (drop n s)
cut_drop zero s h = h
cut_drop (suc n) [] h = h
cut_drop (suc n) (b ∷ s) h = cut_drop n s (cut_tail b s h)

-- a part, cut at its end first
slice_part : (f t : ℕ) (s : List ℕ) → drop f (take t s) ≡ take (t - f) (drop f s)
slice_part zero t s = rw (sub-zero t)
slice_part (suc f) zero s = rw (zero-sub (suc f))
slice_part (suc f) (suc t) [] = sym (take-nil (suc t - suc f))
slice_part (suc f) (suc t) (b ∷ s) = rw (suc-sub-suc t f) (slice_part f t s)

-- what was trimmed stays
pub trim_trimmed : (s : List ℕ) → Trimmed (part (trim_of s) s)
unfolding trim_of
trim_trimmed s =
    let t = take (cut_end s) s in
    rw (← slice_part (blanks t) (cut_end s) s)
    (trimmed (drop (blanks t) t) (cut_drop (blanks t) t (cut_cut s ∙ sym (length-take-le (cut_end s) s (cut_le s)))) (at_run (λ b. is_blank b) t).1)

word_ends_lem : (s : List ℕ) → first_at 32 s ≡ length s → (cut_end s ≡ length s) × (blanks s ≡ 0)
unfolding cut_end run
word_ends_lem [] h = (refl, refl)
word_ends_lem (b ∷ s) h =
    let c = pass_split (λ b. not (is_blank b)) b s h in
    let n = not-true (is_blank b) c.0 in
    (cut_more b s (rw n (and-false (eqb (cut_end s) 0))) ∙ ap suc (word_ends_lem s c.1).0, rw (n, run))

-- a text with no blank in it at all
pub word_trimmed : (s : List ℕ) → first_at 32 s ≡ length s → Trimmed s
word_trimmed s h = trimmed s (word_ends_lem s h).0 (word_ends_lem s h).1

pub part_whole : (s : List ℕ) → part (span 0 (length s)) s ≡ s
part_whole s = rw (sub-zero (length s)) (take-length s)

-- one blank in front is cut
trim_blank : (v : List ℕ) → 0 < length v → Trimmed v → trim_of (32 ∷ v) ≡ span 1 (1 + length v)
unfolding run
trim_blank v h k =
    let e = trimmed_end v k in
    let c : cut_end (32 ∷ v) ≡ suc (length v) = cut_more 32 v (rw (ne_eqb (cut_end v) 0 (λ q. omega arith))) ∙ ap suc e in
    sym (trim_is (32 ∷ v) 1 (1 + length v) (omega arith) (rw (one-add (length v)) (omega (arith, ap (λ (t : List ℕ). blanks t) (take-length (32 ∷ v)), trimmed_start v k))))

-- a part of a text's start is that part of the text
part-take : (p : Span) (n : ℕ) (s : List ℕ) → p.to ≤ n → part p (take n s) ≡ part p s
part-take p n s h = rw (← slice_part p.from p.to (take n s), take-take p.to n s h) (slice_part p.from p.to s)

-- a part that is counted from a later place
part_moved : (n : ℕ) (p : Span) (s : List ℕ) → part (moved n p) s ≡ part p (drop n s)
part_moved n p s =
    let e : n + p.to - (n + p.from) ≡ p.to - p.from = omega arith in
    rw (drop-drop p.from n s, e)

pub part-le : (p : Span) (s : List ℕ) → length (part p s) ≤ length s
part-le p s = simp (length-take, length-drop) (omega arith)

-- ---- assignments

module _ (w v : List ℕ) where
  -- the parts of `w=v`
  pub assigned : first_at 61 w ≡ length w → Trimmed w → Trimmed v
      → assignment_of (w ++ (61 ∷ v)) ≡ Some (record { keyword = span 0 (length w); value = span (length w + 1) (length w + 1 + length v) })
  unfolding assignment_of sides_of run
  assigned h k q =
      let e : equals_at (w ++ (61 ∷ v)) ≡ length w = run_past (λ b. not (eqb b 61)) w (61 ∷ v) h ∙ add-zero (length w) in
      let l : length w < length (w ++ (61 ∷ v)) = simp length-append (omega arith) in
      rw (e, assignment_of)
      (rw (lt-ltb _ _ l) (rw e (rw (take-append_seam w (61 ∷ v), drop-append-add w (61 ∷ v) 1, k, q, add-zero (length w + 1)))))

  pub assigned_keyword : part (span 0 (length w)) (w ++ (61 ∷ v)) ≡ w
  assigned_keyword = rw (sub-zero (length w)) (take-append_seam w (61 ∷ v))

  pub assigned-value : part (span (length w + 1) (length w + 1 + length v)) (w ++ (61 ∷ v)) ≡ v
  assigned-value = rw (add-sub_cancel_left, drop-append-add w (61 ∷ v) 1) (take-length v)

-- the sides of an assignment, and the plain text of both
pub record Sided (s : List ℕ) (x : Sides) : Type 0 where
  pub keyword : Trimmed (part x.keyword s)
  pub equals : first_at 61 (part x.keyword s) ≡ length (part x.keyword s)
  pub value : Trimmed (part x.value s)
  pub shorter : length (part x.keyword s) + 1 + length (part x.value s) ≤ length s

pub sided : (s : List ℕ) (x : Sides) → assignment_of s ≡ Some x → Sided s x
unfolding sides_of
sided s x e =
    let h = parted s x e in
    let n = equals_at s in
    let k = trim_of (take n s) in
    let v = trim_of (drop (n + 1) s) in
    let pk = part-take k n s (omega (arith, (trim_within (take n s)).1, length-take n s)) in
    let pv = part_moved (n + 1) v s in
    rw h.1 (record {
      keyword = rw (← pk) (trim_trimmed (take n s));
      equals = rw (← pk) (pass_part (λ b. not (eqb b 61)) k (take n s) (at_run (λ b. not (eqb b 61)) s).0);
      value = rw pv (trim_trimmed (drop (n + 1) s));
      shorter = rw (← pk, pv) (omega (arith, h.0, part-le k (take n s), part-le v (drop (n + 1) s), length-take n s, length-drop (n + 1) s));
    })

-- ---- comments

pub comment_empty : comment_of (bytes "COMMENT") ≡ Some (span 7 7)
unfolding comment_of bytes agrees run word_ends trim_of cut_end
comment_empty = refl

module _ (v : List ℕ) where
  -- `COMMENT v`
  pub comment_plain : 0 < length v → Trimmed v → comment_of (bytes "COMMENT" ++ (32 ∷ v)) ≡ Some (span 8 (8 + length v))
  unfolding comment_of bytes agrees run word_ends
  comment_plain h k = ap (λ (p : Span). Some (moved 7 p)) (trim_blank v h k) ∙ ap (λ (n : ℕ). Some (span 8 n)) (omega arith)

  pub comment_part : part (span 8 (8 + length v)) (bytes "COMMENT" ++ (32 ∷ v)) ≡ v
  unfolding bytes
  comment_part = rw (add-sub_cancel_left 8 (length v)) (take-length v)

-- what a comment's text says of its value
pub record Commented (s : List ℕ) (p : Span) : Type 0 where
  pub value : Trimmed (part p s)
  pub room : blanks s + 7 ≤ length s
  -- a blank stands between
  pub shorter : 0 < length (part p s) → 8 + length (part p s) ≤ length s

blank_first : (c b : ℕ) (s : List ℕ) → is_blank b ≡ true → 0 < c → 0 < blanks (take c (b ∷ s))
unfolding run
blank_first zero b s e h = absurd (not-suc-le-zero h)
blank_first (suc c) b s e h = rw (e, run) (omega arith)

-- where a blank stands first, it is cut
word_shorter : (s : List ℕ) → word_ends s ≡ true → 0 < length (part (trim_of s) s) → length (part (trim_of s) s) < length s
unfolding word_ends trim_of
word_shorter [] e h = omega (arith, part-le (trim_of []) [])
word_shorter (b ∷ s) e h =
    let l = part_length (trim_of (b ∷ s)) (b ∷ s) (trim_inside (b ∷ s) _ refl) in
    omega (arith, blank_first (cut_end (b ∷ s)) b s e (omega arith), cut_le (b ∷ s))

pub commented : (s : List ℕ) (p : Span) → comment_of s ≡ Some p → Commented s p
unfolding comment_of bytes
commented s p =
    let n = blanks s + 7 in
    whether (λ c. c ≡ Some p → Commented s p) (begins (bytes "COMMENT") (drop (blanks s) s) && word_ends (drop n s))
    (λ t.
    let b = (and-eq-true_iff (begins (bytes "COMMENT") (drop (blanks s) s)) _).0 t in
    let room : n ≤ length s = omega (arith, begins-le _ (drop (blanks s) s) b.0, length-drop (blanks s) s) in
    let m = part_moved n (trim_of (drop n s)) s in
    let shorter : (0 < length (part (trim_of (drop n s)) (drop n s)) → 8 + length (part (trim_of (drop n s)) (drop n s)) ≤ length s) = λ h. omega (arith, word_shorter (drop n s) b.1 h, length-drop n s) in
    λ e.
    let k : moved n (trim_of (drop n s)) ≡ p = cc in
    rw (← k) (record { value = rw m (trim_trimmed (drop n s)); room = room; shorter = rw m shorter }))
    (λ t e. let z : ◌≡◌ {A = ℕ} 0 1 = cc in absurd (omega arith))
