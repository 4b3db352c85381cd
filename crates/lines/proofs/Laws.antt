-- Laws of the definitions on texts, one a case.
-- Assumes nothing.
use mathlib.Core.Path.{◌≡◌, refl, sym, ap, ap₂, ◌∙◌}
use mathlib.Core.List.{List, [], ◌∷◌}
use mathlib.Core.Bool.{Bool, true, false, not, ◌&&◌, ◌||◌, and-false, true≢false}
use Prim.Native.Nat.{ℕ, suc, ◌+◌, ◌-◌, ◌≤◌, ◌<◌}
use native.Mathlib.Numerals.{add-one}
use native.Mathlib.Omega.{arith}
use lib.Dec.{eqb}
use lib.ListN.{length, set, take, drop, length-take, length-drop, drop_of_length-le}
use lib.Seq.{drop-drop}
use borrow.Author.Tests.{eqb-true, eq-eqb, ne_eqb, lt-ltb, le-ltb}
use Rattle.std.specs.Prelude.{cond, reverse}
use Rattle.std.specs.List.{prefix_len}
use Rattle.std.proofs.lemmas.List.{reverse-append, length-reverse}
use Rattle.std.proofs.lemmas.List.Folds.{prefix_len-append}
use Rattle.words.specs.Words.{bytes, agrees, begins, run, first_at}
use Rattle.words.proofs.Laws.{run-le, part_from}
use Rattle.lines.specs.Feed.{is_end, joins, text_len, end_with, end_len, line_len, ends_of}
use Rattle.lines.specs.Text.{is_blank, blanks, cut_end, trim_of, moved, heading_of, heads, comment_of, word_ends, fields_from, field_then, field_more, gathered}
use Rattle.lines.specs.declared.Ends.{Ends}
use Rattle.lines.specs.declared.Span.{Span}
use Rattle.lines.specs.declared.Fields.{Fields}
use Rattle.std.specs.Prelude.{Some, None}

-- ---- blanks cut at the end, seen from the end

-- the blanks at the end, counted from there, are what is cut
pub cut-is : (s : List ℕ) → cut_end s + prefix_len (λ b. is_blank b) (reverse s) ≡ length s
unfolding cut_end
cut-is [] = omega arith
cut-is (b ∷ s) =
    let p : ℕ → Bool = λ x. is_blank x in
    let n = prefix_len p (reverse s) in
    let l : length (reverse s) ≡ length s = length-reverse s in
    let e : prefix_len p (reverse (b ∷ s)) ≡ cond (eqb n (length (reverse s))) (length (reverse s) + cond (p b) 1 0) n
    = ap (prefix_len p) (reverse-append (b ∷ []) s) ∙ prefix_len-append p (reverse s) (b ∷ []) in
    rw e (go (eqb n (length (reverse s))) refl (is_blank b) (cut-is s))
  where
    all : ℕ
    all = prefix_len (λ x. is_blank x) (reverse s)

    go : (t : Bool) → eqb all (length (reverse s)) ≡ t → (u : Bool) → cut_end s + all ≡ length s
        → elim (eqb (cut_end s) 0 && u) [ true ↦ 0 | false ↦ cut_end s + 1 ] + cond t (length (reverse s) + cond u 1 0) all ≡ suc (length s)
    go true q true h =
        let z : cut_end s ≡ 0 = omega (arith, eqb-true all (length (reverse s)) q, length-reverse s) in
        rw (eq-eqb (cut_end s) 0 z) (omega (arith, length-reverse s))
    go true q false h = rw (and-false (eqb (cut_end s) 0)) (omega (arith, eqb-true all (length (reverse s)) q, length-reverse s))
    go false q u h =
        let z : cut_end s ≡ 0 → ⊥ = λ k. true≢false (sym (eq-eqb all (length (reverse s)) (omega (arith, length-reverse s))) ∙ q) in
        rw (ne_eqb (cut_end s) 0 z) (omega arith)

-- ---- fields, seen from a place

none_in_hand : (at : ℕ) → field_then at at [] ≡ []
unfolding field_then
none_in_hand at = rw (le-ltb at at (omega arith), field_then)

-- the field in hand runs to the next blank, and the others start behind it
fields_on : (s : List ℕ) (from at n : ℕ) → n ≡ at + first_at 32 s
    → fields_from from at s ≡ field_then from n (fields_from (n + 1) (n + 1) (drop (first_at 32 s + 1) s))
unfolding run fields_from
fields_on [] from at n e =
    let k : at ≡ n = omega arith in
    rw k (ap (field_then from n) (sym (none_in_hand (n + 1))))
fields_on (b ∷ s) from at n e = go (is_blank b) e (λ q. fields_on s from (at + 1) n q)
  where
    go : (t : Bool) → n ≡ at + elim (not t) [ true ↦ first_at 32 s + 1 | false ↦ 0 ]
        → (n ≡ at + 1 + first_at 32 s → fields_from from (at + 1) s ≡ field_then from n (fields_from (n + 1) (n + 1) (drop (first_at 32 s + 1) s)))
        → elim t [ true ↦ field_then from at (fields_from (at + 1) (at + 1) s) | false ↦ fields_from from (at + 1) s ]
        ≡ field_then from n (fields_from (n + 1) (n + 1) (drop (elim (not t) [ true ↦ first_at 32 s + 1 | false ↦ 0 ] + 1) (b ∷ s)))
    go true q g = ap (λ (k : ℕ). field_then from k (fields_from (k + 1) (k + 1) s)) (omega arith)
    go false q g = rw (add-one (first_at 32 s + 1)) (g (omega arith))

module _ (s : List ℕ) (from : ℕ) where
  pub fields_next : (to : ℕ) → to ≡ from + first_at 32 (drop from s)
      → fields_from from from (drop from s) ≡ field_then from to (fields_from (to + 1) (to + 1) (drop (to + 1) s))
  fields_next to e =
      let k : from + (first_at 32 (drop from s) + 1) ≡ to + 1 = omega arith in
      fields_on (drop from s) from from to e ∙ rw (drop-drop (first_at 32 (drop from s) + 1) from s, k)

  pub fields_end : length s ≤ from → fields_from from from (drop from s) ≡ []
  unfolding fields_from
  fields_end h = rw (drop_of_length-le s h) (none_in_hand from)

-- the field in hand gathered: there is none, it is kept, or it is only counted
module _ (f : Fields) (from to : ℕ) (ps : List Span) where
  pub gather_none : to ≤ from → gathered f (field_then from to ps) ≡ gathered f ps
  unfolding field_then
  gather_none h = rw (le-ltb from to h, field_then)

  pub gather_kept : from < to → f.count < 7
      → gathered f (field_then from to ps) ≡ gathered (record { count = f.count + 1; spans = set f.spans f.count (record { from = from; to = to }) }) ps
  unfolding field_then field_more gathered
  gather_kept h k = rw (lt-ltb from to h, field_then) (rw (lt-ltb f.count 7 k, field_more))

  pub gather_past : from < to → 7 ≤ f.count → gathered f (field_then from to ps) ≡ gathered (record { count = 8; spans = f.spans }) ps
  unfolding field_then field_more gathered
  gather_past h k = rw (lt-ltb from to h, field_then) (rw (le-ltb f.count 7 k, field_more))

-- ---- the line at a place, as its two walks found it

end_with_two : (b c : ℕ) → end_with b c ≤ 2
unfolding end_with
end_with_two b c = go (joins b c) (is_end b)
  where
    go : (t u : Bool) → elim t [ true ↦ 2 | false ↦ elim u [ true ↦ 1 | false ↦ 0 ] ] ≤ 2
    go true u = omega arith
    go false true = omega arith
    go false false = omega arith

end_with_one : (b : ℕ) → end_with b 0 ≤ 1
unfolding end_with
end_with_one b = go (eqb b 13) (eqb b 10)
  where
    go : (t u : Bool) → elim ((t && false) || (u && false)) [ true ↦ 2 | false ↦ elim (t || u) [ true ↦ 1 | false ↦ 0 ] ] ≤ 1
    go true true = omega arith
    go true false = omega arith
    go false true = omega arith
    go false false = omega arith

pub end-le : (s : List ℕ) → end_len s ≤ length s
unfolding end_len
end-le [] = omega arith
end-le (b ∷ []) = end_with_one b
end-le (b ∷ c ∷ s) = omega (arith, end_with_two b c)

abbrev ends : ℕ → ℕ → Ends
ends e n = record { end = e; next = n }

pub line-is : (f : List ℕ) (from e n : ℕ) → e ≡ from + text_len (drop from f) → n ≡ end_len (drop e f) → ends e (e + n) ≡ ends_of from (drop from f)
unfolding ends_of line_len
line-is f from e n p q =
    let m = text_len (drop from f) in
    let r : n ≡ end_len (drop m (drop from f)) = q ∙ ap (λ (k : ℕ). end_len (drop k f)) p ∙ ap end_len (sym (drop-drop m from f)) in
    ap₂ ends p (omega arith)

-- ---- a trimmed part

pub blanks-le : (s : List ℕ) → blanks s ≤ length s
blanks-le s = run-le (λ b. is_blank b) s

pub cut_le : (s : List ℕ) → cut_end s ≤ length s
unfolding cut_end
cut_le [] = omega arith
cut_le (b ∷ s) = go (eqb (cut_end s) 0 && is_blank b) (cut_le s)
  where
    go : (t : Bool) → cut_end s ≤ length s → elim t [ true ↦ 0 | false ↦ cut_end s + 1 ] ≤ suc (length s)
    go true h = omega arith
    go false h = omega arith

abbrev span : ℕ → ℕ → Span
span f t = record { from = f; to = t }

pub trim_is : (s : List ℕ) (f t : ℕ) → t ≡ cut_end s → f ≡ 0 + blanks (take t s) → span f t ≡ trim_of s
unfolding trim_of
trim_is s f t p q = ap₂ span (omega (arith, q, ap (λ (k : ℕ). blanks (take k s)) p)) p

-- a trimmed part lies in its text
pub trim_within : (s : List ℕ) → ((trim_of s).from ≤ (trim_of s).to) × ((trim_of s).to ≤ length s)
unfolding trim_of
trim_within s =
    (omega (arith, blanks-le (take (cut_end s) s), length-take (cut_end s) s), cut_le s)

-- ---- headings and comments, as the walks found them

module _ (w s : List ℕ) (at : ℕ) (p : at ≡ 0 + blanks s) where
  at_is : blanks s ≡ at
  at_is = omega arith

  pub heads_no : begins w (drop at s) ≡ false → heads w s ≡ false
  unfolding heads
  heads_no e = rw at_is (rw e)

  pub heads_yes : (n : ℕ) → begins w (drop at s) ≡ true → n ≡ at + length w + blanks (drop (at + length w) s)
      → heads w s ≡ begins (bytes "=") (drop n s)
  unfolding heads
  heads_yes n e q =
      rw at_is
      (rw (e, drop-drop (length w) at s) (ap (begins (bytes "=")) (drop-drop _ (at + length w) s ∙ ap (λ (k : ℕ). drop k s) (sym q))))

-- what does not begin with a word's first byte does not begin with the word
begins_first : (b : ℕ) (w s : List ℕ) → begins (b ∷ []) s ≡ false → begins (b ∷ w) s ≡ false
unfolding agrees
begins_first b w [] e = refl
begins_first b w (a ∷ s) e = go (eqb a b) e
  where
    go : (t : Bool) → t && true ≡ false → t && begins w s ≡ false
    go true q = absurd (true≢false q)
    go false q = refl

module _ (s : List ℕ) (at : ℕ) (p : at ≡ 0 + blanks s) where
  pub no_heading : begins (bytes "C") (drop at s) ≡ false → heading_of s ≡ None
  unfolding bytes heading_of
  no_heading e =
      let o : heads (bytes "CCSDS_OPM_VERS") s ≡ false = heads_no _ s at p (begins_first _ _ _ e) in
      let m : heads (bytes "CCSDS_OEM_VERS") s ≡ false = heads_no _ s at p (begins_first _ _ _ e) in
      rw (o, heading_of) (rw m)

  here : blanks s ≡ at
  here = omega arith

  pub comment_other : begins (bytes "COMMENT") (drop at s) ≡ false → comment_of s ≡ None
  unfolding comment_of
  comment_other e = rw (here, comment_of) (rw e)

  pub comment_longer : begins (bytes "COMMENT") (drop at s) ≡ true → word_ends (drop (at + 7) s) ≡ false → comment_of s ≡ None
  unfolding comment_of
  comment_longer e q = rw (here, comment_of) (rw (e, q))

  pub comment_value : begins (bytes "COMMENT") (drop at s) ≡ true → word_ends (drop (at + 7) s) ≡ true
      → comment_of s ≡ Some (moved (at + 7) (trim_of (drop (at + 7) s)))
  unfolding comment_of
  comment_value e q = rw (here, comment_of) (rw (e, q) (rw here))

-- the part from n on, trimmed, lies in the whole
pub part_within : (s : List ℕ) (n : ℕ) (p : Span) → n ≤ length s → p ≡ trim_of (take (length s - n) (drop n s))
    → (n + p.from ≤ n + p.to) × (n + p.to ≤ length s)
part_within s n p h e =
    let w = rw (← (e ∙ ap trim_of (part_from s n))) at (trim_within (drop n s)) in
    (omega (arith, w.0), omega (arith, w.1, length-drop n s))
