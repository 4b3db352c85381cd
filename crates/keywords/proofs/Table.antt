-- The table of keywords by their length: an arm of a match for each length that a keyword has, and one for the rest.
-- Assumes nothing.
use Rattle.std.proofs.Common.{◌≡◌, refl, sym, ap, ◌∙◌, List, [], ◌∷◌, Bool, true, false, ◌&&◌, ◌||◌, ℕ, suc, eqb, nat_eq, length, Bor, drop, ◌<◌, ◌≤◌, ◌+◌, arith}
use mathlib.Core.Bool.{false≢true}
use native.Mathlib.Numerals.{add-one}
use lib.ListN.{get_or, drop_of_length-le}
use lib.Seq.{drop-cons}
use borrow.Author.Tests.{eqb-true, ne_eqb}
use Rattle.std.specs.Option.{option_eq, option_copied}
use Rattle.std.specs.List.{slice_get}
use Rattle.std.specs.Prelude.{Option, Some, None}
use Rattle.words.specs.Words.{agrees, is_word}
use Rattle.keywords.specs.Keywords.{Entry, keywords, code_in, sized, entries}

-- a word with another first letter is not the text
pub unlike : (w s : List ℕ) (x y : Option (Bor ℕ)) → option_copied x ≡ slice_get s 0 → option_copied y ≡ slice_get w 0
    → option_eq (λ (a b : Bor ℕ). nat_eq a.now b.now) x y ≡ false → false ≡ is_word w s
unfolding is_word agrees
unlike [] [] x y e f n = grind arith
unlike [] (b ∷ s) x y e f n = grind arith
unlike (c ∷ w) [] x y e f n = grind arith
unlike (c ∷ w) (b ∷ s) x y e f n = grind arith

-- only keywords of the text's length can be the text
pub alike : (ks : List Entry) (s : List ℕ) → code_in (sized (length s) ks) s ≡ code_in ks s
unfolding code_in sized is_word
alike [] s = refl
alike (k ∷ ks) s = go (eqb (length s) (length k.word)) refl (alike ks s)
  where
    go : (t : Bool) → eqb (length s) (length k.word) ≡ t → code_in (sized (length s) ks) s ≡ code_in ks s
        → code_in (elim t [ true ↦ k ∷ sized (length s) ks | false ↦ sized (length s) ks ]) s ≡ code_in (k ∷ ks) s
    go true p e = ap (λ n. elim (is_word k.word s) [ true ↦ Some k.code | false ↦ n ]) e
    go false p e = e ∙ rw (p, is_word, code_in)

-- ---- the walk along the keywords of the text's length: the text's code is its code among those from a place on

module _ (g : List (ℕ × Bor (List ℕ))) (s : List ℕ) where
  pub walk_start : entries g ≡ sized (length s) keywords → code_in (entries g) s ≡ code_in keywords s
  walk_start e = rw e (alike keywords s)

  module _ (i : ℕ) (w : code_in (entries (drop i g)) s ≡ code_in keywords s) where
    pub walk_end : length g ≤ i → None ≡ code_in keywords s
    unfolding code_in entries
    walk_end h = rw (drop_of_length-le g h) at w

    module _ (d : ℕ × Bor (List ℕ)) (h : i < length g) where
      turn : code_in (entries (drop i g)) s ≡ elim (is_word (get_or g i d).1.now s) [ true ↦ Some (get_or g i d).0 | false ↦ code_in (entries (drop (suc i) g)) s ]
      unfolding code_in entries
      turn = rw (drop-cons g i d h)

      pub walk_hit : is_word (get_or g i d).1.now s ≡ true → Some (get_or g i d).0 ≡ code_in keywords s
      walk_hit p = sym (rw p at turn) ∙ w

      pub walk_more : is_word (get_or g i d).1.now s ≡ false → code_in (entries (drop (i + 1) g)) s ≡ code_in keywords s
      walk_more p = rw (add-one i) (sym (rw p at turn) ∙ w)

-- none of the arms' lengths, as the match leaves it: the last arm outermost
abbrev pub NoneOf : List ℕ → ℕ → Type 0
NoneOf [] n = Unit
NoneOf (l ∷ ls) n = NoneOf ls n × (n ≡ l → ⊥)

unfoldable pub among : List ℕ → ℕ → Bool
among [] n = false
among (l ∷ ls) n = eqb n l || among ls n

-- each keyword's length is an arm's: computed once, over all keywords
unfoldable pub cover : List ℕ → List Entry → Bool
cover ls [] = true
cover ls (k ∷ ks) = among ls (length k.word) && cover ls ks

far : (ls : List ℕ) (l n : ℕ) → NoneOf ls n → among ls l ≡ true → eqb n l ≡ false
unfolding among
far [] l n h e = absurd (false≢true e)
far (m ∷ ls) l n h e = go (eqb l m) refl e (far ls l n h.0)
  where
    go : (t : Bool) → eqb l m ≡ t → t || among ls l ≡ true → (among ls l ≡ true → eqb n l ≡ false) → eqb n l ≡ false
    go true p q r = ne_eqb n l (λ x. h.1 (x ∙ eqb-true l m p))
    go false p q r = r q

-- so at any other length there is no keyword
absent : (ls : List ℕ) (ks : List Entry) (n : ℕ) → NoneOf ls n → cover ls ks ≡ true → sized n ks ≡ []
unfolding cover sized
absent ls [] n h e = refl
absent ls (k ∷ ks) n h e = go (among ls (length k.word)) refl e (absent ls ks n h)
  where
    go : (t : Bool) → among ls (length k.word) ≡ t → t && cover ls ks ≡ true → (cover ls ks ≡ true → sized n ks ≡ []) → sized n (k ∷ ks) ≡ []
    go true p q r = rw (far ls (length k.word) n h p, sized) (r q)
    go false p q r = absurd (false≢true q)

pub no_length : (ls : List ℕ) (ks : List Entry) (s : List ℕ) → NoneOf ls (length s) → cover ls ks ≡ true → None ≡ code_in ks s
unfolding code_in
no_length ls ks s h e = rw (← alike ks s, absent ls ks (length s) h e)
