-- Laws of reading back: words that stand, and bytes that are themselves.
-- Assumes nothing.
use mathlib.Core.Path.{◌≡◌, refl, ap, ◌∙◌}
use mathlib.Core.List.{List, [], ◌∷◌, ◌++◌}
use mathlib.Core.Bool.{Bool, true, false, ◌&&◌, ◌||◌, and-eq-true_iff, false≢true}
use Prim.Native.Nat.{ℕ, ◌+◌, ◌≤◌}
use native.Mathlib.Omega.{arith}
use lib.Dec.{ltb}
use borrow.Author.Tests.{ltb-true, ne_eqb}
use Rattle.words.specs.Words.{bytes, agrees, begins}
use Rattle.spoken.specs.Saying.{mark_at, said_from}
use Rattle.spoken.specs.declared.Mark.TheVariants.{Itself}
use Rattle.spoken.specs.declared.Manner.{Manner}
use Rattle.heard.specs.Hearing.{Saying, saying, numeral_sayings, epoch_sayings, saying_at, heard_from}

-- a digit or a point (or a slash, which lies between them)
abbrev pub Figure : ℕ → Type 0
Figure b = (46 ≤ b) × (b ≤ 57)

abbrev pub Figures : List ℕ → Type 0
Figures [] = Unit
Figures (b ∷ s) = Figure b × Figures s

-- words that begin with none
unfoldable pub outside : List ℕ → Bool
outside [] = false
outside (w ∷ ws) = ltb w 46 || ltb 57 w

begins-not : (ws : List ℕ) → outside ws ≡ true → (b : ℕ) (s : List ℕ) → Figure b → begins ws (b ∷ s) ≡ false
unfolding outside agrees
begins-not [] e b s f = absurd (false≢true e)
begins-not (w ∷ ws) e b s f = go (ltb w 46) refl e
  where
    go : (t : Bool) → ltb w 46 ≡ t → t || ltb 57 w ≡ true → begins (w ∷ ws) (b ∷ s) ≡ false
    go true q k = rw (ne_eqb b w (omega (arith, ltb-true w 46 q)))
    go false q k = rw (ne_eqb b w (omega (arith, ltb-true 57 w k)))

-- so do all of these
unfoldable pub clear : List Saying → Bool
clear [] = true
clear (x ∷ xs) = outside x.words && clear xs

pub clear_numerals : clear numeral_sayings ≡ true
unfolding clear outside bytes
clear_numerals = refl

pub clear_epochs : clear epoch_sayings ≡ true
unfolding clear outside bytes
clear_epochs = refl

saying_itself : (t : List Saying) → clear t ≡ true → (b : ℕ) (s : List ℕ) → Figure b → saying_at t b s ≡ saying (b ∷ []) (b ∷ [])
unfolding saying_at clear
saying_itself [] k b s f = refl
saying_itself (x ∷ xs) k b s f =
    let e = (and-eq-true_iff _ _).0 k in
    rw (begins-not x.words e.0 b s f, saying_at) (saying_itself xs e.1 b s f)

pub heard_itself : (t : List Saying) → clear t ≡ true → (b : ℕ) (s : List ℕ) → Figure b → heard_from t 0 (b ∷ s) ≡ b ∷ heard_from t 0 s
unfolding heard_from
heard_itself t k b s f = rw (saying_itself t k b s f)

pub heard_figures : (t : List Saying) → clear t ≡ true → (s r : List ℕ) → Figures s → heard_from t 0 (s ++ r) ≡ s ++ heard_from t 0 r
heard_figures t k [] r f = refl
heard_figures t k (b ∷ s) r f = heard_itself t k b (s ++ r) f.0 ∙ ap (λ (l : List ℕ). b ∷ l) (heard_figures t k s r f.1)

-- a text, in which no words stand
pub heard_none : (s : List ℕ) → heard_from [] 0 s ≡ s
unfolding heard_from saying_at
heard_none [] = refl
heard_none (b ∷ s) = ap (λ (l : List ℕ). b ∷ l) (heard_none s)

-- past the last mark each byte is said as it stands
pub said_itself : (m : Manner) (i : ℕ) (s : List ℕ) → ((j b : ℕ) → i ≤ j → mark_at m j b ≡ Itself) → said_from m i s ≡ s
unfolding said_from
said_itself m i [] h = refl
said_itself m i (b ∷ s) h = rw (h i b (omega arith)) (ap (λ (l : List ℕ). b ∷ l) (said_itself m (i + 1) s (λ j a g. h j a (omega arith))))
