-- Laws of bytes put one behind the other.
-- Assumes nothing.
use mathlib.Core.Path.{◌≡◌, sym, ap, ◌∙◌, subst}
use mathlib.Core.List.{List, [], ◌++◌}
use Prim.Native.Nat.{ℕ, ◌+◌, ◌≤◌}
use native.Mathlib.Omega.{arith}
use lib.ListN.{length, drop}
use lib.Seq.{sets, sets-eq}
use Rattle.ink.specs.Ink.{Lawful}

-- all of it, in a buffer that has room for it
pub put_whole : (o b : List ℕ) → length o ≤ length b → sets b 0 o ≡ o ++ drop (length o) b
put_whole o b h =
    let z : 0 + length o ≡ length o = omega arith in
    sets-eq o b 0 (omega arith) ∙ rw z

-- ---- what is left to be put

-- `o` behind `x` is what `p` behind `y` is, and there is room for it
pub record Left {A : Type 0} (after : A → List ℕ → A) (room : A → List ℕ → Type 0) (x : A) (o : List ℕ) (y : A) (p : List ℕ) : Type 0 where
  pub same : after x o ≡ after y p
  pub fits : room y p

module _ {A : Type 0} {after : A → List ℕ → A} {room : A → List ℕ → Type 0} where
  pub left_start : {x : A} {o p : List ℕ} → o ≡ p → room x o → Left after room x o x p
  left_start {x} e r = record { same = ap (after x) e; fits = subst (λ (l : List ℕ). room x l) e r }

  pub left_same : {x y : A} {o p q : List ℕ} → p ≡ q → Left after room x o y p → Left after room x o y q
  left_same {x} {y} {o} e l = subst (λ (k : List ℕ). Left after room x o y k) e l

  pub left_done : Lawful after room → {x y : A} {o p : List ℕ} → Left after room x o y p → p ≡ [] → y ≡ after x o
  left_done w {y = y} l e = sym (w.put_none y) ∙ ap (after y) (sym e) ∙ sym l.same

  module _ (w : Lawful after room) {x y : A} {o : List ℕ} (p q : List ℕ) (l : Left after room x o y (p ++ q)) where
    pub left_room : room y p
    left_room = w.room_first y p q l.fits

    pub left_turn : {z : A} → z ≡ after y p → Left after room x o z q
    left_turn e = record { same = l.same ∙ sym (w.put_then y p q) ∙ ap (λ (i : A). after i q) (sym e); fits = subst (λ (i : A). room i q) (sym e) (w.room_then y p q l.fits) }
