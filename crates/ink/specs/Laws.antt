-- Each that takes bytes is lawful.
-- Assumes nothing.
use mathlib.Core.Path.{◌≡◌, refl}
use mathlib.Core.List.{List, [], ◌++◌}
use Prim.Native.Nat.{ℕ, ◌+◌}
use native.Mathlib.Omega.{arith}
use lib.ListN.{length, length-append}
use lib.Seq.{length-sets}
use Rattle.words.proofs.Laws.{sets_more}
use Rattle.ink.specs.Ink.{Lawful, counted, Counts, written, Fits}
use Rattle.ink.specs.declared.Ruler.{Ruler}
use Rattle.ink.specs.declared.Pen.{Pen}

counted-none : (r : Ruler) → counted r [] ≡ r
counted-none r = let e : r.len + 0 ≡ r.len = omega arith in rw e refl

counted-more : (r : Ruler) (o p : List ℕ) → counted (counted r o) p ≡ counted r (o ++ p)
counted-more r o p = let e : r.len + length o + length p ≡ r.len + length (o ++ p) = omega (arith, length-append o p) in rw e refl

pub ruler_laws : Lawful counted Counts
ruler_laws = record {
  put_none = counted-none;
  put_then = counted-more;
  room_first = λ r o p h. omega (arith, h, length-append o p);
  room_then = λ r o p h. omega (arith, h, length-append o p);
}

written-none : (p : Pen) → written p [] ≡ p
written-none p = let e : p.len + 0 ≡ p.len = omega arith in rw e refl

written-more : (p : Pen) (o q : List ℕ) → written (written p o) q ≡ written p (o ++ q)
written-more p o q =
    let e : p.len + length o + length q ≡ p.len + length (o ++ q) = omega (arith, length-append o q) in
    rw (e, sets_more o p.buffer.now p.len q) refl

pub pen_laws : Lawful written Fits
pen_laws = record {
  put_none = written-none;
  put_then = written-more;
  room_first = λ p o q h. omega (arith, h, length-append o q);
  room_then = λ p o q h. omega (arith, h, length-append o q, length-sets p.buffer.now p.len o);
}
