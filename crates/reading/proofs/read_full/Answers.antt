-- `reading::read_full` meets its contract: a turn's bytes stand behind those of the turns before.
-- Assumes nothing.
use Rattle.std.proofs.Common.{◌≡◌, ◌≤◌, ◌+◌, ℕ, List, ◌++◌, length, take, subst, rules, drop_at, length-take-le}
use Rattle.std.specs.Io.KnownBytes.{Consumes}
use Rattle.std.proofs.KnownBytes.{Consumes-trans}
use Rattle.std.proofs.lemmas.Slice.{overwrites}
use borrow.Rule.Slice.PartMut.{put_mid}
use lib.Seq.{take-add, take-append-le}
use Rattle.reading.proofs.read_full.Goals as goal

-- what stands at the front once ys is written behind the first a bytes: those, and then the first n of ys
taken : (a k n : ℕ) (xs ys : List ℕ) → a ≤ length xs → n ≤ length ys → take (a + n) (put_mid a k xs ys) ≡ take a xs ++ take n ys
taken a k n xs ys within fits = search (rules, overwrites, take-add, take-append-le, drop_at, length-take-le)

pub loop-done-preserved : goal.loop-done-preserved
loop-done-preserved g c =
    let read = c.in_ok-n.ensures in
    record {
      within = search rules;
      bytes = subst (Consumes _ _) (search (rules, taken)) (Consumes-trans _ _ _ _ _ c.loop-done.invariant.bytes read.bytes.0);
    }
