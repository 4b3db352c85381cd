-- `epochs::has_shape` walks along the shape: the flag and what is left of both are what the whole was.
-- Assumes nothing.
use mathlib.Core.Path.{◌≡◌}
use mathlib.Core.Bool.{◌&&◌}
use lib.ListN.{drop}
use Rattle.epochs.specs.Epoch.{shaped}
use Rattle.epochs.proofs.has_shape.Given as goal

abbrev pub invariant-loop-i : goal.invariant-loop-i
invariant-loop-i l = shaped l.shape l.text ≡ l.fits && shaped (drop l.i l.shape) (drop l.i l.text)
