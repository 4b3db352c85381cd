-- The marked cases hold by computation on the definitions.
-- Assumes nothing.
use mathlib.Core.Path.{refl}
use Rattle.words.specs.Words.{bytes, run}
use Rattle.values.specs.Number.{sign_len, is_exponent, ends_number, after_whole, is_number, digits_from}
use Rattle.rounding.specs.Say.{signed, said_of, say_of}
use Rattle.rounding.specs.Marked.{Marked}

pub marked : Marked
unfolding bytes run sign_len is_exponent ends_number after_whole is_number digits_from signed said_of say_of
marked =
    ((refl, refl, refl, refl, refl), (refl, refl, refl, refl), (refl, refl, refl), (refl, refl, refl, refl, refl, refl))
