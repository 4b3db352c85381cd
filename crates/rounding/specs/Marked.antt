-- Numbers said, settled on the definitions themselves.
-- Assumes nothing.
use Prim.Native.String.{String}
use Rattle.std.specs.Prelude.{ℕ, ◌≡◌, pos, negsuc, Result, Ok, Err, ℤ}
use Rattle.words.specs.Words.{bytes}
use Rattle.reasons.specs.declared.Reason.TheVariants as Reasons
use Rattle.rounding.specs.Say.{say_of}
use Rattle.reasons.specs.declared.Reason.{Reason}

abbrev said : String → ℕ → Result ℤ Reason
said text decimals = say_of (bytes text) decimals

-- "`-0.4` at 0 decimals is 0", and the halves about zero go away from it
abbrev pub Halves : Type 0
Halves =
    (said "-0.4" 0 ≡ Ok (pos 0))
    × (said "-0.5" 0 ≡ Ok (negsuc 0))
    × (said "0.5" 0 ≡ Ok (pos 1))
    × (said "2.5" 0 ≡ Ok (pos 3))
    × (said "0.05" 1 ≡ Ok (pos 1))

-- the limit itself is said, and a decimal more is too big
abbrev pub Limit : Type 0
Limit =
    (said "1.0E15" 0 ≡ Ok (pos 1000000000000000))
    × (said "1.0E15" 1 ≡ Err Reasons.TooBig)
    × (said "9.999999999999999E14" 0 ≡ Ok (pos 1000000000000000))
    × (said "9.999999999999999E14" 1 ≡ Err Reasons.TooBig)

-- a thousand zeros on either side
abbrev pub Far : Type 0
Far =
    (said "9.9E-999" 6 ≡ Ok (pos 0))
    × (said "-1.0E999" 0 ≡ Err Reasons.TooBig)
    × (said "-0.0E999" 6 ≡ Ok (pos 0))

-- what is no number, and which check comes first
abbrev pub NoNumber : Type 0
NoNumber =
    (said "1000000000000000.4" 0 ≡ Err Reasons.Value)
    × (said "" 0 ≡ Err Reasons.Value)
    × (said " 1.5" 0 ≡ Err Reasons.Value)
    × (said "1.5 [KM]" 6 ≡ Err Reasons.Value)
    × (said "" 7 ≡ Err Reasons.Places)
    × (said "1.0E999" 7 ≡ Err Reasons.Places)

abbrev pub Marked : Type 0
Marked = Halves × Limit × Far × NoNumber
