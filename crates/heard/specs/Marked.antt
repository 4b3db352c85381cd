-- Values said, settled on the definitions themselves.
-- Assumes nothing.
use Rattle.std.specs.Prelude.{ℕ, ◌≡◌, length, Ok, Err}
use Prim.Native.String.{String}
use Rattle.words.specs.Words.{bytes}
use Rattle.reasons.specs.declared.Reason.TheVariants as Reasons
use Rattle.spoken.specs.Spoken.{spoken_of, words_of}

-- the value of this code is said so, into a buffer of just that length
abbrev Says : ℕ → String → String → Type 0
Says c v w = (words_of c (bytes v) ≡ bytes w) × (spoken_of c (bytes v) (length (bytes w)) ≡ Ok (length (bytes w)))

-- the value of this code is not said, however much room there is
abbrev IsWrong : ℕ → String → Type 0
IsWrong c v = spoken_of c (bytes v) 259 ≡ Err Reasons.Value

-- a number (13, X_DOT) and an integer (43)
abbrev pub Numbers : Type 0
Numbers =
    Says 13 "-2.0842611E-02" "minus 2.0842611 times ten to the minus 02"
    × Says 13 "2.0842611E02" "2.0842611 times ten to the 02"
    × Says 13 "+1.015e+3" "plus 1.015 times ten to the plus 3"
    × Says 13 "-0007.50" "minus 0007.50"
    × Says 43 "-5" "minus 5"
    × Says 43 "+007" "plus 007"

-- an epoch (9) in both forms, and second 60
abbrev pub Epochs : Type 0
Epochs =
    Says 9 "2026-11-16T20:01:30.5" "year 2026 month 11 day 16, 20 hours 01 minutes 30.5 seconds"
    × Says 9 "2026-320T20:01:30" "year 2026 day 320, 20 hours 01 minutes 30 seconds"
    × Says 9 "2016-12-31T23:59:60" "year 2016 month 12 day 31, 23 hours 59 minutes 60 seconds"

-- a text (3), the version (36) and a comment (45) as they stand
abbrev pub Texts : Type 0
Texts = Says 3 "GSOC-1 E-5" "GSOC-1 E-5" × Says 36 "1.0" "1.0" × Says 45 "-5" "-5" × Says 45 "" ""

-- what is not of its kind, a code without a value, and no code; VALUE comes before NO_ROOM, which is one byte short
abbrev pub Wrong : Type 0
Wrong =
    IsWrong 13 "2.0842611E"
    × IsWrong 13 " 5"
    × IsWrong 43 "5.0"
    × IsWrong 9 "2026-11-16"
    × IsWrong 3 ""
    × IsWrong 36 "2.0"
    × IsWrong 37 ""
    × IsWrong 44 ""
    × IsWrong 0 "5"
    × IsWrong 46 "5"
    × (spoken_of 43 (bytes "5.0") 0 ≡ Err Reasons.Value)
    × (spoken_of 43 (bytes "-5") 6 ≡ Err Reasons.NoRoom)

abbrev pub Marked : Type 0
Marked = Numbers × Epochs × Texts × Wrong
