-- What may follow what, by document 01, "Keyword codes and order". A line goes by its code: a data line by 9.
-- Assumes nothing.
use Rattle.std.specs.Prelude.{ℕ, ◌+◌, Option, Some, None, Bool, true, false, ◌&&◌, ◌||◌, List, [], ◌∷◌, eqb, leb}
use Rattle.grammar.specs.Rows.{between, Row, each, one, pick}
use Rattle.lines.specs.declared.Form.{Form}
use Rattle.lines.specs.declared.Form.TheVariants.{Opm, Oem}
use Rattle.grammar.specs.declared.Next.{Next}

-- one code alone
abbrev pub only : ℕ → Next
only n = record { low = n; high = n; also = None; end = false }

-- the codes from one to another
abbrev pub one_of : ℕ → ℕ → Next
one_of a b = record { low = a; high = b; also = None; end = false }

-- some codes, each followed by the next one alone
abbrev pub steps : ℕ → ℕ → Row Next
steps l h = each l h (λ n. only (n + 1))

-- "OPM: 1 CCSDS_OPM_VERS, [..] 15 Z_DOT; then none or all of 16 SEMI_MAJOR_AXIS, [..] one of 21 TRUE_ANOMALY or 22 MEAN_ANOMALY, 23 GM; then all of
-- 24 MASS, [..] 28 DRAG_COEFF [..]; then any number of whole sets 29 MAN_EPOCH_IGNITION, [..] 35 MAN_DV_3."
-- Before the first line the code is 0. Where nothing else is said, the next code follows.
abbrev pub opm_order : List (Row Next)
opm_order =
    one 15 (record { low = 16; high = 16; also = Some 24; end = false })
    ∷ one 20 (one_of 21 22)
    ∷ one 21 (only 23)
    ∷ one 28 (record { low = 29; high = 29; also = None; end = true })
    ∷ one 35 (record { low = 29; high = 29; also = None; end = true })
    ∷ steps 0 34
    ∷ []

-- "OEM: 36 CCSDS_OEM_VERS, 2, 3; then one or more segments: 37 META_START, 4, 5, 6, 7, 8, 38 START_TIME, optional 39 USEABLE_START_TIME, optional 40
-- USEABLE_STOP_TIME, 41 STOP_TIME, [..] 44 META_STOP, then one or more data lines". Between 41 and 44 stand none or both of 42 INTERPOLATION and
-- 43 INTERPOLATION_DEGREE, by document 02, (iv): "INTERPOLATION_DEGREE without INTERPOLATION is now ORDER at its line, and INTERPOLATION without a
-- degree is ORDER at META_STOP." The code 45 stands for a comment that follows a data line: "a data line is ORDER if a comment stands between it and
-- an earlier data line of its segment."
abbrev pub oem_order : List (Row Next)
oem_order =
    one 0 (only 36)
    ∷ one 36 (only 2)
    ∷ one 2 (only 3)
    ∷ one 3 (only 37)
    ∷ one 37 (only 4)
    ∷ steps 4 7
    ∷ one 8 (only 38)
    ∷ each 38 40 (λ n. one_of (n + 1) 41)
    ∷ one 41 (record { low = 42; high = 42; also = Some 44; end = false })
    ∷ one 42 (only 43)
    ∷ one 43 (only 44)
    ∷ one 44 (only 9)
    ∷ one 9 (record { low = 9; high = 9; also = Some 37; end = true })
    ∷ one 45 (record { low = 37; high = 37; also = None; end = true })
    ∷ []

abbrev pub opm_next : ℕ → Next
opm_next n = pick opm_order (only 0) n

abbrev pub oem_next : ℕ → Next
oem_next n = pick oem_order (only 0) n

unfoldable pub next_of : Form → ℕ → Next
next_of Opm n = opm_next n
next_of Oem n = oem_next n

abbrev pub is_also : Option ℕ → ℕ → Bool
is_also None n = false
is_also (Some a) n = eqb n a

-- "ORDER: not allowed next, whether repeated, too early or too late."
unfoldable pub allows : Next → ℕ → Bool
allows x n = leb 1 n && (is_also x.also n || between x.low x.high n)
