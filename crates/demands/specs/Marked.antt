-- The cases that document 01 marks, settled on the definitions themselves, as one listed statement; of second 60 and of a missing degree what
-- document 02, (ii) and (iv), says.
-- Assumes nothing.
use Rattle.std.specs.Prelude.{ℕ, ◌≡◌, Bool, true, false, List, [], ◌∷◌, ◌++◌, length, replicate, Ok}
use Prim.Native.String.{String}
use Rattle.words.specs.Words.{bytes}
use Rattle.lines.specs.Text.{is_long}
use Rattle.values.specs.Number.{is_number, is_integer}
use Rattle.judge.specs.Message.{judge_of, rows_of, refused}
use Rattle.judge.specs.declared.Row.{Row}
use Rattle.tables.specs.Table.{table_bytes}
use Rattle.desk.specs.Placing.{place_of}
use Rattle.desk.specs.declared.Desk.{Desk}
use Rattle.reasons.specs.declared.Reason.TheVariants as Reasons
use Rattle.demands.specs.Sixty.{epoch_stands, Sixty}
use Rattle.demands.specs.Degree.{Degree}

abbrev pub number_stands : String → Bool
number_stands s = is_number (bytes s)

abbrev pub degree_stands : String → Bool
degree_stands s = is_integer (bytes s)

-- a line of n letters
abbrev pub long_at : ℕ → Bool
long_at n = is_long (replicate n 65)

-- "One feed in full": its first twelve lines, and its thirteenth
abbrev pub twelve_lines : String
twelve_lines =
    "CCSDS_OEM_VERS=1.0\nCREATION_DATE=2000-01-01T00:00:00\nORIGINATOR=A\nMETA_START\nOBJECT_NAME=B\nOBJECT_ID=C\nCENTER_NAME=D\nREF_FRAME=E\nTIME_SYSTEM=UTC\nSTART_TIME=2000-001T00:00:00\nSTOP_TIME=2000-001T00:00:00\nMETA_STOP\n"

abbrev pub data_line : String
data_line = "2000-01-01T00:00:00 1 2 3 4 5 6\n"

abbrev pub feed_in_full : List ℕ
feed_in_full = bytes twelve_lines ++ bytes data_line

abbrev pub row : ℕ → ℕ → ℕ → ℕ → ℕ → Row
row c g l s n = record { code = c; group = g; line = l; start = s; length = n }

-- "A fresh desk has load number 0 and holds no rows."
abbrev pub fresh_desk : Desk
fresh_desk = record { load = record { 0 = 0 }; count = 0 }

-- "19 rows"
abbrev pub nineteen_rows : List Row
nineteen_rows =
    row 36 0 1 15 3
    ∷ row 2 0 2 33 19
    ∷ row 3 0 3 64 1
    ∷ row 37 1 4 76 0
    ∷ row 4 1 5 89 1
    ∷ row 5 1 6 101 1
    ∷ row 6 1 7 115 1
    ∷ row 7 1 8 127 1
    ∷ row 8 1 9 141 3
    ∷ row 38 1 10 156 17
    ∷ row 41 1 11 184 17
    ∷ row 44 1 12 211 0
    ∷ row 9 1 13 212 19
    ∷ row 10 1 13 232 1
    ∷ row 11 1 13 234 1
    ∷ row 12 1 13 236 1
    ∷ row 13 1 13 238 1
    ∷ row 14 1 13 240 1
    ∷ row 15 1 13 242 1
    ∷ []

-- "days 2000-02-29 and 2000-366 stand; 1900-02-29, 2001-366, hour 24 [..] are VALUE. `0.5` stands; `.5` and `5.` don't. 2147483647
-- stands as a degree, 2147483648 doesn't. 254 bytes stand, 255 are LONG." "Without line 13: SHORT at 13. Line 12 given twice: ORDER at 13." "Table of 94 entries: NO_ROOM.", which is
-- 376 to 379 bytes by document 02, (vi)
abbrev pub Marked : Type 0
Marked =
    ((may : Bool) → epoch_stands may "2000-02-29T00:00:00" ≡ true)
    × ((may : Bool) → epoch_stands may "2000-366T00:00:00" ≡ true)
    × ((may : Bool) → epoch_stands may "1900-02-29T00:00:00" ≡ false)
    × ((may : Bool) → epoch_stands may "2001-366T00:00:00" ≡ false)
    × ((may : Bool) → epoch_stands may "2000-01-01T24:00:00" ≡ false)
    × Sixty
    × (number_stands "0.5" ≡ true)
    × (number_stands ".5" ≡ false)
    × (number_stands "5." ≡ false)
    × (degree_stands "2147483647" ≡ true)
    × (degree_stands "2147483648" ≡ false)
    × Degree
    × (long_at 254 ≡ false)
    × (long_at 255 ≡ true)
    × (length feed_in_full ≡ 244)
    × (judge_of feed_in_full 1 ≡ Ok 19)
    × (rows_of feed_in_full 1 ≡ nineteen_rows)
    × (judge_of (bytes twelve_lines) 1 ≡ refused Reasons.Short 13)
    × (judge_of (bytes twelve_lines ++ (bytes "META_STOP\n" ++ bytes data_line)) 1 ≡ refused Reasons.Order 13)
    × ((place_of fresh_desk feed_in_full 1 376).answer ≡ refused Reasons.NoRoom 0)
    × ((place_of fresh_desk feed_in_full 1 377).answer ≡ refused Reasons.NoRoom 0)
    × ((place_of fresh_desk feed_in_full 1 378).answer ≡ refused Reasons.NoRoom 0)
    × ((place_of fresh_desk feed_in_full 1 379).answer ≡ refused Reasons.NoRoom 0)
    × ((place_of fresh_desk feed_in_full 1 380).answer ≡ Ok 19)
    × (length (table_bytes nineteen_rows) ≡ 380)
