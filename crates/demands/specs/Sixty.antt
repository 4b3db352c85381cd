-- Second 60, by document 02, (ii), settled on the definitions themselves: on epochs, on states, and on messages of both types.
-- Assumes nothing.
use Rattle.std.specs.Prelude.{ℕ, ◌≡◌, Bool, true, false, List, ◌++◌, eqb, get_or, Option, Some, None, Ok, Err}
use Prim.Native.String.{String}
use Rattle.words.specs.Words.{bytes, is_word}
use Rattle.lines.specs.Text.{no_span}
use Rattle.lines.specs.declared.Span.{Span}
use Rattle.lines.specs.declared.Fields.{Fields}
use Rattle.epochs.specs.Epoch.{epoch_of, is_before}
use Rattle.step.specs.Step.{fits_here, part, data_of, past_whole, time_of}
use Rattle.step.specs.declared.State.{State}
use Rattle.reasons.specs.declared.Reason.TheVariants as Reasons
use Rattle.judge.specs.Message.{judge_of, refused}
use Rattle.epochs.specs.declared.Instant.{Instant}

-- ---- epochs

abbrev pub stands : Option Instant → Bool
stands (Some t) = true
stands None = false

-- the text is an epoch for one who says whether second 60 may stand
abbrev pub epoch_stands : Bool → String → Bool
epoch_stands sixty s = stands (epoch_of (bytes s) sixty)

-- both are epochs, and the first is before the second
abbrev pub earlier : Option Instant → Option Instant → Bool
earlier (Some a) (Some b) = is_before a b
earlier (Some a) None = false
earlier None y = false

abbrev pub comes_before : String → String → Bool
comes_before a b = earlier (epoch_of (bytes a) true) (epoch_of (bytes b) true)

-- ---- messages

abbrev pub line : String → String → List ℕ
line word value = bytes word ++ bytes value ++ bytes "\n"

-- a state message with a maneuver: TIME_SYSTEM is line 8, EPOCH line 9 and MAN_EPOCH_IGNITION line 21, the first of 7
abbrev pub opm_of : String → String → String → String → List ℕ
opm_of creation system epoch ignition =
    bytes "CCSDS_OPM_VERS=1.0\n"
    ++ line "CREATION_DATE=" creation
    ++ bytes "ORIGINATOR=A\nOBJECT_NAME=B\nOBJECT_ID=C\nCENTER_NAME=D\nREF_FRAME=E\n"
    ++ line "TIME_SYSTEM=" system
    ++ line "EPOCH=" epoch
    ++ bytes "X=1\nY=2\nZ=3\nX_DOT=4\nY_DOT=5\nZ_DOT=6\nMASS=1\nSOLAR_RAD_AREA=1\nSOLAR_RAD_COEFF=1\nDRAG_AREA=1\nDRAG_COEFF=1\n"
    ++ line "MAN_EPOCH_IGNITION=" ignition
    ++ bytes "MAN_DURATION=1\nMAN_DELTA_MASS=1\nMAN_REF_FRAME=E\nMAN_DV_1=1\nMAN_DV_2=2\nMAN_DV_3=3\n"

-- the first three lines of an ephemeris
abbrev pub head_of : String → List ℕ
head_of creation = bytes "CCSDS_OEM_VERS=1.0\n" ++ line "CREATION_DATE=" creation ++ bytes "ORIGINATOR=A\n"

-- a segment's first ten lines: the times are its lines 7 to 10
abbrev pub until_stop : String → String → String → String → String → List ℕ
until_stop system start useableStart useableStop stop =
    bytes "META_START\nOBJECT_NAME=B\nOBJECT_ID=C\nCENTER_NAME=D\nREF_FRAME=E\n"
    ++ line "TIME_SYSTEM=" system
    ++ line "START_TIME=" start
    ++ line "USEABLE_START_TIME=" useableStart
    ++ line "USEABLE_STOP_TIME=" useableStop
    ++ line "STOP_TIME=" stop

-- its last two: the data line has 7 rows
abbrev pub from_meta_stop : String → List ℕ
from_meta_stop given = bytes "META_STOP\n" ++ bytes given ++ bytes " 1 2 3 4 5 6\n"

-- a segment of 12 lines and 18 rows
abbrev pub segment_of : String → String → String → String → String → String → List ℕ
segment_of system start useableStart useableStop stop given = until_stop system start useableStart useableStop stop ++ from_meta_stop given

abbrev pub plain : String
plain = "2016-12-31T00:00:00"

abbrev pub sixty : String
sixty = "2016-12-31T23:59:60"

-- a segment whose times and data line have one epoch
abbrev pub segment_at : String → String → List ℕ
segment_at system epoch = segment_of system epoch epoch epoch epoch epoch

abbrev pub oem_of : String → String → String → List ℕ
oem_of creation system epoch = head_of creation ++ segment_at system epoch

-- ---- the statement

-- "Second 60 is now right at 23:59, on any date": nowhere else, and no later second anywhere; a fraction of it is one like any other
abbrev pub AsEpoch : Type 0
AsEpoch =
    (epoch_stands true "2016-12-31T23:59:60" ≡ true)
    × (epoch_stands true "2016-366T23:59:60" ≡ true)
    × (epoch_stands true "2001-02-03T23:59:60" ≡ true)
    × (epoch_stands true "2016-12-31T23:59:60.5" ≡ true)
    × (epoch_stands false "2016-12-31T23:59:60" ≡ false)
    × ((may : Bool) → epoch_stands may "2016-12-31T22:59:60" ≡ false)
    × ((may : Bool) → epoch_stands may "2016-12-31T23:58:60" ≡ false)
    × ((may : Bool) → epoch_stands may "2016-12-31T23:59:61" ≡ false)

-- "Epochs compare by day, then second of day up to 86,400, then fraction."
abbrev pub InOrder : Type 0
InOrder =
    (comes_before "2016-12-31T23:59:59.999999999" "2016-12-31T23:59:60" ≡ true)
    × (comes_before "2016-12-31T23:59:60" "2016-366T23:59:60.000000001" ≡ true)
    × (comes_before "2016-12-31T23:59:60.999999999" "2017-01-01T00:00:00" ≡ true)
    × (comes_before "2017-001T00:00:00" "2016-12-31T23:59:60" ≡ false)
    × (comes_before "2016-12-31T23:59:60" "2016-366T23:59:60.0" ≡ false)

-- "exactly `UTC`": TIME_SYSTEM says it by its value alone, and without it second 60 is VALUE, whatever the state, in an assignment and in a data line
abbrev pub InAnyState : Type 0
InAnyState =
    ((st : State) (v : List ℕ) → (past_whole st 8 v).utc ≡ is_word (bytes "UTC") v)
    × ((st : State) (c : ℕ) (p : Span) (s : List ℕ) → eqb c 2 ≡ false → st.utc ≡ false → part p s ≡ bytes sixty → time_of st c p s ≡ Err Reasons.Value)
    × ((st : State) (f : Fields) (s : List ℕ) → fits_here st 9 ≡ true → st.utc ≡ false → part (get_or f.spans 0 no_span) s ≡ bytes sixty
    → data_of st f s ≡ Err Reasons.Value)

-- "for CREATION_DATE always and for the other epochs where the message or segment has TIME_SYSTEM exactly `UTC`"
abbrev pub Standing : Type 0
Standing =
    (judge_of (opm_of sixty "TAI" plain plain) 1 ≡ Ok 27)
    × (judge_of (oem_of sixty "TAI" plain) 1 ≡ Ok 21)
    × (judge_of (opm_of plain "UTC" sixty sixty) 1 ≡ Ok 27)
    × (judge_of (oem_of plain "UTC" sixty) 1 ≡ Ok 21)

-- VALUE under any other time system, at each epoch's line; `utc` and `UTC1` are others
abbrev pub Elsewhere : Type 0
Elsewhere =
    (judge_of (opm_of plain "TAI" sixty sixty) 1 ≡ refused Reasons.Value 9)
    × (judge_of (opm_of plain "TAI" plain sixty) 1 ≡ refused Reasons.Value 21)
    × (judge_of (head_of plain ++ segment_of "TAI" sixty sixty sixty sixty sixty) 1 ≡ refused Reasons.Value 10)
    × (judge_of (head_of plain ++ segment_of "TAI" plain sixty sixty sixty sixty) 1 ≡ refused Reasons.Value 11)
    × (judge_of (head_of plain ++ segment_of "TAI" plain plain sixty sixty sixty) 1 ≡ refused Reasons.Value 12)
    × (judge_of (head_of plain ++ segment_of "TAI" plain plain plain sixty sixty) 1 ≡ refused Reasons.Value 13)
    × (judge_of (head_of plain ++ segment_of "TAI" plain plain plain plain sixty) 1 ≡ refused Reasons.Value 15)
    × (judge_of (opm_of plain "utc" sixty sixty) 1 ≡ refused Reasons.Value 9)
    × (judge_of (oem_of plain "utc" sixty) 1 ≡ refused Reasons.Value 10)
    × (judge_of (opm_of plain "UTC1" sixty sixty) 1 ≡ refused Reasons.Value 9)
    × (judge_of (oem_of plain "UTC1" sixty) 1 ≡ refused Reasons.Value 10)

-- VALUE at another hour or minute, and any later second, for a creation date and under UTC
abbrev pub OffTheClock : Type 0
OffTheClock =
    (judge_of (opm_of "2016-12-31T22:59:60" "UTC" plain plain) 1 ≡ refused Reasons.Value 2)
    × (judge_of (opm_of plain "UTC" "2016-12-31T23:58:60" plain) 1 ≡ refused Reasons.Value 9)
    × (judge_of (opm_of plain "UTC" plain "2016-12-31T23:59:61") 1 ≡ refused Reasons.Value 21)
    × (judge_of (oem_of "2016-12-31T23:58:60" "UTC" plain) 1 ≡ refused Reasons.Value 2)
    × (judge_of (oem_of plain "UTC" "2016-12-31T22:59:60") 1 ≡ refused Reasons.Value 10)
    × (judge_of (oem_of "2016-12-31T23:59:61" "UTC" plain) 1 ≡ refused Reasons.Value 2)

-- a segment goes by its own time system
abbrev pub BySegment : Type 0
BySegment =
    (judge_of (head_of plain ++ segment_at "UTC" sixty ++ segment_at "TAI" plain) 1 ≡ Ok 39)
    × (judge_of (head_of plain ++ segment_at "UTC" sixty ++ segment_at "TAI" sixty) 1 ≡ refused Reasons.Value 22)
    × (judge_of (head_of plain ++ segment_at "TAI" plain ++ segment_at "UTC" sixty) 1 ≡ Ok 39)

abbrev pub Sixty : Type 0
Sixty = AsEpoch × InOrder × InAnyState × Standing × Elsewhere × OffTheClock × BySegment
