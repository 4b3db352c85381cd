-- A message of each type written out, settled on the definitions themselves: what goes and what stays.
-- Assumes nothing.
use Rattle.std.specs.Prelude.{ℕ, ◌≡◌, List, ◌++◌}
use Rattle.words.specs.Words.{bytes}
use Rattle.write.specs.Plain.{plain_of}

-- blanks around a keyword, the `=`, a value and a comment's text, units, blank lines, endings of every kind, and what stands before the heading
abbrev pub untidy_opm : List ℕ
untidy_opm =
    bytes "X = 1\r\n  CCSDS_OPM_VERS =  1.0 \r\n\r\n   \r\n COMMENT \r\nCOMMENT    a  = b [KM]  \rCREATION_DATE=2000-01-01T00:00:00.50\n\r"
    ++ bytes "ORIGINATOR= A  B \nOBJECT_NAME = 5 [KM]\nOBJECT_ID=C\nCENTER_NAME=D\nREF_FRAME=E\nTIME_SYSTEM=UTC\nEPOCH=2000-001T00:00:00\n\n"
    ++ bytes "X = +1.0  [KM]\nY=2 [KM] \nZ=03\nX_DOT=4.0E0 [KM/S]\nY_DOT=5\nZ_DOT=-6\n"
    ++ bytes "MASS=1 [KG]\nSOLAR_RAD_AREA=1 [M**2]\nSOLAR_RAD_COEFF=1\nDRAG_AREA=1\nDRAG_COEFF=1"

abbrev pub tidy_opm : List ℕ
tidy_opm =
    bytes "CCSDS_OPM_VERS=1.0\nCOMMENT\nCOMMENT a  = b [KM]\nCREATION_DATE=2000-01-01T00:00:00.50\n"
    ++ bytes "ORIGINATOR=A  B\nOBJECT_NAME=5 [KM]\nOBJECT_ID=C\nCENTER_NAME=D\nREF_FRAME=E\nTIME_SYSTEM=UTC\nEPOCH=2000-001T00:00:00\n"
    ++ bytes "X=+1.0\nY=2\nZ=03\nX_DOT=4.0E0\nY_DOT=5\nZ_DOT=-6\n"
    ++ bytes "MASS=1\nSOLAR_RAD_AREA=1\nSOLAR_RAD_COEFF=1\nDRAG_AREA=1\nDRAG_COEFF=1"

-- META lines, a data line's runs of blanks, a comment at the end, and the next message
abbrev pub untidy_oem : List ℕ
untidy_oem =
    bytes "CCSDS_OEM_VERS=1.0\nCREATION_DATE=2000-01-01T00:00:00\nORIGINATOR=A\n  META_START \nOBJECT_NAME=B\nOBJECT_ID=C\nCENTER_NAME=D\nREF_FRAME=E\n"
    ++ bytes "TIME_SYSTEM=UTC\nSTART_TIME=2000-001T00:00:00\nSTOP_TIME=2000-001T00:00:00\n META_STOP\n\n  2000-01-01T00:00:00   1 2  3 4    5 6  \nCOMMENT  \n"
    ++ bytes "CCSDS_OPM_VERS=1.0\n"

abbrev pub tidy_oem : List ℕ
tidy_oem =
    bytes "CCSDS_OEM_VERS=1.0\nCREATION_DATE=2000-01-01T00:00:00\nORIGINATOR=A\nMETA_START\nOBJECT_NAME=B\nOBJECT_ID=C\nCENTER_NAME=D\nREF_FRAME=E\n"
    ++ bytes "TIME_SYSTEM=UTC\nSTART_TIME=2000-001T00:00:00\nSTOP_TIME=2000-001T00:00:00\nMETA_STOP\n2000-01-01T00:00:00 1 2 3 4 5 6\nCOMMENT"

abbrev pub Tidied : Type 0
Tidied = (plain_of untidy_opm 1 ≡ tidy_opm) × (plain_of untidy_oem 1 ≡ tidy_oem)
