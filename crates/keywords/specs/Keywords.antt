-- The keywords that stand in assignments, with their codes, by document 01, "Keyword codes and order".
-- Assumes nothing.
use Rattle.std.specs.Prelude.{ℕ, List, [], ◌∷◌, Option, Some, None, true, false, eqb, length}
use denote.Ref.{Bor}
use Rattle.words.specs.Words.{bytes, is_word}

-- a keyword and its code
pub record Entry : Type 0 where
  pub code : ℕ
  pub word : List ℕ

abbrev pub is : ℕ → List ℕ → Entry
is n w = record { code = n; word = w }

-- the keywords that stand in assignments, in document 01's order
unfoldable pub keywords : List Entry
keywords =
    is 1 (bytes "CCSDS_OPM_VERS")
    ∷ is 2 (bytes "CREATION_DATE")
    ∷ is 3 (bytes "ORIGINATOR")
    ∷ is 4 (bytes "OBJECT_NAME")
    ∷ is 5 (bytes "OBJECT_ID")
    ∷ is 6 (bytes "CENTER_NAME")
    ∷ is 7 (bytes "REF_FRAME")
    ∷ is 8 (bytes "TIME_SYSTEM")
    ∷ is 9 (bytes "EPOCH")
    ∷ is 10 (bytes "X")
    ∷ is 11 (bytes "Y")
    ∷ is 12 (bytes "Z")
    ∷ is 13 (bytes "X_DOT")
    ∷ is 14 (bytes "Y_DOT")
    ∷ is 15 (bytes "Z_DOT")
    ∷ is 16 (bytes "SEMI_MAJOR_AXIS")
    ∷ is 17 (bytes "ECCENTRICITY")
    ∷ is 18 (bytes "INCLINATION")
    ∷ is 19 (bytes "RA_OF_ASC_NODE")
    ∷ is 20 (bytes "ARG_OF_PERICENTER")
    ∷ is 21 (bytes "TRUE_ANOMALY")
    ∷ is 22 (bytes "MEAN_ANOMALY")
    ∷ is 23 (bytes "GM")
    ∷ is 24 (bytes "MASS")
    ∷ is 25 (bytes "SOLAR_RAD_AREA")
    ∷ is 26 (bytes "SOLAR_RAD_COEFF")
    ∷ is 27 (bytes "DRAG_AREA")
    ∷ is 28 (bytes "DRAG_COEFF")
    ∷ is 29 (bytes "MAN_EPOCH_IGNITION")
    ∷ is 30 (bytes "MAN_DURATION")
    ∷ is 31 (bytes "MAN_DELTA_MASS")
    ∷ is 32 (bytes "MAN_REF_FRAME")
    ∷ is 33 (bytes "MAN_DV_1")
    ∷ is 34 (bytes "MAN_DV_2")
    ∷ is 35 (bytes "MAN_DV_3")
    ∷ is 36 (bytes "CCSDS_OEM_VERS")
    ∷ is 38 (bytes "START_TIME")
    ∷ is 39 (bytes "USEABLE_START_TIME")
    ∷ is 40 (bytes "USEABLE_STOP_TIME")
    ∷ is 41 (bytes "STOP_TIME")
    ∷ is 42 (bytes "INTERPOLATION")
    ∷ is 43 (bytes "INTERPOLATION_DEGREE")
    ∷ []

-- the code of the first of some keywords that the text is, where it is one of them
unfoldable pub code_in : List Entry → List ℕ → Option ℕ
code_in [] s = None
code_in (k ∷ ks) s = elim (is_word k.word s) [ true ↦ Some k.code | false ↦ code_in ks s ]

-- the keywords of one length, in their order
unfoldable pub sized : ℕ → List Entry → List Entry
sized n [] = []
sized n (k ∷ ks) = elim (eqb n (length k.word)) [ true ↦ k ∷ sized n ks | false ↦ sized n ks ]

-- some keywords as the code's table holds them: each beside its code
unfoldable pub entries : List (ℕ × Bor (List ℕ)) → List Entry
entries [] = []
entries (k ∷ ks) = is k.0 k.1.now ∷ entries ks
