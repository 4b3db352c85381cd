-- Words read back to the value: what a listener does who knows the code. Each time some words stand, they are read as what they stand for; any other byte is
-- itself.
-- Assumes nothing.
use Rattle.std.specs.Prelude.{ℕ, zero, suc, ◌-◌, List, [], ◌∷◌, ◌++◌, map, true, false, eqb, length, Option, Some, None}
use Rattle.words.specs.Words.{bytes, begins}
use Rattle.grammar.specs.Keywords.{kind_of}
use Rattle.grammar.specs.declared.Kind.{Kind}
use Rattle.grammar.specs.declared.Kind.TheVariants.{Version, Text, Integer, Number, Epoch}

-- some words, and the bytes that they stand for
pub record Saying : Type 0 where
  pub words : List ℕ
  pub stands : List ℕ

abbrev pub saying : List ℕ → List ℕ → Saying
saying w s = record { words = w; stands = s }

abbrev pub numeral_sayings : List Saying
numeral_sayings =
    saying (bytes "plus ") (bytes "+")
    ∷ saying (bytes "minus ") (bytes "-")
    ∷ saying (bytes " times ten to the ") (bytes "E")
    ∷ []

abbrev pub epoch_sayings : List Saying
epoch_sayings =
    saying (bytes "year ") []
    ∷ saying (bytes " month ") (bytes "-")
    ∷ saying (bytes " day ") (bytes "-")
    ∷ saying (bytes ", ") (bytes "T")
    ∷ saying (bytes " hours ") (bytes ":")
    ∷ saying (bytes " minutes ") (bytes ":")
    ∷ saying (bytes " seconds") []
    ∷ []

-- a text, a comment and the version have no such words
abbrev pub sayings_of : Option Kind → List Saying
sayings_of (Some Number) = numeral_sayings
sayings_of (Some Integer) = numeral_sayings
sayings_of (Some Epoch) = epoch_sayings
sayings_of (Some Version) = []
sayings_of (Some Text) = []
sayings_of None = []

-- the saying that stands first in a text, or its first byte for itself
unfoldable pub saying_at : List Saying → ℕ → List ℕ → Saying
saying_at [] b s = saying (b ∷ []) (b ∷ [])
saying_at (x ∷ xs) b s = elim (begins x.words (b ∷ s)) [ true ↦ x | false ↦ saying_at xs b s ]

-- a text read back, but for so many of its first bytes, which words took that stood before it
unfoldable pub heard_from : List Saying → ℕ → List ℕ → List ℕ
heard_from t k [] = []
heard_from t zero (b ∷ s) = let x = saying_at t b s in x.stands ++ heard_from t (length x.words - 1) s
heard_from t (suc k) (b ∷ s) = heard_from t k s

-- words of a code, read back
abbrev pub heard_of : ℕ → List ℕ → List ℕ
heard_of c w = heard_from (sayings_of (kind_of c)) 0 w

-- `E` and `e` are said alike, so a number is read back with `E`
abbrev pub capital : ℕ → ℕ
capital b = elim (eqb b 101) [ true ↦ 69 | false ↦ b ]

abbrev pub spelled_in : Option Kind → List ℕ → List ℕ
spelled_in (Some Number) v = map (λ b. capital b) v
spelled_in (Some Integer) v = v
spelled_in (Some Epoch) v = v
spelled_in (Some Version) v = v
spelled_in (Some Text) v = v
spelled_in None v = v

abbrev pub spelled_of : ℕ → List ℕ → List ℕ
spelled_of c v = spelled_in (kind_of c) v
