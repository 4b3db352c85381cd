-- The keywords that a message type assigns, the kinds of their values and their units, by document 01, "Keyword codes and order" and "Values".
-- Assumes nothing.
use Rattle.std.specs.Prelude.{ℕ, List, [], ◌∷◌, Bool, true, false, ◌||◌, eqb, length, Option, Some, None}
use Rattle.words.specs.Words.{bytes, is_word}
use Rattle.keywords.specs.Keywords.{keywords, code_in}
use Rattle.grammar.specs.Rows.{Row, all, one, pick}
use Rattle.lines.specs.declared.Form.{Form}
use Rattle.lines.specs.declared.Form.TheVariants.{Opm, Oem}
use Rattle.grammar.specs.declared.Kind.{Kind}
use Rattle.grammar.specs.declared.Kind.TheVariants.{Version, Text, Integer, Number, Epoch}

-- the codes that a message type assigns: OPM 1 to 35; OEM 36, 2 to 8 and 38 to 43
abbrev pub assigned : Form → List (Row Bool)
assigned Opm = all 1 35 true ∷ []
assigned Oem = one 36 true ∷ all 2 8 true ∷ all 38 43 true ∷ []

abbrev pub assigns : Form → ℕ → Bool
assigns f n = pick (assigned f) false n

-- "KEYWORD: not an assignment keyword of this message type."
unfoldable pub keyword_of : Form → List ℕ → Option ℕ
keyword_of f s = elim (code_in keywords s) [ Some n ↦ elim (assigns f n) [ true ↦ Some n | false ↦ None ] | None ↦ None ]

-- "Heading value", "Text (3 to 8, 32, 42)", "Integer (43)", "Epoch (2, 9, 29, 38-41)", "Number (the rest, save epochs)"
abbrev pub kinds : List (Row (Option Kind))
kinds =
    one 1 (Some Version)
    ∷ one 36 (Some Version)
    ∷ all 3 8 (Some Text)
    ∷ one 32 (Some Text)
    ∷ one 42 (Some Text)
    ∷ one 43 (Some Integer)
    ∷ one 2 (Some Epoch)
    ∷ one 9 (Some Epoch)
    ∷ one 29 (Some Epoch)
    ∷ all 38 41 (Some Epoch)
    ∷ all 10 35 (Some Number)
    ∷ []

-- META lines and comments assign nothing
abbrev pub kind_of : ℕ → Option Kind
kind_of n = pick kinds None n

-- the unit in brackets that may follow a number
abbrev pub units : List (Row (List ℕ))
units =
    all 10 12 (bytes "[KM]")
    ∷ one 16 (bytes "[KM]")
    ∷ all 13 15 (bytes "[KM/S]")
    ∷ all 33 35 (bytes "[KM/S]")
    ∷ all 18 22 (bytes "[DEG]")
    ∷ one 23 (bytes "[KM**3/S**2]")
    ∷ one 24 (bytes "[KG]")
    ∷ one 31 (bytes "[KG]")
    ∷ one 25 (bytes "[M**2]")
    ∷ one 27 (bytes "[M**2]")
    ∷ one 30 (bytes "[S]")
    ∷ []

-- empty where there is none: "Codes 17, 26, 28 have none"
abbrev pub unit_of : ℕ → List ℕ
unit_of n = pick units [] n

-- "What follows, trimmed, is empty or exactly the unit in brackets, else UNIT"
unfoldable pub is_unit : ℕ → List ℕ → Bool
is_unit n s = eqb (length s) 0 || is_word (unit_of n) s
