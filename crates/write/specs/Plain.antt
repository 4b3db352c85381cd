-- A message in one plain form, by document 02, (iii): a message's rows to lines. It reads off the rows and the feed, and nothing else.
-- Assumes nothing.
use Rattle.std.specs.Prelude.{ℕ, List, [], ◌∷◌, ◌++◌, map, Bool, true, false, not, ◌&&◌, eqb, length, take, drop}
use Rattle.words.specs.Words.{bytes}
use Rattle.keywords.specs.Keywords.{Entry, keywords}
use Rattle.grammar.specs.Rows.{between}
use Rattle.lines.specs.declared.Form.{Form}
use Rattle.lines.specs.declared.Form.TheVariants.{Opm, Oem}
use Rattle.judge.specs.Message.{rows_of}
use Rattle.judge.specs.declared.Row.{Row}

-- what is written of a row: its code, and its value's bytes
pub record Item : Type 0 where
  pub code : ℕ
  pub value : List ℕ

abbrev pub item : ℕ → List ℕ → Item
item c v = record { code = c; value = v }

abbrev pub item_of : List ℕ → Row → Item
item_of f r = item r.code (take r.length (drop r.start f))

-- the word of a code
unfoldable pub word_in : List Entry → ℕ → List ℕ
word_in [] c = []
word_in (k ∷ ks) c = elim (eqb c k.code) [ true ↦ k.word | false ↦ word_in ks c ]

abbrev pub word_of : ℕ → List ℕ
word_of c = word_in keywords c

-- "comments as `COMMENT`, one blank and the text, or `COMMENT` alone when empty"
abbrev pub comment_lead : Bool → List ℕ
comment_lead true = bytes "COMMENT"
comment_lead false = bytes "COMMENT "

-- what stands on a line before its value: "assignments as `KEYWORD=value`, META lines as the keyword"
unfoldable pub lead_of : ℕ → Bool → List ℕ
lead_of c empty =
    elim (eqb c 37) [
      | true ↦ bytes "META_START"
      | false ↦
          elim (eqb c 44) [
            | true ↦ bytes "META_STOP"
            | false ↦ elim (eqb c 45) [ true ↦ comment_lead empty | false ↦ word_of c ++ bytes "=" ]
          ]
    ]

-- a data line's fields: 9 to 15 in an OEM
unfoldable pub is_field : Form → ℕ → Bool
is_field Opm c = false
is_field Oem c = between 9 15 c

-- a row as it is written
unfoldable pub words_of : Form → Item → List ℕ
words_of f i = elim (is_field f i.code) [ true ↦ i.value | false ↦ lead_of i.code (eqb (length i.value) 0) ++ i.value ]

-- what parts it from the row before: "data fields parted by one blank, an LF between lines"
unfoldable pub parting_of : Form → ℕ → ℕ
parting_of f c = elim (is_field f c && not (eqb c 9)) [ true ↦ 32 | false ↦ 10 ]

-- some rows, each behind what parts it from the one before
unfoldable pub behind : Form → List Item → List ℕ
behind f [] = []
behind f (i ∷ is) = parting_of f i.code ∷ words_of f i ++ behind f is

-- all of a message's rows: "an LF between lines and none after the last, no units, no blank lines"
unfoldable pub plain : Form → List Item → List ℕ
plain f [] = []
plain f (i ∷ is) = words_of f i ++ behind f is

-- the message type, by its first row's code
unfoldable pub type_of : List Item → Form
type_of [] = Opm
type_of (i ∷ is) = elim (eqb i.code 36) [ true ↦ Oem | false ↦ Opm ]

-- message k in plain form, where it is accepted
unfoldable pub plain_of : List ℕ → ℕ → List ℕ
plain_of f k = let is = map (item_of f) (rows_of f k) in plain (type_of is) is
