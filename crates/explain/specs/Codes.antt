-- The codes that could have stood in a place, by document 02, (vii).
-- Assumes nothing.
use Rattle.std.specs.Prelude.{ℕ, zero, suc, ◌+◌, List, [], ◌∷◌, Bool, true, false, ◌&&◌, eqb, ltb, set}
use Rattle.reasons.specs.Reasons.{reason_no}
use Rattle.reasons.specs.declared.Reason.{Reason}
use Rattle.grammar.specs.Rows.{Row, all, pick}
use Rattle.grammar.specs.Order.{next_of, allows}
use Rattle.lines.specs.declared.Form.{Form}
use Rattle.lines.specs.declared.Form.TheVariants.{Opm, Oem}
use Rattle.step.specs.declared.State.{State}
use Rattle.explain.specs.declared.Codes.{Codes}

-- "Only codes that can begin a line of this message type count, a data line as 9; comments and the heading codes 1 and 36 don't.": in an OPM the
-- assignments 2 to 35; in an OEM the assignments 2 to 8, a data line, META_START 37, the assignments 38 to 43 and META_STOP 44
abbrev pub beginning : Form → List (Row Bool)
beginning Opm = all 2 35 true ∷ []
beginning Oem = all 2 9 true ∷ all 37 44 true ∷ []

abbrev pub can_begin : Form → ℕ → Bool
can_begin f c = pick (beginning f) false c

-- of n codes from c on, those of which it is so, "in code order"
unfoldable pub those : (ℕ → Bool) → ℕ → ℕ → List ℕ
those p c zero = []
those p c (suc n) = elim (p c) [ true ↦ c ∷ those p (c + 1) n | false ↦ those p (c + 1) n ]

-- a line of this code can begin, and would not be ORDER behind a line of the code `last`
abbrev pub could_stand : Form → ℕ → ℕ → Bool
could_stand f last c = can_begin f c && allows (next_of f last) c

-- "the codes that could have stood there": codes are 1 to 45
abbrev pub codes_behind : Form → ℕ → List ℕ
codes_behind f last = those (could_stand f last) 1 45

-- one code more in an array of four beside its count
unfoldable pub code_more : Codes → ℕ → Codes
code_more x c =
    elim (ltb x.count 4) [
      | true ↦ record { count = x.count + 1; codes = set x.codes x.count c }
      | false ↦ x
    ]

unfoldable pub gathered : Codes → List ℕ → Codes
gathered x [] = x
gathered x (c ∷ cs) = gathered (code_more x c) cs

abbrev pub no_codes : Codes
no_codes = record { count = 0; codes = 0 ∷ 0 ∷ 0 ∷ 0 ∷ [] }

unfoldable pub codes_of : State → Codes
codes_of st = gathered no_codes (codes_behind st.form st.last)

-- "for ORDER and SHORT the codes": of a line that offends, for ORDER
unfoldable pub codes_for : State → Reason → Codes
codes_for st r = elim (eqb (reason_no r) 7) [ true ↦ codes_of st | false ↦ no_codes ]
