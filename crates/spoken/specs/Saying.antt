-- A value in words for a voice, which leaves marks out or makes other words of them. A value is the list of its bytes: each is said as it stands, but for the marks among its digits.
-- Assumes nothing.
use Rattle.std.specs.Prelude.{ℕ, ◌+◌, List, [], ◌∷◌, ◌++◌}
use Rattle.words.specs.Words.{bytes}
use Rattle.grammar.specs.Rows.{Row, one, pick}
use Rattle.spoken.specs.declared.Mark.{Mark}
use Rattle.spoken.specs.declared.Mark.TheVariants.{Itself, Plus, Minus, Power, Month, Day, Clock, Hours, Minutes}
use Rattle.spoken.specs.declared.Manner.{Manner}
use Rattle.spoken.specs.declared.Manner.TheVariants.{Plain, Numeral, Calendar, Ordinal}

-- the words of a mark; what is no mark is said as it stands
abbrev pub said_by : Mark → List ℕ → List ℕ
said_by Itself s = s
said_by Plus s = bytes "plus "
said_by Minus s = bytes "minus "
said_by Power s = bytes " times ten to the "
said_by Month s = bytes " month "
said_by Day s = bytes " day "
said_by Clock s = bytes ", "
said_by Hours s = bytes " hours "
said_by Minutes s = bytes " minutes "

-- in a number a mark is told by the byte: `+`, `-`, and the exponent's `E` or `e`
abbrev pub numeral_marks : List (Row Mark)
numeral_marks = one 43 Plus ∷ one 45 Minus ∷ one 69 Power ∷ one 101 Power ∷ []

-- in an epoch it is told by its place: in `YYYY-MM-DDThh:mm:ss`
abbrev pub calendar_marks : List (Row Mark)
calendar_marks = one 4 Month ∷ one 7 Day ∷ one 10 Clock ∷ one 13 Hours ∷ one 16 Minutes ∷ []

-- and in `YYYY-DDDThh:mm:ss`
abbrev pub ordinal_marks : List (Row Mark)
ordinal_marks = one 4 Day ∷ one 8 Clock ∷ one 11 Hours ∷ one 14 Minutes ∷ []

-- the mark that a byte is at a place
unfoldable pub mark_at : Manner → ℕ → ℕ → Mark
mark_at Plain i b = Itself
mark_at Numeral i b = pick numeral_marks Itself b
mark_at Calendar i b = pick calendar_marks Itself i
mark_at Ordinal i b = pick ordinal_marks Itself i

-- the bytes from a place on, each as it is said there
unfoldable pub said_from : Manner → ℕ → List ℕ → List ℕ
said_from m i [] = []
said_from m i (b ∷ s) = said_by (mark_at m i b) (b ∷ []) ++ said_from m (i + 1) s

-- words that an epoch alone has
abbrev pub framed : Manner → List ℕ → List ℕ
framed Plain w = []
framed Numeral w = []
framed Calendar w = w
framed Ordinal w = w

-- the words of a value, said in this manner: `minus 2.0842611 times ten to the minus 02`, `year 2026 month 11 day 16, 20 hours 01 minutes 30.5 seconds`
unfoldable pub words_by : Manner → List ℕ → List ℕ
words_by m v = framed m (bytes "year ") ++ (said_from m 0 v ++ framed m (bytes " seconds"))
