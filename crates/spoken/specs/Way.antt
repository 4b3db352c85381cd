-- Which values are said, and in which manner: those that are right in the kind of their code, by document 01, "Values", and document 02, (ii).
-- Assumes nothing.
use Rattle.std.specs.Prelude.{ℕ, List, Bool, true, false, ◌||◌, eqb, ltb, length, Option, Some, None}
use Rattle.words.specs.Words.{bytes}
use Rattle.lines.specs.Text.{is_long, odd_at}
use Rattle.values.specs.Number.{is_number, is_integer, is_text, is_version}
use Rattle.epochs.specs.Epoch.{shaped, epoch_of}
use Rattle.grammar.specs.Keywords.{kind_of}
use Rattle.grammar.specs.declared.Kind.{Kind}
use Rattle.grammar.specs.declared.Kind.TheVariants.{Version, Text, Integer, Number, Epoch}
use Rattle.spoken.specs.declared.Manner.{Manner}
use Rattle.spoken.specs.declared.Manner.TheVariants.{Plain, Numeral, Calendar, Ordinal}

-- a value that is right is said in this manner
abbrev pub way_if : Bool → Manner → Option Manner
way_if true m = Some m
way_if false m = None

-- an epoch by its form; "Whoever has an epoch read says whether 60 may stand": here it may
unfoldable pub epoch_way : List ℕ → Option Manner
epoch_way v =
    elim (epoch_of v true) [
      | Some t ↦ elim (shaped (bytes "0000-00-00T00:00:00") v) [ true ↦ Some Calendar | false ↦ Some Ordinal ]
      | None ↦ None
    ]

-- by the kind of value
unfoldable pub way_in : Option Kind → List ℕ → Option Manner
way_in (Some Version) v = way_if (is_version v) Plain
way_in (Some Text) v = way_if (is_text v) Plain
way_in (Some Integer) v = way_if (is_integer v) Numeral
way_in (Some Number) v = way_if (is_number v) Numeral
way_in (Some Epoch) v = epoch_way v
way_in None v = None

-- by the code, whose kind of value it is: a comment is any text of "at most 254 bytes, [..] of bytes 32 to 126 only", and every other value is such a text too
unfoldable pub way_of : ℕ → List ℕ → Option Manner
way_of c v =
    elim (is_long v || ltb (odd_at v) (length v)) [
      | true ↦ None
      | false ↦ elim (eqb c 45) [ true ↦ Some Plain | false ↦ way_in (kind_of c) v ]
    ]
