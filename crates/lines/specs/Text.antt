-- What a line's text can be, by document 01, "Feeds, lines and headings" and "What a line can be".
-- Assumes nothing.
use Rattle.std.specs.Prelude.{ℕ, ◌+◌, List, [], ◌∷◌, Option, Some, None, Bool, true, false, not, ◌&&◌, ◌||◌, eqb, ltb, length, take, drop, set}
use Rattle.words.specs.Words.{bytes, begins, run, first_at}
use Rattle.lines.specs.declared.Span.{Span}
use Rattle.lines.specs.declared.Sides.{Sides}
use Rattle.lines.specs.declared.Fields.{Fields}
use Rattle.lines.specs.declared.Form.{Form}
use Rattle.lines.specs.declared.Form.TheVariants.{Opm, Oem}

-- "Blank means byte 32."
abbrev pub is_blank : ℕ → Bool
is_blank b = eqb b 32

-- how many blanks stand first
abbrev pub blanks : List ℕ → ℕ
blanks s = run (λ b. is_blank b) s

-- where the text ends when the blanks at its end are cut: 0 where it has only blanks
unfoldable pub cut_end : List ℕ → ℕ
cut_end [] = 0
cut_end (b ∷ s) = elim (eqb (cut_end s) 0 && is_blank b) [ true ↦ 0 | false ↦ cut_end s + 1 ]

-- a trimmed text, as a part of the text: "blanks cut at both ends". Of only blanks, it is empty and stands first.
unfoldable pub trim_of : List ℕ → Span
trim_of s = record { from = blanks (take (cut_end s) s); to = cut_end s }

-- a part of what stands n bytes further on
abbrev pub moved : ℕ → Span → Span
moved n p = record { from = n + p.from; to = n + p.to }

-- "A line's text is at most 254 bytes": else LONG
abbrev pub is_long : List ℕ → Bool
is_long s = ltb 254 (length s)

-- "of bytes 32 to 126 only": else BYTE
abbrev pub is_odd : ℕ → Bool
is_odd b = ltb b 32 || ltb 126 b

-- the place of the first byte outside 32 to 126, or the length where there is none
abbrev pub odd_at : List ℕ → ℕ
odd_at s = run (λ b. not (is_odd b)) s

-- the place of the first `=`, or the length where there is none
abbrev pub equals_at : List ℕ → ℕ
equals_at s = first_at 61 s

-- "any number of blanks, then [the word], any number of blanks, then `=`. Nothing else about the line matters to this test, not even
-- its length."
unfoldable pub heads : List ℕ → List ℕ → Bool
heads w s =
    let t = drop (blanks s) s in
    let u = drop (length w) t in
    begins w t && begins (bytes "=") (drop (blanks u) u)

-- the message type that a heading line opens
unfoldable pub heading_of : List ℕ → Option Form
heading_of s =
    elim (heads (bytes "CCSDS_OPM_VERS") s) [
      | true ↦ Some Opm
      | false ↦ elim (heads (bytes "CCSDS_OEM_VERS") s) [ true ↦ Some Oem | false ↦ None ]
    ]

-- the end of the text or a blank stands first
unfoldable pub word_ends : List ℕ → Bool
word_ends [] = true
word_ends (b ∷ s) = is_blank b

-- "First word `COMMENT`, followed by a blank or the end of text: a comment, whatever follows, `=` included. Its value is the rest
-- with blanks cut at both ends, possibly empty."
unfoldable pub comment_of : List ℕ → Option Span
comment_of s =
    let n = blanks s + 7 in
    elim (begins (bytes "COMMENT") (drop (blanks s) s) && word_ends (drop n s)) [
      | true ↦ Some (moved n (trim_of (drop n s)))
      | false ↦ None
    ]

-- "Keyword is the text before the first `=`, value field the text after it, both trimmed." n is the place of the `=`.
unfoldable pub sides_of : ℕ → List ℕ → Sides
sides_of n s = record { keyword = trim_of (take n s); value = moved (n + 1) (trim_of (drop (n + 1) s)) }

-- "Contains `=`: an assignment."
unfoldable pub assignment_of : List ℕ → Option Sides
assignment_of s = elim (ltb (equals_at s) (length s)) [ true ↦ Some (sides_of (equals_at s) s) | false ↦ None ]

-- the field in hand, if there is one, then those after it
unfoldable pub field_then : ℕ → ℕ → List Span → List Span
field_then from at rest = elim (ltb from at) [ true ↦ record { from = from; to = at } ∷ rest | false ↦ rest ]

-- "fields parted by runs of blanks": the list is what stands at `at` and after it; the field in hand starts at `from`, if before `at`
unfoldable pub fields_from : ℕ → ℕ → List ℕ → List Span
fields_from from at [] = field_then from at []
fields_from from at (b ∷ s) =
    elim (is_blank b) [
      | true ↦ field_then from at (fields_from (at + 1) (at + 1) s)
      | false ↦ fields_from from (at + 1) s
    ]

abbrev pub fields_in : List ℕ → List Span
fields_in s = fields_from 0 0 s

-- one field more in an array of seven beside its count; the count stops at eight, and an eighth field is only counted
unfoldable pub field_more : Fields → Span → Fields
field_more f p =
    elim (ltb f.count 7) [
      | true ↦ record { count = f.count + 1; spans = set f.spans f.count p }
      | false ↦ record { count = 8; spans = f.spans }
    ]

unfoldable pub gathered : Fields → List Span → Fields
gathered f [] = f
gathered f (p ∷ ps) = gathered (field_more f p) ps

abbrev pub no_span : Span
no_span = record { from = 0; to = 0 }

abbrev pub no_fields : Fields
no_fields = record { count = 0; spans = no_span ∷ no_span ∷ no_span ∷ no_span ∷ no_span ∷ no_span ∷ no_span ∷ [] }

-- "exactly seven fields": the first seven fields of a text beside their count, which says 8 where there are more than seven
abbrev pub split_of : List ℕ → Fields
split_of s = gathered no_fields (fields_in s)
