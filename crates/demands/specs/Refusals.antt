-- A refusal of each reason 3 to 11 explained, by document 02, (vii), settled on the definitions themselves: document 01's feed in full with a line altered, put in
-- or left out, and a state message behind it.
-- Assumes nothing.
use Rattle.std.specs.Prelude.{ℕ, ◌-◌, ◌≡◌, List, [], ◌∷◌, ◌++◌, length, replicate, Ok}
use Prim.Native.String.{String}
use Rattle.words.specs.Words.{bytes}
use Rattle.reasons.specs.declared.Reason.{Reason}
use Rattle.reasons.specs.declared.Reason.TheVariants as Reasons
use Rattle.explain.specs.Explain.{plainly, explain_of}
use Rattle.explain.specs.declared.Explained.{Explained}
use Rattle.demands.specs.Marked.{twelve_lines, data_line, feed_in_full}
use Rattle.judge.specs.Message.{refused}

-- reason, line, place and length, and the codes
abbrev pub why : Reason → ℕ → ℕ → ℕ → List ℕ → Explained
why r line start n codes =
    record {
      judged = refused r line;
      start = start;
      length = n;
      listed = record { count = length codes; codes = codes ++ replicate (4 - length codes) 0 };
    }

-- the feed in full up to its twelfth line, then this: it stands at 212 and begins with line 13
abbrev pub thirteenth : List ℕ → Explained
thirteenth s = explain_of (bytes twelve_lines ++ s) 1

-- the feed in full up to START_TIME, its tenth line, then this: it stands at 174
abbrev pub eleventh : String → Explained
eleventh s =
    explain_of
    (bytes "CCSDS_OEM_VERS=1.0\nCREATION_DATE=2000-01-01T00:00:00\nORIGINATOR=A\nMETA_START\nOBJECT_NAME=B\nOBJECT_ID=C\nCENTER_NAME=D\nREF_FRAME=E\nTIME_SYSTEM=UTC\nSTART_TIME=2000-001T00:00:00\n"
    ++ bytes s)
    1

-- behind the feed in full a state message up to EPOCH, its ninth line, then this: it stands at 402
abbrev pub tenth : String → Explained
tenth s =
    explain_of
    (feed_in_full
    ++ (bytes "CCSDS_OPM_VERS=1.0\nCREATION_DATE=2000-01-01T00:00:00\nORIGINATOR=A\nOBJECT_NAME=B\nOBJECT_ID=C\nCENTER_NAME=D\nREF_FRAME=E\nTIME_SYSTEM=UTC\nEPOCH=2000-001T00:00:00\n"
    ++ bytes s))
    2

-- "For LONG the bytes are the text past 254, for BYTE the first such byte"; FORM has "the trimmed line"
abbrev pub OfTheLine : Type 0
OfTheLine =
    (thirteenth (replicate 260 65 ++ bytes "\n") ≡ why Reasons.Long 13 466 6 [])
    × (thirteenth (bytes "2000-01-01T00:00:00 1\t2 3\t4 5 6\n") ≡ why Reasons.Byte 13 233 1 [])
    × (thirteenth (bytes "  2000-01-01T00:00:00 1 2 3 4 5 \n") ≡ why Reasons.Form 13 214 29 [])

-- "for VALUE and TIME_ORDER the value, for UNIT the remainder, for KEYWORD the keyword"; "An empty value lies just past the `=`, an empty keyword at it."
abbrev pub OfItsParts : Type 0
OfItsParts =
    (thirteenth (bytes " OBJECT = B\n") ≡ why Reasons.Keyword 13 213 6 [])
    × (thirteenth (bytes "  = B\n") ≡ why Reasons.Keyword 13 214 0 [])
    × (thirteenth (bytes "2000-01-01T00:00:00 1 2 x 4 y 6\n") ≡ why Reasons.Value 13 236 1 [])
    × (thirteenth (bytes "2000-01-02T00:00:00 1 2 3 4 5 6\n") ≡ why Reasons.TimeOrder 13 212 19 [])
    × (eleventh "STOP_TIME =  \n" ≡ why Reasons.Value 11 185 0 [])
    × (eleventh "STOP_TIME = 1999-365T00:00:00 \n" ≡ why Reasons.TimeOrder 11 186 17 [])
    × (tenth "X = 1. [KM]\n" ≡ why Reasons.Value 10 406 2 [])
    × (tenth "X = 1  [M] \n" ≡ why Reasons.Unit 10 409 3 [])

-- "for ORDER and SHORT the codes that could have stood there, in code order"; "for SHORT nothing, at the message's end". 9 is a data line, 37 META_START.
abbrev pub WithCodes : Type 0
WithCodes =
    (eleventh " META_STOP \n" ≡ why Reasons.Order 11 175 9 (39 ∷ 40 ∷ 41 ∷ []))
    × (thirteenth (bytes "META_STOP\n" ++ bytes data_line) ≡ why Reasons.Order 13 212 9 (9 ∷ []))
    × (thirteenth (bytes data_line ++ (bytes "COMMENT\n" ++ bytes data_line)) ≡ why Reasons.Order 15 252 31 (37 ∷ []))
    × (thirteenth [] ≡ why Reasons.Short 13 212 0 (9 ∷ []))
    × (thirteenth (bytes " \n" ++ feed_in_full) ≡ why Reasons.Short 14 214 0 (9 ∷ []))

-- "1, 2 and acceptance are answered as such"
abbrev pub Refusals : Type 0
Refusals =
    OfTheLine
    × OfItsParts
    × WithCodes
    × (explain_of feed_in_full 1 ≡ plainly (Ok 19))
    × (explain_of feed_in_full 2 ≡ plainly (refused Reasons.NoMessage 0))
