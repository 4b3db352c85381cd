-- The numbers that the C face hands over: reason 0 means accepted or answered. On a refusal reason and line are its own, a desk's numbers are the next
-- desk's, and every other field is 0.
-- Assumes nothing.
use Rattle.reasons.specs.Reasons.{reason_no}
use Rattle.std.specs.Prelude.{ℕ, pos, Result, Ok, Err, ⊤, ℤ}
use Rattle.desk.specs.declared.Desk.{Desk}
use Rattle.desk.specs.declared.Ticket.{Ticket}
use Rattle.desk.specs.declared.Placed.{Placed}
use Rattle.explain.specs.declared.Explained.{Explained}
use Rattle.odm.specs.declared.OdmCounted.{OdmCounted}
use Rattle.odm.specs.declared.OdmPlaced.{OdmPlaced}
use Rattle.odm.specs.declared.OdmRow.{OdmRow}
use Rattle.odm.specs.declared.OdmJudged.{OdmJudged}
use Rattle.odm.specs.declared.OdmWritten.{OdmWritten}
use Rattle.odm.specs.declared.OdmRounded.{OdmRounded}
use Rattle.odm.specs.declared.OdmSpoken.{OdmSpoken}
use Rattle.odm.specs.declared.OdmExplained.{OdmExplained}
use Rattle.reasons.specs.declared.Reason.{Reason}
use Rattle.judge.specs.declared.Refusal.{Refusal}
use Rattle.judge.specs.declared.Row.{Row}

abbrev pub counted_nos : Result ℕ Reason → OdmCounted
counted_nos (Ok n) = record { reason = 0; count = n }
counted_nos (Err r) = record { reason = reason_no r; count = 0 }

abbrev pub judged_nos : Result ℕ Refusal → OdmJudged
judged_nos (Ok n) = record { reason = 0; line = 0; rows = n }
judged_nos (Err e) = record { reason = reason_no e.reason; line = e.line; rows = 0 }

-- "a desk as load number and count"
abbrev pub desk_nos : ℕ → ℕ → Desk
desk_nos load count = record { load = record { 0 = load }; count = count }

-- "A ticket is a load number with a row number, from 0; a row number and a load number are never taken for each other."
abbrev pub ticket_nos : ℕ → ℕ → Ticket
ticket_nos load row = record { load = record { 0 = load }; row = record { 0 = row } }

-- the next desk's numbers, and the answer's
abbrev pub placed_nos : Placed → OdmPlaced
placed_nos x =
    let a = judged_nos x.answer in
    record { load = x.desk.load.0; count = x.desk.count; reason = a.reason; line = a.line }

abbrev pub row_nos : Result Row Reason → OdmRow
row_nos (Ok r) = record { reason = 0; code = r.code; group = r.group; line = r.line; start = r.start; length = r.length }
row_nos (Err r) = record { reason = reason_no r; code = 0; group = 0; line = 0; start = 0; length = 0 }

abbrev pub written_nos : Result ℕ Refusal → OdmWritten
written_nos (Ok n) = record { reason = 0; line = 0; length = n }
written_nos (Err e) = record { reason = reason_no e.reason; line = e.line; length = 0 }

abbrev pub rounded_nos : Result ℤ Reason → OdmRounded
rounded_nos (Ok z) = record { reason = 0; units = z }
rounded_nos (Err r) = record { reason = reason_no r; units = pos 0 }

abbrev pub spoken_nos : Result ℕ Reason → OdmSpoken
spoken_nos (Ok n) = record { reason = 0; length = n }
spoken_nos (Err r) = record { reason = reason_no r; length = 0 }

-- the reason alone
abbrev pub resized_no : Result ⊤ Reason → ℕ
resized_no (Ok _) = 0
resized_no (Err r) = reason_no r

-- the judgement's numbers, and beside them where and what
abbrev pub explained_nos : Explained → OdmExplained
explained_nos x =
    let a = judged_nos x.judged in
    record {
      reason = a.reason;
      rows = a.rows;
      line = a.line;
      start = x.start;
      length = x.length;
      count = x.listed.count;
      codes = x.listed.codes;
    }
