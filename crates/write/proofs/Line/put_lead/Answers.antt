-- `write::Line::put_lead` meets its contract: the last arm's code is that of the line's keyword.
-- Assumes nothing.
use mathlib.Core.Path.{sym, subst}
use native.Mathlib.Omega.{arith}
use Rattle.words.specs.Words.{bytes}
use Rattle.write.proofs.Leads.{leads_keyword}
use Rattle.write.proofs.Line.put_lead.Goals as goal

pub put-requires-in_default : goal.put-requires-in_default
put-requires-in_default g c =
    let l = c.args.self.now in
    let one = c.if-self-ne1.false in
    let e = leads_keyword l.step one l.feed.now l.at (l.named one) (omega arith) (omega arith) (omega arith) in
    subst (g.I.Ink.room c.args.ink.now) (sym c.keyword.ensures) (g.met.I.Ink.laws.room_first _ _ (bytes "=") (rw e at c.requires))
