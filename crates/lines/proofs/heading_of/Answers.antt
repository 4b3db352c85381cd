-- `lines::heading_of` meets its contract: no heading without its first byte; else one word, then the other.
-- Assumes nothing.
use mathlib.Core.Path.{◌≡◌, sym, ◌∙◌}
use mathlib.Core.Bool.{true, false}
use Rattle.words.specs.Words.{bytes}
use Rattle.lines.specs.Text.{heads, heading_of}
use Rattle.lines.proofs.Laws.{no_heading}
use Rattle.lines.proofs.heading_of.Goals as goal

pub returns-then-not-begins_at : goal.returns-then-not-begins_at
unfolding bytes
returns-then-not-begins_at c = sym (no_heading _ _ c.blanks_end.ensures (sym c.begins_at.ensures ∙ c.if-not-begins_at.true))

pub returns-then-heads_with : goal.returns-then-heads_with
unfolding bytes heading_of
returns-then-heads_with c = let e : heads (bytes "CCSDS_OPM_VERS") c.args.text.now ≡ true = sym c.heads_with.ensures ∙ c.if-heads_with.true in
    rw (e, heading_of)

pub returns-then-heads_with-2 : goal.returns-then-heads_with-2
unfolding bytes heading_of
returns-then-heads_with-2 c = let s = c.args.text.now in
    let e : heads (bytes "CCSDS_OPM_VERS") s ≡ false = sym c.heads_with.ensures ∙ c.if-heads_with.false in
    let g : heads (bytes "CCSDS_OEM_VERS") s ≡ true = sym c.heads_with-2.ensures ∙ c.if-heads_with-2.true in
    rw (e, heading_of) (rw g)

pub returns : goal.returns
unfolding bytes heading_of
returns c = let s = c.args.text.now in
    let e : heads (bytes "CCSDS_OPM_VERS") s ≡ false = sym c.heads_with.ensures ∙ c.if-heads_with.false in
    let g : heads (bytes "CCSDS_OEM_VERS") s ≡ false = sym c.heads_with-2.ensures ∙ c.if-heads_with-2.false in
    rw (e, heading_of) (rw g)
