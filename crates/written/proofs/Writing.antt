-- A message written out: loaded again it gives the same, written again the same bytes, it is never longer, and it is one message.
-- Assumes nothing.
use Prim.Native.Nat.{ℕ, zero, suc, ◌+◌, ◌-◌, ◌≤◌, ◌<◌}
use mathlib.Core.Path.{◌≡◌, refl, sym, ap, ap₂, ◌∙◌}
use mathlib.Core.List.{List, [], ◌∷◌, ◌++◌, map, map-append}
use mathlib.Core.Bool.{true, false}
use native.Mathlib.Nat.{not-suc-le-zero}
use native.Mathlib.Omega.{arith}
use lib.ListN.{length, take, drop, get_or, replicate, length-append, length-drop, take-append-drop}
use lib.Seq.{take-append-le, drop-append-le, drop-drop}
use borrow.Author.Tests.{le-ltb}
use Rattle.words.specs.Words.{Each}
use Rattle.lines.specs.Feed.{Line, lines}
use Rattle.lines.specs.Text.{no_span, heading_of}
use Rattle.lines.specs.declared.Span.{Span}
use Rattle.step.specs.Step.{Inside, part, fresh_state, step_of}
use Rattle.step.specs.declared.State.{State}
use Rattle.step.specs.declared.Step.{Step}
use Rattle.step.proofs.Sound.{spans}
use Rattle.judge.specs.Message.{is_heading, form_of, from_heading, headings, up_to, message_of, texts, judge_texts, judge_lines, feed_limit, judge_of, group_of, rows_at, rows_from, rows_lines, rows_of, FoundIs}
use Rattle.judge.specs.declared.Row.{Row}
use Rattle.judge.proofs.Laws.{accepted_short, not_missing}
use Rattle.write.specs.Plain.{Item, item, item_of, plain, type_of, plain_of}
use Rattle.write.specs.Written.{answer_of, fitted}
use Rattle.write.specs.Inner.{held}
use Rattle.written.specs.Writing.{WrittenLoads, WrittenAgain, NeverLonger, OneMessage, next_heading, bytes_from, message_bytes}
use Rattle.write.proofs.Heads.{from_head, first_right}
use Rattle.written.proofs.Bytes.{after}
use Rattle.written.proofs.Joined.{lines_joined, Stands, from_stand, Fits, Begins, found}
use Rattle.written.proofs.Spaced.{parts}
use Rattle.written.proofs.PlainTexts.{items_in, items_of, items_texts, groups_texts, plain_line, plains, plains_more, Message, message, message_plain, Opening, opening}
use Rattle.std.specs.Prelude.{Result, Ok, Err}
use Rattle.reasons.specs.declared.Reason.{Reason}

-- ---- rows are what the lines' texts say

module _ (f : List ℕ) where
  -- a part of a line that stands in the feed
  held-part : (l : Line) (p : Span) → Stands f l → Inside p l.text → held f l.start p ≡ part p l.text
  held-part l p e i =
      let s = drop l.start f in
      let t = l.text in
      let r = drop (length t) s in
      let w : t ++ r ≡ s = ap (λ (a : List ℕ). a ++ r) (sym e) ∙ take-append-drop (length t) s in
      ap (take (p.to - p.from)) (sym (drop-drop p.from l.start f) ∙ ap (drop p.from) (sym w) ∙ drop-append-le p.from t r (omega (arith, i.order, i.end)))
      ∙ take-append-le (p.to - p.from) (drop p.from t) r (omega (arith, i.end, length-drop p.from t))

  -- these rows have these codes and values, and these groups
  abbrev pub Rows : List Row → List Item → List ℕ → Type 0
  Rows rs is gs = (map (item_of f) rs ≡ is) × (map (λ (r : Row). r.group) rs ≡ gs)

  -- the first n parts of a line
  rows_at_lem : (l : Line) → Stands f l → (g line n : ℕ) (ps : List Span) (c : ℕ) → n ≤ length ps → ((i : ℕ) → i < n → Inside (get_or ps i no_span) l.text)
      → Rows (rows_at c g line l.start (take n ps)) (items_in c (parts l.text (take n ps))) (replicate n g)
  unfolding rows_at items_in
  rows_at_lem l e g line zero ps c k h = (refl, refl)
  rows_at_lem l e g line (suc n) [] c k h = absurd (not-suc-le-zero k)
  rows_at_lem l e g line (suc n) (p ∷ ps) c k h =
      let ih = rows_at_lem l e g line n ps (c + 1) (omega arith) (λ i j. h (suc i) (omega arith)) in (
        ap₂ (λ (v : List ℕ) (is : List Item). item c v ∷ is) (held-part l p e (h 0 (omega arith))) ih.0,
        ap (λ (gs : List ℕ). g ∷ gs) ih.1,
      )

  rows-texts : (ls : List Line) → Each (Stands f) ls → (st : State) (g line : ℕ) → Rows (rows_from st g line ls) (items_texts st (texts ls)) (groups_texts st g (texts ls))
  unfolding rows_from items_texts groups_texts
  rows-texts [] h st g line = (refl, refl)
  rows-texts (l ∷ ls) h st g line = go (step_of st l.text) refl (λ u j. rows-texts ls h.1 u j (line + 1))
    where
      go : (y : Result Step Reason) → step_of st l.text ≡ y → ((u : State) (j : ℕ) → Rows (rows_from u j (line + 1) ls) (items_texts u (texts ls)) (groups_texts u j (texts ls)))
          → Rows
          (elim y [
            | Err r ↦ rows_from st g (line + 1) ls
            | Ok x ↦
                let j = group_of st.form g x.code in
                rows_at x.code j line l.start (take x.count x.spans) ++ rows_from x.state j (line + 1) ls
          ])
          (elim y [ Err r ↦ items_texts st (texts ls) | Ok x ↦ items_of x l.text ++ items_texts x.state (texts ls) ])
          (elim y [
            | Err r ↦ groups_texts st g (texts ls)
            | Ok x ↦
                let j = group_of st.form g x.code in
                replicate x.count j ++ groups_texts x.state j (texts ls)
          ])
      go (Err r) q ih = ih st g
      go (Ok x) q ih =
          let w = spans st l.text x q in
          let j = group_of st.form g x.code in
          let r = rows_at_lem l h.0 j line x.count x.spans x.code (omega (arith, w.few, w.size)) w.inside in
          let i = ih x.state j in
          (rw (map-append, r.0, i.0), rw (map-append, r.1, i.1))

-- the judgement and the rows of message k, from its lines' texts
pub record Shows (f : List ℕ) (k : ℕ) (st : State) (ts : List (List ℕ)) : Type 0 where
  pub judged : length f ≤ feed_limit → judge_of f k ≡ judge_texts st 1 0 ts
  pub rows : Rows f (rows_of f k) (items_texts st ts) (groups_texts st 0 ts)

-- the state before them goes by any text whose heading is the first line's
pub shows : (f : List ℕ) (k : ℕ) (l : Line) (ls : List Line) → message_of k f ≡ l ∷ ls → (t : List ℕ) → heading_of l.text ≡ heading_of t
    → Shows f k (fresh_state (form_of t)) (texts (l ∷ ls))
unfolding judge_of judge_lines rows_lines
shows f k l ls q t e =
    record { judged = λ h. rw (le-ltb _ _ h, judge_of) (rw q (rw e)); rows = rw q (rw e (rows-texts f (l ∷ ls) (rw q at (from_stand f k)) (fresh_state (form_of t)) 0 1)) }

-- ---- a feed whose first line is its only heading line

abbrev Headless : List ℕ → Type 0
Headless t = is_heading t ≡ false

headless : (ls : List Line) → Each Headless (texts ls) → (headings ls ≡ 0) × (up_to false ls ≡ ls)
unfolding headings up_to
headless [] h = (refl, refl)
headless (l ∷ ls) h =
    let ih = headless ls h.1 in
    (rw (h.0, headings) ih.0, rw (h.0, up_to) (ap (λ (r : List Line). l ∷ r) ih.1))

-- it is one message, of all its lines
alone : (o t p : List ℕ) (ps : List (List ℕ)) → heading_of p ≡ heading_of t → is_heading t ≡ true → Each Headless ps → (ls : List Line) → lines o ≡ ls → texts ls ≡ p ∷ ps
    → (headings ls ≡ 1) × Shows o 1 (fresh_state (form_of t)) (p ∷ ps)
unfolding message_of headings from_heading up_to
alone o t p ps g h r [] q e = let z : ◌≡◌ {A = ℕ} 0 1 = cc in absurd (omega arith)
alone o t p ps g h r (l ∷ ls) q e =
    let a : heading_of l.text ≡ heading_of t = cc in
    let b : texts ls ≡ ps = cc in
    let i : is_heading l.text ≡ true = rw a h in
    let j = headless ls (rw b r) in
    (rw (i, headings) (rw j.0), rw e at (shows o 1 l ls (rw q (rw (i, from_heading) (rw j.1))) t a))

-- ---- what is known of a message that is accepted, and of what is written of it

abbrev Known : List ℕ → ℕ → ℕ → List ℕ → Type 0
Known f k n o =
    ((judge_of o 1 ≡ Ok n) × (map (item_of o) (rows_of o 1) ≡ map (item_of f) (rows_of f k)) × (map (λ (r : Row). r.group) (rows_of o 1) ≡ map (λ (r : Row). r.group) (rows_of f k)))
    × (headings (lines o) ≡ 1) × (length o ≤ message_bytes f k)

module _ (f : List ℕ) (k n : ℕ) (e : judge_of f k ≡ Ok n) where
  module _ (l : Line) (ls : List Line) (q : from_heading k (lines f) ≡ l ∷ ls) (h : Fits f l ls) where
    abbrev t : List ℕ
    t = l.text

    heading : is_heading t ≡ true
    heading = from_head (lines f) k l ls q

    abbrev ts : List (List ℕ)
    ts = texts (up_to false ls)

    abbrev st : State
    st = fresh_state (form_of t)

    read : Shows f k st (t ∷ ts)
    unfolding message_of up_to
    read = shows f k l (up_to false ls) (rw q) t refl

    right : judge_texts st 1 0 (t ∷ ts) ≡ Ok n
    right = sym (read.judged (accepted_short f k n e)) ∙ e

    first : (x : Step) × (step_of st t ≡ Ok x) × (judge_texts x.state 2 (0 + x.count) ts ≡ Ok n)
    first = first_right st 1 0 n t ts right

    abbrev x : Step
    x = first.0

    opened : Opening t st x
    opened = opening t heading x first.1

    abbrev p : List ℕ
    p = plain_line st x t

    abbrev ps : List (List ℕ)
    ps = plains x.state ts

    same : Message st (t ∷ ts) (p ∷ ps) 0 n
    same = rw (plains_more st t ts x first.1 (λ z. omega (arith, opened.count))) at (message (t ∷ ts) st 1 0 n right)

    written : plain_of f k ≡ p ++ after 10 ps
    unfolding plain_of items_texts after
    written =
        let i : items_texts st (t ∷ ts) ≡ items_of x t ++ items_texts x.state ts = rw (first.1, items_texts) in
        rw read.rows.0 (rw (ap type_of i ∙ opened.type (items_texts x.state ts)) (message_plain same))

    known_of : Known f k n (plain_of f k)
    unfolding after bytes_from
    known_of =
        let m = same in
        let s = m.shorter in
        let o = alone (p ++ after 10 ps) t p ps opened.heading heading ((message ts _ _ _ n first.2).headless opened.begun) _ refl (lines_joined p ps m.whole.0 m.whole.1) in
        let b : length (p ++ after 10 ps) ≤ next_heading (length f) ls - l.start = omega (arith, length-append t (after 10 ts), h.0) in
        rw (written, q) (
          (o.1.judged (omega (arith, h.1, accepted_short f k n e)) ∙ m.judged 1, o.1.rows.0 ∙ m.items ∙ sym read.rows.0, o.1.rows.1 ∙ m.groups 0 ∙ sym read.rows.1),
          o.0,
          b,
        )

  known : Known f k n (plain_of f k)
  unfolding FoundIs
  known = go (from_heading k (lines f)) refl (found f k)
    where
      go : (xs : List Line) → from_heading k (lines f) ≡ xs → Begins f xs → Known f k n (plain_of f k)
      go [] q h = absurd (not_missing f k n e q)
      go (l ∷ ls) q h = known_of l ls q h

-- ---- the four theorems

pub written_loads : WrittenLoads
written_loads f k n e = (known f k n e).0

pub written_again : WrittenAgain
unfolding plain_of
written_again f k n e = ap (λ (is : List Item). plain (type_of is) is) (written_loads f k n e).1

pub never_longer : NeverLonger
unfolding answer_of fitted
never_longer f k n e =
    let w = (known f k n e).2 in
    (w, λ room h. rw e (rw (le-ltb room (length (plain_of f k)) (omega arith), fitted)))

pub one_message : OneMessage
one_message f k n e = (known f k n e).1
