-- A walk along a message that is written: what its line in hand asks and leaves.
-- Assumes nothing.
use mathlib.Core.Path.{◌≡◌, refl, sym, ap, ap₂, ◌∙◌}
use mathlib.Core.List.{List, [], ◌∷◌, ◌++◌, map, map-append}
use mathlib.Core.Bool.{Bool, true, false, not, ◌&&◌}
use Prim.Native.Nat.{ℕ, zero, suc, ◌+◌, ◌-◌, ◌*◌, ◌≤◌, ◌<◌}
use native.Mathlib.Nat.{suc-mul}
use native.Mathlib.Omega.{arith}
use lib.Dec.{eqb, leb}
use lib.ListN.{length, take, drop, get_or, length-append, length-take, length-drop}
use lib.Seq.{length-take-le, get_or-take}
use borrow.Author.Tests.{leb-true}
use Rattle.words.specs.Words.{bytes}
use Rattle.lines.specs.Feed.{Line, is_end, joins, last_line, lines_from, lines_at, lines, ends_of}
use Rattle.lines.specs.Text.{no_span}
use Rattle.lines.specs.declared.Span.{Span}
use Rattle.keywords.specs.Keywords.{keywords}
use Rattle.lines.specs.declared.Form.{Form}
use Rattle.step.specs.Step.{fresh_state, step_of}
use Rattle.step.specs.declared.State.{State}
use Rattle.step.specs.declared.Step.{Step}
use Rattle.step.proofs.Sound.{Spans, spans}
use Rattle.judge.specs.Message.{is_heading, up_to, texts, judge_texts, judge_of, FoundIs, group_of, rows_at, rows_from, rows_of}
use Rattle.judge.specs.declared.Moved.{Moved}
use Rattle.judge.specs.declared.Found.{Found}
use Rattle.lines.proofs.Lists.{line_left}
use Rattle.judge.proofs.Laws.{left, line_at, rest as rest_of, up_more, AtLine, line-text, judge_found, accepted_short, found_rows}
use Rattle.write.specs.Plain.{Item, item, item_of, comment_lead, lead_of, is_field, words_of, word_in, behind, plain, type_of, plain_of}
use Rattle.write.specs.Inner.{Held, held, ValuesHeld, Named, line_of, items_at, items_from, written_from, plain_from, Writable}
use Rattle.write.proofs.Readings.{either}
use Rattle.write.proofs.Names.{each_word, each_word_lem, Rowed, none, one, seven, rowed, form_kept}
use Rattle.write.proofs.Heads.{from_head, message_type}
use Rattle.write.proofs.Turns.{Lined, lined, behind-append, plain-append}
use Rattle.std.specs.Prelude.{Some, Result, Ok, Err}
use Rattle.reasons.specs.declared.Reason.{Reason}

-- the lines left are accepted
pub record Accepts (st : State) (ls : List Line) : Type 0 where
  pub line : ℕ
  pub rows : ℕ
  pub total : ℕ
  pub right : judge_texts st line rows (texts ls) ≡ Ok total

-- ---- a message is short enough to be counted

-- no keyword is longer than 20 bytes
lead_short : (c : ℕ) (b : Bool) → length (lead_of c b) ≤ 21
unfolding lead_of bytes keywords each_word
lead_short c b =
    let P : List ℕ → Type 0 = λ s. length s ≤ 21 in
    let w = leb-true (length (word_in keywords c)) 20 (each_word_lem (λ n s. leb (length s) 20) c keywords refl refl) in
    either P (eqb c 37) (omega arith)
    (either P (eqb c 44) (omega arith) (either P (eqb c 45) (lead b) (omega (arith, w, length-append (word_in keywords c) (bytes "=")))))
  where
    lead : (b : Bool) → length (comment_lead b) ≤ 21
    lead true = omega arith
    lead false = omega arith

-- a row's words, out of a text of n bytes
word_short : (form : Form) (i : Item) → length (words_of form i) ≤ 21 + length i.value
unfolding words_of
word_short form i =
    either (λ (s : List ℕ). length s ≤ 21 + length i.value) (is_field form i.code) (omega arith)
    (omega (arith, length-append (lead_of i.code (eqb (length i.value) 0)) i.value, lead_short i.code (eqb (length i.value) 0)))

behind_short : (form : Form) (f : List ℕ) (at n : ℕ) (ps : List Span) (c : ℕ)
    → ((i : ℕ) → i < length ps → (get_or ps i no_span).to - (get_or ps i no_span).from ≤ n)
    → (k : ℕ) → length ps ≤ k → length (behind form (items_at c f at ps)) ≤ k * (n + 22)
unfolding behind items_at
behind_short form f at n [] c h k j = omega arith
behind_short form f at n (p ∷ ps) c h zero j = absurd (omega arith)
behind_short form f at n (p ∷ ps) c h (suc k) j =
    let i = item c (held f at p) in
    omega (
      arith,
      h 0 (omega arith),
      length-take (p.to - p.from) (drop (at + p.from) f),
      word_short form i,
      behind_short form f at n ps (c + 1) (λ m g. h (suc m) (omega arith)) k (omega arith),
      length-append (words_of form i) (behind form (items_at (c + 1) f at ps)),
      suc-mul k (n + 22),
    )

-- what the lines of a message take at most
abbrev most : List Line → ℕ
most [] = 0
most (l ∷ ls) = 154 + 7 * length l.text + most ls

items_short : (form : Form) (st : State) (f : List ℕ) (ls : List Line) → length (behind form (items_from st f ls)) ≤ most ls
unfolding behind items_from
items_short form st f [] = omega arith
items_short form st f (l ∷ ls) = go (step_of st l.text) refl (λ st'. items_short form st' f ls)
  where
    go : (y : Result Step Reason) → step_of st l.text ≡ y → ((st' : State) → length (behind form (items_from st' f ls)) ≤ most ls)
        → length (behind form (elim y [ Err r ↦ items_from st f ls | Ok x ↦ items_at x.code f l.start (take x.count x.spans) ++ items_from x.state f ls ]))
        ≤ 154 + 7 * length l.text + most ls
    go (Err r) q ih = omega (arith, ih st)
    go (Ok x) q ih =
        let v = spans st l.text x q in
        let ps = take x.count x.spans in
        let k : length ps ≡ x.count = length-take-le x.count x.spans (omega (arith, v.few, v.size)) in
        let c = behind_short form f l.start (length l.text) ps x.code
        (λ i g.
        let h : i < x.count = omega arith in
        rw (get_or-take x.count x.spans i no_span h) (omega (arith, (v.inside i h).end)))
        7 (omega (arith, v.few)) in
        omega (
          arith,
          c,
          ap length (behind-append form (items_at x.code f l.start ps) (items_from x.state f ls)),
          length-append (behind form (items_at x.code f l.start ps)) (behind form (items_from x.state f ls)),
          ih x.state,
        )

plain-le : (form : Form) (is : List Item) → length (plain form is) ≤ length (behind form is)
unfolding plain behind
plain-le form [] = omega arith
plain-le form (i ∷ is) = omega arith

most_up : (first : Bool) (ls : List Line) → most (up_to first ls) ≤ most ls
unfolding up_to
most_up first [] = omega arith
most_up first (l ∷ ls) =
    either (λ (ks : List Line). most ks ≤ most (l ∷ ls)) (not first && is_heading l.text) (omega arith) (omega (arith, most_up false ls))

most_lines : (e at : ℕ) (t s : List ℕ) → most (lines_from e at t s) ≤ 161 * (length t + length s)
unfolding lines_from last_line
most_lines e at [] [] = omega arith
most_lines e at (x ∷ t) [] = omega arith
most_lines e at t (b ∷ s) =
    let P : List Line → Type 0 = λ ls. most ls ≤ 161 * (length t + length (b ∷ s)) in
    either P (joins e b) (omega (arith, most_lines 0 (at + 1) t s))
    (either P (is_end b) (omega (arith, most_lines b (at + (length t + 1)) [] s)) (omega (arith, most_lines 0 at (t ++ (b ∷ [])) s, length-append t (b ∷ []))))

-- a message's plain form is counted in 32 bits
pub plain_few : (f : List ℕ) (x : Found) → Writable f x → length (plain_from f x) ≤ 4294967295
plain_few f x w =
    let from = x.at in
    let form = x.form in
    let ls = lines_at from (drop from f) in
    let is = items_from (fresh_state form) f (up_to true ls) in
    omega (arith, w.limit, plain-le form is, items_short form (fresh_state form) f (up_to true ls), most_up true ls, most_lines 0 from [] (drop from f), length-drop from f)

length_items : (ps : List Span) (c : ℕ) (f : List ℕ) (at : ℕ) → length (items_at c f at ps) ≡ length ps
unfolding items_at
length_items [] c f at = refl
length_items (p ∷ ps) c f at = ap suc (length_items ps (c + 1) f at)

-- ---- the line in hand

-- it is right
module _ (f : List ℕ) (at : ℕ) (b : Bool) (st : State) (m : Moved) (o : (w : AtLine f at b m.next) × (step_of st w.text ≡ Ok m.step)) where
  abbrev w : AtLine f at b m.next
  w = o.0

  abbrev x : Step
  x = m.step

  its_spans : Spans w.text x
  its_spans = spans st w.text x o.1

  its_rows : Rowed st w.text x
  its_rows = rowed st w.text x o.1

  pub kept : x.state.form ≡ st.form
  kept = form_kept st w.text x o.1

  its_held : (i : ℕ) → i < x.count → Held f at (get_or x.spans i no_span)
  its_held i h =
      let p = its_spans.inside i h in
      record { order = p.order; end = omega (arith, p.end, w.fits, w.inside) }

  pub values_held : 0 < x.count → ValuesHeld f at x
  values_held h = record { some = h; few = its_spans.few; size = its_spans.size; inside = its_held }

  pub named : x.count ≡ 1 → Named f at x.code
  named e = go its_rows
    where
      go : Rowed st w.text x → Named f at x.code
      go (none z) = absurd (omega arith)
      go (one z d g) = λ i j k. rw (← line-text f at b m.next w) (g i j k)
      go (seven z c d) = absurd (omega arith)

  its_line : 0 < x.count → Lined st.form f at x
  its_line h = lined f at x st w.text its_rows h its_spans.size (its_held 0 h)

  -- what is left to be written: the line and the rest, or the rest where the line has no row
  its_items : List Item
  its_items = items_at x.code f at (take x.count x.spans)

  rest : List Item
  rest = items_from x.state f (left f m.next false)

  items_left : items_from st f (left f at b) ≡ its_items ++ rest
  unfolding items_from its_items rest
  items_left = rw w.more (rw (o.1, items_from))

  pub some_left : (first : Bool) → 0 < x.count
      → written_from first st.form (items_from st f (left f at b)) ≡ line_of first f at x ++ written_from false st.form (items_from x.state f (left f m.next false))
  unfolding written_from line_of its_items rest
  some_left true h =
      let n : 0 < length its_items = omega (arith, length_items (take x.count x.spans) x.code f at, length-take-le x.count x.spans (omega (arith, its_spans.few, its_spans.size))) in
      ap (plain st.form) items_left ∙ plain-append st.form its_items rest n ∙ ap (λ (l : List ℕ). l ++ behind st.form rest) (sym (its_line h).line)
  some_left false h =
      ap (behind st.form) items_left ∙ behind-append st.form its_items rest
      ∙ ap (λ (l : List ℕ). l ++ behind st.form rest) ((its_line h).first ∙ ap (λ (l : List ℕ). 10 ∷ l) (sym (its_line h).line))

  pub none_left : (first : Bool) → x.count ≡ 0
      → written_from first st.form (items_from st f (left f at b)) ≡ written_from first st.form (items_from x.state f (left f m.next false))
  unfolding items_at its_items rest
  none_left first h = ap (written_from first st.form) (items_left ∙ rw h)

-- ---- a message's rows are what its lines have

items_at_lem : (f : List ℕ) (ps : List Span) (c g line at : ℕ) → map (item_of f) (rows_at c g line at ps) ≡ items_at c f at ps
unfolding rows_at items_at
items_at_lem f [] c g line at = refl
items_at_lem f (p ∷ ps) c g line at = ap (λ (is : List Item). item c (held f at p) ∷ is) (items_at_lem f ps (c + 1) g line at)

items_rows : (f : List ℕ) (ls : List Line) (st : State) (g line : ℕ) → map (item_of f) (rows_from st g line ls) ≡ items_from st f ls
unfolding rows_from items_from
items_rows f [] st g line = refl
items_rows f (l ∷ ls) st g line = go (step_of st l.text) (λ u h. items_rows f ls u h (line + 1))
  where
    go : (y : Result Step Reason) → ((u : State) (h : ℕ) → map (item_of f) (rows_from u h (line + 1) ls) ≡ items_from u f ls)
        → ◌≡◌ {A = List Item} (map (item_of f)
        (elim y [
          | Err r ↦ rows_from st g (line + 1) ls
          | Ok x ↦
              let h = group_of st.form g x.code in
              rows_at x.code h line l.start (take x.count x.spans) ++ rows_from x.state h (line + 1) ls
        ]))
        (elim y [ Err r ↦ items_from st f ls | Ok x ↦ items_at x.code f l.start (take x.count x.spans) ++ items_from x.state f ls ])
    go (Err r) later = later st g
    go (Ok x) later =
        map-append (item_of f) (rows_at x.code (group_of st.form g x.code) line l.start (take x.count x.spans)) _
        ∙ ap₂ ◌++◌ (items_at_lem f (take x.count x.spans) x.code _ line l.start) (later x.state _)

-- nothing is left of no lines
pub end_left : (first : Bool) (form : Form) (st : State) (f : List ℕ) (ls : List Line) → ls ≡ [] → written_from first form (items_from st f ls) ≡ []
unfolding written_from items_from plain behind
end_left true form st f ls e = rw e
end_left false form st f ls e = rw e

-- ---- a message by its number, where it is accepted and found

module _ (f : List ℕ) (k n : ℕ) (e : judge_of f k ≡ Ok n) (x : Found) (q : FoundIs (Some x) k f) where
  found_right : judge_texts (fresh_state x.form) 1 0 (texts (left f x.at true)) ≡ Ok n
  found_right = sym (judge_found f k (accepted_short f k n e) x q) ∙ e

  pub found_writable : Writable f x
  found_writable = record { limit = accepted_short f k n e; rows = n; right = found_right }

  found_type : type_of (items_from (fresh_state x.form) f (left f x.at true)) ≡ x.form
  unfolding FoundIs
  found_type =
      let p = x.at in
      let y = ends_of p (drop p f) in
      let l = line_at f p y in
      let m = up_more f p y q.1 refl true refl in
      let h = from_head (lines f) k l (rest_of f y) (q.0 ∙ line_left f p y q.1 refl) in
      rw m (message_type x.form f l (up_to false (rest_of f y)) n h (rw m at found_right))

  -- what is written from the place on is the message in plain form
  pub found_plain : plain_from f x ≡ plain_of f k
  unfolding plain_of
  found_plain =
      let is : map (item_of f) (rows_of f k) ≡ items_from (fresh_state x.form) f (left f x.at true) =
      ap (map (item_of f)) (found_rows f k x q) ∙ items_rows f (left f x.at true) (fresh_state x.form) 0 1 in
      rw (is, found_type)
