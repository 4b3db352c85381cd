-- A message's lines, each written in its plain form: they are accepted as they were, with the same rows in the same groups, and joined they are what is written.
-- Assumes nothing.
use mathlib.Core.Path.{◌≡◌, refl, sym, ap, ◌∙◌}
use mathlib.Core.List.{List, [], ◌∷◌, ◌++◌, append-nil}
use mathlib.Core.Bool.{true, false, not, false≢true}
use Prim.Native.Nat.{ℕ, ◌+◌, ◌≤◌, ◌<◌}
use native.Mathlib.Nat.{add-zero}
use native.Mathlib.Omega.{arith}
use lib.Dec.{eqb}
use lib.ListN.{length, take, drop, replicate, length-append, length-map, length-take}
use lib.Seq.{take_all}
use borrow.Author.Tests.{ne_eqb}
use Rattle.words.specs.Words.{Each}
use Rattle.lines.specs.Text.{assignment_of, is_odd, split_of, heading_of}
use Rattle.lines.specs.declared.Span.{Span}
use Rattle.epochs.specs.declared.Instant.{Instant}
use Rattle.grammar.specs.Rows.{pick}
use Rattle.grammar.specs.Order.{next_of, allows}
use Rattle.lines.specs.declared.Form.{Form}
use Rattle.lines.specs.declared.Form.TheVariants.{Opm, Oem}
use Rattle.grammar.proofs.Laws.{below, comes_only, next_only}
use Rattle.step.specs.Step.{part, no_row, one_row, seven_rows, fresh_state, past_data, past_comment, fits_here, step_of}
use Rattle.step.specs.declared.State.{State}
use Rattle.step.specs.declared.Step.{Step}
use Rattle.judge.specs.Message.{is_heading, form_of, end_of, judge_texts, group_of}
use Rattle.judge.proofs.Laws.{not_both}
use Rattle.write.specs.Plain.{Item, item, lead_of, is_field, words_of, parting_of, behind as afterItems, plain, type_of}
use Rattle.write.proofs.Readings.{whether, Stood, value_stood, DataLine, Clean, Reads, blank, comment, meta, assign, fields, read}
use Rattle.write.proofs.Names.{comment_either, form_kept}
use Rattle.write.proofs.Heads.{allowed, head_code, head_type, first_right, first_code}
use Rattle.write.proofs.Turns.{word_led, parted_line, field_next, behind_first, behind-append}
use Rattle.written.proofs.Bytes.{after}
use Rattle.written.proofs.Joined.{Whole, plain_whole}
use Rattle.written.proofs.Spaced.{parts, split_seven, respaced}
use Rattle.written.proofs.PlainLine.{Again, OneAgain, one_again, lead_head, lead_other}
use Rattle.written.proofs.PlainData.{written, data_plain, data_heading}
use Rattle.std.specs.Prelude.{None, is_some, Ok, Err}

-- ---- rows as they are written, line by line

-- a line's rows: codes from c on
unfoldable pub items_in : ℕ → List (List ℕ) → List Item
items_in c [] = []
items_in c (v ∷ vs) = item c v ∷ items_in (c + 1) vs

abbrev pub items_of : Step → List ℕ → List Item
items_of x t = items_in x.code (parts t (take x.count x.spans))

unfoldable pub items_texts : State → List (List ℕ) → List Item
items_texts st [] = []
items_texts st (t ∷ ts) =
    elim (step_of st t) [ Err r ↦ items_texts st ts | Ok x ↦ items_of x t ++ items_texts x.state ts ]

-- the groups of the rows
unfoldable pub groups_texts : State → ℕ → List (List ℕ) → List ℕ
groups_texts st g [] = []
groups_texts st g (t ∷ ts) =
    elim (step_of st t) [
      | Err r ↦ groups_texts st g ts
      | Ok x ↦
          let h = group_of st.form g x.code in
          replicate x.count h ++ groups_texts x.state h ts
    ]

-- a line's rows, written
abbrev pub plain_line : State → Step → List ℕ → List ℕ
plain_line st x t = plain st.form (items_of x t)

-- the plain lines: none for a line that has no row
unfoldable pub plains : State → List (List ℕ) → List (List ℕ)
plains st [] = []
plains st (t ∷ ts) =
    elim (step_of st t) [
      | Err r ↦ plains st ts
      | Ok x ↦ elim (eqb x.count 0) [ true ↦ plains x.state ts | false ↦ plain_line st x t ∷ plains x.state ts ]
    ]

-- a line that has rows has a plain line
pub plains_more : (st : State) (t : List ℕ) (ts : List (List ℕ)) (x : Step) → step_of st t ≡ Ok x → (x.count ≡ 0 → ⊥)
    → plains st (t ∷ ts) ≡ plain_line st x t ∷ plains x.state ts
unfolding plains
plains_more st t ts x q h = rw (q, plains) (rw (ne_eqb x.count 0 h))

-- ---- what may follow what: no heading but at the start

-- a line that is no comment has stood
abbrev pub Begun : State → Type 0
Begun st = st.last ≡ 0 → ⊥

head_low : (f : Form) → (0 < head_code f) × (head_code f ≤ 36)
head_low Opm = omega arith
head_low Oem = omega arith

-- headings come at the start only
heads_first : (f g : Form) → comes_only f (head_code g) 0 ≡ true
unfolding next_of allows pick below comes_only
heads_first Opm Opm = refl
heads_first Opm Oem = refl
heads_first Oem Opm = refl
heads_first Oem Oem = refl

-- a code that heads no message
abbrev HeadsNone : ℕ → Type 0
HeadsNone c = (g : Form) → c ≡ head_code g → ⊥

fits_later : (st : State) (c : ℕ) → fits_here st c ≡ true → Begun st → HeadsNone c
fits_later st c e b g z = false≢true (sym (next_only st.form (head_code g) 0 (heads_first st.form g) st.last b) ∙ rw (← z) e)

-- ---- the state behind a line that is right

-- the state behind a line, and the code of its rows, if it has any
record Follows (st : State) (x : Step) : Type 0 where
  begun : Begun st → Begun x.state
  code : Begun st → HeadsNone x.code

stood_follows : (st : State) (c : ℕ) {x : Step} → fits_here st c ≡ true → Stood st c x → Follows st x
stood_follows st c f s =
    record { begun = λ b z. omega (arith, (allowed (next_of st.form st.last) c f).0, s.last); code = rw s.code (fits_later st c f) }

comment_follows : (st : State) (p : Span) → Follows st (one_row (past_comment st) 45 p)
comment_follows st p = record { begun = λ b. comment_either st Begun b (λ z. omega arith); code = λ b g z. omega (arith, head_low g) }

-- ---- a line that is right and has rows, and its plain line

-- it is judged as it was, and its first row stands behind an LF; it is no heading but at the start
pub record Plainly (st : State) (t : List ℕ) (x : Step) : Type 0 where
  pub again : Again st t x (plain_line st x t)
  pub behind : afterItems st.form (items_of x t) ≡ 10 ∷ plain_line st x t
  pub headless : Begun st → is_heading (plain_line st x t) ≡ false
  pub some : x.count ≡ 0 → ⊥
  pub begun : Begun st → Begun x.state

-- a line that is right has no row, or a plain line
data Lines (st : State) (t : List ℕ) : Step → Type 0 where
  none : Lines st t (no_row st)
  rows : {x : Step} → Plainly st t x → Lines st t x

-- seven fields are all of them
take_seven : (s : List ℕ) → (split_of s).count ≡ 7 → take 7 (split_of s).spans ≡ (split_of s).spans
take_seven s h = let k = split_seven s h in take_all 7 _ (omega (arith, k.1, ap length k.0))

-- a data line's fields from the second on
fields_behind : (vs : List (List ℕ)) (c : ℕ) → 10 ≤ c → c + length vs ≤ 16 → afterItems Oem (items_in c vs) ≡ after 32 vs
unfolding items_in afterItems after
fields_behind [] c h k = refl
fields_behind (v ∷ vs) c h k =
    let w = field_next c v h (omega arith) in
    rw (w.0, w.1, fields_behind vs (c + 1) (omega arith) (omega arith))

module _ (st : State) (t : List ℕ) where
  -- one row
  module _ {x : Step} (n : x.count ≡ 1) (o : OneAgain st t x) where
    abbrev value : List ℕ
    value = part o.row t

    one_items : items_of x t ≡ item x.code value ∷ []
    unfolding items_in
    one_items = rw (n, o.first)

    one_line : plain_line st x t ≡ lead_of x.code (eqb (length value) 0) ++ value
    unfolding plain afterItems
    one_line = rw one_items (append-nil _ ∙ word_led st.form (item x.code value) o.field)

    one-plainly : Follows st x → Plainly st t x
    one-plainly f =
        record {
          again = rw one_line o.again;
          behind = rw one_items (behind_first st.form (item x.code value) [] (parted_line st.form (item x.code value) o.field));
          headless = λ b. rw one_line (lead_other x.code (eqb (length value) 0) value (f.code b Opm) (f.code b Oem));
          some = λ z. omega arith;
          begun = f.begun;
        }

  -- seven rows
  module _ (i : Instant) (a : assignment_of t ≡ None) (d : DataLine st t i) (k : Clean st t) where
    abbrev seven : Step
    seven = seven_rows (past_data st i) (split_of t).spans

    seven_plainly : Plainly st t seven
    unfolding items_in plain words_of is_field parting_of
    seven_plainly =
        let w = respaced t d.seven in
        let q = written w in
        let h = data_plain st t i a d k w in
        let values = ap (parts t) (take_seven t d.seven) ∙ w.values in
        let is : items_of seven t ≡ item 9 w.first ∷ items_in 10 w.others = rw values in
        let six = simp (length-map, length-take) at (ap length values) in
        let p : plain_line st seven t ≡ q = rw (is, d.form) (ap (λ (r : List ℕ). w.first ++ r) (fields_behind w.others 10 (omega arith) (omega arith))) in
        record {
          again = rw p (record {
            spans = (split_of q).spans;
            is = h;
            values = ap (parts q) (take_seven q w.again.0) ∙ w.again.1 ∙ sym values;
            shorter = w.shorter;
            clean = w.each (λ b. not (is_odd b)) refl k.plain;
            some = omega (arith, w.field.some, length-append w.first (after 32 w.others));
          });
          behind = rw (is, d.form) (behind_first Oem (item 9 w.first) (items_in 10 w.others) refl);
          headless = λ b. rw p (ap is_some (data_heading st t i a d k w));
          some = λ z. omega arith;
          begun = λ b z. omega arith;
        }

  -- a line of one row, its step given
  one : {x : Step} → step_of st t ≡ Ok x → x.count ≡ 1 → OneAgain st t x
  one q n = one_again st t _ q n

  stood_line : {x : Step} → step_of st t ≡ Ok x → (c : ℕ) → fits_here st c ≡ true → Stood st c x → Lines st t x
  stood_line q c f s = rows (one-plainly s.count (one q s.count) (stood_follows st c f s))

  line : (x : Step) → step_of st t ≡ Ok x → Lines st t x
  line x r = let w = read st t x r in go r w.0 w.1
    where
      go : {x : Step} → step_of st t ≡ Ok x → Clean st t → Reads st t x → Lines st t x
      go q k (blank e) = none
      go q k (comment p e) = rows (one-plainly refl (one q refl) (comment_follows st p))
      go q k (meta c e f) = stood_line q c f (record { form = refl; last = refl; code = refl; count = refl })
      go q k (assign x c a e f y v) = stood_line q c f (value_stood st c x.value t y v)
      go q k (fields i a d) = rows (seven_plainly i a d k)

-- ---- a message

-- lines that are accepted from a state where n rows have been read, and their plain lines
pub record Message (st : State) (ts ps : List (List ℕ)) (n total : ℕ) : Type 0 where
  pub judged : (ln : ℕ) → judge_texts st ln n ps ≡ Ok total
  pub items : items_texts st ps ≡ items_texts st ts
  pub groups : (g : ℕ) → groups_texts st g ps ≡ groups_texts st g ts
  pub behind : afterItems st.form (items_texts st ts) ≡ after 10 ps
  pub whole : Each Whole ps
  pub shorter : length (after 10 ps) ≤ length (after 10 ts)
  pub headless : Begun st → Each (λ p. is_heading p ≡ false) ps

abbrev pub PlainMessage : State → List (List ℕ) → ℕ → ℕ → Type 0
PlainMessage st ts n total = Message st ts (plains st ts) n total

-- the end is the same, whatever its line's number
end_any : (st : State) (ln n total : ℕ) → end_of st ln n ≡ Ok total → (ln' : ℕ) → end_of st ln' n ≡ Ok total
unfolding end_of
end_any st ln n total =
    whether (λ j. j ≡ Ok total → (ln' : ℕ) → end_of st ln' n ≡ Ok total) (next_of st.form st.last).end (λ q e ln'. rw (q, end_of) e)
    (λ q e. absurd (not_both e refl))

-- a line with no row opens no group
group_none : (f : Form) (g : ℕ) → group_of f g 0 ≡ g
unfolding group_of
group_none Opm g = refl
group_none Oem g = refl

module _ (st : State) (t : List ℕ) (ts : List (List ℕ)) (n total : ℕ) where
  -- a line with no row is left out
  message_none : step_of st t ≡ Ok (no_row st) → PlainMessage st ts (n + 0) total → PlainMessage st (t ∷ ts) n total
  unfolding plains items_texts groups_texts items_in after
  message_none q m =
      let p : plains st (t ∷ ts) ≡ plains st ts = rw (q, plains) in
      let i : items_texts st (t ∷ ts) ≡ items_texts st ts = rw (q, items_texts) in
      let j : (g : ℕ) → groups_texts st g (t ∷ ts) ≡ groups_texts st g ts = λ g. rw (q, groups_texts) (rw group_none) in
      rw p (record {
        judged = rw (add-zero n) at m.judged;
        items = rw i m.items;
        groups = λ g. rw j (m.groups g);
        behind = rw i m.behind;
        whole = m.whole;
        shorter = omega (arith, m.shorter, length-append t (after 10 ts));
        headless = m.headless;
      })

  -- any other is its plain line
  message_more : {x : Step} → step_of st t ≡ Ok x → x.state.form ≡ st.form → Plainly st t x → PlainMessage x.state ts (n + x.count) total → PlainMessage st (t ∷ ts) n total
  unfolding judge_texts items_texts groups_texts after
  message_more {x} q f w m =
      let l = plain_line st x t in
      let a = w.again in
      let p : plains st (t ∷ ts) ≡ l ∷ plains x.state ts = plains_more st t ts x q w.some in
      let i : items_texts st (t ∷ ts) ≡ items_of x t ++ items_texts x.state ts = rw (q, items_texts) in
      rw p (record {
        judged = λ ln. rw (a.is, judge_texts) (m.judged (ln + 1));
        items = rw i (rw (a.is, items_texts) (rw (m.items, a.values)));
        groups = λ g. rw (q, groups_texts) (rw (a.is, groups_texts) (rw m.groups));
        behind = rw i (rw (behind-append st.form (items_of x t), w.behind, ap (λ (f : Form). afterItems f (items_texts x.state ts)) (sym f) ∙ m.behind));
        whole = (record { some = a.some; whole = plain_whole l a.clean }, m.whole);
        shorter = omega (arith, m.shorter, a.shorter, length-append t (after 10 ts), length-append l (after 10 (plains x.state ts)));
        headless = λ b. (w.headless b, m.headless (w.begun b));
      })

  message_line : {x : Step} → step_of st t ≡ Ok x → x.state.form ≡ st.form → Lines st t x → PlainMessage x.state ts (n + x.count) total → PlainMessage st (t ∷ ts) n total
  message_line q f none m = message_none q m
  message_line q f (rows w) m = message_more q f w m

-- a message that is accepted is accepted in plain form, with the same rows in the same groups
pub message : (ts : List (List ℕ)) (st : State) (ln n total : ℕ) → judge_texts st ln n ts ≡ Ok total → PlainMessage st ts n total
unfolding judge_texts plains items_texts groups_texts afterItems after
message [] st ln n total e =
    record {
      judged = end_any st ln n total e;
      items = refl;
      groups = λ g. refl;
      behind = refl;
      whole = tt;
      shorter = omega arith;
      headless = λ b. tt;
    }
message (t ∷ ts) st ln n total e =
    let w = first_right st ln n total t ts e in
    message_line st t ts n total w.1 (form_kept st t w.0 w.1) (line st t w.0 w.1) (message ts _ (ln + 1) _ total w.2)

-- what is written of a message: its plain lines, an LF between them
pub message_plain : {st : State} {ts ps : List (List ℕ)} {n total : ℕ} → Message st ts ps n total → plain st.form (items_texts st ts) ≡ drop 1 (after 10 ps)
unfolding plain afterItems
message_plain m = go _ (items_texts _ _) ∙ ap (drop 1) m.behind
  where
    go : (f : Form) (is : List Item) → plain f is ≡ drop 1 (afterItems f is)
    go f [] = refl
    go f (i ∷ is) = refl

-- ---- the heading line of a message

-- it is one row, and its plain line is a heading line of the same type
pub record Opening (t : List ℕ) (st : State) (x : Step) : Type 0 where
  pub count : x.count ≡ 1
  pub heading : heading_of (plain_line st x t) ≡ heading_of t
  pub begun : Begun x.state
  pub type : (is : List Item) → type_of (items_of x t ++ is) ≡ form_of t

-- a heading line that is right opens a message
pub opening : (t : List ℕ) → is_heading t ≡ true → let st = fresh_state (form_of t) in (x : Step) → step_of st t ≡ Ok x → Opening t st x
opening t h x r =
    let f = form_of t in
    let st = fresh_state f in
    let c = first_code f t h x r in
    let o = one_again st t x r c.1 in
    record {
      count = c.1;
      heading = rw (one_line st t c.1 o) (lead_head (heading_of t) x.code _ _ h c.0);
      begun = λ z. omega (arith, c.2, head_low f);
      type = λ is. rw (one_items st t c.1 o) (head_type f x.code _ is c.0);
    }
