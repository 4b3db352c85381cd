-- A line of one row, written in its plain form, is judged as the line that it came from.
-- Assumes nothing.
use mathlib.Core.Path.{◌≡◌, refl, sym, ap, ◌∙◌}
use mathlib.Core.List.{List, [], ◌∷◌, ◌++◌, append_assoc}
use mathlib.Core.Bool.{Bool, true, false, not, ◌&&◌, ◌||◌, and-false, and-eq-true_iff, false≢true}
use Prim.Native.Nat.{ℕ, suc, ◌+◌, ◌-◌, ◌≤◌, ◌<◌}
use native.Mathlib.Nat.{add-sub_cancel_left, sub_self}
use native.Mathlib.Omega.{arith}
use lib.Dec.{eqb}
use lib.ListN.{length, take, drop, length-append, length-take}
use lib.Seq.{take-length, take-take, drop-length}
use borrow.Author.Tests.{ne_eqb, not-true, eqb-true}
use Rattle.words.specs.Words.{bytes, agrees, begins, run, first_at}
use Rattle.lines.specs.Text.{is_blank, blanks, cut_end, trim_of, is_odd, odd_at, comment_of, assignment_of, heads, heading_of}
use Rattle.lines.specs.declared.Span.{Span}
use Rattle.lines.specs.declared.Sides.{Sides}
use Rattle.lines.proofs.Laws.{comment_other}
use Rattle.values.specs.Number.{is_number}
use Rattle.keywords.specs.Keywords.{keywords}
use Rattle.grammar.specs.Keywords.{keyword_of, is_unit}
use Rattle.lines.specs.declared.Form.{Form}
use Rattle.lines.specs.declared.Form.TheVariants.{Opm, Oem}
use Rattle.step.specs.Step.{part, one_row, past, word_len, number_of, value_of, fits_here, past_comment, meta_code, meta_of, assign_of, plain_of, uncommented_of, filled_of, step_of}
use Rattle.step.specs.declared.State.{State}
use Rattle.step.specs.declared.Step.{Step}
use Rattle.step.proofs.Laws.{number_right, word-le}
use Rattle.judge.specs.Message.{is_heading}
use Rattle.write.specs.Plain.{word_in, comment_lead, lead_of, is_field}
use Rattle.write.proofs.Readings.{Right, offends, whether, either, Ends, off, on, by_kind, Clean, Reads, blank, comment, meta, assign, fields, read, step_filled}
use Rattle.write.proofs.Heads.{head_code}
use Rattle.write.proofs.Leads.{lead_keyword}
use Rattle.write.proofs.Names.{each_word, each_word_lem, assigned as named_by, no_comment_field, Meta, start, stop, meta_line, meta_code_lem, meta_none}
use Rattle.written.proofs.Bytes.{Passes, pass_cons, pass_split, pass_append, pass_both, pass_part, at_run}
use Rattle.written.proofs.Spaced.{parts}
use Rattle.written.proofs.Trimmed.{span, Trimmed, trimmed, trimmed_end, cut_more, part-le, trim_trimmed, word_trimmed, part_whole, Commented, commented, comment_empty, comment_plain, comment_part, sided, assigned, assigned_keyword, assigned-value}
use Rattle.std.specs.Prelude.{Option, Some, None, is_some, unwrap_or, Result, Ok}
use Rattle.reasons.specs.declared.Reason.{Reason}

-- a step with other spans
abbrev pub respan : Step → List Span → Step
respan x ps = record { state = x.state; code = x.code; count = x.count; spans = ps }

-- the plain text q is judged as the line's text s was, whose step is x
pub record Again (st : State) (s : List ℕ) (x : Step) (q : List ℕ) : Type 0 where
  pub spans : List Span
  pub is : step_of st q ≡ Ok (respan x spans)
  pub values : parts q (take x.count spans) ≡ parts s (take x.count x.spans)
  pub shorter : length q ≤ length s
  pub clean : odd_at q ≡ length q
  pub some : 0 < length q

-- the plain text of a line of one row, by the row's code and bytes
pub record OneAgain (st : State) (s : List ℕ) (x : Step) : Type 0 where
  pub row : Span
  pub first : take 1 x.spans ≡ row ∷ []
  pub field : is_field st.form x.code ≡ false
  pub again : Again st s x (lead_of x.code (eqb (length (part row s)) 0) ++ part row s)

abbrev not_odd : ℕ → Bool
not_odd b = not (is_odd b)

-- a text that is not empty, no longer than a clean line, of plain bytes and trimmed is judged by what it is
again : (st : State) (s q : List ℕ) → Clean st s → length q ≤ length s → Passes not_odd q → 0 < length q → Trimmed q
    → (st' : State) (c : ℕ) (p r : Span) → filled_of st (trim_of q) q ≡ Ok (one_row st' c r) → part r q ≡ part p s → Again st s (one_row st' c p) q
again st s q k shorter clean some t st' c p r e f =
    let n : (trim_of q).to ≡ length q = ap (λ (p : Span). p.to) t in
    let h = step_filled st q (record { short = omega (arith, k.short); plain = clean }) (λ z. omega arith) in
    record { spans = (one_row st' c r).spans; is = h ∙ e; values = ap (λ (v : List ℕ). v ∷ []) f; shorter = shorter; clean = clean; some = some }

-- a text that ends in no blank ends in none behind another
cut_append : (w x : List ℕ) → 0 < length x → cut_end x ≡ length x → cut_end (w ++ x) ≡ length (w ++ x)
cut_append [] x h e = e
cut_append (b ∷ w) x h e =
    let i = cut_append w x h e in
    cut_more b (w ++ x) (rw (ne_eqb (cut_end (w ++ x)) 0 (λ z. omega (arith, length-append w x)))) ∙ ap suc i

-- ---- comments

comment_again : (st : State) (s : List ℕ) (p : Span) → comment_of s ≡ Some p → Clean st s → OneAgain st s (one_row (past_comment st) 45 p)
unfolding lead_of bytes run filled_of cut_end trim_of
comment_again st s p e k = record { row = p; first = refl; field = no_comment_field st.form; again = go (part p s) refl }
  where
    c : Commented s p
    c = commented s p e

    go : (v : List ℕ) → part p s ≡ v → Again st s (one_row (past_comment st) 45 p) (lead_of 45 (eqb (length v) 0) ++ v)
    go [] h = again st s _ k (omega (arith, c.room)) refl (omega arith) refl (past_comment st) 45 p (span 7 7) (rw (comment_empty, filled_of)) (sym h)
    go (b ∷ v) h =
        let w : Trimmed (b ∷ v) = rw h at c.value in
        let l = bytes "COMMENT " in
        rw (ne_eqb (suc (length v)) 0 (λ z. omega arith))
        (again st s (l ++ (b ∷ v)) k (omega (arith, c.shorter (rw h (omega arith)), ap length h))
        (pass_append not_odd l (b ∷ v) refl (rw h at (pass_part not_odd p s k.plain)))
        (omega arith)
        (trimmed (l ++ (b ∷ v)) (cut_append l (b ∷ v) (omega arith) (trimmed_end (b ∷ v) w)) refl)
        (past_comment st) 45 p (span 8 (8 + length (b ∷ v))) (rw (comment_plain (b ∷ v) (omega arith) w, filled_of)) (comment_part (b ∷ v) ∙ sym h))

-- ---- META lines

-- a META line's word is its whole plain line
record MetaWord (t : List ℕ) (c : ℕ) : Type 0 where
  word : lead_of c true ++ [] ≡ t
  uncommented : comment_of t ≡ None
  equals : first_at 61 t ≡ length t
  some : 0 < length t

meta_word : {f : Form} {t : List ℕ} {c : ℕ} → Meta f t c → MetaWord t c
unfolding lead_of bytes comment_of run agrees
meta_word start = record { word = refl; uncommented = refl; equals = refl; some = omega arith }
meta_word stop = record { word = refl; uncommented = refl; equals = refl; some = omega arith }

part_none : (n : ℕ) (s : List ℕ) → part (span n n) s ≡ []
part_none n s = rw (sub_self n)

meta_again : (st : State) (s : List ℕ) (c : ℕ) → meta_code st.form (part (trim_of s) s) ≡ Some c → fits_here st c ≡ true → Clean st s
    → OneAgain st s (one_row (past st c) c (span (trim_of s).to (trim_of s).to))
unfolding filled_of uncommented_of meta_of
meta_again st s c e f k =
    let q = part (trim_of s) s in
    let l = meta_line st.form q c e in
    let w = meta_word l in
    let t = trim_trimmed s in
    let m : meta_code st.form (part (trim_of q) q) ≡ Some c = rw (t, part_whole q) e in
    record {
      row = span (trim_of s).to (trim_of s).to;
      first = refl;
      field = (meta_code_lem l).0;
      again =
          rw (part_none (trim_of s).to s, w.word)
          (again st s q k (part-le (trim_of s) s) (pass_part not_odd (trim_of s) s k.plain) w.some t (past st c) c _ (span (trim_of q).to (trim_of q).to)
          (rw (w.uncommented, filled_of) (rw (m, uncommented_of) (rw (f, meta_of))))
          (part_none (trim_of q).to q ∙ sym (part_none (trim_of s).to s)));
    }

-- ---- values

-- a value, by what its judgement J answers of a span and a text: one row, and the same of every text in which the row's bytes are the value
record Holds (J : Span → List ℕ → Result Step Reason) (c : ℕ) (p : Span) (s : List ℕ) : Type 0 where
  state : State
  row : Span
  is : J p s ≡ Ok (one_row state c row)
  value : Trimmed (part row s)
  shorter : length (part row s) ≤ length (part p s)
  again : (p' : Span) (q : List ℕ) → part p' q ≡ part row s → (r : Span) × (J p' q ≡ Ok (one_row state c r)) × (part r q ≡ part row s)

-- the start of a part
part_first : (p : Span) (n : ℕ) (s : List ℕ) → n ≤ length (part p s) → part (span p.from (p.from + n)) s ≡ take n (part p s)
part_first p n s h =
    let m = p.to - p.from in
    let r = drop p.from s in
    rw (add-sub_cancel_left p.from n) (sym (take-take n m r (omega (arith, length-take m r))))

module _ (st : State) (c : ℕ) where
  -- what is right at one span is the same at another
  moves : {f : Span → Result Step Reason} → Ends st c f → (p p' : Span) (x : Step) → f p ≡ Ok x → f p' ≡ Ok (one_row x.state c p')
  moves (off r) p p' x e = cc
  moves (on u k) p p' x e =
      let q : one_row u c p ≡ x = cc in
      ap (λ (y : Step). Ok (one_row y.state c p')) q

  -- a number with nothing behind it
  number_alone : (p : Span) (s : List ℕ) → Passes (λ b. not (is_blank b)) (part p s) → is_number (part p s) ≡ true
      → number_of st c p s ≡ Ok (one_row (past st c) c (span p.from (p.from + length (part p s))))
  unfolding is_unit trim_of cut_end run
  number_alone p s h e =
      let v = part p s in
      let n = word_len v in
      let whole : v ≡ take n v = sym (ap (λ (m : ℕ). take m v) h ∙ take-length v) in
      let end : [] ≡ drop n v = sym (ap (λ (m : ℕ). drop m v) h ∙ drop-length v) in
      sym (number_right st c p s v whole [] (rw (← end) refl) e (span p.from (p.from + length v)) (rw h refl) refl)

  module _ (p : Span) (s : List ℕ) (t : Trimmed (part p s)) where
    -- the whole field
    whole_holds : (f : List ℕ → Span → Result Step Reason) → ((v : List ℕ) → Ends st c (f v)) → (x : Step) → f (part p s) p ≡ Ok x → Holds (λ p q. f (part p q) p) c p s
    whole_holds f m x r =
        record {
          state = x.state;
          row = p;
          is = moves (m (part p s)) p p x r;
          value = t;
          shorter = omega arith;
          again = λ p' q e. (p', rw e (moves (m (part p s)) p p' x r), e);
        }

    number_holds : (x : Step) → number_of st c p s ≡ Ok x → Holds (number_of st c) c p s
    unfolding number_of
    number_holds =
        let v = part p s in
        let n = word_len v in
        let r = drop n v in
        let P : Step → Type 0 = λ x. Holds (number_of st c) c p s in
        let a = part_first p n s (word-le v) in
        let b = (at_run (λ b. not (is_blank b)) v).0 in
        let short : length (take n v) ≤ length v = omega (arith, length-take n v) in
        whether (Right P) (is_number (take n v))
        (λ e. whether (Right P) (is_unit c (part (trim_of r) r))
        (λ f x h. record {
          state = past st c;
          row = span p.from (p.from + n);
          is = sym (number_right st c p s (take n v) refl (part (trim_of r) r) refl e (span p.from (p.from + n)) refl f);
          value = rw a (word_trimmed (take n v) b);
          shorter = rw a short;
          again = λ p' q k.
              let w = k ∙ a in
              (_, number_alone p' q (rw w b) (rw w e), part_first p' (length (part p' q)) q (omega arith) ∙ take-length (part p' q) ∙ k);
        })
        (λ f. offends _))
        (λ e. offends _)

    -- every kind
    value_holds : (x : Step) → value_of st c p s ≡ Ok x → Holds (value_of st c) c p s
    value_holds = by_kind st c (λ J. (x : Step) → J p s ≡ Ok x → Holds J c p s) whole_holds number_holds

-- ---- assignments

-- no keyword begins with a blank or as a comment
word-opens : (c : ℕ) (v : List ℕ) → let q = word_in keywords c ++ (61 ∷ v) in (blanks q ≡ 0) × (begins (bytes "COMMENT") q ≡ false)
unfolding keywords each_word bytes agrees run
word-opens c v =
    let p : ℕ → List ℕ → Bool = λ n w. let q = w ++ (61 ∷ v) in eqb (blanks q) 0 && not (begins (bytes "COMMENT") q) in
    let w = (and-eq-true_iff _ _).0 (each_word_lem p c keywords refl refl) in
    (eqb-true _ 0 w.0, not-true _ w.1)

-- `w=u`
module _ (w u : List ℕ) (c : ℕ) (word : word_in keywords c ≡ w) (n : first_at 61 w ≡ length w) (k : Trimmed w) (v : Trimmed u) where
  abbrev text : List ℕ
  text = w ++ (61 ∷ u)

  leads : (blanks text ≡ 0) × (begins (bytes "COMMENT") text ≡ false)
  leads = rw word at (word-opens c u)

  text_trimmed : Trimmed text
  text_trimmed = trimmed text (cut_append w (61 ∷ u) (omega arith) (cut_more 61 u (and-false (eqb (cut_end u) 0)) ∙ ap suc (trimmed_end u v))) leads.0

  text_filled : (st : State) → keyword_of st.form w ≡ Some c → fits_here st c ≡ true
      → filled_of st (trim_of text) text ≡ value_of st c (span (length w + 1) (length w + 1 + length u)) text
  unfolding filled_of uncommented_of plain_of assign_of
  text_filled st e f =
      let p : ℕ → Bool = λ b. not (eqb b 61) in
      let m = meta_none st.form text (λ n m. false≢true (pass_split p 61 u (pass_both p w (61 ∷ u) (meta_word m).equals).1).0) in
      rw (comment_other text 0 (omega (arith, leads.0)) leads.1, filled_of)
      (rw (text_trimmed, part_whole text, m, uncommented_of) (rw (assigned w u n k v, plain_of) (rw (assigned_keyword w u, e, assign_of) (rw f))))

assign_again : (st : State) (s : List ℕ) (x : Sides) (c : ℕ) → assignment_of s ≡ Some x → keyword_of st.form (part x.keyword s) ≡ Some c
    → fits_here st c ≡ true → Clean st s → (y : Step) → value_of st c x.value s ≡ Ok y → OneAgain st s y
unfolding bytes
assign_again st s x c a e f k y r =
    let w = part x.keyword s in
    let d = sided s x a in
    let l = named_by st.form w c e in
    let h = value_holds st c x.value s d.value y r in
    let z : one_row h.state c h.row ≡ y = cc in
    let u = part h.row s in
    let g = h.again _ _ (assigned-value w u) in
    let o = l.other in
    let m = text_filled w u c l.word d.equals d.keyword h.value st e f in
    rw (← z) (record {
      row = h.row;
      first = refl;
      field = l.field;
      again =
          rw (lead_keyword c (eqb (length u) 0) o.0 o.1 o.2, l.word, append_assoc w (bytes "=") u)
          (again st s (w ++ (61 ∷ u)) k (omega (arith, length-append w (61 ∷ u), h.shorter, d.shorter))
          (pass_append not_odd w (61 ∷ u) (pass_part not_odd x.keyword s k.plain) (pass_cons not_odd 61 u refl (pass_part not_odd h.row s k.plain)))
          (omega (arith, length-append w (61 ∷ u)))
          (text_trimmed w u c l.word d.equals d.keyword h.value)
          h.state c h.row g.0 (m ∙ g.1) g.2);
    })

-- ---- every line of one row

pub one_again : (st : State) (s : List ℕ) (x : Step) → step_of st s ≡ Ok x → x.count ≡ 1 → OneAgain st s x
one_again st s x r n = let w = read st s x r in go w.0 w.1 n
  where
    go : {x : Step} → Clean st s → Reads st s x → x.count ≡ 1 → OneAgain st s x
    go k (blank e) n = absurd (omega arith)
    go k (comment p e) n = comment_again st s p e k
    go k (meta c e f) n = meta_again st s c e f k
    go k (assign x c a e f y v) n = assign_again st s x c a e f k y v
    go k (fields t a d) n = absurd (omega arith)

-- ---- headings: whether a plain line is one, by its code

-- the plain line of a first code is
pub lead_head : (k : Option Form) (c : ℕ) (b : Bool) (v : List ℕ) → is_some k ≡ true → c ≡ head_code (unwrap_or k Opm) → heading_of (lead_of c b ++ v) ≡ k
unfolding lead_of word_in keywords heading_of heads agrees run bytes
lead_head (Some Opm) c b v h e = rw e
lead_head (Some Oem) c b v h e = rw e
lead_head None c b v h e = absurd (false≢true h)

-- no other is
pub lead_other : (c : ℕ) (b : Bool) (v : List ℕ) → (c ≡ 1 → ⊥) → (c ≡ 36 → ⊥) → is_heading (lead_of c b ++ v) ≡ false
unfolding lead_of heading_of heads agrees run bytes keywords each_word
lead_other c b v x y =
    let P : List ℕ → Type 0 = λ w. is_heading (w ++ v) ≡ false in
    let p : ℕ → List ℕ → Bool = λ n w. (eqb n 1 || eqb n 36) || not (is_heading (w ++ (61 ∷ v))) in
    let w : is_heading (word_in keywords c ++ (61 ∷ v)) ≡ false = not-true _ (rw (ne_eqb c 1 x, ne_eqb c 36 y) at (each_word_lem p c keywords refl (rw (ne_eqb c 1 x, ne_eqb c 36 y)))) in
    either P (eqb c 37) refl (either P (eqb c 44) refl (either P (eqb c 45) (comment b) (rw (append_assoc (word_in keywords c) (bytes "=") v) w)))
  where
    comment : (b : Bool) → is_heading (comment_lead b ++ v) ≡ false
    comment true = refl
    comment false = refl
