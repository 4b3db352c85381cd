-- Whatever a step answers has one of four forms: an offence, no row, one row whose value lies in the text, or seven of them.
-- Assumes nothing.
use mathlib.Core.Path.{◌≡◌, refl}
use mathlib.Core.List.{List, [], ◌∷◌}
use mathlib.Core.Bool.{Bool, true, false, ◌&&◌, false≢true}
use Prim.Native.Nat.{ℕ, ◌+◌, ◌≤◌, ◌<◌}
use native.Mathlib.Omega.{arith}
use lib.Dec.{eqb, ltb, leb}
use borrow.Author.Tests.{leb-true}
use lib.ListN.{length, get_or, take, drop, length-drop}
use Rattle.words.specs.Words.{bytes, begins, is_word}
use Rattle.words.proofs.Laws.{begins-le}
use Rattle.lines.specs.Text.{blanks, trim_of, moved, comment_of, word_ends, assignment_of, split_of, no_span, is_long, odd_at}
use Rattle.lines.specs.declared.Span.{Span}
use Rattle.lines.specs.declared.Sides.{Sides}
use Rattle.lines.specs.declared.Fields.{Fields}
use Rattle.lines.proofs.Laws.{trim_within}
use Rattle.epochs.specs.Epoch.{epoch_of}
use Rattle.epochs.specs.declared.Instant.{Instant}
use Rattle.keywords.specs.Keywords.{Entry, keywords, code_in}
use Rattle.grammar.specs.Keywords.{keyword_of, assigns, kind_of, is_unit}
use Rattle.lines.specs.declared.Form.{Form}
use Rattle.lines.specs.declared.Form.TheVariants.{Opm, Oem}
use Rattle.grammar.specs.declared.Kind.{Kind}
use Rattle.grammar.specs.declared.Kind.TheVariants.{Version, Text, Integer, Number, Epoch}
use Rattle.values.specs.Number.{is_number, is_text, is_version, is_integer}
use Rattle.step.specs.Step.{no_row, one_row, seven_rows, fits_here, sixty_stands, part, Inside, SevenInside, are_numbers, is_timely, data_at, data_of, fields_of, whole_of, word_len, number_of, past_time, is_early, time_of, value_of, assign_of, meta_code, meta_of, plain_of, past_comment, uncommented_of, filled_of, step_of}
use Rattle.step.specs.declared.State.{State}
use Rattle.step.specs.declared.Step.{Step}
use Rattle.reasons.specs.Reasons.{reason_no}
use Rattle.reasons.specs.declared.Reason.{Reason}
use Rattle.reasons.specs.declared.Reason.TheVariants as Reasons
use Rattle.step.proofs.Laws.{part_length, word-le, trim_inside, sides_inside, fields_inside}
use Rattle.std.specs.Prelude.{Option, Some, None, Result, Ok, Err}

-- a reason that a line can have
abbrev pub OfLine : Reason → Type 0
OfLine r = (3 ≤ reason_no r) × (reason_no r ≤ 10)

pub data Good (s : List ℕ) : Result Step Reason → Type 0 where
  offence : (r : Reason) → OfLine r → Good s (Err r)
  none : (st : State) → Good s (Ok (no_row st))
  one : (st : State) (c : ℕ) (p : Span) → c ≤ 45 → Inside p s → Good s (Ok (one_row st c p))
  seven : (st : State) (ps : List Span) → SevenInside ps s → Good s (Ok (seven_rows st ps))

-- ---- codes are small

small_codes : List Entry → Bool
small_codes [] = true
small_codes (k ∷ ks) = leb k.code 45 && small_codes ks

code-le : (ks : List Entry) (s : List ℕ) (c : ℕ) → small_codes ks ≡ true → code_in ks s ≡ Some c → c ≤ 45
unfolding code_in small_codes
code-le [] s c e h = cc
code-le (k ∷ ks) s c e h = go (is_word k.word s) (leb k.code 45) refl e h (code-le ks s c)
  where
    go : (t u : Bool) → leb k.code 45 ≡ u → u && small_codes ks ≡ true → elim t [ true ↦ Some k.code | false ↦ code_in ks s ] ≡ Some c
        → (small_codes ks ≡ true → code_in ks s ≡ Some c → c ≤ 45) → c ≤ 45
    go true true q r h f = let z : k.code ≡ c = cc in rw (← z) (leb-true k.code 45 q)
    go true false q r h f = absurd (false≢true r)
    go false true q r h f = f r h
    go false false q r h f = absurd (false≢true r)

keyword_le : (f : Form) (s : List ℕ) (c : ℕ) → keyword_of f s ≡ Some c → c ≤ 45
unfolding keyword_of small_codes keywords bytes
keyword_le f s c = go (code_in keywords s) (λ n. code-le keywords s n refl)
  where
    go : (y : Option ℕ) → ((n : ℕ) → y ≡ Some n → n ≤ 45)
        → elim y [ Some n ↦ elim (assigns f n) [ true ↦ Some n | false ↦ None ] | None ↦ None ] ≡ Some c → c ≤ 45
    go (Some n) h e = kept (assigns f n) (h n refl) e
      where
        kept : (t : Bool) → n ≤ 45 → elim t [ true ↦ Some n | false ↦ None ] ≡ Some c → c ≤ 45
        kept true h e = let q : n ≡ c = cc in omega arith
        kept false h e = cc
    go None h e = cc

meta_le : (f : Form) (t : List ℕ) (c : ℕ) → meta_code f t ≡ Some c → c ≤ 45
unfolding meta_code
meta_le Opm t c e = cc
meta_le Oem t c e = go (is_word (bytes "META_START") t) (is_word (bytes "META_STOP") t) e
  where
    go : (a b : Bool) → elim a [ true ↦ Some 37 | false ↦ elim b [ true ↦ Some 44 | false ↦ None ] ] ≡ Some c → c ≤ 45
    go true b q = let z : 37 ≡ c = cc in omega arith
    go false true q = let z : 44 ≡ c = cc in omega arith
    go false false q = cc

-- a comment's value lies in its text
comment_room : (s : List ℕ) → begins (bytes "COMMENT") (drop (blanks s) s) ≡ true → blanks s + 7 ≤ length s
unfolding bytes
comment_room s e = omega (arith, begins-le _ (drop (blanks s) s) e, length-drop (blanks s) s)

comment_inside : (s : List ℕ) (p : Span) → comment_of s ≡ Some p → Inside p s
unfolding comment_of
comment_inside s p = go (begins (bytes "COMMENT") (drop (blanks s) s)) refl (word_ends (drop (blanks s + 7) s))
  where
    go : (t : Bool) → begins (bytes "COMMENT") (drop (blanks s) s) ≡ t → (u : Bool)
        → elim (t && u) [ true ↦ Some (moved (blanks s + 7) (trim_of (drop (blanks s + 7) s))) | false ↦ None ] ≡ Some p → Inside p s
    go true q true e =
        let n = blanks s + 7 in
        let h = comment_room s q in
        let w = trim_within (drop n s) in
        let k : moved n (trim_of (drop n s)) ≡ p = cc in
        rw (← k) (record { order = omega (arith, w.0); end = omega (arith, w.1, length-drop n s) })
    go true q false e = let z : ◌≡◌ {A = ℕ} 0 1 = cc in absurd (omega arith)
    go false q u e = let z : ◌≡◌ {A = ℕ} 0 1 = cc in absurd (omega arith)

module _ (s : List ℕ) where
  either : (t : Bool) {a b : Result Step Reason} → Good s a → Good s b → Good s (elim t [ true ↦ a | false ↦ b ])
  either true g h = g
  either false g h = h

  module _ (st : State) where
    data_at_good : (f : Fields) (t : Instant) → SevenInside f.spans s → Good s (data_at st f t s)
    unfolding data_at
    data_at_good f t h = either (are_numbers (drop 1 f.spans) s) (either (is_timely st t) (seven _ _ h) (offence _ (omega arith))) (offence _ (omega arith))

    data_good : (f : Fields) → SevenInside f.spans s → Good s (data_of st f s)
    unfolding data_of
    data_good f h = either (fits_here st 9) (go (epoch_of (part (get_or f.spans 0 no_span) s) (sixty_stands st 9))) (offence _ (omega arith))
      where
        go : (e : Option Instant) → Good s (elim e [ None ↦ Err Reasons.Value | Some t ↦ data_at st f t s ])
        go None = offence Reasons.Value (omega arith)
        go (Some t) = data_at_good f t h

    fields_good : Good s (fields_of st s)
    unfolding fields_of
    fields_good = go st.form
      where
        go : (f : Form) → Good s (elim f [ Opm ↦ Err Reasons.Form | Oem ↦ elim (eqb (split_of s).count 7) [ false ↦ Err Reasons.Form | true ↦ data_of st (split_of s) s ] ])
        go Opm = offence Reasons.Form (omega arith)
        go Oem = either (eqb (split_of s).count 7) (data_good (split_of s) (fields_inside s _ refl)) (offence _ (omega arith))

    meta_good : (c n : ℕ) → c ≤ 45 → n ≤ length s → Good s (meta_of st c n)
    unfolding meta_of
    meta_good c n k h = either (fits_here st c) (one _ c _ k (record { order = omega arith; end = h })) (offence _ (omega arith))

    module _ (c : ℕ) (p : Span) (k : c ≤ 45) (h : Inside p s) where
      whole_good : (t : Bool) → Good s (whole_of st c p (part p s) t)
      unfolding whole_of
      whole_good t = either t (one _ c p k h) (offence _ (omega arith))

      time_good : Good s (time_of st c p s)
      unfolding time_of
      time_good = go (epoch_of (part p s) (sixty_stands st c))
        where
          go : (e : Option Instant) → Good s (elim e [ None ↦ Err Reasons.Value | Some t ↦ elim (is_early st c t) [ true ↦ Err Reasons.TimeOrder | false ↦ Ok (one_row (past_time st c t) c p) ] ])
          go None = offence Reasons.Value (omega arith)
          go (Some t) = either (is_early st c t) (offence _ (omega arith)) (one _ c p k h)

      number_good : Good s (number_of st c p s)
      unfolding number_of
      number_good =
          let v = part p s in
          let n = word_len v in
          let r = drop n v in
          either (is_number (take n v))
          (either (is_unit c (part (trim_of r) r))
          (one _ c _ k (record { order = omega arith; end = omega (arith, word-le v, part_length p s h, h.order, h.end) }))
          (offence _ (omega arith)))
          (offence _ (omega arith))

      value_good : Good s (value_of st c p s)
      unfolding value_of
      value_good = go (kind_of c)
        where
          go : (q : Option Kind)
              → Good s (elim q [
                | Some Version ↦ whole_of st c p (part p s) (is_version (part p s))
                | Some Text ↦ whole_of st c p (part p s) (is_text (part p s))
                | Some Integer ↦ whole_of st c p (part p s) (is_integer (part p s))
                | Some Number ↦ number_of st c p s
                | Some Epoch ↦ time_of st c p s
                | None ↦ Err Reasons.Value
              ])
          go (Some Version) = whole_good _
          go (Some Text) = whole_good _
          go (Some Integer) = whole_good _
          go (Some Number) = number_good
          go (Some Epoch) = time_good
          go None = offence Reasons.Value (omega arith)

    assign_good : (x : Sides) → Inside x.keyword s × Inside x.value s → Good s (assign_of st x s)
    unfolding assign_of
    assign_good x h = go (keyword_of st.form (part x.keyword s)) refl
      where
        go : (q : Option ℕ) → keyword_of st.form (part x.keyword s) ≡ q
            → Good s (elim q [ None ↦ Err Reasons.Keyword | Some c ↦ elim (fits_here st c) [ false ↦ Err Reasons.Order | true ↦ value_of st c x.value s ] ])
        go None e = offence Reasons.Keyword (omega arith)
        go (Some c) e = either (fits_here st c) (value_good c x.value (keyword_le _ _ c e) h.1) (offence _ (omega arith))

    plain_good : Good s (plain_of st s)
    unfolding plain_of
    plain_good = go (assignment_of s) refl
      where
        go : (q : Option Sides) → assignment_of s ≡ q → Good s (elim q [ Some x ↦ assign_of st x s | None ↦ fields_of st s ])
        go (Some x) e = assign_good x (sides_inside s x e)
        go None e = fields_good

    uncommented_good : (t : Span) → Inside t s → Good s (uncommented_of st t s)
    unfolding uncommented_of
    uncommented_good t h = go (meta_code st.form (part t s)) refl
      where
        go : (q : Option ℕ) → meta_code st.form (part t s) ≡ q → Good s (elim q [ Some c ↦ meta_of st c t.to | None ↦ plain_of st s ])
        go (Some c) e = meta_good c t.to (meta_le _ _ c e) h.end
        go None e = plain_good

    filled_good : (t : Span) → Inside t s → Good s (filled_of st t s)
    unfolding filled_of
    filled_good t h = go (comment_of s) refl
      where
        go : (q : Option Span) → comment_of s ≡ q → Good s (elim q [ Some p ↦ Ok (one_row (past_comment st) 45 p) | None ↦ uncommented_of st t s ])
        go (Some p) e = one _ 45 p (omega arith) (comment_inside s p e)
        go None e = uncommented_good t h

    pub step_good : Good s (step_of st s)
    unfolding step_of
    step_good =
        either (is_long s) (offence _ (omega arith))
        (either (ltb (odd_at s) (length s)) (offence _ (omega arith)) (either (eqb (trim_of s).to 0) (none st) (filled_good (trim_of s) (trim_inside s _ refl))))

-- what its count, spans and code say, whichever form it has: the spans lie in the line's text
pub record Spans (s : List ℕ) (x : Step) : Type 0 where
  pub few : x.count ≤ 7
  pub size : length x.spans ≡ 7
  pub inside : (i : ℕ) → i < x.count → Inside (get_or x.spans i no_span) s
  pub code : x.code ≤ 45

spans_good : {s : List ℕ} {y : Result Step Reason} → Good s y → (x : Step) → y ≡ Ok x → Spans s x
spans_good (offence r h) x e = cc
spans_good (none st) x e =
    let q : no_row st ≡ x = cc in
    rw (← q) (record { few = omega arith; size = refl; inside = λ i h. absurd (omega arith); code = omega arith })
spans_good (one st c p k h) x e =
    let q : one_row st c p ≡ x = cc in
    rw (← q) (record { few = omega arith; size = refl; inside = λ i j. let z : i ≡ 0 = omega arith in rw z h; code = k })
spans_good (seven st ps h) x e =
    let q : seven_rows st ps ≡ x = cc in
    rw (← q) (record { few = omega arith; size = h.size; inside = λ i j. h.inside i; code = omega arith })

pub spans : (st : State) (s : List ℕ) (x : Step) → step_of st s ≡ Ok x → Spans s x
spans st s x e = spans_good (step_good s st) x e

-- a line offends by a reason of lines
pub of_line : (st : State) (s : List ℕ) (r : Reason) → step_of st s ≡ Err r → OfLine r
of_line st s r e = go e (step_good s st)
  where
    go : {y : Result Step Reason} → y ≡ Err r → Good s y → OfLine r
    go e' (offence q h) = let z : q ≡ r = cc in rw (← z) h
    go e' (none st') = cc
    go e' (one st' c p k h) = cc
    go e' (seven st' ps h) = cc
