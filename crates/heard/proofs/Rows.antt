-- No row of an accepted message goes unheard: each value was judged to be of its code's kind, and so it has words.
-- Assumes nothing.
use mathlib.Core.Path.{◌≡◌, refl, sym, ap, ◌∙◌, subst}
use mathlib.Core.List.{List, [], ◌∷◌, map}
use mathlib.Core.Bool.{Bool, true, false, and-eq-true_iff}
use mathlib.Core.Logic.{◌⊎◌, inl, inr, ⊎_elim}
use Prim.Native.Nat.{ℕ, ◌+◌, ◌-◌, ◌≤◌}
use native.Mathlib.Omega.{arith}
use lib.ListN.{length, take, drop, get_or, length-take, length-drop}
use lib.Seq.{take_all, take-take}
use Rattle.words.specs.Words.{Each}
use Rattle.words.proofs.Laws.{each_append}
use Rattle.lines.specs.Feed.{Line}
use Rattle.lines.specs.Text.{trim_of, no_span, split_of}
use Rattle.lines.specs.declared.Span.{Span}
use Rattle.values.specs.Number.{is_number, is_integer, is_text, is_version}
use Rattle.epochs.specs.Epoch.{epoch_of}
use Rattle.epochs.specs.declared.Instant.{Instant}
use Rattle.grammar.specs.Rows.{pick}
use Rattle.grammar.specs.Keywords.{kinds, kind_of, is_unit}
use Rattle.grammar.proofs.Laws.{picks}
use Rattle.lines.specs.declared.Form.{Form}
use Rattle.grammar.specs.declared.Kind.{Kind}
use Rattle.grammar.specs.declared.Kind.TheVariants.{Version, Text, Integer, Number, Epoch as EpochKind}
use Rattle.reasons.specs.declared.Reason.TheVariants as Reasons
use Rattle.step.specs.Step.{one_row, part, Inside, are_numbers, whole_of, word_len, number_of, is_early, past_time, time_of, sixty_stands, value_of}
use Rattle.step.specs.declared.State.{State}
use Rattle.step.specs.declared.Step.{Step}
use Rattle.step.proofs.Laws.{word-le, part_length, sides_inside, fields_inside}
use Rattle.judge.specs.Message.{judge_texts, message_of, rows_lines, rows_of}
use Rattle.judge.specs.declared.Row.{Row}
use Rattle.judge.proofs.Laws.{accepted_short}
use Rattle.write.specs.Plain.{Item, item, item_of}
use Rattle.write.proofs.Readings.{Right, offends, stands, whether, Clean, Reads, blank, comment, meta, assign, fields, read}
use Rattle.write.proofs.Heads.{first_right}
use Rattle.write.proofs.Names.{Meta, start, stop, meta_line}
use Rattle.written.proofs.Bytes.{pass_part}
use Rattle.written.proofs.Spaced.{parts}
use Rattle.written.proofs.PlainTexts.{items_in, items_of, items_texts}
use Rattle.written.proofs.Writing.{shows}
use Rattle.heard.specs.Heard.{AllPlain, RightIn, RightOf, IsHeard, RowHeard, RowsSaid}
use Rattle.heard.proofs.Epochs.{plain}
use Rattle.heard.proofs.Heard.{all_said}
use Rattle.std.specs.Prelude.{Option, Some, None, Result, Ok, Err}
use Rattle.reasons.specs.declared.Reason.{Reason}

-- a META line's row, or one whose value is right
abbrev Fit : Item → Type 0
Fit i = ((i.code ≡ 37) ⊎ (i.code ≡ 44)) ⊎ (RightOf i.code i.value × (length i.value ≤ 254))

-- a step that is right has such rows only
abbrev Fits : List ℕ → Result Step Reason → Type 0
Fits s y = Right (λ x. Each Fit (items_of x s)) y

module _ (st : State) (s : List ℕ) (k : Clean st s) where
  -- a part of the line is no longer than it, and has plain bytes
  part_short : (p : Span) → length (part p s) ≤ 254
  part_short p = omega (arith, length-take (p.to - p.from) (drop p.from s), length-drop p.from s, k.short)

  part-plain : (p : Span) → AllPlain (part p s)
  part-plain p = pass_part plain p s k.plain

  module _ (c : ℕ) (p : Span) where
    abbrev v : List ℕ
    v = part p s

    -- a row of this code and value
    fit : RightIn (kind_of c) v → Each Fit (item c v ∷ [])
    fit r = (inr (inr r, part_short p), tt)

    whole_fits : (m : Option Kind) → kind_of c ≡ m → (t : Bool) → (t ≡ true → RightIn m v) → Fits s (whole_of st c p v t)
    unfolding whole_of items_in
    whole_fits m q t r = whether (Fits s) t (λ e. stands _ (fit (subst (λ (n : Option Kind). RightIn n v) (sym q) (r e)))) (λ e. offends _)

    -- a number ends at the first blank
    number_fits : kind_of c ≡ Some Number → Inside p s → Fits s (number_of st c p s)
    unfolding number_of items_in
    number_fits q i =
        let n = word_len v in
        let w : Span = record { from = p.from; to = p.from + n } in
        let z : p.from + n - p.from ≡ n = omega arith in
        let e : part w s ≡ take n v = rw z (sym (take-take n (p.to - p.from) (drop p.from s) (omega (arith, word-le v, part_length p s i)))) in
        whether (Fits s) (is_number (take n v))
        (λ r. whether (Fits s) (is_unit c (part (trim_of (drop n v)) (drop n v)))
        (λ u. stands _ (inr (inr (subst (λ (m : Option Kind). RightIn m (part w s)) (sym q) (ap is_number e ∙ r)), part_short w), tt))
        (λ u. offends _))
        (λ r. offends _)

    time_fits : kind_of c ≡ Some EpochKind → Fits s (time_of st c p s)
    unfolding time_of items_in
    time_fits q = go (epoch_of v (sixty_stands st c)) refl
      where
        go : (e : Option Instant) → epoch_of v (sixty_stands st c) ≡ e
            → Fits s (elim e [
              | None ↦ Err Reasons.Value
              | Some t ↦ elim (is_early st c t) [ true ↦ Err Reasons.TimeOrder | false ↦ Ok (one_row (past_time st c t) c p) ]
            ])
        go None r = offends _
        go (Some t) r =
            whether (Fits s) (is_early st c t) (λ b. offends _)
            (λ b. stands _ (fit (subst (λ (m : Option Kind). RightIn m v) (sym q) (sixty_stands st c, t, r))))

    value-fits : Inside p s → Fits s (value_of st c p s)
    unfolding value_of
    value-fits i = go (kind_of c) refl
      where
        go : (m : Option Kind) → kind_of c ≡ m
            → Fits s (elim m [
              | Some Version ↦ whole_of st c p v (is_version v)
              | Some Text ↦ whole_of st c p v (is_text v)
              | Some Integer ↦ whole_of st c p v (is_integer v)
              | Some Number ↦ number_of st c p s
              | Some EpochKind ↦ time_of st c p s
              | None ↦ Err Reasons.Value
            ])
        go (Some Version) q = whole_fits (Some Version) q (is_version v) (λ e. e)
        go (Some Text) q = whole_fits (Some Text) q (is_text v) (λ e. (e, part-plain p))
        go (Some Integer) q = whole_fits (Some Integer) q (is_integer v) (λ e. e)
        go (Some Number) q = number_fits q i
        go (Some EpochKind) q = time_fits q
        go None q = offends _

  -- the six numbers of a data line, codes 10 to 15
  numbers_fit : (ps : List Span) (c : ℕ) → 10 ≤ c → c + length ps ≤ 16 → are_numbers ps s ≡ true → Each Fit (items_in c (parts s ps))
  unfolding are_numbers items_in
  numbers_fit [] c l h e = tt
  numbers_fit (p ∷ ps) c l h e =
      let a = (and-eq-true_iff (is_number (part p s)) _).0 e in
      let q : Some Number ≡ kind_of c = picks kinds _ 10 _ (omega arith) in
      ((fit c p (subst (λ (m : Option Kind). RightIn m (part p s)) q a.0)).0, numbers_fit ps (c + 1) (omega arith) (omega arith) a.1)

  -- behind its epoch, code 9
  seven_fit : (ps : List Span) → length ps ≡ 7 → (sixty : Bool) (t : Instant) → epoch_of (part (get_or ps 0 no_span) s) sixty ≡ Some t → are_numbers (drop 1 ps) s ≡ true
      → Each Fit (items_in 9 (parts s (take 7 ps)))
  unfolding items_in pick
  seven_fit [] n sixty t e a = absurd (omega arith)
  seven_fit (p ∷ ps) n sixty t e a = ((fit 9 p (sixty, t, e)).0, rw (take_all 6 ps (omega arith)) (numbers_fit ps 10 (omega arith) (omega arith) a))

  reads_fit : (x : Step) → Reads st s x → Each Fit (items_of x s)
  unfolding items_in
  reads_fit x (blank z) = tt
  reads_fit x (comment p e) = (inr (inl (refl, part-plain p), part_short p), tt)
  reads_fit x (meta c e f) = (inl (either_code (meta_line st.form _ c e)), tt)
    where
      either_code : {f : Form} {t : List ℕ} {c : ℕ} → Meta f t c → (c ≡ 37) ⊎ (c ≡ 44)
      either_code start = inl refl
      either_code stop = inr refl
  reads_fit x (assign y c a w f z v) = value-fits c y.value (sides_inside s y a).1 z v
  reads_fit x (fields t a d) = seven_fit (split_of s).spans (fields_inside s (split_of s) refl).size _ t d.epoch d.numbers

-- ---- so each row of an accepted message

texts_fit : (ts : List (List ℕ)) (st : State) (line rows n : ℕ) → judge_texts st line rows ts ≡ Ok n → Each Fit (items_texts st ts)
unfolding items_texts
texts_fit [] st line rows n e = tt
texts_fit (t ∷ ts) st line rows n e =
    let a = first_right st line rows n t ts e in
    let x = a.0 in
    let r = read st t x a.1 in
    rw (a.1, items_texts)
    (each_append Fit (items_of x t) (items_texts x.state ts) (reads_fit st t r.0 x r.1) (texts_fit ts x.state (line + 1) (rows + x.count) n a.2))

-- a row that is fit is heard
fit_heard : (c : ℕ) (v : List ℕ) (room : ℕ) → 259 ≤ room → Fit (item c v) → IsHeard c v room
fit_heard c v room h f = ⊎_elim (λ m. inl m) (λ r. inr (all_said c v room r.0 r.1 h)) f

rows_heard : (f : List ℕ) (room : ℕ) → 259 ≤ room → (rs : List Row) → Each Fit (map (item_of f) rs) → Each (RowHeard f room) rs
rows_heard f room h [] k = tt
rows_heard f room h (r ∷ rs) k = (fit_heard r.code _ room h k.0, rows_heard f room h rs k.1)

pub rows-said : RowsSaid
unfolding rows_lines
rows-said f k n room e h = go (message_of k f) refl
  where
    go : (ls : List Line) → message_of k f ≡ ls → Each (RowHeard f room) (rows_of f k)
    go [] q = rw q tt
    go (l ∷ ls) q =
        let x = shows f k l ls q l.text refl in
        rows_heard f room h (rows_of f k) (rw x.rows.0 (texts_fit _ _ 1 0 n (sym (x.judged (accepted_short f k n e)) ∙ e)))
