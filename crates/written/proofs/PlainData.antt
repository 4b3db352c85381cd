-- A data line written with one blank between its fields is judged as the line it came from, and is no heading line.
-- Assumes nothing.
use mathlib.Core.Path.{◌≡◌, refl, sym, ap, ◌∙◌}
use mathlib.Core.List.{List, [], ◌∷◌, ◌++◌}
use mathlib.Core.Bool.{Bool, true, false, not, ◌&&◌, and-false}
use Prim.Native.Nat.{ℕ, suc, ◌+◌, ◌-◌, ◌≤◌, ◌<◌}
use native.Mathlib.Omega.{arith}
use lib.Dec.{eqb, ltb, leb}
use lib.ListN.{length, take, drop, get_or}
use borrow.Author.Tests.{ne_eqb, le-ltb, leb-true, ltb-false}
use Rattle.words.specs.Words.{bytes, agrees, begins, run}
use Rattle.words.proofs.Laws.{run-le, run_stop}
use Rattle.lines.specs.Text.{is_blank, is_odd, blanks, cut_end, trim_of, equals_at, heading_of, comment_of, assignment_of, split_of, no_span}
use Rattle.lines.specs.declared.Span.{Span}
use Rattle.lines.proofs.Laws.{heads_no, comment_other}
use Rattle.values.specs.Number.{is_number}
use Rattle.epochs.specs.Epoch.{epoch_of}
use Rattle.epochs.specs.declared.Instant.{Instant}
use Rattle.lines.specs.declared.Form.{Form}
use Rattle.lines.specs.declared.Form.TheVariants.{Oem}
use Rattle.step.specs.Step.{seven_rows, past_data, sixty_stands, part, are_numbers, data_at, data_of, fields_of, meta_code, plain_of, uncommented_of, filled_of, step_of}
use Rattle.step.specs.declared.State.{State}
use Rattle.step.proofs.Laws.{fields_in_lem}
use Rattle.written.proofs.Bytes.{after}
use Rattle.written.proofs.Spaced.{parts, Respaced}
use Rattle.written.proofs.Trimmed.{cut_more}
use Rattle.write.proofs.Readings.{whether, DataLine, Clean, step_filled}
use Rattle.write.proofs.Names.{Meta, start, stop, meta_none}
use Rattle.std.specs.Prelude.{Some, None, Ok}

-- ---- a text that begins with a digit

data Dated : List ℕ → Type 0 where
  dated : {c : ℕ} {r : List ℕ} → 48 ≤ c → c ≤ 57 → Dated (c ∷ r)

-- an epoch does
epoch_dated : (v : List ℕ) (sixty : Bool) (t : Instant) → epoch_of v sixty ≡ Some t → Dated v
unfolding bytes agrees epoch_of
epoch_dated [] sixty t e = let z : ◌≡◌ {A = ℕ} 0 1 = cc in absurd (omega arith)
epoch_dated (c ∷ v) sixty t e = go (leb 48 c) refl (leb c 57) refl
  where
    go : (a : Bool) → leb 48 c ≡ a → (b : Bool) → leb c 57 ≡ b → Dated (c ∷ v)
    go true p true q = dated (leb-true 48 c p) (leb-true c 57 q)
    go true p false q = let z : ◌≡◌ {A = ℕ} 0 1 = cc (rw (p, q, epoch_of) at e) in absurd (omega arith)
    go false p b q = let z : ◌≡◌ {A = ℕ} 0 1 = cc (rw (p, epoch_of) at e) in absurd (omega arith)

dated_append : {v : List ℕ} (x : List ℕ) → Dated v → Dated (v ++ x)
dated_append x (dated h k) = dated h k

meta_first : {f : Form} {t : List ℕ} {c : ℕ} → Meta f t c → get_or t 0 0 ≡ 77
unfolding bytes
meta_first start = refl
meta_first stop = refl

module _ (c : ℕ) (r : List ℕ) (h : 48 ≤ c) (k : c ≤ 57) where
  no_blank : is_blank c ≡ false
  no_blank = ne_eqb c 32 (λ e. omega arith)

  no_blanks : 0 ≡ 0 + blanks (c ∷ r)
  no_blanks = omega (arith, run_stop (λ b. is_blank b) (c ∷ r) 0 (omega arith) no_blank)

  -- it begins with no word that begins with a letter
  no_word : (w : List ℕ) → 57 < get_or w 0 0 → begins w (c ∷ r) ≡ false
  unfolding agrees
  no_word [] j = absurd (omega arith)
  no_word (a ∷ w) j = rw (ne_eqb c a (λ e. omega arith), agrees)

  no_comment : comment_of (c ∷ r) ≡ None
  unfolding bytes
  no_comment = comment_other (c ∷ r) 0 no_blanks (no_word (bytes "COMMENT") (omega arith))

  no_heading : heading_of (c ∷ r) ≡ None
  unfolding bytes heading_of
  no_heading =
      rw (heads_no (bytes "CCSDS_OPM_VERS") (c ∷ r) 0 no_blanks (no_word (bytes "CCSDS_OPM_VERS") (omega arith)), heading_of)
      (rw (heads_no (bytes "CCSDS_OEM_VERS") (c ∷ r) 0 no_blanks (no_word (bytes "CCSDS_OEM_VERS") (omega arith))))

  -- nor is it a META line
  no_meta : (f : Form) → meta_code f (c ∷ r) ≡ None
  no_meta f = meta_none f (c ∷ r) (λ n m. omega (arith, meta_first m))

  -- blanks cut at both ends, it begins where it began
  trimmed : trim_of (c ∷ r) ≡ record { from = 0; to = suc (cut_end r) }
  unfolding cut_end trim_of run
  trimmed =
      let e : cut_end (c ∷ r) ≡ suc (cut_end r) = cut_more c r (rw no_blank (and-false (eqb (cut_end r) 0))) in
      rw e (rw (no_blank, run))

heading_none : {q : List ℕ} → Dated q → heading_of q ≡ None
heading_none (dated h k) = no_heading _ _ h k

-- ---- a text with no `=`

equals_none : (s : List ℕ) → equals_at s ≡ length s → assignment_of s ≡ None
unfolding assignment_of
equals_none s h = rw (le-ltb (equals_at s) (length s) (omega arith), assignment_of)

none_equals : (s : List ℕ) → assignment_of s ≡ None → equals_at s ≡ length s
unfolding assignment_of
none_equals s =
    whether (λ a. a ≡ None → equals_at s ≡ length s) (ltb (equals_at s) (length s)) (λ q e. let z : ◌≡◌ {A = ℕ} 0 1 = cc in absurd (omega arith))
    (λ q e. omega (arith, ltb-false (equals_at s) (length s) q, run-le (λ b. not (eqb b 61)) s))

-- a line that begins with a digit and has no `=` can only be a data line
step_fields : (st : State) {q : List ℕ} → Dated q → Clean st q → assignment_of q ≡ None → step_of st q ≡ fields_of st q
unfolding filled_of uncommented_of plain_of
step_fields st (dated {c} {r} h j) k a =
    let z : suc (cut_end r) - 0 ≡ suc (cut_end r) = omega arith in
    step_filled st (c ∷ r) k (rw (trimmed c r h j) (λ e. omega arith))
    ∙ rw (no_comment c r h j, filled_of) (rw (trimmed c r h j) (rw (z, no_meta c (take (cut_end r) r) h j st.form, uncommented_of) (rw (a, plain_of))))

-- ---- data lines of the same values

abbrev numbers : List (List ℕ) → Bool
numbers [] = true
numbers (v ∷ vs) = is_number v && numbers vs

module _ (s : List ℕ) where
  numbers_are : (ps : List Span) → are_numbers ps s ≡ numbers (parts s ps)
  unfolding are_numbers
  numbers_are [] = refl
  numbers_are (p ∷ ps) = ap (λ (t : Bool). is_number (part p s) && t) (numbers_are ps)

  -- a data line is judged by its values
  by_values : (ps : List Span) (v : List ℕ) (vs : List (List ℕ)) → parts s ps ≡ v ∷ vs
      → (part (get_or ps 0 no_span) s ≡ v) × (are_numbers (drop 1 ps) s ≡ numbers vs)
  by_values [] v vs e = let z : ◌≡◌ {A = ℕ} 0 1 = cc in absurd (omega arith)
  by_values (p ∷ ps) v vs e = let k : parts s ps ≡ vs = cc in (cc, numbers_are ps ∙ ap numbers k)

-- a data line that is right has seven rows
fields_right : (st : State) (q : List ℕ) (t : Instant) → DataLine st q t → fields_of st q ≡ Ok (seven_rows (past_data st t) (split_of q).spans)
unfolding data_of data_at
fields_right st q t d =
    fields_in_lem st q Oem d.form
    ∙ rw d.seven (rw (d.fits, data_of) (rw d.epoch (rw (d.numbers, data_at) (rw d.timely))))

-- the text of these fields, one blank between them
abbrev pub written : {s : List ℕ} → Respaced s → List ℕ
written w = w.first ++ after 32 w.others

module _ (st : State) (s : List ℕ) (t : Instant) (a : assignment_of s ≡ None) (d : DataLine st s t) (k : Clean st s) (w : Respaced s) where
  was : (part (get_or (split_of s).spans 0 no_span) s ≡ w.first) × (are_numbers (drop 1 (split_of s).spans) s ≡ numbers w.others)
  was = by_values s (split_of s).spans _ _ w.values

  epoch_first : epoch_of w.first (sixty_stands st 9) ≡ Some t
  epoch_first = rw (← was.0) d.epoch

  written_dated : Dated (written w)
  written_dated = dated_append (after 32 w.others) (epoch_dated w.first _ t epoch_first)

  written_data : DataLine st (written w) t
  written_data =
      let v = by_values (written w) (split_of (written w)).spans _ _ w.again.1 in
      record {
        form = d.form;
        seven = w.again.0;
        fits = d.fits;
        epoch = rw v.0 epoch_first;
        numbers = v.1 ∙ sym was.1 ∙ d.numbers;
        timely = d.timely;
      }

  pub data_plain : step_of st (written w) ≡ Ok (seven_rows (past_data st t) (split_of (written w)).spans)
  data_plain =
      step_fields st written_dated
      (record { short = omega arith; plain = w.each (λ b. not (is_odd b)) refl k.plain })
      (equals_none (written w) (w.each (λ b. not (eqb b 61)) refl (none_equals s a)))
      ∙ fields_right st (written w) t written_data

  pub data_heading : heading_of (written w) ≡ None
  data_heading = heading_none written_dated
