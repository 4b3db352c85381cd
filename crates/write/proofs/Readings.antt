-- What a line that is right can be: only blanks, a comment, a META line, an assignment or a data line, each with what its judgement found.
-- Assumes nothing.
use mathlib.Core.Path.{◌≡◌, refl}
use mathlib.Core.List.{List}
use mathlib.Core.Bool.{Bool, true, false, not}
use Prim.Native.Nat.{ℕ, ◌≤◌}
use native.Mathlib.Omega.{arith}
use lib.Dec.{eqb, ltb}
use lib.ListN.{length, take, drop, get_or}
use borrow.Author.Tests.{eqb-true, ltb-false, le-ltb, ne_eqb}
use Rattle.words.proofs.Laws.{run-le}
use Rattle.lines.specs.Text.{trim_of, comment_of, assignment_of, split_of, no_span, is_long, odd_at, is_odd}
use Rattle.lines.specs.declared.Span.{Span}
use Rattle.lines.specs.declared.Sides.{Sides}
use Rattle.epochs.specs.Epoch.{epoch_of}
use Rattle.epochs.specs.declared.Instant.{Instant}
use Rattle.grammar.specs.Keywords.{keyword_of, kind_of, is_unit}
use Rattle.grammar.specs.Rows.{between}
use Rattle.lines.specs.declared.Form.{Form}
use Rattle.lines.specs.declared.Form.TheVariants.{Opm, Oem}
use Rattle.grammar.specs.declared.Kind.{Kind}
use Rattle.grammar.specs.declared.Kind.TheVariants.{Version, Text, Integer, Number, Epoch}
use Rattle.values.specs.Number.{is_number, is_text, is_version, is_integer}
use Rattle.step.specs.Step.{no_row, one_row, seven_rows, past, past_whole, past_time, fits_here, sixty_stands, part, are_numbers, is_timely, past_data, data_at, data_of, fields_of, word_len, whole_of, number_of, is_early, time_of, value_of, assign_of, meta_code, meta_of, plain_of, past_comment, uncommented_of, filled_of, step_of}
use Rattle.step.specs.declared.State.{State}
use Rattle.step.specs.declared.Step.{Step}
use Rattle.reasons.specs.declared.Reason.{Reason}
use Rattle.reasons.specs.declared.Reason.TheVariants as Reasons
use Rattle.std.specs.Prelude.{Option, Some, None, Result, Ok, Err}

-- what holds of the step, where there is no offence
abbrev pub Right : (Step → Type 0) → Result Step Reason → Type 0
Right P y = (x : Step) → y ≡ Ok x → P x

-- an offence is not right
pub offends : (P : Step → Type 0) {r : Reason} → Right P (Err r)
offends P x e = cc

-- and where there is none, what holds of the step given holds
pub stands : (P : Step → Type 0) {a : Step} → P a → Right P (Ok a)
stands P {a} h x e =
    let q : a ≡ x = cc in
    rw (← q) h

-- what holds of each arm of a test, its outcome known, holds of the test
pub whether : {A : Type 0} (P : A → Type 0) (t : Bool) {a b : A} → (t ≡ true → P a) → (t ≡ false → P b) → P (elim t [ true ↦ a | false ↦ b ])
whether P true h k = h refl
whether P false h k = k refl

pub either : {A : Type 0} (P : A → Type 0) (t : Bool) {a b : A} → P a → P b → P (elim t [ true ↦ a | false ↦ b ])
either P t h k = whether P t (λ q. h) (λ q. k)

-- ---- an assignment that is right has one row of its code, and keeps the message type

module _ (st : State) (c : ℕ) where
  -- a line of the code has stood
  abbrev Kept : State → Type 0
  Kept u = (u.form ≡ st.form) × (u.last ≡ c)

  -- a value, wherever it stands, offends or is one row of the code
  pub data Ends : (Span → Result Step Reason) → Type 0 where
    off : (r : Reason) → Ends (λ p. Err r)
    on : (u : State) → Kept u → Ends (λ p. Ok (one_row u c p))

  whole_ends : (v : List ℕ) (t : Bool) → Ends (λ p. whole_of st c p v t)
  unfolding whole_of past_whole
  whole_ends v true = on _ (either Kept (eqb c 8) (refl, refl) (refl, refl))
  whole_ends v false = off _

  early_ends : (t : Instant) (b : Bool) → Ends (λ p. elim b [ true ↦ Err Reasons.TimeOrder | false ↦ Ok (one_row (past_time st c t) c p) ])
  unfolding past_time
  early_ends t true = off _
  early_ends t false = on _ (either Kept (eqb c 38) (refl, refl) (either Kept (between 39 41 c) (refl, refl) (refl, refl)))

  abbrev timed : Option Instant → Span → Result Step Reason
  timed e p =
      elim e [
        | None ↦ Err Reasons.Value
        | Some t ↦ elim (is_early st c t) [ true ↦ Err Reasons.TimeOrder | false ↦ Ok (one_row (past_time st c t) c p) ]
      ]

  time_ends : (e : Option Instant) → Ends (timed e)
  time_ends None = off _
  time_ends (Some t) = early_ends t (is_early st c t)

  -- a value is judged by its bytes alone, or is a number
  pub by_kind : (P : (Span → List ℕ → Result Step Reason) → Type 0) → ((f : List ℕ → Span → Result Step Reason) → ((v : List ℕ) → Ends (f v)) → P (λ p s. f (part p s) p)) → P (number_of st c)
      → P (value_of st c)
  unfolding value_of time_of
  by_kind P whole number = go (kind_of c)
    where
      go : (k : Option Kind)
          → P (λ p s. elim k [
            | Some Version ↦ whole_of st c p (part p s) (is_version (part p s))
            | Some Text ↦ whole_of st c p (part p s) (is_text (part p s))
            | Some Integer ↦ whole_of st c p (part p s) (is_integer (part p s))
            | Some Number ↦ number_of st c p s
            | Some Epoch ↦ time_of st c p s
            | None ↦ Err Reasons.Value
          ])
      go (Some Version) = whole (λ v p. whole_of st c p v (is_version v)) (λ v. whole_ends v (is_version v))
      go (Some Text) = whole (λ v p. whole_of st c p v (is_text v)) (λ v. whole_ends v (is_text v))
      go (Some Integer) = whole (λ v p. whole_of st c p v (is_integer v)) (λ v. whole_ends v (is_integer v))
      go (Some Number) = number
      go (Some Epoch) = whole (λ v. timed (epoch_of v (sixty_stands st c))) (λ v. time_ends (epoch_of v (sixty_stands st c)))
      go None = whole (λ v p. Err Reasons.Value) (λ v. off _)

  -- a step of one row of the code
  pub record Stood (x : Step) : Type 0 where
    pub form : x.state.form ≡ st.form
    pub last : x.state.last ≡ c
    pub code : x.code ≡ c
    pub count : x.count ≡ 1

  stood : {f : Span → Result Step Reason} → Ends f → (p : Span) → Right Stood (f p)
  stood (off r) p = offends _
  stood (on u k) p = stands _ (record { form = k.0; last = k.1; code = refl; count = refl })

  pub value_stood : (p : Span) (s : List ℕ) → Right Stood (value_of st c p s)
  unfolding number_of
  value_stood p s =
      let v = part p s in
      let r = drop (word_len v) v in
      by_kind (λ J. Right Stood (J p s)) (λ f e. stood (e v) p)
      (either (Right Stood) (is_number (take (word_len v) v))
      (either (Right Stood) (is_unit c (part (trim_of r) r)) (stands _ (record { form = refl; last = refl; code = refl; count = refl })) (offends _)) (offends _))

-- ---- lines

module _ (st : State) (s : List ℕ) where
  pub record DataLine (t : Instant) : Type 0 where
    pub form : st.form ≡ Oem
    pub seven : (split_of s).count ≡ 7
    pub fits : fits_here st 9 ≡ true
    pub epoch : epoch_of (part (get_or (split_of s).spans 0 no_span) s) (sixty_stands st 9) ≡ Some t
    pub numbers : are_numbers (drop 1 (split_of s).spans) s ≡ true
    pub timely : is_timely st t ≡ true

  pub data Reads : Step → Type 0 where
    blank : (trim_of s).to ≡ 0 → Reads (no_row st)
    comment : (p : Span) → comment_of s ≡ Some p → Reads (one_row (past_comment st) 45 p)
    meta : (c : ℕ) → meta_code st.form (part (trim_of s) s) ≡ Some c → fits_here st c ≡ true
        → Reads (one_row (past st c) c (record { from = (trim_of s).to; to = (trim_of s).to }))
    assign : (x : Sides) (c : ℕ) → assignment_of s ≡ Some x → keyword_of st.form (part x.keyword s) ≡ Some c → fits_here st c ≡ true
        → (y : Step) → value_of st c x.value s ≡ Ok y → Reads y
    fields : (t : Instant) → assignment_of s ≡ None → DataLine t → Reads (seven_rows (past_data st t) (split_of s).spans)

  -- where it is right, so is what it read
  abbrev Read : Result Step Reason → Type 0
  Read y = Right Reads y

  read_data : assignment_of s ≡ None → Read (fields_of st s)
  unfolding fields_of data_of data_at
  read_data n = go st.form refl
    where
      at : st.form ≡ Oem → (split_of s).count ≡ 7 → fits_here st 9 ≡ true → (e : Option Instant) → epoch_of (part (get_or (split_of s).spans 0 no_span) s) (sixty_stands st 9) ≡ e
          → Read (elim e [ None ↦ Err Reasons.Value | Some t ↦ data_at st (split_of s) t s ])
      at a b c None e = offends _
      at a b c (Some t) e =
          whether Read (are_numbers (drop 1 (split_of s).spans) s)
          (λ d. whether Read (is_timely st t) (λ f. stands _ (fields t n (record { form = a; seven = b; fits = c; epoch = e; numbers = d; timely = f }))) (λ f. offends _)) (λ d. offends _)

      go : (f : Form) → st.form ≡ f
          → Read (elim f [ Opm ↦ Err Reasons.Form | Oem ↦ elim (eqb (split_of s).count 7) [ false ↦ Err Reasons.Form | true ↦ data_of st (split_of s) s ] ])
      go Opm a = offends _
      go Oem a = whether Read (eqb (split_of s).count 7) (λ b. whether Read (fits_here st 9) (λ c. at a (eqb-true _ _ b) c _ refl) (λ c. offends _)) (λ b. offends _)

  read_assign : (x : Sides) → assignment_of s ≡ Some x → Read (assign_of st x s)
  unfolding assign_of
  read_assign x n = go (keyword_of st.form (part x.keyword s)) refl
    where
      go : (k : Option ℕ) → keyword_of st.form (part x.keyword s) ≡ k
          → Read (elim k [ None ↦ Err Reasons.Keyword | Some c ↦ elim (fits_here st c) [ false ↦ Err Reasons.Order | true ↦ value_of st c x.value s ] ])
      go None e = offends _
      go (Some c) e = whether Read (fits_here st c) (λ f y v. assign x c n e f y v) (λ f. offends _)

  read_plain : Read (plain_of st s)
  unfolding plain_of
  read_plain = go (assignment_of s) refl
    where
      go : (a : Option Sides) → assignment_of s ≡ a → Read (elim a [ Some x ↦ assign_of st x s | None ↦ fields_of st s ])
      go (Some x) e = read_assign x e
      go None e = read_data e

  read_filled : Read (filled_of st (trim_of s) s)
  unfolding filled_of uncommented_of meta_of
  read_filled = go (comment_of s) refl
    where
      other : (c : Option ℕ) → meta_code st.form (part (trim_of s) s) ≡ c → Read (elim c [ Some c ↦ meta_of st c (trim_of s).to | None ↦ plain_of st s ])
      other (Some c) e = whether Read (fits_here st c) (λ f. stands _ (meta c e f)) (λ f. offends _)
      other None e = read_plain

      go : (c : Option Span) → comment_of s ≡ c → Read (elim c [ Some p ↦ Ok (one_row (past_comment st) 45 p) | None ↦ uncommented_of st (trim_of s) s ])
      go (Some p) e = stands _ (comment p e)
      go None e = other _ refl

  -- a line that is right is no longer than 254 bytes and has plain ones only
  pub record Clean : Type 0 where
    pub short : length s ≤ 254
    pub plain : odd_at s ≡ length s

  pub read : (x : Step) → step_of st s ≡ Ok x → Clean × Reads x
  unfolding step_of
  read =
      let P : Step → Type 0 = λ x. Clean × Reads x in
      whether (Right P) (is_long s) (λ a. offends _)
      (λ a. whether (Right P) (ltb (odd_at s) (length s)) (λ b. offends _)
      (λ b x r. (
        record { short = ltb-false 254 (length s) a; plain = omega (arith, ltb-false (odd_at s) (length s) b, run-le (λ c. not (is_odd c)) s) },
        whether Read (eqb (trim_of s).to 0) (λ c. stands _ (blank (eqb-true _ _ c))) (λ c. read_filled) x r,
      )))

  -- and one that is so, and not only blanks, is judged by what it is
  pub step_filled : Clean → ((trim_of s).to ≡ 0 → ⊥) → step_of st s ≡ filled_of st (trim_of s) s
  unfolding step_of
  step_filled k n =
      rw (le-ltb 254 (length s) k.short, step_of) (rw (le-ltb (odd_at s) (length s) (omega (arith, k.plain))) (rw (ne_eqb (trim_of s).to 0 n)))
