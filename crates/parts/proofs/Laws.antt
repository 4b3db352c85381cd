-- Laws of the parts of a line that offend: what the walks found is what the definitions say, and each part lies in the text.
-- Assumes nothing.
use mathlib.Core.Path.{◌≡◌, refl, ◌∙◌}
use mathlib.Core.List.{List, [], ◌∷◌}
use mathlib.Core.Bool.{Bool, true, false, not}
use Prim.Native.Nat.{ℕ, suc, min, ◌+◌, ◌≤◌}
use native.Mathlib.Omega.{arith}
use lib.Dec.{eqb}
use lib.ListN.{length, get_or, take, drop, length-take}
use Rattle.std.proofs.Math.Nat.{min_comm}
use Rattle.words.proofs.Laws.{run-le}
use Rattle.reasons.specs.Reasons.{reason_no}
use Rattle.reasons.specs.declared.Reason.{Reason}
use Rattle.lines.specs.Text.{is_odd, odd_at, no_span, trim_of, moved, assignment_of, split_of}
use Rattle.lines.specs.declared.Span.{Span}
use Rattle.lines.specs.declared.Sides.{Sides}
use Rattle.lines.specs.declared.Fields.{Fields}
use Rattle.values.specs.Number.{is_number}
use Rattle.epochs.specs.Epoch.{epoch_of}
use Rattle.epochs.specs.declared.Instant.{Instant}
use Rattle.grammar.specs.Rows.{between, Row, pick}
use Rattle.grammar.specs.declared.Kind.{Kind}
use Rattle.grammar.specs.declared.Kind.TheVariants.{Version, Text, Integer, Number, Epoch}
use Rattle.step.specs.declared.State.{State}
use Rattle.std.proofs.Common.{find, unwrap_or, Some, cond}
use Rattle.step.specs.Step.{part, word_len, Inside}
use Rattle.step.proofs.Laws.{trim_inside, inside_part, word_within, tail_inside, tail_part, sides_inside, fields_inside}
use Rattle.parts.specs.Parts.{past_long, first_odd, sides_in, keyword_part, value_in, kind_in, first_wrong, data_part, value_part, unit_part, offences, offending}
use Rattle.std.specs.Prelude.{Option, Some, None}

-- ---- a text's ends

pub long_from : (s : List ℕ) → min (length s) 254 ≡ length (take 254 s)
long_from s = rw (length-take 254 s) (min_comm (length s) 254)

pub odd_within : (s : List ℕ) → odd_at s ≤ length s
odd_within s = run-le (λ b. not (is_odd b)) s

-- ---- parts lie in the text

none_inside : (s : List ℕ) → Inside no_span s
none_inside s = record { order = omega arith; end = omega arith }

pub sides_within : (s : List ℕ) (x : Sides) → x ≡ sides_in s → Inside x.keyword s × Inside x.value s
unfolding sides_in
sides_within s x e = rw e (go (assignment_of s) refl)
  where
    go : (q : Option Sides) → assignment_of s ≡ q
        → let y : Sides = elim q [ Some z ↦ z | None ↦ record { keyword = no_span; value = no_span } ] in Inside y.keyword s × Inside y.value s
    go (Some y) h = sides_inside s y h
    go None h = (none_inside s, none_inside s)

-- ---- what follows a number, as the walk found it: the rest r of the value, and its trimmed part u

pub unit_found : (s t : List ℕ) (x : Sides) (r u : Span) → x ≡ sides_in s → let n = word_len (part x.value s) in
    r ≡ record { from = x.value.from + n; to = x.value.to } → t ≡ s → u ≡ moved r.from (trim_of (part r t)) → u ≡ unit_part s
unfolding unit_part
unit_found s t x r u kx kr kt ku =
    let w = (sides_within s x kx).1 in
    let n = word_len (part x.value s) in
    let e : part r t ≡ drop n (part x.value s) = rw (kt, kr) (tail_part x.value s w n (word_within x.value s w _ refl)) in
    ku ∙ rw (e, kr) (rw (← kx))

-- ---- the first field that is no number

wrong_found : (d : Span) (ps : List Span) (s : List ℕ) → unwrap_or (find (λ p. not (is_number (part p s))) ps) d ≡ first_wrong d ps s
unfolding first_wrong
wrong_found d [] s = refl
wrong_found d (p ∷ ps) s = go (is_number (part p s)) (wrong_found d ps s)
  where
    go : (t : Bool) → unwrap_or (find (λ q. not (is_number (part q s))) ps) d ≡ first_wrong d ps s
        → unwrap_or (cond (not t) (Some p) (find (λ q. not (is_number (part q s))) ps)) d ≡ elim t [ true ↦ first_wrong d ps s | false ↦ p ]
    go true e = e
    go false e = refl

-- it, in a data line whose epoch has been read
pub data_later : (st : State) (s : List ℕ) (f : Fields) (t : Instant) (w : Option Span) → f ≡ split_of s
    → epoch_of (part (get_or f.spans 0 no_span) s) st.utc ≡ Some t → w ≡ find (λ p. not (is_number (part p s))) (drop 1 f.spans)
    → unwrap_or w (get_or f.spans 0 no_span) ≡ data_part st s
unfolding data_part
data_later st s f t w kf h kw = rw (kw, wrong_found (get_or f.spans 0 no_span) (drop 1 f.spans) s) (rw (← kf, data_part) (rw (h, data_part) (rw (← kf))))

-- ---- the part that offends

-- each of the parts lies in the text, and so does the one that offends
module _ (s : List ℕ) where
  either : (t : Bool) {p q : Span} → Inside p s → Inside q s → Inside (elim t [ true ↦ p | false ↦ q ]) s
  either true g h = g
  either false g h = h

  abbrev Each : List (Row Span) → ℕ → Type 0
  Each [] n = Unit {0}
  Each (r ∷ rs) n = Inside (r.has n) s × Each rs n

  picked : (rs : List (Row Span)) (d : Span) (n : ℕ) → Each rs n → Inside d s → Inside (pick rs d n) s
  unfolding pick
  picked [] d n a h = h
  picked (r ∷ rs) d n a h = either (between r.low r.high n) a.0 (picked rs d n a.1 h)

  long_inside : Inside (past_long s) s
  long_inside = record { order = omega (arith, length-take 254 s); end = omega arith }

  odd_inside : Inside (first_odd s) s
  odd_inside =
      let h = run-le (λ b. not (is_odd b)) s in
      record { order = omega (arith, h, length-take (odd_at s + 1) s); end = omega (arith, length-take (odd_at s + 1) s) }

  keyword_inside : Inside (keyword_part s) s
  unfolding keyword_part
  keyword_inside =
      either (eqb (sides_in s).keyword.to 0) (record { order = omega arith; end = run-le (λ b. not (eqb b 61)) s }) (sides_within s (sides_in s) refl).0

  in_inside : (k : Option Kind) (p : Span) → Inside p s → Inside (value_in k p s) s
  unfolding value_in
  in_inside (Some Number) p h = record { order = omega arith; end = omega (arith, word_within p s h _ refl, h.end) }
  in_inside (Some Version) p h = h
  in_inside (Some Text) p h = h
  in_inside (Some Integer) p h = h
  in_inside (Some Epoch) p h = h
  in_inside None p h = h

  wrong-inside : (d : Span) (ps : List Span) → Inside d s → ((i : ℕ) → Inside (get_or ps i no_span) s) → Inside (first_wrong d ps s) s
  unfolding first_wrong
  wrong-inside d [] h a = h
  wrong-inside d (p ∷ ps) h a = either (is_number (part p s)) (wrong-inside d ps h (λ i. a (suc i))) (a 0)

  rest_inside : (ps : List Span) → ((i : ℕ) → Inside (get_or ps i no_span) s) → (i : ℕ) → Inside (get_or (drop 1 ps) i no_span) s
  rest_inside [] a i = a i
  rest_inside (p ∷ ps) a i = a (suc i)

  data_inside : (st : State) → Inside (data_part st s) s
  unfolding data_part
  data_inside st = go (epoch_of (part (get_or (split_of s).spans 0 no_span) s) st.utc)
    where
      go : (e : Option Instant)
          → let ps = (split_of s).spans in Inside (elim e [ None ↦ get_or ps 0 no_span | Some t ↦ first_wrong (get_or ps 0 no_span) (drop 1 ps) s ]) s
      go None = (fields_inside s _ refl).inside 0
      go (Some t) = let a = (fields_inside s _ refl).inside in wrong-inside _ _ (a 0) (rest_inside (split_of s).spans a)

  value-inside : (st : State) → Inside (value_part st s) s
  unfolding value_part
  value-inside st = go (assignment_of s) refl
    where
      go : (q : Option Sides) → assignment_of s ≡ q
          → Inside (elim q [ Some x ↦ value_in (kind_in st.form x s) x.value s | None ↦ data_part st s ]) s
      go (Some x) e = in_inside _ _ (sides_inside s x e).1
      go None e = data_inside st

  unit_inside : Inside (unit_part s) s
  unfolding unit_part
  unit_inside =
      let p = (sides_in s).value in
      let w = (sides_within s _ refl).1 in
      let n = word_len (part p s) in
      let i = word_within p s w n refl in
      inside_part _ s (tail_inside p s w n refl) _ (rw (tail_part p s w n i) (trim_inside (drop n (part p s)) _ refl))

  pub offending-inside : (st : State) (r : Reason) → Inside (offending st s r) s
  unfolding offending
  offending-inside st r =
      picked (offences st s) (trim_of s) (reason_no r) (long_inside, (odd_inside, (keyword_inside, (value-inside st, (unit_inside, (value-inside st, tt)))))) (trim_inside s _ refl)
