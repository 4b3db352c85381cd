-- Laws of the definitions on a line judged.
-- Assumes nothing.
use mathlib.Core.Path.{◌≡◌, refl, sym, ap, ◌∙◌}
use mathlib.Core.List.{List, [], ◌∷◌}
use mathlib.Core.Bool.{Bool, true, false, not, ◌&&◌, cond}
use Rattle.std.proofs.Common.{All as EachOf, find, is_none, Some}
use Rattle.std.proofs.lemmas.List.{take_all, drop-take, get_or_default}
use lib.Seq.{take-take, drop-drop}
use Rattle.std.proofs.lemmas.Grind.{get_or_after_one}
use Prim.Native.Nat.{ℕ, zero, suc, ◌+◌, ◌-◌, ◌≤◌, ◌<◌}
use native.Mathlib.Omega.{arith}
use lib.ListN.{length, get_or, set, take, drop, replicate, length-set, length-take, length-drop}
use Rattle.lines.specs.Text.{no_span}
use Rattle.lines.specs.declared.Span.{Span}
use Rattle.values.specs.Number.{is_number}
use lib.Dec.{eqb, ltb}
use Rattle.words.proofs.Laws.{run-le}
use Rattle.lines.specs.Text.{is_blank, moved, is_long, odd_at, equals_at, trim_of, sides_of, assignment_of, field_then, fields_from, fields_in, field_more, gathered, no_fields, split_of}
use Rattle.lines.specs.declared.Sides.{Sides}
use Rattle.lines.specs.declared.Fields.{Fields}
use borrow.Author.Tests.{ltb-true}
use Rattle.lines.proofs.Laws.{trim_within}
use Rattle.grammar.specs.Keywords.{is_unit}
use Rattle.lines.specs.declared.Form.{Form}
use Rattle.lines.specs.declared.Form.TheVariants.{Opm, Oem}
use Rattle.step.specs.Step.{part, Inside, SevenInside, are_numbers, word_len, number_of, no_row, one_row, seven_rows, past, past_data, is_timely, fields_of, data_at, data_of, filled_of, step_of}
use Rattle.epochs.specs.declared.Instant.{Instant}
use Rattle.epochs.specs.Epoch.{epoch_of}
use Rattle.step.specs.declared.State.{State}
use Rattle.step.specs.declared.Step.{Step}
use Rattle.reasons.specs.declared.Reason.{Reason}
use Rattle.reasons.specs.declared.Reason.TheVariants as Reasons
use Rattle.std.specs.Prelude.{Option, Some, None, Result, Ok, Err, IsOk}

-- ---- fields that are numbers

pub numbers_none : (ps : List Span) (s : List ℕ) → is_none (find (λ p. not (is_number (part p s))) ps) ≡ are_numbers ps s
unfolding are_numbers
numbers_none [] s = refl
numbers_none (p ∷ ps) s = go (is_number (part p s)) (numbers_none ps s)
  where
    go : (t : Bool) → is_none (find (λ q. not (is_number (part q s))) ps) ≡ are_numbers ps s
        → is_none (cond (not t) (Some p) (find (λ q. not (is_number (part q s))) ps)) ≡ t && are_numbers ps s
    go true e = e
    go false e = refl

-- the fields behind the first, as the code has them
module _ (ps : List Span) (s : List ℕ) (h : SevenInside ps s) where
  pub rest_whole : take 6 (drop 1 ps) ≡ drop 1 ps
  rest_whole = take_all 6 (drop 1 ps) (omega (arith, h.size, length-drop 1 ps))

  pub rest_inside : EachOf (λ p. Inside p s) (take 6 (drop 1 ps))
  rest_inside k d e =
      let q : get_or (take 6 (drop 1 ps)) k d ≡ get_or ps (1 + k) no_span =
      get_or_default (take 6 (drop 1 ps)) k d no_span e ∙ ap (λ (xs : List Span). get_or xs k no_span) rest_whole ∙ get_or_after_one ps k no_span in
      rw q (h.inside (1 + k))

-- ---- what goes by the message type

pub fields_in_lem : (st : State) (s : List ℕ) (f : Form) → st.form ≡ f
    → fields_of st s
    ≡ elim f [
      | Opm ↦ Err Reasons.Form
      | Oem ↦ elim (eqb (split_of s).count 7) [ false ↦ Err Reasons.Form | true ↦ data_of st (split_of s) s ]
    ]
unfolding fields_of
fields_in_lem st s f e =
    ap
    (λ (g : Form).
    elim g [
      | Opm ↦ Err Reasons.Form
      | Oem ↦ elim (eqb (split_of s).count 7) [ false ↦ Err Reasons.Form | true ↦ data_of st (split_of s) s ]
    ])
    e

-- ---- a line that is right passed each test on its way

module _ (r : Reason) {x y : Result Step Reason} where
  kept : (b : Bool) → y ≡ elim b [ true ↦ x | false ↦ Err r ] → IsOk y → y ≡ x
  kept true p e = p
  kept false p e = cc

  spared : (b : Bool) → y ≡ elim b [ true ↦ Err r | false ↦ x ] → IsOk y → y ≡ x
  spared true p e = cc
  spared false p e = p

module _ (st : State) (s : List ℕ) where
  pub data_right : (f : Fields) (t : Instant) → IsOk (data_at st f t s) → data_at st f t s ≡ Ok (seven_rows (past_data st t) f.spans)
  unfolding data_at
  data_right f t e = kept _ (is_timely st t) (kept _ (are_numbers (drop 1 f.spans) s) refl e) e

  pub step_right : IsOk (step_of st s) → step_of st s ≡ elim (eqb (trim_of s).to 0) [ true ↦ Ok (no_row st) | false ↦ filled_of st (trim_of s) s ]
  unfolding step_of
  step_right e = spared _ (ltb (odd_at s) (length s)) (spared _ (is_long s) refl e) e

-- ---- an epoch read by one who found out whether second 60 may stand

pub epoch_read : (v : List ℕ) (asked may : Bool) (e : Option Instant) → e ≡ epoch_of v asked → asked ≡ may → epoch_of v may ≡ e
epoch_read v asked may e h k = sym (h ∙ ap (epoch_of v) k)

-- ---- parts of a text

pub part_length : (p : Span) (s : List ℕ) → Inside p s → length (part p s) ≡ p.to - p.from
part_length p s h = simp (length-take, length-drop) (omega (arith, h.order, h.end))

pub word-le : (s : List ℕ) → word_len s ≤ length s
word-le s = run-le (λ b. not (is_blank b)) s

pub trim_inside : (s : List ℕ) (p : Span) → p ≡ trim_of s → Inside p s
trim_inside s p e = rw e (record { order = (trim_within s).0; end = (trim_within s).1 })

-- a part of a part
module _ (p : Span) (s : List ℕ) (h : Inside p s) where
  pub inside_part : (q : Span) → Inside q (part p s) → Inside (moved p.from q) s
  inside_part q i = record { order = omega (arith, i.order); end = omega (arith, i.end, part_length p s h, h.order, h.end) }

  pub part_part : (q : Span) → Inside q (part p s) → part (moved p.from q) s ≡ part q (part p s)
  part_part q i =
      let m = p.to - p.from - q.from in
      let n = q.to - q.from in
      let room : q.to ≤ p.to - p.from = omega (arith, i.end, part_length p s h) in
      let cut : drop q.from (part p s) ≡ take m (drop (p.from + q.from) s) =
      ap (λ (k : ℕ). drop q.from (take k (drop p.from s))) (omega (arith, room, i.order)) ∙ drop-take q.from m (drop p.from s) ∙ ap (take m) (drop-drop q.from p.from s) in
      let same : p.from + q.to - (p.from + q.from) ≡ n = omega arith in
      rw (same, cut) (sym (take-take n m _ (omega (arith, room, i.order))))

  pub trim_part : (v : List ℕ) (q : Span) → v ≡ part p s → q ≡ trim_of v → Inside (moved p.from q) s
  trim_part v q e k = inside_part q (rw (← e) (trim_inside v q k))

  -- its first n bytes, up to a blank, and the rest
  pub word_within : (n : ℕ) → n ≡ word_len (part p s) → p.from + n ≤ p.to
  word_within n e = omega (arith, e, h.order, word-le (part p s), part_length p s h)

  pub word_inside : (n : ℕ) → n ≡ word_len (part p s) → Inside (record { from = p.from; to = p.from + n }) s
  word_inside n e = record { order = omega arith; end = omega (arith, word_within n e, h.end) }

  pub tail_inside : (n : ℕ) → n ≡ word_len (part p s) → Inside (record { from = p.from + n; to = p.to }) s
  tail_inside n e = record { order = word_within n e; end = h.end }

  word_part : (n : ℕ) → p.from + n ≤ p.to → part (record { from = p.from; to = p.from + n }) s ≡ take n (part p s)
  word_part n i = let e : p.from + n - p.from ≡ n = omega arith in rw e (sym (take-take n (p.to - p.from) (drop p.from s) (omega (arith, i))))

  pub tail_part : (n : ℕ) → p.from + n ≤ p.to → part (record { from = p.from + n; to = p.to }) s ≡ drop n (part p s)
  tail_part n i =
      let m = p.to - (p.from + n) in
      sym (ap (λ (k : ℕ). drop n (take k (drop p.from s))) (omega (arith, i)) ∙ drop-take n m (drop p.from s) ∙ ap (take m) (drop-drop n p.from s))

-- ---- a number and its unit, as the walk found them: the number is w, of the bytes v, and the unit's bytes are b

module _ (p : Span) (s : List ℕ) (h : Inside p s) where
  pub number_bytes : (w : Span) (t v : List ℕ) → w ≡ record { from = p.from; to = p.from + word_len (part p s) } → t ≡ s → v ≡ part w t → v ≡ take (word_len (part p s)) (part p s)
  number_bytes w t v kw kt kv = kv ∙ rw (kt, kw) (word_part p s h _ (word_within p s h _ refl))

  pub unit_bytes : (r u : Span) (t x b : List ℕ) → r ≡ record { from = p.from + word_len (part p s); to = p.to } → t ≡ s → u ≡ moved r.from (trim_of (part r t)) → x ≡ t → b ≡ part u x
      → let d = drop (word_len (part p s)) (part p s) in b ≡ part (trim_of d) d
  unit_bytes r u t x b kr kt ku kx kb =
      let i = word_within p s h _ refl in
      let n = word_len (part p s) in
      let e : part r s ≡ drop n (part p s) = rw kr (tail_part p s h n i) in
      let g : Inside r s = rw kr (tail_inside p s h n refl) in
      kb ∙ rw (kx, ku, kt) (part_part r s g (trim_of (part r s)) (trim_inside (part r s) _ refl) ∙ ap (λ (d : List ℕ). part (trim_of d) d) e)

module _ (st : State) (c : ℕ) (p : Span) (s v : List ℕ) (kv : v ≡ take (word_len (part p s)) (part p s)) where
  pub number_bad : is_number v ≡ false → Err Reasons.Value ≡ number_of st c p s
  unfolding number_of
  number_bad e = rw (← kv, number_of) (rw e)

  module _ (b : List ℕ) (kb : let d = drop (word_len (part p s)) (part p s) in b ≡ part (trim_of d) d) (e : is_number v ≡ true) where
    pub number_unit : is_unit c b ≡ false → Err Reasons.Unit ≡ number_of st c p s
    unfolding number_of
    number_unit u = rw (← kv, number_of) (rw e (rw (← kb) (rw u)))

    pub number_right : (w : Span) → w ≡ record { from = p.from; to = p.from + word_len (part p s) } → is_unit c b ≡ true → Ok (one_row (past st c) c w) ≡ number_of st c p s
    unfolding number_of
    number_right w kw u = rw (← kv, number_of) (rw e (rw (← kb) (rw u (rw (← kw)))))

-- ---- the sides of an assignment and the fields of a data line lie in their text

sides_at : (s : List ℕ) (n : ℕ) (x : Sides) → n < length s → x ≡ sides_of n s → Inside x.keyword s × Inside x.value s
unfolding sides_of
sides_at s n x h e =
    let k = trim_within (take n s) in
    let v = trim_within (drop (n + 1) s) in
    rw e (
      record { order = k.0; end = omega (arith, k.1, length-take n s) },
      record { order = omega (arith, v.0); end = omega (arith, v.1, length-drop (n + 1) s) },
    )

pub sides_inside : (s : List ℕ) (x : Sides) → assignment_of s ≡ Some x → Inside x.keyword s × Inside x.value s
unfolding assignment_of
sides_inside s x = go (ltb (equals_at s) (length s)) refl
  where
    go : (t : Bool) → ltb (equals_at s) (length s) ≡ t → elim t [ true ↦ Some (sides_of (equals_at s) s) | false ↦ None ] ≡ Some x
        → Inside x.keyword s × Inside x.value s
    go true q e = sides_at s (equals_at s) x (ltb-true _ _ q) cc
    go false q e = let z : ◌≡◌ {A = ℕ} 0 1 = cc in absurd (omega arith)

module _ (s : List ℕ) where
  abbrev All : List Span → Type 0
  All [] = Unit {0}
  All (p ∷ ps) = Inside p s × All ps

  none_inside : Inside no_span s
  none_inside = record { order = omega arith; end = omega arith }

  then_inside : (from at : ℕ) (ps : List Span) → at ≤ length s → All ps → All (field_then from at ps)
  unfolding field_then
  then_inside from at ps h a = go (ltb from at) refl
    where
      go : (t : Bool) → ltb from at ≡ t → All (elim t [ true ↦ record { from = from; to = at } ∷ ps | false ↦ ps ])
      go true q = (record { order = omega (arith, ltb-true from at q); end = h }, a)
      go false q = a

  from_inside : (t : List ℕ) (from at : ℕ) → at + length t ≡ length s → All (fields_from from at t)
  unfolding fields_from
  from_inside [] from at h = then_inside from at [] (omega arith) tt
  from_inside (b ∷ t) from at h = go (is_blank b) (from_inside t (at + 1) (at + 1) (omega arith)) (from_inside t from (at + 1) (omega arith))
    where
      go : (u : Bool) → All (fields_from (at + 1) (at + 1) t) → All (fields_from from (at + 1) t)
          → All (elim u [ true ↦ field_then from at (fields_from (at + 1) (at + 1) t) | false ↦ fields_from from (at + 1) t ])
      go true x y = then_inside from at _ (omega arith) x
      go false x y = y

  set-inside : (ps : List Span) (j : ℕ) (p : Span) → ((i : ℕ) → Inside (get_or ps i no_span) s) → Inside p s → (i : ℕ) → Inside (get_or (set ps j p) i no_span) s
  set-inside [] j p a h i = none_inside
  set-inside (q ∷ ps) zero p a h zero = h
  set-inside (q ∷ ps) zero p a h (suc i) = a (suc i)
  set-inside (q ∷ ps) (suc j) p a h zero = a zero
  set-inside (q ∷ ps) (suc j) p a h (suc i) = set-inside ps j p (λ k. a (suc k)) h i

  more_inside : (f : Fields) (p : Span) → SevenInside f.spans s → Inside p s → SevenInside (field_more f p).spans s
  unfolding field_more
  more_inside f p a h = go (ltb f.count 7)
    where
      go : (t : Bool)
          → SevenInside (elim t as (λ x. Fields) [
            | true ↦ record { count = f.count + 1; spans = set f.spans f.count p }
            | false ↦ record { count = 8; spans = f.spans }
          ]).spans s
      go true = record { size = length-set f.spans f.count p ∙ a.size; inside = set-inside f.spans f.count p a.inside h }
      go false = a

  gathered-inside : (ps : List Span) (f : Fields) → SevenInside f.spans s → All ps → SevenInside (gathered f ps).spans s
  unfolding gathered
  gathered-inside [] f a h = a
  gathered-inside (p ∷ ps) f a h = gathered-inside ps (field_more f p) (more_inside f p a h.0) h.1

  seven_none : (ps : List Span) (n : ℕ) → ps ≡ replicate n no_span → (i : ℕ) → Inside (get_or ps i no_span) s
  seven_none ps n e i = rw e (go n i)
    where
      go : (m i : ℕ) → Inside (get_or (replicate m no_span) i no_span) s
      go zero i = none_inside
      go (suc m) zero = none_inside
      go (suc m) (suc i) = go m i

  pub fields_inside : (f : Fields) → f ≡ split_of s → SevenInside f.spans s
  fields_inside f e =
      rw e
      (gathered-inside (fields_in s) no_fields (record { size = refl; inside = seven_none no_fields.spans 7 refl }) (from_inside s 0 0 (omega arith)))
