-- Laws of what is written of a line and of a message, one turn of a walk at a time.
-- Assumes nothing.
use mathlib.Core.Path.{◌≡◌, refl, sym, ap, ap₂, ◌∙◌}
use mathlib.Core.List.{List, [], ◌∷◌, ◌++◌, append_assoc}
use mathlib.Core.Bool.{Bool, true, false}
use Prim.Native.Nat.{ℕ, ◌+◌, ◌-◌, ◌≤◌, ◌<◌}
use native.Mathlib.Numerals.{add-one}
use native.Mathlib.Omega.{arith}
use lib.Dec.{eqb, leb}
use lib.ListN.{length, take, drop, get_or, length-take, length-drop, drop_of_length-le}
use lib.Seq.{take_all, drop-cons, get_or-take, get_or-drop}
use borrow.Author.Tests.{eqb-true, eqb-false, eq-eqb, ne_eqb, le-leb}
use Rattle.std.proofs.Common.{rules}
use Rattle.std.proofs.lemmas.Slice.{between_is}
use Rattle.lines.specs.Text.{no_span}
use Rattle.lines.specs.declared.Span.{Span}
use Rattle.lines.specs.declared.Form.{Form}
use Rattle.lines.specs.declared.Form.TheVariants.{Oem}
use Rattle.step.specs.declared.State.{State}
use Rattle.step.specs.declared.Step.{Step}
use Rattle.write.specs.Plain.{Item, item, lead_of, is_field, words_of, parting_of, behind, plain}
use Rattle.write.specs.Inner.{Held, held, spaced, values_of, ValuesHeld, leads_of, items_at}
use Rattle.write.proofs.Leads.{leads_none, leads_one}
use Rattle.write.proofs.Names.{Rowed, none, one, seven}

-- ---- values parted by blanks, seen from a place

module _ (f : List ℕ) (at : ℕ) (x : Step) where
  -- the spans behind the first
  abbrev pub later : List Span
  later = take (x.count - 1) (drop 1 x.spans)

  later_lem : drop 1 (take x.count x.spans) ≡ later
  later_lem = search (rules, between_is)

  pub values_first : values_of f at x ≡ held f at (get_or x.spans 0 no_span) ++ spaced f at later
  unfolding values_of
  values_first = rw later_lem

  pub held_next : ValuesHeld f at x → (i : ℕ) → i < length later → Held f at (get_or later i no_span)
  held_next v i h =
      let k : i < x.count - 1 = omega (arith, length-take (x.count - 1) (drop 1 x.spans)) in
      rw (get_or-take (x.count - 1) (drop 1 x.spans) i no_span k, get_or-drop 1 x.spans i no_span) (v.inside (1 + i) (omega arith))

module _ (f : List ℕ) (at : ℕ) (ps : List Span) (i : ℕ) where
  -- the next value behind a blank, and those after it
  pub values_turn : i < length ps → spaced f at (drop i ps) ≡ (32 ∷ []) ++ (held f at (get_or ps i no_span) ++ spaced f at (drop (i + 1) ps))
  unfolding spaced
  values_turn h = rw (drop-cons ps i no_span h, add-one i)

  pub values_end : length ps ≤ i → spaced f at (drop i ps) ≡ []
  unfolding spaced
  values_end h = rw (drop_of_length-le ps h)

-- ---- a line of rows

-- a row that is no data field
module _ (f : Form) (i : Item) (e : is_field f i.code ≡ false) where
  pub word_led : words_of f i ≡ lead_of i.code (eqb (length i.value) 0) ++ i.value
  unfolding words_of
  word_led = rw (e, words_of)

  pub parted_line : parting_of f i.code ≡ 10
  unfolding parting_of
  parted_line = rw (e, parting_of)

-- a data line's first field, and those after it
field_first : (v : List ℕ) → (words_of Oem (item 9 v) ≡ v) × (parting_of Oem 9 ≡ 10)
unfolding words_of parting_of is_field
field_first v = (refl, refl)

pub field_next : (c : ℕ) (v : List ℕ) → 10 ≤ c → c ≤ 15 → (words_of Oem (item c v) ≡ v) × (parting_of Oem c ≡ 32)
unfolding words_of parting_of is_field
field_next c v h k =
    let a : leb 9 c ≡ true = le-leb 9 c (omega arith) in
    let b : leb c 15 ≡ true = le-leb c 15 k in
    let d : eqb c 9 ≡ false = ne_eqb c 9 (λ e. omega arith) in
    (rw (a, b, words_of), rw (a, b, d, parting_of))

fields_next : (f : List ℕ) (at : ℕ) (ps : List Span) (c : ℕ) → 10 ≤ c → c + length ps ≤ 16 → behind Oem (items_at c f at ps) ≡ spaced f at ps
unfolding behind items_at spaced
fields_next f at [] c h k = refl
fields_next f at (p ∷ ps) c h k =
    let w = field_next c (held f at p) h (omega arith) in
    rw (w.0, w.1, fields_next f at ps (c + 1) (omega arith) (omega arith))

-- whether a part is empty
empty_is : (f : List ℕ) (at : ℕ) (p : Span) → Held f at p → eqb p.from p.to ≡ eqb (length (held f at p)) 0
empty_is f at p h =
    let n : length (held f at p) ≡ p.to - p.from = simp (length-take, length-drop) (omega (arith, h.order, h.end)) in
    go (eqb p.from p.to) refl (length (held f at p)) n
  where
    go : (t : Bool) → eqb p.from p.to ≡ t → (m : ℕ) → m ≡ p.to - p.from → t ≡ eqb m 0
    go true q m n = sym (eq-eqb m 0 (omega (arith, eqb-true p.from p.to q)))
    go false q m n = sym (ne_eqb m 0 (λ z. eqb-false p.from p.to q (omega (arith, h.order))))

-- what stands before the values, and they, are the line; it stands behind an LF
pub record Lined (form : Form) (f : List ℕ) (at : ℕ) (x : Step) : Type 0 where
  pub line : leads_of x ++ values_of f at x ≡ plain form (items_at x.code f at (take x.count x.spans))
  pub first : behind form (items_at x.code f at (take x.count x.spans)) ≡ 10 ∷ plain form (items_at x.code f at (take x.count x.spans))

pub behind_first : (f : Form) (i : Item) (is : List Item) → parting_of f i.code ≡ 10 → behind f (i ∷ is) ≡ 10 ∷ plain f (i ∷ is)
unfolding behind plain
behind_first f i is e = rw e

module _ (f : List ℕ) (at : ℕ) (x : Step) (p : Span) (ps : List Span) (e : x.spans ≡ p ∷ ps) where
  lined_seven : length ps ≡ 6 → x.count ≡ 7 → x.code ≡ 9 → Lined Oem f at x
  unfolding values_of items_at plain
  lined_seven n c d =
      let w = field_first (held f at p) in
      let t : take 6 ps ≡ ps = take_all 6 ps (omega arith) in
      record {
        line = rw (leads_none x (λ q. omega arith), c, d, e, t) (sym (ap₂ ◌++◌ w.0 (fields_next f at ps 10 (omega arith) (omega arith))));
        first = rw (c, d, e) (behind_first Oem _ _ w.1);
      }

  lined_one : (form : Form) → Held f at p → x.count ≡ 1 → is_field form x.code ≡ false → Lined form f at x
  unfolding values_of spaced items_at plain behind
  lined_one form h c d =
      let i = item x.code (held f at p) in
      let l : leads_of x ≡ lead_of x.code (eqb (length (held f at p)) 0) = leads_one x c ∙ rw (e, empty_is f at p h) in
      record {
        line = rw (l, c, e, word_led form i d) (sym (append_assoc (lead_of x.code (eqb (length (held f at p)) 0)) (held f at p) []));
        first = rw (c, e) (behind_first form i [] (parted_line form i d));
      }

pub lined : (f : List ℕ) (at : ℕ) (x : Step) (st : State) (s : List ℕ) → Rowed st s x → 0 < x.count → length x.spans ≡ 7 → Held f at (get_or x.spans 0 no_span)
    → Lined st.form f at x
lined f at x st s r some n h = go x.spans refl r
  where
    go : (ps : List Span) → x.spans ≡ ps → Rowed st s x → Lined st.form f at x
    go [] e r = absurd (omega (arith, ap length e))
    go (p ∷ ps) e (none z) = absurd (omega arith)
    go (p ∷ ps) e (one c d g) = lined_one f at x p ps e st.form (rw e at h) c d
    go (p ∷ ps) e (seven c d o) = rw o (lined_seven f at x p ps e (omega (arith, ap length e)) c d)

-- ---- a message of rows

pub behind-append : (f : Form) (is js : List Item) → behind f (is ++ js) ≡ behind f is ++ behind f js
unfolding behind
behind-append f [] js = refl
behind-append f (i ∷ is) js =
    ap (λ (l : List ℕ). parting_of f i.code ∷ words_of f i ++ l) (behind-append f is js) ∙ ap (λ (l : List ℕ). parting_of f i.code ∷ l) (sym (append_assoc (words_of f i) (behind f is) (behind f js)))

pub plain-append : (f : Form) (is js : List Item) → 0 < length is → plain f (is ++ js) ≡ plain f is ++ behind f js
unfolding plain
plain-append f [] js h = absurd (omega arith)
plain-append f (i ∷ is) js h = ap (λ (l : List ℕ). words_of f i ++ l) (behind-append f is js) ∙ sym (append_assoc (words_of f i) (behind f is) (behind f js))
