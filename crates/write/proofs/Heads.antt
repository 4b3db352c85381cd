-- A message that is accepted begins with its heading's row, which says its type.
-- Assumes nothing.
use mathlib.Core.Path.{◌≡◌, refl, sym, ap, ◌∙◌}
use mathlib.Core.List.{List, [], ◌∷◌, ◌++◌}
use mathlib.Core.Bool.{true, false, ◌&&◌, and-eq-true_iff}
use Prim.Native.Nat.{ℕ, suc, ◌+◌, ◌-◌, ◌≤◌, ◌<◌}
use native.Mathlib.Omega.{arith}
use lib.Dec.{eqb, leb}
use lib.ListN.{length, take, drop, length-drop, take-append-drop}
use borrow.Author.Tests.{eqb-true, ne_eqb, leb-true}
use Rattle.words.specs.Words.{bytes, agrees, begins, run}
use Rattle.words.proofs.Laws.{begins-le, begins-take}
use Rattle.lines.specs.Feed.{Line}
use Rattle.lines.specs.Text.{is_blank, blanks, cut_end, trim_of, comment_of, heads, heading_of}
use Rattle.lines.specs.declared.Span.{Span}
use Rattle.lines.proofs.Laws.{comment_other}
use Rattle.grammar.specs.Rows.{between, pick}
use Rattle.grammar.specs.Order.{only, next_of, is_also, allows}
use Rattle.lines.specs.declared.Form.{Form}
use Rattle.lines.specs.declared.Form.TheVariants.{Opm, Oem}
use Rattle.grammar.specs.declared.Next.{Next}
use Rattle.step.specs.Step.{fresh_state, fits_here, step_of}
use Rattle.step.specs.declared.State.{State}
use Rattle.step.specs.declared.Step.{Step}
use Rattle.step.proofs.Sound.{spans}
use Rattle.judge.specs.Message.{is_heading, from_heading, texts, judge_texts, refused}
use Rattle.judge.proofs.Laws.{not_both}
use Rattle.write.specs.Plain.{Item, item, type_of}
use Rattle.write.specs.Inner.{held, items_at, items_from}
use Rattle.write.proofs.Readings.{whether, value_stood, Reads, blank, comment, meta, assign, fields, read}
use Rattle.std.specs.Prelude.{Option, Some, None, is_some, Result, Ok, Err}
use Rattle.reasons.specs.declared.Reason.{Reason}
use Rattle.judge.specs.declared.Refusal.{Refusal}

-- ---- a heading line has a row, and is no comment

-- a text of which nothing is left has only blanks
cut_none : (s : List ℕ) → cut_end s ≡ 0 → blanks s ≡ length s
unfolding cut_end run
cut_none [] = λ h. refl
cut_none (b ∷ s) =
    whether (λ (n : ℕ). n ≡ 0 → blanks (b ∷ s) ≡ suc (length s)) (eqb (cut_end s) 0 && is_blank b)
    (λ q h.
    let c = (and-eq-true_iff (eqb (cut_end s) 0) (is_blank b)).0 q in
    rw (c.1, run) (omega (arith, cut_none s (eqb-true (cut_end s) 0 c.0))))
    (λ q h. absurd (omega arith))

abbrev pub Filled : List ℕ → Type 0
Filled s = ((trim_of s).to ≡ 0 → ⊥) × (comment_of s ≡ None)

-- both headings begin with `CC`
heads_filled : (w s : List ℕ) → heads (67 ∷ 67 ∷ w) s ≡ true → Filled s
unfolding heads trim_of agrees bytes
heads_filled w s e =
    let t = drop (blanks s) s in
    let b = ((and-eq-true_iff (begins (67 ∷ 67 ∷ w) t) _).0 e).0 in
    let n = length (67 ∷ 67 ∷ w) in
    let q : (67 ∷ 67 ∷ w) ++ drop n t ≡ t = ap (λ (a : List ℕ). a ++ drop n t) (sym (begins-take (67 ∷ 67 ∷ w) t b)) ∙ take-append-drop n t in
    (λ z. omega (arith, begins-le (67 ∷ 67 ∷ w) t b, cut_none s z, length-drop (blanks s) s), comment_other s (blanks s) (omega arith) (rw (← q)))

-- a heading line is not only blanks, and no comment
heading_filled : (s : List ℕ) → is_heading s ≡ true → Filled s
unfolding heading_of bytes
heading_filled s =
    let P : Option Form → Type 0 = λ k. is_some k ≡ true → Filled s in
    whether P (heads (bytes "CCSDS_OPM_VERS") s) (λ q h. heads_filled _ s q)
    (λ p. whether P (heads (bytes "CCSDS_OEM_VERS") s) (λ q h. heads_filled _ s q) (λ q h. cc))

-- ---- the code that it has

between_true : (l h n : ℕ) → between l h n ≡ true → (l ≤ n) × (n ≤ h)
between_true l h n e = let w = (and-eq-true_iff (leb l n) (leb n h)).0 e in (leb-true l n w.0, leb-true n h w.1)

-- what may come next is the code named besides or one of the range
pub allowed : (x : Next) (c : ℕ) → allows x c ≡ true → (0 < c) × ((x.also ≡ Some c → ⊥) → (x.low ≤ c) × (c ≤ x.high))
unfolding allows
allowed x c e =
    let w = (and-eq-true_iff (leb 1 c) _).0 e in
    (leb-true 1 c w.0, λ n. between_true x.low x.high c (rw (other x.also n) at w.1))
  where
    other : (a : Option ℕ) → (a ≡ Some c → ⊥) → is_also a c ≡ false
    other None n = refl
    other (Some a) n = ne_eqb c a (λ z. n (ap Some (sym z)))

-- the code a message of this type begins with
abbrev pub head_code : Form → ℕ
head_code Opm = 1
head_code Oem = 36

-- at the start only a heading fits
first_fits : (f : Form) (c : ℕ) → fits_here (fresh_state f) c ≡ true → c ≡ head_code f
unfolding next_of pick
first_fits Opm c e = let w = allowed (only 1) c e in omega (arith, w.1 (λ z. cc))
first_fits Oem c e = let w = allowed (only 36) c e in omega (arith, w.1 (λ z. cc))

pub head_type : (f : Form) (c : ℕ) (v : List ℕ) (is : List Item) → c ≡ head_code f → type_of (item c v ∷ is) ≡ f
unfolding type_of
head_type Opm c v is e = rw e
head_type Oem c v is e = rw e

-- ---- the first line of a message

-- the lines from a heading on begin with it
pub from_head : (ls : List Line) (k : ℕ) (l : Line) (rest : List Line) → from_heading k ls ≡ l ∷ rest → is_heading l.text ≡ true
unfolding from_heading
from_head [] k l rest e = cc
from_head (a ∷ ls) k l rest e =
    let P : List Line → Type 0 = λ xs. xs ≡ l ∷ rest → is_heading l.text ≡ true in
    whether P (is_heading a.text) (λ q. whether P (eqb k 1) (λ u z. let y : a ≡ l = cc in rw (← y) q) (λ u. from_head ls (k - 1) l rest)) (λ q. from_head ls k l rest) e

-- what is accepted has a right first line, and the rest is accepted
pub first_right : (st : State) (ln n total : ℕ) (t : List ℕ) (ts : List (List ℕ)) → judge_texts st ln n (t ∷ ts) ≡ Ok total
    → (x : Step) × (step_of st t ≡ Ok x) × (judge_texts x.state (ln + 1) (n + x.count) ts ≡ Ok total)
unfolding judge_texts
first_right st ln n total t ts = go (step_of st t) refl
  where
    go : (y : Result Step Reason) → step_of st t ≡ y
        → ◌≡◌ {A = Result ℕ Refusal} (elim y [ Err r ↦ refused r ln | Ok x ↦ judge_texts x.state (ln + 1) (n + x.count) ts ]) (Ok total)
        → (x : Step) × (step_of st t ≡ Ok x) × (judge_texts x.state (ln + 1) (n + x.count) ts ≡ Ok total)
    go (Err r) q e = absurd (not_both e refl)
    go (Ok x) q e = (x, q, e)

-- its row has the code of the message's type
pub first_code : (form : Form) (t : List ℕ) → is_heading t ≡ true → (x : Step) → step_of (fresh_state form) t ≡ Ok x
    → (x.code ≡ head_code form) × (x.count ≡ 1) × (x.state.last ≡ head_code form)
first_code form t h x r = go (read (fresh_state form) t x r).1
  where
    filled : Filled t
    filled = heading_filled t h

    go : {x : Step} → Reads (fresh_state form) t x → (x.code ≡ head_code form) × (x.count ≡ 1) × (x.state.last ≡ head_code form)
    go (blank e) = absurd (filled.0 e)
    go (comment p e) = let z : ◌≡◌ {A = ℕ} 0 1 = cc filled.1 in absurd (omega arith)
    go (meta c e f) = let k = first_fits form c f in (k, refl, k)
    go (assign x c a e f y v) =
        let s = value_stood (fresh_state form) c x.value t y v in
        let k = first_fits form c f in
        (s.code ∙ k, s.count, s.last ∙ k)
    go (fields i a d) = absurd (omega (arith, first_fits form 9 d.fits, ap head_code d.form))

-- so what is written of an accepted message says its type
items_type : (form : Form) (c : ℕ) (f : List ℕ) (at : ℕ) (ps : List Span) (is : List Item) → c ≡ head_code form → 0 < length ps → type_of (items_at c f at (take 1 ps) ++ is) ≡ form
unfolding items_at
items_type form c f at [] is e h = absurd (omega arith)
items_type form c f at (p ∷ ps) is e h = head_type form c (held f at p) is e

pub message_type : (form : Form) (f : List ℕ) (l : Line) (ls : List Line) (n : ℕ) → is_heading l.text ≡ true → judge_texts (fresh_state form) 1 0 (texts (l ∷ ls)) ≡ Ok n
    → type_of (items_from (fresh_state form) f (l ∷ ls)) ≡ form
unfolding items_from
message_type form f l ls n h e =
    let t = l.text in
    let w = first_right (fresh_state form) 1 0 n t (texts ls) e in
    let x = w.0 in
    let c = first_code form t h x w.1 in
    rw (w.1, items_from) (rw c.1 (items_type form x.code f l.start x.spans (items_from x.state f ls) c.0 (omega (arith, (spans (fresh_state form) t x w.1).size))))
