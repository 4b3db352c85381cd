-- The keyword of a line that is right and has one row is its code's word, and no such line is one of data fields; a data line has seven rows.
-- Assumes nothing.
use mathlib.Core.Path.{◌≡◌, refl, sym, ap, ◌∙◌}
use mathlib.Core.List.{List, [], ◌∷◌}
use mathlib.Core.Bool.{Bool, true, false, ◌&&◌, and-eq-true_iff, false≢true}
use Prim.Native.Nat.{ℕ, ◌<◌}
use native.Mathlib.Omega.{arith}
use lib.Dec.{eqb, ltb, leb}
use lib.ListN.{length}
use borrow.Author.Tests.{eqb-true, leb-true, ltb-true}
use Rattle.words.specs.Words.{bytes, agrees, is_word}
use Rattle.words.proofs.Laws.{word-is}
use Rattle.lines.specs.Text.{equals_at, sides_of, assignment_of}
use Rattle.lines.specs.declared.Sides.{Sides}
use Rattle.keywords.specs.Keywords.{Entry, keywords, code_in}
use Rattle.grammar.specs.Rows.{between, pick}
use Rattle.grammar.specs.Keywords.{assigned as assignedBy, assigns, keyword_of}
use Rattle.lines.specs.declared.Form.{Form}
use Rattle.lines.specs.declared.Form.TheVariants.{Opm, Oem}
use Rattle.grammar.proofs.Laws.{picks}
use Rattle.step.specs.Step.{past, past_comment, part, meta_code, step_of}
use Rattle.step.specs.declared.State.{State}
use Rattle.step.specs.declared.Step.{Step}
use Rattle.write.specs.Plain.{word_in, is_field}
use Rattle.write.specs.Inner.{name_of}
use Rattle.write.proofs.Readings.{either, whether, value_stood, Reads, blank, comment, meta, assign, fields, read}
use Rattle.std.specs.Prelude.{Option, Some, None, Ok}

-- ---- a keyword has its code's word

-- a test of code and word that each of some keywords passes
module _ (p : ℕ → List ℕ → Bool) where
  unfoldable pub each_word : List Entry → Bool
  each_word [] = true
  each_word (k ∷ ks) = p k.code k.word && each_word ks

  -- a word with its code passes it
  each-code : (s : List ℕ) (c : ℕ) (ks : List Entry) → each_word ks ≡ true → code_in ks s ≡ Some c → p c s ≡ true
  unfolding code_in each_word
  each-code s c [] o e = cc
  each-code s c (k ∷ ks) o e =
      let w = (and-eq-true_iff (p k.code k.word) (each_word ks)).0 o in
      whether (λ (n : Option ℕ). n ≡ Some c → p c s ≡ true) (is_word k.word s)
      (λ q r. let z : k.code ≡ c = cc in rw (← z, word-is k.word s q) w.0) (λ q r. each-code s c ks w.1 r) e

  -- a code with its word passes it, where it would with none
  pub each_word_lem : (c : ℕ) (ks : List Entry) → each_word ks ≡ true → p c [] ≡ true → p c (word_in ks c) ≡ true
  unfolding word_in each_word
  each_word_lem c [] o e = e
  each_word_lem c (k ∷ ks) o e =
      let w = (and-eq-true_iff (p k.code k.word) (each_word ks)).0 o in
      whether (λ (s : List ℕ). p c s ≡ true) (eqb c k.code) (λ q. rw (eqb-true c k.code q) w.0) (λ q. each_word_lem c ks w.1 e)

word_of_code : (s : List ℕ) (c : ℕ) → code_in keywords s ≡ Some c → word_in keywords c ≡ s
unfolding keywords each_word word_in is_word agrees bytes
word_of_code s c e = sym (word-is _ s (each-code (λ n w. is_word (word_in keywords n) w) s c keywords refl e))

-- the codes of META lines, of comments and of data fields are not assigned
never : (f : Form) → (assigns f 37 ≡ false) × (assigns f 44 ≡ false) × (assigns f 45 ≡ false)
unfolding pick
never Opm = (refl, refl, refl)
never Oem = (refl, refl, refl)

no_field : (f : Form) (c : ℕ) → assigns f c ≡ true → is_field f c ≡ false
unfolding is_field
no_field Opm c a = refl
no_field Oem c a = go (between 9 15 c) (λ q.
    let w = (and-eq-true_iff (leb 9 c) (leb c 15)).0 q in
    false≢true (picks (assignedBy Oem) false 3 c (omega (arith, leb-true 9 c w.0, leb-true c 15 w.1)) ∙ a))
  where
    go : (t : Bool) → (t ≡ true → ⊥) → t ≡ false
    go true f = absurd (f refl)
    go false f = refl

-- an assignment's code: its word, and that it is none of a META line's, a comment's or a data field's
pub record Assigned (f : Form) (w : List ℕ) (c : ℕ) : Type 0 where
  pub word : word_in keywords c ≡ w
  pub other : (c ≡ 37 → ⊥) × (c ≡ 44 → ⊥) × (c ≡ 45 → ⊥)
  pub field : is_field f c ≡ false

pub assigned : (f : Form) (w : List ℕ) (c : ℕ) → keyword_of f w ≡ Some c → Assigned f w c
unfolding keyword_of
assigned f w c = go (code_in keywords w) refl
  where
    go : (y : Option ℕ) → code_in keywords w ≡ y → elim y [ Some n ↦ elim (assigns f n) [ true ↦ Some n | false ↦ None ] | None ↦ None ] ≡ Some c → Assigned f w c
    go (Some n) k =
        whether (λ x. x ≡ Some c → Assigned f w c) (assigns f n)
        (λ q e.
        let z : n ≡ c = cc in
        let a : assigns f c ≡ true = rw z at q in
        let no : (m : ℕ) → assigns f m ≡ false → c ≡ m → ⊥ = λ m z h. false≢true (sym z ∙ ap (assigns f) (sym h) ∙ a) in
        let x = never f in
        record { word = word_of_code w c (k ∙ ap Some z); other = (no 37 x.0, no 44 x.1, no 45 x.2); field = no_field f c a })
        (λ q e. cc)
    go None k = λ e. cc

-- ---- a line that is right

-- an assignment's sides are those of its first `=`
pub parted : (s : List ℕ) (x : Sides) → assignment_of s ≡ Some x → (equals_at s < length s) × (x ≡ sides_of (equals_at s) s)
unfolding assignment_of
parted s x =
    whether (λ a. a ≡ Some x → (equals_at s < length s) × (x ≡ sides_of (equals_at s) s)) (ltb (equals_at s) (length s)) (λ q e. (ltb-true _ _ q, cc))
    (λ q e. let z : ◌≡◌ {A = ℕ} 0 1 = cc in absurd (omega arith))

-- what parts an assignment, as the writer finds it
name_is : (s : List ℕ) (x : Sides) → assignment_of s ≡ Some x → name_of s ≡ part x.keyword s
unfolding name_of sides_of
name_is s x e = ap (λ (y : Sides). part y.keyword s) (sym (parted s x e).1)

-- it has no row, one row of a line that is led by its code's word, or seven of a data line
pub data Rowed (st : State) (s : List ℕ) (x : Step) : Type 0 where
  none : x.count ≡ 0 → Rowed st s x
  one : x.count ≡ 1 → is_field st.form x.code ≡ false
      → ((x.code ≡ 37 → ⊥) → (x.code ≡ 44 → ⊥) → (x.code ≡ 45 → ⊥) → name_of s ≡ word_in keywords x.code) → Rowed st s x
  seven : x.count ≡ 7 → x.code ≡ 9 → st.form ≡ Oem → Rowed st s x

pub no_comment_field : (f : Form) → is_field f 45 ≡ false
unfolding is_field
no_comment_field Opm = refl
no_comment_field Oem = refl

-- the META lines
pub data Meta : Form → List ℕ → ℕ → Type 0 where
  start : Meta Oem (bytes "META_START") 37
  stop : Meta Oem (bytes "META_STOP") 44

pub meta_line : (f : Form) (t : List ℕ) (c : ℕ) → meta_code f t ≡ Some c → Meta f t c
unfolding meta_code
meta_line Opm t c e = cc
meta_line Oem t c e =
    let P : Option ℕ → Type 0 = λ m. m ≡ Some c → Meta Oem t c in
    whether P (is_word (bytes "META_START") t) (λ q h. met (bytes "META_START") 37 start (word-is _ t q) cc)
    (λ p. whether P (is_word (bytes "META_STOP") t) (λ q h. met (bytes "META_STOP") 44 stop (word-is _ t q) cc) (λ q h. cc)) e
  where
    met : (w : List ℕ) (n : ℕ) → Meta Oem w n → t ≡ w → n ≡ c → Meta Oem t c
    met w n m p q = rw (p, ← q) m

-- what is none of them has no code
pub meta_none : (f : Form) (t : List ℕ) → ((c : ℕ) → Meta f t c → ⊥) → meta_code f t ≡ None
meta_none f t h = go (meta_code f t) refl
  where
    go : (a : Option ℕ) → meta_code f t ≡ a → meta_code f t ≡ None
    go None q = q
    go (Some c) q = absurd (h c (meta_line f t c q))

pub meta_code_lem : {f : Form} {t : List ℕ} {c : ℕ} → Meta f t c → (is_field f c ≡ false) × ((c ≡ 37 → ⊥) → c ≡ 44)
unfolding is_field
meta_code_lem start = (refl, λ q. absurd (q refl))
meta_code_lem stop = (refl, λ q. refl)

-- a comment changes nothing, or is noted by its code
pub comment_either : (st : State) (P : State → Type 0) → P st → P (past st 45) → P (past_comment st)
unfolding past_comment
comment_either st P h k = go st.form
  where
    go : (f : Form) → P (elim f [ Opm ↦ st | Oem ↦ elim (eqb st.last 9) [ true ↦ past st 45 | false ↦ st ] ])
    go Opm = h
    go Oem = either P (eqb st.last 9) k h

-- no line changes the message type
pub form_kept : (st : State) (s : List ℕ) (x : Step) → step_of st s ≡ Ok x → x.state.form ≡ st.form
form_kept st s x r = go (read st s x r).1
  where
    go : {x : Step} → Reads st s x → x.state.form ≡ st.form
    go (blank e) = refl
    go (comment p e) = comment_either st (λ u. u.form ≡ st.form) refl refl
    go (meta c e f) = refl
    go (assign x c a e f y v) = (value_stood st c x.value s y v).form
    go (fields t a d) = refl

pub rowed : (st : State) (s : List ℕ) (x : Step) → step_of st s ≡ Ok x → Rowed st s x
rowed st s x r = go (read st s x r).1
  where
    go : {x : Step} → Reads st s x → Rowed st s x
    go (blank e) = none refl
    go (comment p e) = one refl (no_comment_field st.form) (λ a b c. absurd (c refl))
    go (meta c e f) = let m = meta_code_lem (meta_line st.form _ c e) in one refl m.0 (λ a b d. absurd (b (m.1 a)))
    go (assign x c a e f y u) =
        let v = value_stood st c x.value s y u in
        let w = assigned st.form _ c e in
        one v.count (rw v.code w.field) (λ i j k. name_is s x a ∙ sym (rw v.code w.word))
    go (fields t a d) = seven refl refl d.form
