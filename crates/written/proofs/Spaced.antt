-- The fields of a text, and the same fields written with one blank between them.
-- Assumes nothing.
use Prim.Native.Nat.{ℕ, suc, ◌+◌, ◌-◌, ◌≤◌, ◌<◌, min}
use mathlib.Core.Path.{◌≡◌, refl, sym, ap, ◌∙◌}
use mathlib.Core.Bool.{Bool, true, false, not}
use mathlib.Core.List.Sublistᴰ
use mathlib.Core.List.{List, [], ◌∷◌, ◌++◌, map, append-nil, append_assoc, Sublistᴰ}
use native.Mathlib.Omega.{arith}
use lib.Dec.{ltb}
use lib.ListN.{length, drop, set, length-append, length-map}
use lib.Seq.{sets, sets-eq, take-append_seam, drop-append-add, drop-drop}
use borrow.Author.Tests.{lt-ltb, le-ltb, ltb-true, ltb-false, eqb-true, not-true}
use Rattle.words.specs.Words.{run, first_at, Each}
use Rattle.lines.specs.Text.{is_blank, field_then, fields_from, fields_in, field_more, gathered, no_fields, split_of}
use Rattle.lines.specs.declared.Span.{Span}
use Rattle.lines.specs.declared.Fields.{Fields}
use Rattle.step.specs.Step.{part}
use Rattle.write.proofs.Readings.{whether}
use Rattle.written.proofs.Bytes.{Some, after, pass_cons, pass_split, pass_append, pass_within}

-- a field: not empty, and no blank in it
abbrev pub Field : List ℕ → Type 0
Field v = Some (λ b. not (is_blank b)) v

-- the bytes of each span
abbrev pub parts : List ℕ → List Span → List (List ℕ)
parts s ps = map (λ (p : Span). part p s) ps

-- ---- the fields as lists of bytes, their places left out

-- the word in hand, if it isn't empty, then those after it
abbrev word_then : List ℕ → List (List ℕ) → List (List ℕ)
word_then [] vs = vs
word_then (b ∷ w) vs = (b ∷ w) ∷ vs

-- the words of a text that follows the word in hand
words_from : List ℕ → List ℕ → List (List ℕ)
words_from w [] = word_then w []
words_from w (b ∷ s) = elim (is_blank b) [ true ↦ word_then w (words_from [] s) | false ↦ words_from (w ++ (b ∷ [])) s ]

module _ (s : List ℕ) where
  -- the word in hand stands from `from` up to `at`
  then_word : (w t : List ℕ) (from at : ℕ) (ps : List Span) → drop from s ≡ w ++ t → at ≡ from + length w
      → parts s (field_then from at ps) ≡ word_then w (parts s ps)
  unfolding field_then
  then_word [] t from at ps d e = rw (le-ltb from at (omega arith), field_then)
  then_word (b ∷ w) t from at ps d e =
      let n : at - from ≡ length (b ∷ w) = omega arith in
      rw (lt-ltb from at (omega arith), field_then) (ap (λ (v : List ℕ). v ∷ parts s ps) (rw (n, d) (take-append_seam (b ∷ w) t)))

  from_words : (t w : List ℕ) (from at : ℕ) → drop from s ≡ w ++ t → at ≡ from + length w → parts s (fields_from from at t) ≡ words_from w t
  unfolding fields_from words_from
  from_words [] w from at d e = then_word w [] from at [] d e
  from_words (b ∷ t) w from at d e =
      let n : at + 1 ≡ from + (length w + 1) = omega arith in
      go (is_blank b)
      (from_words t [] (at + 1) (at + 1)
      (ap (λ (k : ℕ). drop k s) n ∙ sym (drop-drop (length w + 1) from s) ∙ ap (drop (length w + 1)) d ∙ drop-append-add w (b ∷ t) 1)
      (omega arith))
      (from_words t (w ++ (b ∷ [])) from (at + 1) (d ∙ sym (append_assoc w (b ∷ []) t)) (simp length-append (omega arith)))
    where
      go : (u : Bool) → parts s (fields_from (at + 1) (at + 1) t) ≡ words_from [] t
          → parts s (fields_from from (at + 1) t) ≡ words_from (w ++ (b ∷ [])) t
          → parts s (elim u [ true ↦ field_then from at (fields_from (at + 1) (at + 1) t) | false ↦ fields_from from (at + 1) t ])
          ≡ elim u [ true ↦ word_then w (words_from [] t) | false ↦ words_from (w ++ (b ∷ [])) t ]
      go true x y = then_word w (b ∷ t) from at _ d e ∙ ap (word_then w) x
      go false x y = y

  -- the fields' bytes are the words
  fields_words : parts s (fields_in s) ≡ words_from [] s
  fields_words = from_words s [] 0 0 refl refl

-- fields whose bytes, each behind a blank, stand in a text in this order
abbrev Good : List ℕ → List (List ℕ) → Type 0
Good t vs = Each Field vs × Sublistᴰ (after 32 vs) t

then_good : (w t : List ℕ) (vs : List (List ℕ)) → first_at 32 w ≡ length w → Good t vs → Good (32 ∷ w ++ t) (word_then w vs)
unfolding after
then_good [] t vs h g = (g.0, Sublistᴰ.cons g.1)
then_good (b ∷ w) t vs h g = ((record { some = omega arith; whole = h }, g.0), Sublistᴰ.cons-cons refl (Sublistᴰ.append (Sublistᴰ.refl (b ∷ w)) g.1))

-- the words, each behind a blank, stand in the text behind a blank
words_good : (s w : List ℕ) → first_at 32 w ≡ length w → Good (32 ∷ w ++ s) (words_from w s)
unfolding words_from after run
words_good [] w h = then_good w [] [] h (tt, Sublistᴰ.slnil)
words_good (b ∷ s) w h =
    whether (Good (32 ∷ w ++ (b ∷ s))) (is_blank b) (λ q. rw (eqb-true b 32 q) (then_good w (32 ∷ s) _ h (words_good s [] refl)))
    (λ q.
    rw (append_assoc w (b ∷ []) s)
    at (words_good s (w ++ (b ∷ [])) (pass_append _ w (b ∷ []) h (pass_cons (λ c. not (is_blank c)) b [] (ap not q) refl))))

fields_good : (s : List ℕ) → Good (32 ∷ s) (parts s (fields_in s))
unfolding run
fields_good s = rw (fields_words s) (words_good s [] refl)

length_within : {s t : List ℕ} → Sublistᴰ s t → length s ≤ length t
length_within Sublistᴰ.slnil = omega arith
length_within (Sublistᴰ.cons d) = omega (arith, length_within d)
length_within (Sublistᴰ.cons-cons e d) = omega (arith, length_within d)

module _ (s v : List ℕ) (vs : List (List ℕ)) (e : parts s (fields_in s) ≡ v ∷ vs) where
  behind : Sublistᴰ (32 ∷ v ++ after 32 vs) (32 ∷ s)
  unfolding after
  behind = rw e at (fields_good s).1

  -- a text is at least as long as its fields parted by one blank
  fields_length : length (v ++ after 32 vs) ≤ length s
  fields_length = omega (arith, length_within behind)

  -- every byte test that a blank and all bytes of a text pass, all bytes of its fields parted by one blank pass
  fields_each : (p : ℕ → Bool) → p 32 ≡ true → run p s ≡ length s → run p (v ++ after 32 vs) ≡ length (v ++ after 32 vs)
  fields_each p b h = (pass_split p 32 _ (pass_within p behind (pass_cons p 32 s b h))).1

-- ---- values parted by one blank

then_some : (w : List ℕ) (vs : List (List ℕ)) → 0 < length w → word_then w vs ≡ w ∷ vs
then_some [] vs h = absurd (omega arith)
then_some (b ∷ w) vs h = refl

-- what has no blank joins the word in hand
words_whole : (v w t : List ℕ) → first_at 32 v ≡ length v → words_from w (v ++ t) ≡ words_from (w ++ v) t
unfolding words_from
words_whole [] w t h = rw append-nil
words_whole (b ∷ v) w t h =
    let l = pass_split _ b v h in
    rw (not-true (is_blank b) l.0, words_from) (words_whole v (w ++ (b ∷ [])) t l.1 ∙ rw append_assoc)

words-spaced : (vs : List (List ℕ)) (v : List ℕ) → Field v → Each Field vs → words_from v (after 32 vs) ≡ v ∷ vs
unfolding words_from after
words-spaced [] v h a = then_some v [] h.some
words-spaced (u ∷ us) v h a =
    then_some v _ h.some ∙ ap (λ (l : List (List ℕ)). v ∷ l) (words_whole u [] (after 32 us) a.0.whole ∙ words-spaced us u a.0 a.1)

-- values parted by one blank have themselves as fields
spaced_fields : (v : List ℕ) (vs : List (List ℕ)) → Field v → Each Field vs → parts (v ++ after 32 vs) (fields_in (v ++ after 32 vs)) ≡ v ∷ vs
spaced_fields v vs h a = fields_words (v ++ after 32 vs) ∙ words_whole v [] (after 32 vs) h.whole ∙ words-spaced vs v h a

-- ---- the array of seven

module _ (f : Fields) (p : Span) where
  more_count : (field_more f p).count ≡ min 8 (f.count + 1)
  unfolding field_more
  more_count =
      whether (λ (g : Fields). g.count ≡ min 8 (f.count + 1)) (ltb f.count 7) (λ q. omega (arith, ltb-true f.count 7 q)) (λ q. omega (arith, ltb-false f.count 7 q))

  more_spans : f.count < 7 → (field_more f p).spans ≡ set f.spans f.count p
  unfolding field_more
  more_spans h = rw (lt-ltb f.count 7 h, field_more)

-- the count stops at eight
gathered_count : (ps : List Span) (f : Fields) → f.count ≤ 8 → (gathered f ps).count ≡ min 8 (f.count + length ps)
unfolding gathered
gathered_count [] f h = omega arith
gathered_count (p ∷ ps) f h =
    let m = more_count f p in
    omega (arith, gathered_count ps (field_more f p) (omega arith))

-- up to seven stand in the array in their order
gathered_spans : (ps : List Span) (f : Fields) → f.count + length ps ≤ 7 → (gathered f ps).spans ≡ sets f.spans f.count ps
unfolding gathered
gathered_spans [] f h = refl
gathered_spans (p ∷ ps) f h =
    let c : (field_more f p).count ≡ suc f.count = omega (arith, more_count f p) in
    gathered_spans ps (field_more f p) (omega arith) ∙ rw (c, more_spans f p (omega arith))

module _ (s : List ℕ) where
  -- exactly seven fields are the array
  seven_split : length (fields_in s) ≡ 7 → ((split_of s).count ≡ 7) × ((split_of s).spans ≡ fields_in s)
  seven_split h = (
    omega (arith, gathered_count (fields_in s) no_fields (omega arith)),
    gathered_spans (fields_in s) no_fields (omega arith) ∙ sets-eq (fields_in s) _ 0 (omega arith) ∙ rw h (append-nil (fields_in s)),
  )

  pub split_seven : (split_of s).count ≡ 7 → ((split_of s).spans ≡ fields_in s) × (length (fields_in s) ≡ 7)
  split_seven h =
      let n : length (fields_in s) ≡ 7 = omega (arith, gathered_count (fields_in s) no_fields (omega arith)) in
      ((seven_split n).1, n)

  size : length (parts s (fields_in s)) ≡ length (fields_in s)
  size = length-map (fields_in s) _

-- the text of exactly seven fields, written with one blank between them
pub record Respaced (s : List ℕ) : Type 0 where
  pub first : List ℕ
  pub others : List (List ℕ)
  pub values : parts s (split_of s).spans ≡ first ∷ others
  pub again : ((split_of (first ++ after 32 others)).count ≡ 7) × (parts (first ++ after 32 others) (split_of (first ++ after 32 others)).spans ≡ first ∷ others)
  pub shorter : length (first ++ after 32 others) ≤ length s
  pub each : (p : ℕ → Bool) → p 32 ≡ true → run p s ≡ length s → run p (first ++ after 32 others) ≡ length (first ++ after 32 others)
  pub field : Field first

-- every text of exactly seven fields can be written so
pub respaced : (s : List ℕ) → (split_of s).count ≡ 7 → Respaced s
respaced s h = go (parts s (fields_in s)) refl
  where
    go : (vs : List (List ℕ)) → parts s (fields_in s) ≡ vs → Respaced s
    go [] e = absurd (omega (arith, (split_seven s h).1, size s, ap length e))
    go (v ∷ vs) e =
        let a : Each Field (v ∷ vs) = rw e at (fields_good s).0 in
        let t = v ++ after 32 vs in
        let same = spaced_fields v vs a.0 a.1 in
        let k = seven_split t (omega (arith, (split_seven s h).1, size s, ap length e, size t, ap length same)) in
        record {
          first = v;
          others = vs;
          values = ap (parts s) (split_seven s h).0 ∙ e;
          again = (k.0, ap (parts t) k.1 ∙ same);
          shorter = fields_length s v vs e;
          each = fields_each s v vs e;
          field = a.0;
        }
