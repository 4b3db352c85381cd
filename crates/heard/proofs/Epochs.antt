-- Epochs: their two shapes, how long their words are, and that reading back undoes these.
-- Assumes nothing.
use mathlib.Core.Path.{◌≡◌, refl, sym, ap, ◌∙◌, subst}
use mathlib.Core.List.{List, [], ◌∷◌, ◌++◌, append_assoc, append-nil}
use mathlib.Core.Bool.{Bool, true, false, not, ◌&&◌, ◌||◌, and-eq-true_iff, false≢true}
use mathlib.Core.Logic.{◌⊎◌, inl, inr}
use Prim.Native.Nat.{ℕ, zero, suc, ◌+◌, ◌*◌, ◌≤◌}
use native.Mathlib.Omega.{arith}
use lib.Dec.{eqb, leb}
use lib.ListN.{length, take, drop, length-append, take-append-drop}
use borrow.Author.Tests.{leb-true, eqb-true, le-ltb}
use Rattle.words.specs.Words.{bytes, agrees, run, is_digit}
use Rattle.lines.specs.Text.{is_odd}
use Rattle.values.specs.Number.{digits}
use Rattle.epochs.specs.Epoch.{fits, shaped, year_at, is_clock, is_fraction, timed_of, epoch_of}
use Rattle.epochs.specs.declared.Instant.{Instant}
use Rattle.grammar.specs.Rows.{Row, between, pick}
use Rattle.grammar.proofs.Laws.{picks}
use Rattle.spoken.specs.Saying.{said_by, calendar_marks, ordinal_marks, mark_at, said_from, words_by}
use Rattle.spoken.specs.declared.Mark.{Mark}
use Rattle.spoken.specs.declared.Mark.TheVariants.{Itself, Plus, Minus, Power, Month, Day, Clock, Hours, Minutes}
use Rattle.spoken.specs.declared.Manner.{Manner}
use Rattle.spoken.specs.declared.Manner.TheVariants.{Calendar, Ordinal}
use Rattle.spoken.proofs.Laws.{words_long}
use Rattle.written.proofs.Bytes.{Passes, pass_cons, pass_split}
use Rattle.heard.specs.Hearing.{epoch_sayings, saying_at, heard_from}
use Rattle.heard.proofs.Hearings.{Figures, clear_epochs, heard_itself, heard_figures, said_itself}
use Rattle.heard.proofs.Numerals.{digit_figure}
use Rattle.std.specs.Prelude.{Option, Some, None}

-- ---- a shape, read back place by place

abbrev pub heard : List ℕ → List ℕ
heard s = heard_from epoch_sayings 0 s

-- the byte that a mark stands for; `0`, any digit of a shape, where the byte is itself
abbrev stands_for : Mark → ℕ
stands_for Itself = 48
stands_for Month = 45
stands_for Day = 45
stands_for Clock = 84
stands_for Hours = 58
stands_for Minutes = 58
stands_for Plus = 0
stands_for Minus = 0
stands_for Power = 0

or_false : (t : Bool) → t || false ≡ true → t ≡ true
or_false true q = refl
or_false false q = q

-- whatever byte stands there, it is what its words are read back as
mark_heard : (k : Mark) (b : ℕ) (r : List ℕ) → 1 ≤ stands_for k → fits (stands_for k) b ≡ true → heard (said_by k (b ∷ []) ++ r) ≡ b ∷ heard r
unfolding heard_from saying_at agrees bytes
mark_heard Itself b r h e = heard_itself epoch_sayings clear_epochs b r (digit_figure b (or_false _ e))
mark_heard Month b r h e = subst (λ (x : ℕ). heard (bytes " month " ++ r) ≡ x ∷ heard r) (eqb-true 45 b e) refl
mark_heard Day b r h e = subst (λ (x : ℕ). heard (bytes " day " ++ r) ≡ x ∷ heard r) (eqb-true 45 b e) refl
mark_heard Clock b r h e = subst (λ (x : ℕ). heard (bytes ", " ++ r) ≡ x ∷ heard r) (eqb-true 84 b e) refl
mark_heard Hours b r h e = subst (λ (x : ℕ). heard (bytes " hours " ++ r) ≡ x ∷ heard r) (eqb-true 58 b e) refl
mark_heard Minutes b r h e = subst (λ (x : ℕ). heard (bytes " minutes " ++ r) ≡ x ∷ heard r) (eqb-true 58 b e) refl
mark_heard Plus b r h e = absurd (omega arith)
mark_heard Minus b r h e = absurd (omega arith)
mark_heard Power b r h e = absurd (omega arith)

-- from a place on, the marks stand for the shape's bytes; in an epoch's manner a mark goes by its place alone
unfoldable pub marked : Manner → ℕ → List ℕ → Bool
marked m i [] = true
marked m i (p ∷ ps) = (leb 1 p && eqb (stands_for (mark_at m i 0)) p) && marked m (i + 1) ps

shape_heard : (m : Manner) → ((j b : ℕ) → mark_at m j b ≡ mark_at m j 0) → (w : List ℕ) (i : ℕ) → marked m i w ≡ true → (s r : List ℕ) → shaped w s ≡ true
    → heard (said_from m i s ++ r) ≡ take (length w) s ++ heard (said_from m (i + length w) (drop (length w) s) ++ r)
unfolding agrees said_from marked
shape_heard m g [] i k s r e =
    let z : i + 0 ≡ i = omega arith in
    rw z
shape_heard m g (p ∷ ps) i k [] r e = absurd (false≢true e)
shape_heard m g (p ∷ ps) i k (b ∷ s) r e =
    let q = (and-eq-true_iff (fits p b) _).0 e in
    let x = (and-eq-true_iff (leb 1 p && eqb (stands_for (mark_at m i 0)) p) _).0 k in
    let y = (and-eq-true_iff (leb 1 p) _).0 x.0 in
    let o : p ≡ stands_for (mark_at m i b) = sym (eqb-true _ p y.1) ∙ ap (λ (n : Mark). stands_for n) (sym (g i b)) in
    let z : i + suc (length ps) ≡ i + 1 + length ps = omega arith in
    rw (append_assoc, z)
    (mark_heard (mark_at m i b) b (said_from m (i + 1) s ++ r) (subst (λ (n : ℕ). 1 ≤ n) o (leb-true 1 p y.0)) (subst (λ (n : ℕ). fits n b ≡ true) o q.0)
    ∙ ap (λ (l : List ℕ). b ∷ l) (shape_heard m g ps (i + 1) x.1 s r q.1))

-- ---- past the shape, the fraction

calendar_past : (j b : ℕ) → 17 ≤ j → mark_at Calendar j b ≡ Itself
unfolding mark_at
calendar_past j b h = sym (picks calendar_marks Itself 5 j (omega arith))

ordinal_past : (j b : ℕ) → 17 ≤ j → mark_at Ordinal j b ≡ Itself
unfolding mark_at
ordinal_past j b h = sym (picks ordinal_marks Itself 4 j (omega arith))

digits_figures : (s : List ℕ) → digits s ≡ length s → Figures s
unfolding run
digits_figures [] e = tt
digits_figures (b ∷ s) e = go (is_digit b) refl e (digits_figures s)
  where
    go : (t : Bool) → is_digit b ≡ t → elim t [ true ↦ digits s + 1 | false ↦ 0 ] ≡ suc (length s) → (digits s ≡ length s → Figures s) → Figures (b ∷ s)
    go true q h g = (digit_figure b q, g (omega arith))
    go false q h g = absurd (omega arith)

fraction_figures : (s : List ℕ) → is_fraction s ≡ true → Figures s × (length s ≤ 10)
unfolding is_fraction
fraction_figures [] e = (tt, omega arith)
fraction_figures (b ∷ s) e =
    let p = (and-eq-true_iff (eqb b 46) _).0 e in
    let q = (and-eq-true_iff (eqb (digits s) (length s)) _).0 p.1 in
    let f = eqb-true b 46 p.0 in
    let n = leb-true (length s) 9 ((and-eq-true_iff (leb 1 (length s)) _).0 q.1).1 in
    (((omega arith, omega arith), digits_figures s (eqb-true (digits s) (length s) q.0)), omega arith)

-- ---- an epoch has one of the two shapes, and a fraction behind it

pub record Shaped (v w : List ℕ) : Type 0 where
  pub shape : shaped w v ≡ true
  pub fraction : is_fraction (drop (length w) v) ≡ true

pub is_at : (c : Bool) (x t : Instant) → elim c [ true ↦ Some x | false ↦ None ] ≡ Some t → c ≡ true
is_at true x t e = refl
is_at false x t e = let z : ◌≡◌ {A = ℕ} 0 1 = cc in absurd (omega arith)

timed_fraction : (s : List ℕ) (day : Option ℕ) (at : ℕ) (sixty : Bool) (t : Instant) → timed_of s day at sixty ≡ Some t → is_fraction (drop (at + 8) s) ≡ true
unfolding timed_of
timed_fraction s None at sixty t e = cc
timed_fraction s (Some day) at sixty t e =
    let p = (and-eq-true_iff (leb 1 (year_at s)) (is_clock s at sixty && is_fraction (drop (at + 8) s))).0 (is_at _ _ t e) in
    ((and-eq-true_iff (is_clock s at sixty) (is_fraction (drop (at + 8) s))).0 p.1).1

abbrev pub calendar_shape : List ℕ
calendar_shape = bytes "0000-00-00T00:00:00"

abbrev pub ordinal_shape : List ℕ
ordinal_shape = bytes "0000-000T00:00:00"

pub epoch_shape : (v : List ℕ) (sixty : Bool) (t : Instant) → epoch_of v sixty ≡ Some t
    → Shaped v calendar_shape ⊎ ((shaped calendar_shape v ≡ false) × Shaped v ordinal_shape)
unfolding epoch_of bytes
epoch_shape v sixty t e =
    go (shaped calendar_shape v) (shaped ordinal_shape v) _ _ refl refl e (timed_fraction v _ 11 sixty t) (timed_fraction v _ 9 sixty t)
  where
    go : (a b : Bool) (x y : Option Instant) → shaped calendar_shape v ≡ a → shaped ordinal_shape v ≡ b
        → elim a [ true ↦ x | false ↦ elim b [ true ↦ y | false ↦ None ] ] ≡ Some t
        → (x ≡ Some t → is_fraction (drop 19 v) ≡ true)
        → (y ≡ Some t → is_fraction (drop 17 v) ≡ true)
        → Shaped v calendar_shape ⊎ ((shaped calendar_shape v ≡ false) × Shaped v ordinal_shape)
    go true b x y p q h f g = inl (record { shape = p; fraction = f h })
    go false true x y p q h f g = inr (p, record { shape = q; fraction = g h })
    go false false x y p q h f g = let z : ◌≡◌ {A = ℕ} 0 1 = cc in absurd (omega arith)

-- ---- an epoch's words: read back, and how long they are

-- a manner with its shape: the marks stand for its bytes, past it nothing is a mark, and no mark's words are long
pub record Worded (m : Manner) (w : List ℕ) : Type 0 where
  pub placed : (j b : ℕ) → mark_at m j b ≡ mark_at m j 0
  pub marks : marked m 0 w ≡ true
  pub past : (j b : ℕ) → 17 ≤ j → mark_at m j b ≡ Itself
  pub short : (j b : ℕ) → length (said_by (mark_at m j b) (b ∷ [])) ≤ 9
  pub least : 17 ≤ length w
  pub most : length w ≤ 19

abbrev AllRows : {A : Type 0} → (A → Type 0) → ℕ → List (Row A) → Type 0
AllRows P n [] = Unit
AllRows P n (r ∷ rs) = P (r.has n) × AllRows P n rs

closed : heard (bytes " seconds") ≡ []
unfolding heard_from saying_at agrees bytes
closed = refl

-- what a table has for a code, if each of its rows passes
pick_all : {A : Type 0} (P : A → Type 0) (rs : List (Row A)) (d : A) (n : ℕ) → P d → AllRows P n rs → P (pick rs d n)
unfolding pick
pick_all P [] d n p k = p
pick_all P (r ∷ rs) d n p k = go (between r.low r.high n) k.0 (pick_all P rs d n p k.1)
  where
    go : (t : Bool) → P (r.has n) → P (pick rs d n) → P (elim t [ true ↦ r.has n | false ↦ pick rs d n ])
    go true a b = a
    go false a b = b

pub calendar_worded : Worded Calendar calendar_shape
unfolding mark_at pick marked bytes
calendar_worded =
    record {
      placed = λ j b. refl;
      marks = refl;
      past = calendar_past;
      short = λ j b.
          pick_all (λ k. length (said_by k (b ∷ [])) ≤ 9) calendar_marks Itself j (omega arith)
          (omega arith, (omega arith, (omega arith, (omega arith, (omega arith, tt)))));
      least = omega arith;
      most = omega arith;
    }

pub ordinal_worded : Worded Ordinal ordinal_shape
unfolding mark_at pick marked bytes
ordinal_worded =
    record {
      placed = λ j b. refl;
      marks = refl;
      past = ordinal_past;
      short = λ j b.
          pick_all (λ k. length (said_by k (b ∷ [])) ≤ 9) ordinal_marks Itself j (omega arith)
          (omega arith, (omega arith, (omega arith, (omega arith, tt))));
      least = omega arith;
      most = omega arith;
    }

module _ (m : Manner) (w : List ℕ) (f : Worded m w) where
  said-drop : (k i : ℕ) (s : List ℕ) → length (said_from m i s) ≤ 9 * k + length (said_from m (i + k) (drop k s))
  unfolding said_from
  said-drop zero i s =
      let z : i + 0 ≡ i = omega arith in
      rw z (omega arith)
  said-drop (suc k) i [] = omega arith
  said-drop (suc k) i (b ∷ s) =
      let z : i + suc k ≡ i + 1 + k = omega arith in
      rw z (omega (arith, length-append (said_by (mark_at m i b) (b ∷ [])) (said_from m (i + 1) s), f.short i b, said-drop k (i + 1) s))

  module _ (v : List ℕ) (e : Shaped v w) where
    -- the fraction is said as it stands
    behind : said_from m (0 + length w) (drop (length w) v) ≡ drop (length w) v
    behind = said_itself m (0 + length w) (drop (length w) v) (λ j b h. f.past j b (omega (arith, f.least)))

    pub epoch_long : length (words_by m v) ≤ 259
    epoch_long =
        omega (
          arith,
          words_long m v,
          said-drop (length w) 0 v,
          ap length behind,
          (fraction_figures (drop (length w) v) e.fraction).1,
          f.most,
        )

    pub epoch_back : heard (said_from m 0 v ++ bytes " seconds") ≡ v
    epoch_back =
        shape_heard m f.placed w 0 f.marks v (bytes " seconds") e.shape
        ∙ ap (λ (l : List ℕ). take (length w) v ++ l)
        (ap (λ (l : List ℕ). heard (l ++ bytes " seconds")) behind
        ∙ heard_figures epoch_sayings clear_epochs (drop (length w) v) (bytes " seconds") (fraction_figures (drop (length w) v) e.fraction).0
        ∙ ap (λ (l : List ℕ). drop (length w) v ++ l) closed
        ∙ append-nil (drop (length w) v))
        ∙ take-append-drop (length w) v

-- ---- no byte of an epoch is odd

abbrev pub plain : ℕ → Bool
plain b = not (is_odd b)

pub between-plain : (b : ℕ) → 32 ≤ b → b ≤ 126 → plain b ≡ true
between-plain b l h = rw (le-ltb b 32 l, le-ltb 126 b h)

figures_plain : (s : List ℕ) → Figures s → Passes plain s
unfolding run
figures_plain [] f = refl
figures_plain (b ∷ s) f = pass_cons plain b s (between-plain b (omega arith) (omega arith)) (figures_plain s f.1)

fits-plain : (p b : ℕ) → plain p ≡ true → fits p b ≡ true → plain b ≡ true
fits-plain p b k e = go (eqb p 48) refl e
  where
    go : (t : Bool) → eqb p 48 ≡ t → (t && is_digit b) || (not t && eqb p b) ≡ true → plain b ≡ true
    go true q h = let f = digit_figure b (or_false _ h) in between-plain b (omega arith) (omega arith)
    go false q h = subst (λ (x : ℕ). plain x ≡ true) (eqb-true p b h) k

shape_plain : (w s : List ℕ) → Passes plain w → shaped w s ≡ true → Passes plain (drop (length w) s) → Passes plain s
unfolding run agrees
shape_plain [] s k e d = d
shape_plain (p ∷ ps) [] k e d = refl
shape_plain (p ∷ ps) (b ∷ s) k e d =
    let q = (and-eq-true_iff (fits p b) _).0 e in
    let x = pass_split plain p ps k in
    pass_cons plain b s (fits-plain p b x.0 q.0) (shape_plain ps s x.1 q.1 d)

pub epoch_plain : (v w : List ℕ) → Passes plain w → Shaped v w → Passes plain v
epoch_plain v w k e = shape_plain w v k e.shape (figures_plain (drop (length w) v) (fraction_figures (drop (length w) v) e.fraction).0)
