-- Numbers and integers: which bytes they have, how long their words are, and that reading back undoes these.
-- Assumes nothing.
use mathlib.Core.Path.{◌≡◌, refl, sym, ap, ap₂, ◌∙◌, subst}
use mathlib.Core.List.{List, [], ◌∷◌, ◌++◌, map, append_assoc}
use mathlib.Core.Bool.{Bool, true, false, ◌||◌, and-eq-true_iff, false≢true}
use mathlib.Core.Logic.{◌⊎◌, inl, inr, ⊎_elim}
use Prim.Native.Nat.{ℕ, suc, ◌+◌, ◌*◌, ◌≤◌}
use native.Mathlib.Omega.{arith}
use native.Mathlib.Numerals.{add-one}
use lib.Dec.{eqb, leb}
use lib.ListN.{length, drop, length-append, length-drop, drop_of_length-le}
use borrow.Author.Tests.{leb-true, eqb-true, ne_eqb}
use Rattle.words.specs.Words.{bytes, agrees, run, is_digit}
use Rattle.values.specs.Number.{digits, sign_len, unsigned, is_digits, is_exponent, ends_number, after_whole, is_number, is_integer}
use Rattle.values.proofs.Laws.{sign_le}
use Rattle.grammar.specs.Rows.{pick}
use Rattle.grammar.proofs.Laws.{picks}
use Rattle.spoken.specs.Saying.{said_by, numeral_marks, mark_at, said_from}
use Rattle.spoken.specs.declared.Mark.TheVariants.{Itself}
use Rattle.spoken.specs.declared.Manner.TheVariants.{Numeral}
use Rattle.heard.specs.Hearing.{numeral_sayings, saying_at, heard_from, capital}
use Rattle.heard.proofs.Hearings.{Figure, clear_numerals, heard_itself}

-- ---- the bytes of a number, and how each is said

-- a sign or an exponent's letter
abbrev Sign : ℕ → Type 0
Sign b = (b ≡ 43) ⊎ (b ≡ 45)

abbrev Letter : ℕ → Type 0
Letter b = (b ≡ 69) ⊎ (b ≡ 101)

abbrev pub Known : ℕ → Type 0
Known b = Figure b ⊎ (Sign b ⊎ Letter b)

abbrev pub AllKnown : List ℕ → Type 0
AllKnown [] = Unit
AllKnown (b ∷ s) = Known b × AllKnown s

abbrev said : ℕ → ℕ → List ℕ
said i b = said_by (mark_at Numeral i b) (b ∷ [])

said_figure : (i b : ℕ) → Figure b → said i b ≡ b ∷ []
unfolding mark_at
said_figure i b f = rw (sym (picks numeral_marks Itself 4 b (omega arith)))

abbrev Back : ℕ → ℕ → List ℕ → Type 0
Back i b r = heard_from numeral_sayings 0 (said i b ++ r) ≡ capital b ∷ heard_from numeral_sayings 0 r

-- at a byte that is known it computes
at_byte : (P : ℕ → Type 0) {a b : ℕ} → b ≡ a → P a → P b
at_byte P e p = subst P (sym e) p

-- what is no `e` stays
small : (b : ℕ) → (b ≡ 101 → ⊥) → capital b ≡ b
small b h = rw (ne_eqb b 101 h, capital)

back_figure : (i b : ℕ) (r : List ℕ) → Figure b → Back i b r
back_figure i b r f =
    ap (λ (l : List ℕ). heard_from numeral_sayings 0 (l ++ r)) (said_figure i b f)
    ∙ heard_itself numeral_sayings clear_numerals b r f
    ∙ ap (λ (x : ℕ). x ∷ heard_from numeral_sayings 0 r) (sym (small b (omega arith)))

back : (i b : ℕ) (r : List ℕ) → Known b → Back i b r
unfolding mark_at pick heard_from saying_at agrees bytes
back i b r k =
    ⊎_elim
    (back_figure i b r)
    (⊎_elim
    (⊎_elim (λ e. at_byte (λ x. Back i x r) e refl) (λ e. at_byte (λ x. Back i x r) e refl))
    (⊎_elim (λ e. at_byte (λ x. Back i x r) e refl) (λ e. at_byte (λ x. Back i x r) e refl)))
    k

pub heard_numeral : (i : ℕ) (s r : List ℕ) → AllKnown s
    → heard_from numeral_sayings 0 (said_from Numeral i s ++ r) ≡ map (λ b. capital b) s ++ heard_from numeral_sayings 0 r
unfolding said_from
heard_numeral i [] r k = refl
heard_numeral i (b ∷ s) r k =
    rw append_assoc (back i b (said_from Numeral (i + 1) s ++ r) k.0 ∙ ap (λ (l : List ℕ). capital b ∷ l) (heard_numeral (i + 1) s r k.1))

-- ---- known bytes, whose words take at most k

pub record Fine (s : List ℕ) (k : ℕ) : Type 0 where
  pub known : AllKnown s
  pub long : (i : ℕ) → length (said_from Numeral i s) ≤ k

fine_none : Fine [] 0
unfolding said_from
fine_none = record { known = tt; long = λ i. omega arith }

pub fine_le : {s : List ℕ} {k j : ℕ} → k ≤ j → Fine s k → Fine s j
fine_le h x = record { known = x.known; long = λ i. omega (arith, x.long i) }

fine_byte : (b w : ℕ) (s : List ℕ) (k : ℕ) → Known b → ((i : ℕ) → length (said i b) ≤ w) → Fine s k → Fine (b ∷ s) (w + k)
unfolding said_from
fine_byte b w s k e h x =
    record { known = (e, x.known); long = λ i. omega (arith, length-append (said i b) (said_from Numeral (i + 1) s), h i, x.long (i + 1)) }

fine_figure : (b : ℕ) (s : List ℕ) (k : ℕ) → Figure b → Fine s k → Fine (b ∷ s) (1 + k)
fine_figure b s k f x = fine_byte b 1 s k (inl f) (λ i. rw (said_figure i b f) (omega arith)) x

fine_mark : (b : ℕ) (s : List ℕ) (k : ℕ) → Sign b → Fine s k → Fine (b ∷ s) (6 + k)
unfolding mark_at pick bytes
fine_mark b s k e x =
    fine_byte b 6 s k (inr (inl e))
    (λ i. ⊎_elim (λ q. at_byte (λ c. length (said i c) ≤ 6) q (omega arith)) (λ q. at_byte (λ c. length (said i c) ≤ 6) q (omega arith)) e) x

fine_letter : (b : ℕ) (s : List ℕ) (k : ℕ) → Letter b → Fine s k → Fine (b ∷ s) (18 + k)
unfolding mark_at pick bytes
fine_letter b s k e x =
    fine_byte b 18 s k (inr (inr e))
    (λ i. ⊎_elim (λ q. at_byte (λ c. length (said i c) ≤ 18) q (omega arith)) (λ q. at_byte (λ c. length (said i c) ≤ 18) q (omega arith)) e) x

-- ---- the parts of a number

one_of : (a b x : ℕ) → eqb x a || eqb x b ≡ true → (x ≡ a) ⊎ (x ≡ b)
one_of a b x e = go (eqb x a) refl e
  where
    go : (t : Bool) → eqb x a ≡ t → t || eqb x b ≡ true → (x ≡ a) ⊎ (x ≡ b)
    go true q k = inl (eqb-true x a q)
    go false q k = inr (eqb-true x b k)

pub digit_figure : (b : ℕ) → is_digit b ≡ true → Figure b
digit_figure b e =
    let p = (and-eq-true_iff (leb 48 b) (leb b 57)).0 e in
    (omega (arith, leb-true 48 b p.0), leb-true b 57 p.1)

fine_digits : (s : List ℕ) (k : ℕ) → Fine (drop (digits s) s) k → Fine s (digits s + k)
unfolding run
fine_digits [] k x = fine_le (omega arith) x
fine_digits (b ∷ s) k x = go (is_digit b) refl x (fine_digits s k)
  where
    go : (t : Bool) → is_digit b ≡ t → Fine (drop (elim t [ true ↦ digits s + 1 | false ↦ 0 ]) (b ∷ s)) k
        → (Fine (drop (digits s) s) k → Fine s (digits s + k)) → Fine (b ∷ s) (elim t [ true ↦ digits s + 1 | false ↦ 0 ] + k)
    go true q y g = fine_le (omega arith) (fine_figure b s (digits s + k) (digit_figure b q) (g (rw (add-one (digits s)) at y)))
    go false q y g = fine_le (omega arith) y

fine_sign : (s : List ℕ) (k : ℕ) → Fine (unsigned s) k → Fine s (6 * sign_len s + k)
unfolding sign_len
fine_sign [] k x = fine_le (omega arith) x
fine_sign (b ∷ s) k x = go (eqb b 43 || eqb b 45) refl x
  where
    go : (t : Bool) → eqb b 43 || eqb b 45 ≡ t → Fine (drop (elim t [ true ↦ 1 | false ↦ 0 ]) (b ∷ s)) k
        → Fine (b ∷ s) (6 * (elim t [ true ↦ 1 | false ↦ 0 ]) + k)
    go true q y = fine_le (omega arith) (fine_mark b s k (one_of 43 45 b q) y)
    go false q y = fine_le (omega arith) y

sign_few : (s : List ℕ) → sign_len s ≤ 1
unfolding sign_len
sign_few [] = omega arith
sign_few (b ∷ s) = go (eqb b 43 || eqb b 45)
  where
    go : (t : Bool) → elim t [ true ↦ 1 | false ↦ 0 ] ≤ 1
    go true = omega arith
    go false = omega arith

-- nothing but digits
fine_only : (least most : ℕ) (s : List ℕ) → is_digits least most s ≡ true → Fine s most
fine_only least most s e =
    let p = (and-eq-true_iff (eqb (digits s) (length s)) _).0 e in
    let n = eqb-true (digits s) (length s) p.0 in
    let m = leb-true (length s) most ((and-eq-true_iff (leb least (length s)) _).0 p.1).1 in
    fine_le (omega arith) (fine_digits s 0 (rw (drop_of_length-le s {i = digits s} (omega arith)) fine_none))

-- "`E` or `e`, optional sign, 1 to 3 digits"
exponent_fine : (s : List ℕ) → is_exponent s ≡ true → Fine s 27
unfolding is_exponent
exponent_fine [] e = absurd (false≢true e)
exponent_fine (b ∷ s) e =
    let p = (and-eq-true_iff (eqb b 69 || eqb b 101) _).0 e in
    fine_le (omega (arith, sign_few s)) (fine_letter b s _ (one_of 69 101 b p.0) (fine_sign s 3 (fine_only 1 3 (unsigned s) p.1)))

-- behind n digits and m behind a period
ends_fine : (n m : ℕ) (s : List ℕ) → ends_number n m s ≡ true → (k : ℕ) × Fine s k × (n + m + k ≤ 43)
unfolding ends_number
ends_fine n m [] e = (0, fine_none, omega (arith, leb-true (n + m) 16 e))
ends_fine n m (b ∷ s) e =
    let p = (and-eq-true_iff (eqb n 1) _).0 e in
    let q = (and-eq-true_iff (leb m 15) _).0 p.1 in
    (27, exponent_fine (b ∷ s) q.1, omega (arith, eqb-true n 1 p.0, leb-true m 15 q.0))

-- behind n digits
whole_fine : (n : ℕ) (s : List ℕ) → after_whole n s ≡ true → (k : ℕ) × Fine s k × (n + k ≤ 44)
unfolding after_whole
whole_fine n [] e = (0, fine_none, omega (arith, leb-true n 16 e))
whole_fine n (b ∷ s) e =
    let p = (and-eq-true_iff (eqb b 46) _).0 e in
    let q = (and-eq-true_iff (leb 1 (digits s)) _).0 p.1 in
    let r = ends_fine n (digits s) (drop (digits s) s) q.1 in
    let f = eqb-true b 46 p.0 in
    (1 + (digits s + r.0), fine_figure b s _ (omega arith, omega arith) (fine_digits s r.0 r.1), omega (arith, r.2))

pub number_fine : (s : List ℕ) → is_number s ≡ true → Fine s 50
unfolding is_number
number_fine s e =
    let u = unsigned s in
    let w = whole_fine (digits u) (drop (digits u) u) ((and-eq-true_iff (leb 1 (digits u)) _).0 e).1 in
    fine_le (omega (arith, sign_few s, w.2)) (fine_sign s _ (fine_digits u w.0 w.1))

-- an integer has digits alone behind its sign
pub integer_digits : (s : List ℕ) → is_integer s ≡ true → digits (unsigned s) ≡ length (unsigned s)
unfolding is_integer
integer_digits s e =
    let u = unsigned s in
    eqb-true (digits u) (length u) ((and-eq-true_iff (eqb (digits u) (length u)) _).0 ((and-eq-true_iff (leb 1 (length u)) _).0 e).1).0

pub integer_fine : (s : List ℕ) → is_integer s ≡ true → Fine s (5 + length s)
integer_fine s e =
    let u = unsigned s in
    let n = integer_digits s e in
    fine_le (omega (arith, sign_few s, sign_le s, length-drop (sign_len s) s))
    (fine_sign s _ (fine_digits u 0 (rw (drop_of_length-le u {i = digits u} (omega arith)) fine_none)))

-- ---- an integer has no `e`

digits-capital : (s : List ℕ) → digits s ≡ length s → map (λ b. capital b) s ≡ s
unfolding run
digits-capital [] e = refl
digits-capital (b ∷ s) e = go (is_digit b) refl e (digits-capital s)
  where
    go : (t : Bool) → is_digit b ≡ t → elim t [ true ↦ digits s + 1 | false ↦ 0 ] ≡ suc (length s) → (digits s ≡ length s → map (λ a. capital a) s ≡ s)
        → map (λ a. capital a) (b ∷ s) ≡ b ∷ s
    go true q h g = let f = digit_figure b q in ap₂ (λ (x : ℕ) (l : List ℕ). x ∷ l) (small b (omega arith)) (g (omega arith))
    go false q h g = absurd (omega arith)

pub integer_capital : (s : List ℕ) → is_integer s ≡ true → map (λ b. capital b) s ≡ s
unfolding sign_len
integer_capital [] e = refl
integer_capital (b ∷ s) e = go (eqb b 43 || eqb b 45) refl (integer_digits (b ∷ s) e)
  where
    go : (t : Bool) → eqb b 43 || eqb b 45 ≡ t
        → let u = drop (elim t [ true ↦ 1 | false ↦ 0 ]) (b ∷ s) in digits u ≡ length u → map (λ a. capital a) (b ∷ s) ≡ b ∷ s
    go false q h = digits-capital (b ∷ s) h
    go true q h =
        ap₂ (λ (x : ℕ) (l : List ℕ). x ∷ l)
        (small b (⊎_elim (λ g z. omega arith) (λ g z. omega arith) (one_of 43 45 b q)))
        (digits-capital s h)
