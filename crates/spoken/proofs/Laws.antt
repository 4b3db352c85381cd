-- Laws of the definitions on values said, one a case.
-- Assumes nothing.
use mathlib.Core.Path.{◌≡◌, refl, ap, ◌∙◌}
use mathlib.Core.List.{List, [], ◌∷◌, ◌++◌, append_assoc}
use mathlib.Core.Bool.{Bool, true, false}
use Prim.Native.Nat.{ℕ, ◌+◌, ◌*◌, ◌≤◌, ◌<◌}
use native.Mathlib.Omega.{arith}
use native.Mathlib.Numerals.{add-one}
use lib.ListN.{length, get_or, drop, length-append, drop_of_length-le}
use lib.Seq.{drop-cons}
use borrow.Author.Tests.{lt-ltb, le-ltb, ltb-true, ltb-false, eq-eqb, ne_eqb}
use Rattle.words.specs.Words.{bytes}
use Rattle.lines.specs.Text.{is_long, odd_at}
use Rattle.grammar.specs.Keywords.{kinds, kind_of}
use Rattle.grammar.proofs.Laws.{picks}
use Rattle.reasons.specs.declared.Reason.TheVariants as Reasons
use Rattle.spoken.specs.Saying.{said_by, mark_at, said_from, framed, words_by}
use Rattle.spoken.specs.Way.{way_in, way_of}
use Rattle.spoken.specs.Spoken.{fitted}
use Rattle.spoken.specs.declared.Mark.{Mark}
use Rattle.spoken.specs.declared.Mark.TheVariants.{Itself, Plus, Minus, Power, Month, Day, Clock, Hours, Minutes}
use Rattle.spoken.specs.declared.Manner.{Manner}
use Rattle.spoken.specs.declared.Manner.TheVariants.{Plain, Numeral, Calendar, Ordinal}
use Rattle.std.specs.Prelude.{Some, None, Ok, Err}

-- ---- which values are said

module _ (c : ℕ) (v : List ℕ) where
  pub way_long : 254 < length v → None ≡ way_of c v
  unfolding way_of
  way_long h = rw (lt-ltb _ _ h, way_of)

  pub way_odd : length v ≤ 254 → odd_at v < length v → None ≡ way_of c v
  unfolding way_of
  way_odd h o = rw (le-ltb _ _ h, lt-ltb _ _ o, way_of)

  module _ (h : length v ≤ 254) (o : length v ≤ odd_at v) where
    pub way_comment : c ≡ 45 → Some Plain ≡ way_of c v
    unfolding way_of
    way_comment e = rw (le-ltb _ _ h, le-ltb _ _ o, eq-eqb _ _ e, way_of)

    pub way_kind : (c ≡ 45 → ⊥) → way_in (kind_of c) v ≡ way_of c v
    unfolding way_of
    way_kind e = rw (le-ltb _ _ h, le-ltb _ _ o, ne_eqb _ _ e, way_of)

  -- what is said is not long
  pub way_few : (m : Manner) → way_of c v ≡ Some m → length v ≤ 254
  way_few m e = go (is_long v) refl
    where
      go : (t : Bool) → is_long v ≡ t → length v ≤ 254
      go false q = ltb-false _ _ q
      go true q = let z : ◌≡◌ {A = ℕ} 0 1 = cc (way_long (ltb-true _ _ q)) in absurd (omega arith)

-- past the codes there is no kind of value
pub no_kind : (c : ℕ) → 65535 < c → None ≡ kind_of c
no_kind c h = picks kinds _ 11 _ (omega arith)

-- ---- a value's words, byte by byte

said_turn : (m : Manner) (v : List ℕ) (i : ℕ) → i < length v
    → said_from m i (drop i v) ≡ said_by (mark_at m i (get_or v i 0)) (get_or v i 0 ∷ []) ++ said_from m (i + 1) (drop (i + 1) v)
unfolding said_from
said_turn m v i h = rw (drop-cons v i 0 h, add-one i)

said_end : (m : Manner) (v : List ℕ) (i : ℕ) → length v ≤ i → said_from m i (drop i v) ≡ []
unfolding said_from
said_end m v i h = rw (drop_of_length-le v h)

-- the words of the bytes from a place on, and those behind them
abbrev pub words_from : Manner → List ℕ → ℕ → List ℕ
words_from m v i = said_from m i (drop i v) ++ framed m (bytes " seconds")

pub words_first : (m : Manner) (v : List ℕ) → words_by m v ≡ framed m (bytes "year ") ++ words_from m v 0
unfolding words_by
words_first m v = refl

-- the next byte's, and those after it
pub words_turn : (m : Manner) (v : List ℕ) (i : ℕ) → i < length v → words_from m v i ≡ said_by (mark_at m i (get_or v i 0)) (get_or v i 0 ∷ []) ++ words_from m v (i + 1)
words_turn m v i h =
    ap (λ (l : List ℕ). l ++ framed m (bytes " seconds")) (said_turn m v i h)
    ∙ append_assoc (said_by (mark_at m i (get_or v i 0)) (get_or v i 0 ∷ [])) (said_from m (i + 1) (drop (i + 1) v)) (framed m (bytes " seconds"))

-- all bytes are said
pub words_end : (m : Manner) (v : List ℕ) (i : ℕ) → length v ≤ i → words_from m v i ≡ framed m (bytes " seconds")
words_end m v i h = rw (said_end m v i h)

-- ---- how long words are

mark_few : (k : Mark) (b : ℕ) → length (said_by k (b ∷ [])) ≤ 18
unfolding bytes
mark_few Itself b = omega arith
mark_few Plus b = omega arith
mark_few Minus b = omega arith
mark_few Power b = omega arith
mark_few Month b = omega arith
mark_few Day b = omega arith
mark_few Clock b = omega arith
mark_few Hours b = omega arith
mark_few Minutes b = omega arith

said-few : (m : Manner) (i : ℕ) (s : List ℕ) → length (said_from m i s) ≤ 18 * length s
unfolding said_from
said-few m i [] = omega arith
said-few m i (b ∷ s) = omega (arith, length-append (said_by (mark_at m i b) (b ∷ [])) (said_from m (i + 1) s), mark_few (mark_at m i b) b, said-few m (i + 1) s)

frame_few : (m : Manner) (w : List ℕ) → length (framed m w) ≤ length w
frame_few Plain w = omega arith
frame_few Numeral w = omega arith
frame_few Calendar w = omega arith
frame_few Ordinal w = omega arith

-- what frames an epoch, and all between
pub words_long : (m : Manner) (v : List ℕ) → length (words_by m v) ≤ 13 + length (said_from m 0 v)
unfolding words_by bytes
words_long m v =
    omega (
      arith,
      length-append (framed m (bytes "year ")) (said_from m 0 v ++ framed m (bytes " seconds")),
      length-append (said_from m 0 v) (framed m (bytes " seconds")),
      frame_few m (bytes "year "),
      frame_few m (bytes " seconds"),
    )

pub words_few : (m : Manner) (v : List ℕ) → length v ≤ 254 → length (words_by m v) ≤ 4294967295
words_few m v h = omega (arith, words_long m v, said-few m 0 v)

-- ---- words, and a buffer that has room for them or has not

module _ (o : List ℕ) (room : ℕ) where
  pub fitted_no : room < length o → fitted o room ≡ Err Reasons.NoRoom
  unfolding fitted
  fitted_no h = rw (lt-ltb room (length o) h, fitted)

  pub fitted-words : length o ≤ room → fitted o room ≡ Ok (length o)
  unfolding fitted
  fitted-words h = rw (le-ltb room (length o) h, fitted)
