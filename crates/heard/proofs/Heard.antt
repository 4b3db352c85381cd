-- What a listener hears: reading back undoes a value's words, and every value that is right has words.
-- Assumes nothing.
use mathlib.Core.Path.{◌≡◌, refl, sym, ap, ◌∙◌, subst}
use mathlib.Core.List.{List, [], ◌∷◌, map, append-nil}
use mathlib.Core.Bool.{Bool, true, false, ◌&&◌, ◌||◌, and-eq-true_iff, false≢true}
use mathlib.Core.Logic.{⊎_elim}
use Prim.Native.Nat.{ℕ, ◌+◌, ◌≤◌}
use native.Mathlib.Omega.{arith}
use lib.Dec.{eqb, leb, ltb}
use lib.ListN.{length, drop}
use borrow.Author.Tests.{eqb-true, leb-true, le-leb}
use Rattle.words.specs.Words.{bytes, agrees, run}
use Rattle.words.proofs.Laws.{word-is}
use Rattle.lines.specs.Text.{is_long, odd_at}
use Rattle.values.specs.Number.{is_number, is_integer, is_text, is_version}
use Rattle.epochs.specs.Epoch.{shaped, two_at, year_at, is_fraction, last_second, is_clock, timed_of, epoch_of}
use Rattle.epochs.specs.declared.Instant.{Instant}
use Rattle.grammar.specs.Rows.{pick}
use Rattle.grammar.specs.Keywords.{kind_of}
use Rattle.grammar.specs.declared.Kind.{Kind}
use Rattle.grammar.specs.declared.Kind.TheVariants.{Version, Text, Integer, Number, Epoch as EpochKind}
use Rattle.spoken.specs.Saying.{said_from, mark_at, words_by}
use Rattle.spoken.specs.Way.{way_if, epoch_way, way_in, way_of}
use Rattle.spoken.specs.Spoken.{spoken_by, spoken_of, words_in, words_of}
use Rattle.spoken.specs.declared.Manner.{Manner}
use Rattle.spoken.specs.declared.Manner.TheVariants.{Plain, Numeral, Calendar, Ordinal}
use Rattle.spoken.proofs.Laws.{way_comment, way_kind, fitted-words}
use Rattle.written.proofs.Bytes.{pass_cons}
use Rattle.heard.specs.Hearing.{numeral_sayings, sayings_of, saying_at, heard_from, heard_of, capital, spelled_in, spelled_of}
use Rattle.heard.specs.Heard.{HeardBack, HeardApart, AllPlain, RightIn, AllSaid}
use Rattle.heard.proofs.Hearings.{heard_none, said_itself}
use Rattle.heard.proofs.Numerals.{AllKnown, Known, Fine, heard_numeral, number_fine, integer_fine, integer_capital}
use Rattle.heard.proofs.Epochs.{Shaped, heard, is_at, epoch_shape, calendar_shape, ordinal_shape, calendar_worded, ordinal_worded, epoch_long, epoch_back, epoch_plain, plain, between-plain}
use Rattle.std.specs.Prelude.{Option, Some, None, Ok}

-- ---- in each manner, reading back undoes the words

plain-words : (v : List ℕ) → words_by Plain v ≡ v
unfolding words_by mark_at
plain-words v = append-nil (said_from Plain 0 v) ∙ said_itself Plain 0 v (λ j b h. refl)

plain_back : (v : List ℕ) → heard_from [] 0 (words_by Plain v) ≡ v
plain_back v = heard_none (words_by Plain v) ∙ plain-words v

numeral_back : (v : List ℕ) → AllKnown v → heard_from numeral_sayings 0 (words_by Numeral v) ≡ map (λ b. capital b) v
unfolding words_by heard_from
numeral_back v k = heard_numeral 0 v [] k ∙ append-nil (map (λ b. capital b) v)

calendar_back : (v : List ℕ) → Shaped v calendar_shape → heard (words_by Calendar v) ≡ v
unfolding words_by heard_from saying_at agrees bytes
calendar_back v e = epoch_back Calendar calendar_shape calendar_worded v e

ordinal_back : (v : List ℕ) → Shaped v ordinal_shape → heard (words_by Ordinal v) ≡ v
unfolding words_by heard_from saying_at agrees bytes
ordinal_back v e = epoch_back Ordinal ordinal_shape ordinal_worded v e

-- ---- by the kind of value

abbrev Undone : Option Kind → List ℕ → Option Manner → Type 0
Undone k v w = (w ≡ None → ⊥) → heard_from (sayings_of k) 0 (words_in w v) ≡ spelled_in k v

if_back : (k : Option Kind) (v : List ℕ) (m : Manner) (t : Bool) → (t ≡ true → heard_from (sayings_of k) 0 (words_by m v) ≡ spelled_in k v) → Undone k v (way_if t m)
unfolding words_in
if_back k v m true g h = g refl
if_back k v m false g h = absurd (h refl)

epoch_undone : (v : List ℕ) → Undone (Some EpochKind) v (epoch_way v)
unfolding epoch_way words_in
epoch_undone v h = go (epoch_of v true) refl h
  where
    go : (e : Option Instant) → epoch_of v true ≡ e
        → Undone (Some EpochKind) v (elim e [ Some t ↦ elim (shaped calendar_shape v) [ true ↦ Some Calendar | false ↦ Some Ordinal ] | None ↦ None ])
    go None q f = absurd (f refl)
    go (Some t) q f =
        ⊎_elim (λ s. rw s.shape (calendar_back v s)) (λ s. rw s.0 (ordinal_back v s.1)) (epoch_shape v true t q)

kind_back : (k : Option Kind) (v : List ℕ) → Undone k v (way_in k v)
unfolding way_in
kind_back (Some Version) v = if_back (Some Version) v Plain (is_version v) (λ e. plain_back v)
kind_back (Some Text) v = if_back (Some Text) v Plain (is_text v) (λ e. plain_back v)
kind_back (Some Integer) v = if_back (Some Integer) v Numeral (is_integer v) (λ e. numeral_back v (integer_fine v e).known ∙ integer_capital v e)
kind_back (Some Number) v = if_back (Some Number) v Numeral (is_number v) (λ e. numeral_back v (number_fine v e).known)
kind_back (Some EpochKind) v = epoch_undone v
kind_back None v = λ h. absurd (h refl)

comment_back : (v : List ℕ) → heard_of 45 (words_by Plain v) ≡ spelled_of 45 v
unfolding pick
comment_back v = plain_back v

pub heard_back : HeardBack
unfolding way_of words_in
heard_back c v h = go (is_long v || ltb (odd_at v) (length v)) (eqb c 45) refl h
  where
    go : (a b : Bool) → eqb c 45 ≡ b
        → Undone (kind_of c) v (elim a [ true ↦ None | false ↦ elim b [ true ↦ Some Plain | false ↦ way_in (kind_of c) v ] ])
    go true b q f = absurd (f refl)
    go false true q f = subst (λ (n : ℕ). heard_of n (words_by Plain v) ≡ spelled_of n v) (sym (eqb-true c 45 q)) (comment_back v)
    go false false q f = kind_back (kind_of c) v f

pub heard_apart : HeardApart
heard_apart c v w h k e = sym (heard_back c v h) ∙ ap (heard_of c) e ∙ heard_back c w k

-- ---- what is right has words, and 259 bytes are room enough

-- this kind of value is said in this manner, plainly, and not at length
record Sayable (k : Option Kind) (v : List ℕ) : Type 0 where
  manner : Manner
  way : way_in k v ≡ Some manner
  plain : AllPlain v
  room : length (words_by manner v) ≤ 259

known_plain : (b : ℕ) → Known b → plain b ≡ true
known_plain b k =
    ⊎_elim (λ f. between-plain b (omega arith) (omega arith))
    (⊎_elim
    (⊎_elim (λ e. between-plain b (omega arith) (omega arith)) (λ e. between-plain b (omega arith) (omega arith)))
    (⊎_elim (λ e. between-plain b (omega arith) (omega arith)) (λ e. between-plain b (omega arith) (omega arith))))
    k

all_known_plain : (s : List ℕ) → AllKnown s → AllPlain s
unfolding run
all_known_plain [] k = refl
all_known_plain (b ∷ s) k = pass_cons plain b s (known_plain b k.0) (all_known_plain s k.1)

numeral_long : (v : List ℕ) (k : ℕ) → Fine v k → length (words_by Numeral v) ≤ k
unfolding words_by
numeral_long v k x = rw append-nil (x.long 0)

-- second 60 may stand wherever it need not
last-sixty : (hour minute : ℕ) → last_second hour minute false ≤ last_second hour minute true
unfolding last_second
last-sixty hour minute = go (eqb hour 23) (eqb minute 59)
  where
    go : (a b : Bool) → elim (a && (b && false)) [ true ↦ 60 | false ↦ 59 ] ≤ elim (a && (b && true)) [ true ↦ 60 | false ↦ 59 ]
    go true true = omega arith
    go true false = omega arith
    go false b = omega arith

clock_sixty : (s : List ℕ) (at : ℕ) → is_clock s at false ≡ true → is_clock s at true ≡ true
unfolding is_clock
clock_sixty s at e =
    let p = (and-eq-true_iff (leb (two_at s at) 23) _).0 e in
    let q = (and-eq-true_iff (leb (two_at s (at + 3)) 59) _).0 p.1 in
    let l = leb-true (two_at s (at + 6)) (last_second (two_at s at) (two_at s (at + 3)) false) q.1 in
    let m : two_at s (at + 6) ≤ last_second (two_at s at) (two_at s (at + 3)) true = omega (arith, last-sixty (two_at s at) (two_at s (at + 3))) in
    rw (p.0, q.0) (le-leb _ _ m)

at_true : (a : Bool) (x t : Instant) → elim a [ true ↦ Some x | false ↦ None ] ≡ Some t → Some x ≡ Some t
at_true true x t e = e
at_true false x t e = let z : ◌≡◌ {A = ℕ} 0 1 = cc in absurd (omega arith)

at_more : (a b : Bool) (x t : Instant) → (a ≡ true → b ≡ true) → elim a [ true ↦ Some x | false ↦ None ] ≡ Some t → elim b [ true ↦ Some x | false ↦ None ] ≡ Some t
at_more a true x t f e = at_true a x t e
at_more a false x t f e = absurd (false≢true (f (is_at a x t e)))

timed_sixty : (s : List ℕ) (day : Option ℕ) (at : ℕ) (t : Instant) → timed_of s day at false ≡ Some t → timed_of s day at true ≡ Some t
unfolding timed_of
timed_sixty s None at t e = e
timed_sixty s (Some day) at t e =
    at_more _ _ _ t
    (λ x.
    let p = (and-eq-true_iff (leb 1 (year_at s)) (is_clock s at false && is_fraction (drop (at + 8) s))).0 x in
    let r = (and-eq-true_iff (is_clock s at false) (is_fraction (drop (at + 8) s))).0 p.1 in
    (and-eq-true_iff _ _).1 (p.0, (and-eq-true_iff _ _).1 (clock_sixty s at r.0, r.1)))
    e

epoch_sixty : (v : List ℕ) (sixty : Bool) (t : Instant) → epoch_of v sixty ≡ Some t → epoch_of v true ≡ Some t
unfolding epoch_of
epoch_sixty v true t e = e
epoch_sixty v false t e =
    go (shaped calendar_shape v) (shaped ordinal_shape v) (timed_sixty v _ 11 t) (timed_sixty v _ 9 t) e
  where
    go : (a b : Bool) {x y u w : Option Instant} → (x ≡ Some t → y ≡ Some t) → (u ≡ Some t → w ≡ Some t)
        → elim a [ true ↦ x | false ↦ elim b [ true ↦ u | false ↦ None ] ] ≡ Some t
        → elim a [ true ↦ y | false ↦ elim b [ true ↦ w | false ↦ None ] ] ≡ Some t
    go true b f g h = f h
    go false true f g h = g h
    go false false f g h = h

epoch_sayable : (v : List ℕ) (sixty : Bool) (t : Instant) → epoch_of v sixty ≡ Some t → Sayable (Some EpochKind) v
unfolding way_in epoch_way run bytes
epoch_sayable v sixty t e =
    let f = epoch_sixty v sixty t e in
    ⊎_elim
    (λ s.
    record {
      manner = Calendar;
      way = rw (f, s.shape, epoch_way);
      plain = epoch_plain v calendar_shape refl s;
      room = epoch_long Calendar calendar_shape calendar_worded v s;
    })
    (λ s.
    record {
      manner = Ordinal;
      way = rw (f, s.0, epoch_way);
      plain = epoch_plain v ordinal_shape refl s.1;
      room = epoch_long Ordinal ordinal_shape ordinal_worded v s.1;
    })
    (epoch_shape v true t f)

sayable : (k : Option Kind) (v : List ℕ) → RightIn k v → length v ≤ 254 → Sayable k v
unfolding way_in bytes run
sayable (Some Version) v r h =
    let w = word-is (bytes "1.0") v r in
    record { manner = Plain; way = rw r; plain = rw w; room = rw plain-words (omega arith) }
sayable (Some Text) v r h = record { manner = Plain; way = rw r.0; plain = r.1; room = rw plain-words (omega arith) }
sayable (Some Integer) v r h =
    let x = integer_fine v r in
    record { manner = Numeral; way = rw r; plain = all_known_plain v x.known; room = omega (arith, numeral_long v _ x) }
sayable (Some Number) v r h =
    let x = number_fine v r in
    record { manner = Numeral; way = rw r; plain = all_known_plain v x.known; room = omega (arith, numeral_long v _ x) }
sayable (Some EpochKind) v r h = epoch_sayable v r.0 r.1 r.2
sayable None v r h = absurd r

-- what is said in a manner that has room is said
said_so : (c : ℕ) (v : List ℕ) (room : ℕ) (m : Manner) → way_of c v ≡ Some m → length (words_by m v) ≤ room → spoken_of c v room ≡ Ok (length (words_of c v))
unfolding spoken_by words_in
said_so c v room m e h = rw e (fitted-words (words_by m v) room h)

-- no value of a kind is a comment
no_comment : (c : ℕ) (v : List ℕ) → RightIn (kind_of c) v → c ≡ 45 → ⊥
unfolding pick
no_comment c v r e = subst (λ (n : ℕ). RightIn (kind_of n) v) e r

pub all_said : AllSaid
all_said c v room r h n =
    ⊎_elim
    (λ k. said_so c v room Plain (sym (way_comment c v h (omega (arith, k.1)) k.0)) (rw plain-words (omega arith)))
    (λ k.
    let x = sayable (kind_of c) v k h in
    said_so c v room x.manner (sym (way_kind c v h (omega (arith, x.plain)) (no_comment c v k)) ∙ x.way) (omega (arith, x.room)))
    r
