-- A text of lines joined by one LF has just those lines; a feed's lines stand in it at their starts; and a message, so joined, fits where it stood.
-- Assumes nothing.
use mathlib.Core.Path.{◌≡◌, refl, sym, ap, ◌∙◌}
use mathlib.Core.List.{List, [], ◌∷◌, ◌++◌}
use mathlib.Core.Bool.{Bool, true, false, not, ◌&&◌, false≢true}
use Prim.Native.Nat.{ℕ, zero, suc, ◌+◌, ◌-◌, ◌≤◌, ◌<◌, min}
use native.Mathlib.Nat.{not-suc-le-zero}
use native.Mathlib.Omega.{arith}
use lib.Dec.{eqb}
use lib.ListN.{length, take, drop, length-append, length-drop}
use lib.Seq.{length-take-le, take-append_seam, drop-append-add, drop-append_seam, drop-drop}
use borrow.Author.Tests.{ne_eqb}
use Rattle.words.specs.Words.{run, Each}
use Rattle.words.proofs.Laws.{run_stop, run-le}
use Rattle.lines.specs.Feed.{Line, is_end, lines, lines_at, text_len, end_with, end_len, line_len, ends_of}
use Rattle.lines.specs.Text.{is_odd, odd_at}
use Rattle.lines.proofs.Lists.{lines_next, lines_end, len_some, line_first, len_le, by_lines}
use Rattle.judge.specs.Message.{is_heading, from_heading, up_to, message_of, texts}
use Rattle.write.proofs.Readings.{whether, either}
use Rattle.written.proofs.Bytes.{Some, after, run-cons, run_past, pass_split, pass_weaker}
use Rattle.written.specs.Writing.{next_heading}

-- a byte from 32 to 126 is no CR and no LF
plain_byte : (b : ℕ) → not (is_odd b) ≡ true → not (is_end b) ≡ true
plain_byte b h = rw (ne_eqb b 13 (λ e. false≢true (rw e at h)), ne_eqb b 10 (λ e. false≢true (rw e at h)))

-- so a text of such bytes has no CR and no LF
pub plain_whole : (s : List ℕ) → odd_at s ≡ length s → text_len s ≡ length s
plain_whole s h = pass_weaker (λ b. not (is_odd b)) (λ b. not (is_end b)) plain_byte s h

-- ---- lines joined by one LF

-- no CR or LF in it, and not empty
abbrev pub Whole : List ℕ → Type 0
Whole p = Some (λ b. not (is_end b)) p

-- an LF before a line is an ending of one byte
lf_alone : (p r : List ℕ) → Whole p → end_len (10 ∷ p ++ r) ≡ 1
unfolding end_len end_with
lf_alone [] r w = absurd (not-suc-le-zero w.some)
lf_alone (b ∷ p) r w = whether (λ (n : ℕ). n ≡ 1) (eqb b 13) (λ q. absurd (false≢true (rw q at (pass_split _ b p w.whole).0))) (λ q. refl)

-- the first line of a text in which it stands before an ending, or alone
line_off : (at : ℕ) (p r : List ℕ) → Whole p → text_len r ≡ 0 → texts (lines_at at (p ++ r)) ≡ p ∷ texts (lines_at (at + (length p + end_len r)) (drop (end_len r) r))
unfolding line_len
line_off at p r w h =
    let t : text_len (p ++ r) ≡ length p = omega (arith, run_past _ p r w.whole) in
    ap texts (lines_next at (p ++ r) (omega (arith, length-append p r)))
    ∙ rw (t, line_len) (rw (take-append_seam p r, drop-append_seam p r, drop-append-add p r (end_len r)))

joined_at : (at : ℕ) (p : List ℕ) (ps : List (List ℕ)) → Whole p → Each Whole ps → texts (lines_at at (p ++ after 10 ps)) ≡ p ∷ ps
unfolding after run end_len
joined_at at p [] w v = line_off at p [] w refl ∙ rw lines_end
joined_at at p (q ∷ ps) w v =
    line_off at p (10 ∷ q ++ after 10 ps) w refl
    ∙ rw (lf_alone q (after 10 ps) v.0) (ap (λ (l : List (List ℕ)). p ∷ l) (joined_at (at + (length p + 1)) q ps v.0 v.1))

-- the lines of a text so joined are the lines that were joined
pub lines_joined : (p : List ℕ) (ps : List (List ℕ)) → Whole p → Each Whole ps → texts (lines (p ++ after 10 ps)) ≡ p ∷ ps
lines_joined p ps w v = joined_at 0 p ps w v

-- ---- a feed's lines stand in it

-- a line stands in the feed at its start
abbrev pub Stands : List ℕ → Line → Type 0
Stands f l = take (length l.text) (drop l.start f) ≡ l.text

lines_stand : (f : List ℕ) → Each (Stands f) (lines f)
lines_stand f =
    by_lines f (λ at ls. Each (Stands f) ls) tt (λ at s ls e h ih. (rw (length-take-le (text_len s) s (run-le _ s)) (ap (take (text_len s)) (sym e)), ih))

module _ (p : Line → Type 0) where
  from_every : (k : ℕ) (ls : List Line) → Each p ls → Each p (from_heading k ls)
  unfolding from_heading
  from_every k [] h = tt
  from_every k (l ∷ ls) h = either (Each p) (is_heading l.text) (either (Each p) (eqb k 1) h (from_every (k - 1) ls h.1)) (from_every k ls h.1)

  up_every : (first : Bool) (ls : List Line) → Each p ls → Each p (up_to first ls)
  unfolding up_to
  up_every first [] h = tt
  up_every first (l ∷ ls) h = either (Each p) (not first && is_heading l.text) tt (h.0, up_every false ls h.1)

-- and so do a message's
pub from_stand : (f : List ℕ) (k : ℕ) → Each (Stands f) (message_of k f)
unfolding message_of
from_stand f k = up_every (Stands f) true _ (from_every (Stands f) k _ (lines_stand f))

-- ---- a message's lines, joined, are no longer than what they stood in

-- a line takes at least a byte more than its text, or all there is
len_more : (s : List ℕ) → min (length s) (text_len s + 1) ≤ line_len s
unfolding line_len
len_more [] = omega arith
len_more (b ∷ s) = go (is_end b) refl (len_more s)
  where
    go : (t : Bool) → is_end b ≡ t → min (length s) (text_len s + 1) ≤ line_len s → min (suc (length s)) (text_len (b ∷ s) + 1) ≤ line_len (b ∷ s)
    go true q ih = omega (arith, run_stop (λ c. not (is_end c)) (b ∷ s) 0 (omega arith) (ap not q), len_some (b ∷ s) (omega arith))
    go false q ih = rw (run-cons (λ c. not (is_end c)) b s (ap not q)) (omega arith)

module _ (f : List ℕ) where
  -- a message's first line and the lines after it, joined, fit before the next heading line, which starts in the feed
  abbrev pub Fits : Line → List Line → Type 0
  Fits l ls = (l.start + (length l.text + length (after 10 (texts (up_to false ls)))) ≤ next_heading (length f) ls) × (next_heading (length f) ls ≤ length f)

  abbrev pub Begins : List Line → Type 0
  Begins [] = Unit {0}
  Begins (l ∷ ls) = Fits l ls

  -- the lines up to the next heading line, each behind an LF, take at most a byte more than what they stood in, and none where nothing stood
  abbrev Lies : ℕ → List Line → Type 0
  Lies at ls =
      (at + length (after 10 (texts (up_to false ls))) ≤ next_heading (length f) ls + min 1 (length f - at))
      × (next_heading (length f) ls ≤ length f) × ((k : ℕ) → Begins (from_heading k ls))

  lies_more : (at : ℕ) (s : List ℕ) (ls : List Line) → s ≡ drop at f → 0 < length s → Lies (at + line_len s) ls → Lies at (line_first at s ∷ ls)
  unfolding after up_to next_heading from_heading
  lies_more at s ls e h ih = go (is_heading (take (text_len s) s))
    where
      size : length s ≡ length f - at
      size = ap length e ∙ length-drop at f

      room : at + (length (take (text_len s) s) + length (after 10 (texts (up_to false ls)))) ≤ next_heading (length f) ls
      room = rw (length-take-le (text_len s) s (run-le _ s)) (omega (arith, ih.0, len_more s, len_le s h, run-le (λ b. not (is_end b)) s, size))

      go : (t : Bool)
          → (at + length (after 10 (texts (elim t [ true ↦ [] | false ↦ line_first at s ∷ up_to false ls ]))) ≤ elim t [ true ↦ at | false ↦ next_heading (length f) ls ] + min 1 (length f - at))
          × (elim t [ true ↦ at | false ↦ next_heading (length f) ls ] ≤ length f)
          × ((k : ℕ) → Begins (elim t [ true ↦ elim (eqb k 1) [ true ↦ line_first at s ∷ ls | false ↦ from_heading (k - 1) ls ] | false ↦ from_heading k ls ]))
      go true = (omega arith, omega (arith, size), λ k. either Begins (eqb k 1) (room, ih.1) (ih.2 (k - 1)))
      go false = (omega (arith, room, size, length-append (take (text_len s) s) (after 10 (texts (up_to false ls)))), ih.1, ih.2)

  -- message k, joined, fits where it stood
  pub found : (k : ℕ) → Begins (from_heading k (lines f))
  unfolding after up_to next_heading from_heading
  found = (by_lines f Lies (omega arith, omega arith, λ k. tt) lies_more).2
