-- Each row of a message in a feed within the limit has five small numbers, and its span lies in the feed.
-- Assumes nothing.
use Prim.Native.Nat.{ℕ, zero, suc, ◌+◌, ◌-◌, ◌≤◌, ◌<◌}
use mathlib.Core.Path.{◌≡◌, refl}
use mathlib.Core.Bool.{Bool, true, false, not, ◌&&◌}
use mathlib.Core.List.{List, [], ◌∷◌, ◌++◌}
use native.Mathlib.Nat.{not-suc-le-zero}
use native.Mathlib.Omega.{arith}
use lib.Dec.{eqb}
use lib.ListN.{length, take, drop, get_or, length-take, length-drop}
use lib.Seq.{take_all}
use Rattle.words.specs.Words.{Each}
use Rattle.words.proofs.Laws.{each_append, run-le}
use Rattle.lines.specs.Feed.{Line, is_end, lines, lines_at, text_len, line_len}
use Rattle.lines.specs.Text.{no_span}
use Rattle.lines.specs.declared.Span.{Span}
use Rattle.lines.proofs.Laws.{end-le}
use Rattle.lines.proofs.Lists.{lines_next, lines_end, len_some}
use Rattle.std.specs.Prelude.{Result, Ok, Err}
use Rattle.reasons.specs.declared.Reason.{Reason}
use Rattle.step.specs.Step.{Inside, fresh_state, no_row, one_row, seven_rows, step_of}
use Rattle.step.specs.declared.State.{State}
use Rattle.step.specs.declared.Step.{Step}
use Rattle.step.proofs.Sound.{Good, offence, none, one, seven, step_good}
use Rattle.judge.specs.Message.{feed_limit, is_heading, form_of, from_heading, up_to, message_of, group_of, rows_at, rows_from, rows_lines, rows_of}
use Rattle.judge.specs.declared.Row.{Row}
use Rattle.rows.proofs.Fills.{group_le}
use Rattle.tables.proofs.Tables.{Fit, Small}

-- a row whose numbers are small and whose span lies in a feed of n bytes
pub record Held (n : ℕ) (r : Row) : Type 0 where
  pub fit : Fit r
  pub within : r.start + r.length ≤ n

each_at : {A : Type 0} (p : A → Type 0) (d : A) (xs : List A) → ((i : ℕ) → p (get_or xs i d)) → Each p xs
each_at p d [] h = tt
each_at p d (x ∷ xs) h = (h 0, each_at p d xs (λ i. h (suc i)))

pub at_every : {A : Type 0} (p : A → Type 0) (d : A) (xs : List A) → Each p xs → (i : ℕ) → i < length xs → p (get_or xs i d)
at_every p d [] h i k = absurd (not-suc-le-zero k)
at_every p d (x ∷ xs) h zero k = h.0
at_every p d (x ∷ xs) h (suc i) k = at_every p d xs h.1 i (omega arith)

-- ---- lines lie in their feed, and are no more than its bytes

-- a line that ends within n bytes
abbrev LineIn : ℕ → Line → Type 0
LineIn n l = l.start + length l.text ≤ n

pub record Lines (n m : ℕ) (ls : List Line) : Type 0 where
  pub inside : Each (LineIn n) ls
  pub few : length ls ≤ m

len_le : (s : List ℕ) → line_len s ≤ length s
unfolding line_len
len_le s = omega (arith, run-le (λ b. not (is_end b)) s, end-le (drop (text_len s) s), length-drop (text_len s) s)

abbrev LinesTo : ℕ → Type 0
LinesTo k = (at : ℕ) (s : List ℕ) → length s ≤ k → Lines (at + length s) (length s) (lines_at at s)

no_lines : (at : ℕ) → Lines (at + 0) 0 (lines_at at [])
no_lines at = rw (lines_end at) (record { inside = tt; few = omega arith })

more_lines : (k : ℕ) → LinesTo k → LinesTo (suc k)
more_lines k ih at [] h = no_lines at
more_lines k ih at (b ∷ s) h =
    let w = b ∷ s in
    let n = line_len w in
    let some : 0 < n = len_some w (omega arith) in
    let le = len_le w in
    let d = length-drop n w in
    let r = ih (at + n) (drop n w) (omega arith) in
    let e : at + n + length (drop n w) ≡ at + length w = omega arith in
    rw (lines_next at w (omega arith))
    (record {
      inside = (omega (arith, length-take (text_len w) w), rw e at r.inside);
      few = omega (arith, r.few);
    })

zero-lines : LinesTo 0
zero-lines at [] h = no_lines at
zero-lines at (b ∷ s) h = absurd (not-suc-le-zero h)

lines_to : (k : ℕ) → LinesTo k
lines_to zero = zero-lines
lines_to (suc k) = more_lines k (lines_to k)

module _ (n m : ℕ) where
  from_in : (ls : List Line) (k : ℕ) → Lines n m ls → Lines n m (from_heading k ls)
  unfolding from_heading
  from_in [] k h = h
  from_in (l ∷ ls) k h =
      let t : Lines n m ls = record { inside = h.inside.1; few = omega (arith, h.few) } in
      go (is_heading l.text) (eqb k 1) (from_in ls (k - 1) t) (from_in ls k t)
    where
      go : (t u : Bool) → Lines n m (from_heading (k - 1) ls) → Lines n m (from_heading k ls)
          → Lines n m (elim t [ true ↦ elim u [ true ↦ l ∷ ls | false ↦ from_heading (k - 1) ls ] | false ↦ from_heading k ls ])
      go true true x y = h
      go true false x y = x
      go false u x y = y

  up_in : (ls : List Line) (b : Bool) (k : ℕ) → Each (LineIn n) ls → length ls ≤ k → Lines n k (up_to b ls)
  unfolding up_to
  up_in [] b k h f = record { inside = tt; few = omega arith }
  up_in (l ∷ ls) b zero h f = absurd (not-suc-le-zero f)
  up_in (l ∷ ls) b (suc k) h f = go (not b && is_heading l.text) (up_in ls false k h.1 (omega arith))
    where
      go : (t : Bool) → Lines n k (up_to false ls) → Lines n (suc k) (elim t [ true ↦ [] | false ↦ l ∷ up_to false ls ])
      go true x = record { inside = tt; few = omega arith }
      go false x = record { inside = (h.0, x.inside); few = omega (arith, x.few) }

message_in : (f : List ℕ) (k : ℕ) → Lines (length f) (length f) (message_of k f)
unfolding message_of
message_in f k =
    let z : 0 + length f ≡ length f = omega arith in
    let a = rw z at (lines_to (length f) 0 f (omega arith)) in
    let b = from_in _ _ (lines f) k a in
    up_in (length f) (length f) (from_heading k (lines f)) true (length f) b.inside b.few

-- ---- rows

module _ (n : ℕ) (limit : n ≤ feed_limit) where
  at_held : (s : List ℕ) (at : ℕ) → at + length s ≤ n → (g line : ℕ) → g ≤ feed_limit → line ≤ feed_limit → (ps : List Span) (c : ℕ) → c + length ps ≤ 60000
      → Each (λ p. Inside p s) ps → Each (Held n) (rows_at c g line at ps)
  unfolding rows_at
  at_held s at h g line hg hl [] c hc i = tt
  at_held s at h g line hg hl (p ∷ ps) c hc i = (
    record {
      fit = record { code = omega arith; group = omega arith; line = omega arith; start = omega (arith, i.0.order, i.0.end); length = omega (arith, i.0.order, i.0.end) };
      within = omega (arith, i.0.order, i.0.end);
    },
    at_held s at h g line hg hl ps (c + 1) (omega arith) i.1,
  )

  -- what a right line has, and nothing for one that offends
  step_held : (s : List ℕ) {y : Result Step Reason} → Good s y → (x : Step) → y ≡ Ok x → (at : ℕ) → at + length s ≤ n → (g line : ℕ) → g ≤ feed_limit
      → line ≤ feed_limit → Each (Held n) (rows_at x.code g line at (take x.count x.spans))
  unfolding rows_at
  step_held s (offence r _) x e at h g line hg hl = cc
  step_held s (none st) x e at h g line hg hl = let q : no_row st ≡ x = cc in rw (← q) tt
  step_held s (one st c p hc i) x e at h g line hg hl =
      let q : one_row st c p ≡ x = cc in
      rw (← q) (at_held s at h g line hg hl (p ∷ []) c (omega arith) (i, tt))
  step_held s (seven st ps i) x e at h g line hg hl =
      let q : seven_rows st ps ≡ x = cc in
      let z : take 7 ps ≡ ps = take_all 7 ps (omega (arith, i.size)) in
      rw (← q) (rw z (at_held s at h g line hg hl ps 9 (omega (arith, i.size)) (each_at (λ p. Inside p s) no_span ps i.inside)))

  rows-held : (ls : List Line) (st : State) (g line : ℕ) → g < line → line + length ls ≤ feed_limit + 1 → Each (LineIn n) ls → Each (Held n) (rows_from st g line ls)
  unfolding rows_from
  rows-held [] st g line hg hl h = tt
  rows-held (l ∷ ls) st g line hg hl h = go (step_of st l.text) refl (λ st' k z. rows-held ls st' k (line + 1) z (omega arith) h.1)
    where
      go : (y : Result Step Reason) → step_of st l.text ≡ y → ((st' : State) (k : ℕ) → k < line + 1 → Each (Held n) (rows_from st' k (line + 1) ls))
          → Each (Held n) (elim y [
            | Err r ↦ rows_from st g (line + 1) ls
            | Ok x ↦ rows_at x.code (group_of st.form g x.code) line l.start (take x.count x.spans) ++ rows_from x.state (group_of st.form g x.code) (line + 1) ls
          ])
      go (Err r) e ih = ih st g (omega arith)
      go (Ok x) e ih =
          let q = group_le st.form g x.code in
          each_append (Held n) (rows_at x.code (group_of st.form g x.code) line l.start (take x.count x.spans)) _
          (step_held l.text (step_good l.text st) x e l.start h.0 (group_of st.form g x.code) line (omega arith) (omega arith))
          (ih x.state (group_of st.form g x.code) (omega arith))

  lines-held : (ls : List Line) → Lines n n ls → Each (Held n) (rows_lines ls)
  unfolding rows_lines
  lines-held [] h = tt
  lines-held (l ∷ ls) h = rows-held (l ∷ ls) (fresh_state (form_of l.text)) 0 1 (omega arith) (omega (arith, h.few)) h.inside

pub all_held : (f : List ℕ) (k : ℕ) → length f ≤ feed_limit → Each (Held (length f)) (rows_of f k)
all_held f k h = lines-held (length f) h (message_of k f) (message_in f k)

pub all_small : (n : ℕ) (rs : List Row) → Each (Held n) rs → Small rs
unfolding Small
all_small n [] h = tt
all_small n (r ∷ rs) h = (h.0.fit, all_small n rs h.1)
