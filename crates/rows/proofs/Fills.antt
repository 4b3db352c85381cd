-- Laws of a table being filled: stores one after the other, a line's rows, a message's rows, and how many there are.
-- Assumes nothing.
use mathlib.Core.Path.{◌≡◌, refl, sym, ap, ◌∙◌}
use mathlib.Core.List.{List, [], ◌∷◌, ◌++◌}
use mathlib.Core.Bool.{Bool, true, false}
use Prim.Native.Nat.{ℕ, suc, ◌+◌, ◌-◌, ◌*◌, ◌≤◌, ◌<◌}
use native.Mathlib.Numerals.{add-one}
use native.Mathlib.Omega.{arith}
use lib.Dec.{eqb, ltb}
use lib.ListN.{length, take, drop, get_or, length-append, length-drop}
use borrow.Author.Tests.{lt-ltb, le-ltb, ltb-false}
use lib.Seq.{length-take-le, drop-cons, get_or-take}
use Rattle.lines.specs.Feed.{Line}
use Rattle.lines.specs.Text.{no_span}
use Rattle.lines.specs.declared.Span.{Span}
use Rattle.grammar.specs.Order.{next_of}
use Rattle.lines.specs.declared.Form.{Form}
use Rattle.lines.specs.declared.Form.TheVariants.{Opm, Oem}
use Rattle.step.specs.Step.{fresh_state, step_of}
use Rattle.reasons.specs.declared.Reason.TheVariants as Reasons
use Rattle.step.specs.declared.State.{State}
use Rattle.step.specs.declared.Step.{Step}
use Rattle.step.proofs.Sound.{spans}
use Rattle.judge.specs.Message.{feed_limit, form_of, texts, end_of, judge_texts, judge_lines, message_of, judge_of, FoundIs, group_of, rows_at, rows_from, rows_lines, rows_of, refused}
use Rattle.judge.specs.declared.Found.{Found}
use Rattle.judge.specs.declared.Moved.{Moved}
use Rattle.judge.specs.declared.Row.{Row}
use Rattle.judge.proofs.Laws.{left, AtLine, judge_found, not_both, accepted_short, found_rows}
use Rattle.tables.specs.Table.{host_row, put_row, put_rows}
use Rattle.rows.specs.Filled.{room_for, StepFits, rows_found, Fillable}
use Rattle.std.specs.Prelude.{Some, Result, Ok, Err}
use Rattle.reasons.specs.declared.Reason.{Reason}
use Rattle.judge.specs.declared.Refusal.{Refusal}

-- ---- a line's rows

-- one row of a line
abbrev pub row_for : ℕ → ℕ → ℕ → ℕ → Span → Row
row_for c g line at p = record { code = c; group = g; line = line; start = at + p.from; length = p.to - p.from }

module _ (n c g line at : ℕ) (t : List ℕ) where
  pub put_none : (ps : List Span) → length ps ≡ 0 → put_rows n (rows_at c g line at ps) t ≡ t
  unfolding put_rows rows_at
  put_none [] e = refl
  put_none (p ∷ ps) e = absurd (omega arith)

  put_first : (p : Span) (ps : List Span)
      → put_rows n (rows_at c g line at (p ∷ ps)) t ≡ put_rows (n + 1) (rows_at (c + 1) g line at ps) (put_row n (row_for c g line at p) t)
  unfolding put_rows rows_at
  put_first p ps = refl

-- the i-th of a line's rows put: what is left is put behind it
pub put_next : (n c g line at i : ℕ) (ps : List Span) (t : List ℕ) → i < length ps
    → put_rows (n + i) (rows_at (c + i) g line at (drop i ps)) t
    ≡ put_rows (n + (i + 1)) (rows_at (c + (i + 1)) g line at (drop (i + 1) ps)) (put_row (n + i) (row_for (c + i) g line at (get_or ps i no_span)) t)
put_next n c g line at i ps t h =
    let u : n + (i + 1) ≡ n + i + 1 = omega arith in
    let v : c + (i + 1) ≡ c + i + 1 = omega arith in
    let d : drop i ps ≡ get_or ps i no_span ∷ drop (i + 1) ps = rw (add-one i) (drop-cons ps i no_span h) in
    rw (d, u, v) (put_first _ _ g line at t _ _)

-- the same of its first k rows
pub put_turn : (n c g line at i k : ℕ) (ps : List Span) (t : List ℕ) → i < k → k ≤ length ps
    → put_rows (n + i) (rows_at (c + i) g line at (drop i (take k ps))) t
    ≡ put_rows (n + (i + 1)) (rows_at (c + (i + 1)) g line at (drop (i + 1) (take k ps))) (put_row (n + i) (row_for (c + i) g line at (get_or ps i no_span)) t)
put_turn n c g line at i k ps t h j =
    let q : length (take k ps) ≡ k = length-take-le k ps j in
    rw (← (get_or-take k ps i no_span h)) (put_next n c g line at i (take k ps) t (omega arith))

-- past the last of a line's rows there is none to put
pub put_past : (n c g line at i : ℕ) (ps : List Span) (t : List ℕ) → length ps ≤ i → put_rows n (rows_at c g line at (drop i ps)) t ≡ t
put_past n c g line at i ps t h = put_none n c g line at t (drop i ps) (simp length-drop (omega arith))

-- ---- what a step answers

-- its rows fit, where the text stands in the feed and the table has room
pub step_fits : (st : State) (s : List ℕ) (x : Step) (n at : ℕ) → step_of st s ≡ Ok x → at + length s ≤ feed_limit → n + x.count ≤ 4294967295 → StepFits x n at
step_fits st s x n at e h r =
    let w = spans st s x e in
    record {
      few = w.few;
      size = w.size;
      order = λ i k. (w.inside i k).order;
      end = λ i k. omega (arith, (w.inside i k).end);
      code = w.code;
      last = r;
    }

length-rows : (ps : List Span) (c g line at : ℕ) → length (rows_at c g line at ps) ≡ length ps
unfolding rows_at
length-rows [] c g line at = refl
length-rows (p ∷ ps) c g line at = ap suc (length-rows ps (c + 1) g line at)

-- a line has as many rows as its step says
row_count : (st : State) (s : List ℕ) (x : Step) → step_of st s ≡ Ok x → (c g line at : ℕ) → length (rows_at c g line at (take x.count x.spans)) ≡ x.count
row_count st s x e c g line at =
    let w = spans st s x e in
    length-rows _ c g line at ∙ length-take-le _ _ (omega (arith, w.few, w.size))

-- ---- a message's rows

put_append : (xs ys : List Row) (n : ℕ) (t : List ℕ) → put_rows n (xs ++ ys) t ≡ put_rows (n + length xs) ys (put_rows n xs t)
unfolding put_rows
put_append [] ys n t = ap (λ (k : ℕ). put_rows k ys t) (omega arith)
put_append (x ∷ xs) ys n t = put_append xs ys (n + 1) (put_row n x t) ∙ ap (λ (k : ℕ). put_rows k ys (put_rows (n + 1) xs (put_row n x t))) (omega arith)

pub fill_end : (st : State) (g line n : ℕ) (t : List ℕ) (ls : List Line) → ls ≡ [] → put_rows n (rows_from st g line ls) t ≡ t
unfolding put_rows rows_from
fill_end st g line n t ls e = rw e

-- a message that is accepted has as many rows as it was accepted with
accepted : (ls : List Line) (st : State) (g line n total : ℕ) → judge_texts st line n (texts ls) ≡ Ok total
    → n + length (rows_from st g line ls) ≡ total
unfolding judge_texts rows_from end_of
accepted [] st g line n total = go (next_of st.form st.last).end
  where
    go : (t : Bool) → ◌≡◌ {A = Result ℕ Refusal} (elim t [ true ↦ Ok n | false ↦ refused Reasons.Short line ]) (Ok total) → n + 0 ≡ total
    go true e = let q : n ≡ total = cc in omega arith
    go false e = absurd (not_both e refl)
accepted (l ∷ ls) st g line n total = go (step_of st l.text) refl (λ st' g' n'. accepted ls st' g' (line + 1) n' total)
  where
    go : (y : Result Step Reason) → step_of st l.text ≡ y
        → ((st' : State) (g' n' : ℕ) → judge_texts st' (line + 1) n' (texts ls) ≡ Ok total → n' + length (rows_from st' g' (line + 1) ls) ≡ total)
        → ◌≡◌ {A = Result ℕ Refusal} (elim y [ Err r ↦ refused r line | Ok x ↦ judge_texts x.state (line + 1) (n + x.count) (texts ls) ]) (Ok total)
        → n
        + length {A = Row} (elim y [
          | Err r ↦ rows_from st g (line + 1) ls
          | Ok x ↦ rows_at x.code (group_of st.form g x.code) line l.start (take x.count x.spans) ++ rows_from x.state (group_of st.form g x.code) (line + 1) ls
        ])
        ≡ total
    go (Err r) q ih e = cc
    go (Ok x) q ih e = simp length-append (rw (row_count st l.text x q) (omega (arith, ih x.state (group_of st.form g x.code) (n + x.count) e)))

-- the walk is at a line
module _ (f : List ℕ) (at : ℕ) (first : Bool) (st : State) (m : Moved) (w : AtLine f at first m.next) (e : step_of st w.text ≡ Ok m.step) where
  -- the line's rows put: what is left is put behind them
  pub fill_turn : (g line n : ℕ) (t : List ℕ) → let x = m.step in let h = group_of st.form g x.code in
      put_rows n (rows_from st g line (left f at first)) t
      ≡ put_rows (n + x.count) (rows_from x.state h (line + 1) (left f m.next false)) (put_rows n (rows_at x.code h line at (take x.count x.spans)) t)
  unfolding rows_from
  fill_turn g line n t = rw w.more (rw (e, rows_from) (rw (put_append, row_count st w.text m.step e)))

-- a group goes up by at most one
next_le : (t : Bool) (g : ℕ) → elim t [ true ↦ g + 1 | false ↦ g ] ≤ g + 1
next_le true g = omega arith
next_le false g = omega arith

pub group_le : (f : Form) (g c : ℕ) → group_of f g c ≤ g + 1
unfolding group_of
group_le Opm g c = next_le (eqb c 29) g
group_le Oem g c = next_le (eqb c 37) g

-- ---- a message by its number

rows-lines : (ls : List Line) (n : ℕ) → judge_lines ls ≡ Ok n → length (rows_lines ls) ≡ n
unfolding judge_lines rows_lines
rows-lines [] n e = absurd (not_both e refl)
rows-lines (l ∷ ls) n e = omega (arith, accepted (l ∷ ls) (fresh_state (form_of l.text)) 0 1 0 n e)

module _ (f : List ℕ) (k n : ℕ) (e : judge_of f k ≡ Ok n) where
  -- it has as many rows as it was accepted with
  pub rows_count : length (rows_of f k) ≡ n
  unfolding judge_of
  rows_count = rows-lines (message_of k f) n (rw (le-ltb _ _ (accepted_short f k n e), judge_of) at e)

  -- it stands where it was found
  module _ (x : Found) (q : FoundIs (Some x) k f) where
    pub found_fillable : Fillable f x.at x.form
    found_fillable = record { limit = accepted_short f k n e; total = n; right = sym (judge_found f k (accepted_short f k n e) x q) ∙ e }

    pub found_count : n ≡ length (rows_found f x.at x.form)
    found_count = rw (← found_rows f k x q) (sym rows_count)

-- ---- a table's room

module _ (bytes n : ℕ) where
  pub no_room : bytes < host_row * n → refused Reasons.NoRoom 0 ≡ room_for bytes (Ok n)
  unfolding room_for
  no_room h = rw (lt-ltb _ _ h, room_for)

  pub room_enough : host_row * n ≤ bytes → Ok n ≡ room_for bytes (Ok n)
  unfolding room_for
  room_enough h = rw (le-ltb _ _ h, room_for)

-- an acceptance with room is one of the judge, and has the room
pub room-right : (bytes : ℕ) (j : Result ℕ Refusal) (n : ℕ) → Ok n ≡ room_for bytes j → (j ≡ Ok n) × (host_row * n ≤ bytes)
unfolding room_for
room-right bytes (Err x) n = λ e. absurd (not_both (sym e) refl)
room-right bytes (Ok m) n = go (ltb bytes (host_row * m)) refl
  where
    go : (t : Bool) → ltb bytes (host_row * m) ≡ t → ◌≡◌ {A = Result ℕ Refusal} (Ok n) (elim t [ true ↦ refused Reasons.NoRoom 0 | false ↦ Ok m ]) → (◌≡◌ {A = Result ℕ Refusal} (Ok m) (Ok n)) × (host_row * n ≤ bytes)
    go true q e = absurd (not_both (sym e) refl)
    go false q e = let z : n ≡ m = cc in (sym e, rw z (ltb-false _ _ q))
