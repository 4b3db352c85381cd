-- Demand 3: a feed's lines from a place on are the lines of what stands there, moved; headings, judgement and rows go by the texts.
-- Assumes nothing.
use Prim.Native.Nat.{ℕ, ◌+◌, ◌-◌, ◌*◌, ◌≤◌}
use mathlib.Core.Path.{◌≡◌, refl, sym, ap, ap₂, ◌∙◌}
use mathlib.Core.Bool.{Bool, true, false, not, ◌&&◌}
use mathlib.Core.List.{List, [], ◌∷◌, ◌++◌, map}
use native.Mathlib.Omega.{arith}
use lib.Dec.{eqb}
use lib.ListN.{length, take, drop, length-drop}
use borrow.Author.Tests.{ne_eqb, le-ltb}
use Rattle.lines.specs.Feed.{Line, lines, Starts, lines_before, moved_line}
use Rattle.lines.specs.declared.Span.{Span}
use Rattle.lines.proofs.Lists.{lines_from_lem, lines_shift}
use Rattle.step.specs.Step.{fresh_state, step_of}
use Rattle.step.specs.declared.State.{State}
use Rattle.judge.specs.Message.{is_heading, form_of, from_heading, headings, up_to, message_of, texts, judge_texts, judge_lines, feed_limit, judge_of, group_of, rows_at, rows_from, rows_lines, rows_of}
use Rattle.tables.specs.Table.{host_row, table_bytes}
use Rattle.desk.specs.Placing.{top_load, desk_after, place_of, place_table}
use Rattle.rows.specs.Filled.{room_for}
use Rattle.desk.specs.declared.Desk.{Desk}
use Rattle.demands.proofs.Placing.{answer_free, desk_free, placing_fills}
use Rattle.judge.specs.declared.Row.{Row}
use Rattle.demands.specs.Healing.{moved_row, from_there, Healing, HealingPlaced}
use Rattle.step.specs.declared.Step.{Step}
use Rattle.reasons.specs.declared.Reason.{Reason}
use Rattle.std.specs.Prelude.{Result, Ok, Err}
use Rattle.judge.specs.declared.Refusal.{Refusal}

-- ---- headings that stand before are passed

from_past : (before ls : List Line) (j : ℕ) → 1 ≤ j → from_heading (headings before + j) (before ++ ls) ≡ from_heading j ls
unfolding from_heading headings
from_past [] ls j h = ap (λ (k : ℕ). from_heading k ls) (omega arith)
from_past (l ∷ before) ls j h = go (is_heading l.text) refl (from_past before ls j h)
  where
    go : (t : Bool) → is_heading l.text ≡ t → from_heading (headings before + j) (before ++ ls) ≡ from_heading j ls
        → from_heading (headings (l ∷ before) + j) (l ∷ before ++ ls) ≡ from_heading j ls
    go true q ih =
        let n : eqb (headings before + 1 + j) 1 ≡ false = ne_eqb (headings before + 1 + j) 1 (λ e. omega arith) in
        let m : headings before + 1 + j - 1 ≡ headings before + j = omega arith in
        rw (q, headings) (rw (q, from_heading) (rw n (rw m ih)))
    go false q ih = rw (q, headings) (rw (q, from_heading) ih)

-- ---- lines that are moved

module _ (q : ℕ) where
  abbrev mv : List Line → List Line
  mv ls = map (moved_line q) ls

  from_moved : (ls : List Line) (j : ℕ) → from_heading j (mv ls) ≡ mv (from_heading j ls)
  unfolding from_heading
  from_moved [] j = refl
  from_moved (l ∷ ls) j = go (is_heading l.text) (eqb j 1) (from_moved ls (j - 1)) (from_moved ls j)
    where
      go : (t u : Bool) → from_heading (j - 1) (mv ls) ≡ mv (from_heading (j - 1) ls) → from_heading j (mv ls) ≡ mv (from_heading j ls)
          → elim t [ true ↦ elim u [ true ↦ moved_line q l ∷ mv ls | false ↦ from_heading (j - 1) (mv ls) ] | false ↦ from_heading j (mv ls) ]
          ≡ mv (elim t [ true ↦ elim u [ true ↦ l ∷ ls | false ↦ from_heading (j - 1) ls ] | false ↦ from_heading j ls ])
      go true true x y = refl
      go true false x y = x
      go false u x y = y

  up_moved : (ls : List Line) (b : Bool) → up_to b (mv ls) ≡ mv (up_to b ls)
  unfolding up_to
  up_moved [] b = refl
  up_moved (l ∷ ls) b = go (not b && is_heading l.text) (up_moved ls false)
    where
      go : (t : Bool) → up_to false (mv ls) ≡ mv (up_to false ls)
          → elim t [ true ↦ [] | false ↦ moved_line q l ∷ up_to false (mv ls) ] ≡ mv (elim t [ true ↦ [] | false ↦ l ∷ up_to false ls ])
      go true x = refl
      go false x = ap (λ (r : List Line). moved_line q l ∷ r) x

  texts-moved : (ls : List Line) → texts (mv ls) ≡ texts ls
  texts-moved [] = refl
  texts-moved (l ∷ ls) = ap (λ (r : List (List ℕ)). l.text ∷ r) (texts-moved ls)

  judge_moved : (ls : List Line) → judge_lines (mv ls) ≡ judge_lines ls
  unfolding judge_lines
  judge_moved [] = refl
  judge_moved (l ∷ ls) = ap (λ (r : List (List ℕ)). judge_texts (fresh_state (form_of l.text)) 1 0 (l.text ∷ r)) (texts-moved ls)

  at_moved : (c g line at : ℕ) (ps : List Span) → rows_at c g line (q + at) ps ≡ map (moved_row q) (rows_at c g line at ps)
  unfolding rows_at
  at_moved c g line at [] = refl
  at_moved c g line at (p ∷ ps) =
      let e : q + at + p.from ≡ q + (at + p.from) = omega arith in
      ap₂ (λ (s : ℕ) (r : List Row). record { code = c; group = g; line = line; start = s; length = p.to - p.from } ∷ r) e (at_moved (c + 1) g line at ps)

  map-append : (a b : List Row) → map (moved_row q) (a ++ b) ≡ map (moved_row q) a ++ map (moved_row q) b
  map-append [] b = refl
  map-append (r ∷ a) b = ap (λ (x : List Row). moved_row q r ∷ x) (map-append a b)

  rows-moved : (ls : List Line) (st : State) (g line : ℕ) → rows_from st g line (mv ls) ≡ map (moved_row q) (rows_from st g line ls)
  unfolding rows_from
  rows-moved [] st g line = refl
  rows-moved (l ∷ ls) st g line = go (step_of st l.text) (λ st' h. rows-moved ls st' h (line + 1))
    where
      go : (y : Result Step Reason)
          → ((st' : State) (h : ℕ) → rows_from st' h (line + 1) (mv ls) ≡ map (moved_row q) (rows_from st' h (line + 1) ls))
          → ◌≡◌ {A = List Row} (elim y [
            | Err r ↦ rows_from st g (line + 1) (mv ls)
            | Ok x ↦
                rows_at x.code (group_of st.form g x.code) line (q + l.start) (take x.count x.spans) ++ rows_from x.state (group_of st.form g x.code) (line + 1) (mv ls)
          ])
          (map (moved_row q) (elim y [
            | Err r ↦ rows_from st g (line + 1) ls
            | Ok x ↦ rows_at x.code (group_of st.form g x.code) line l.start (take x.count x.spans) ++ rows_from x.state (group_of st.form g x.code) (line + 1) ls
          ]))
      go (Err r) ih = ih st g
      go (Ok x) ih =
          let h = group_of st.form g x.code in
          ap₂ ◌++◌ (at_moved x.code h line l.start (take x.count x.spans)) (ih x.state h)
          ∙ sym (map-append (rows_at x.code h line l.start (take x.count x.spans)) (rows_from x.state h (line + 1) ls))

  lines-moved : (ls : List Line) → rows_lines (mv ls) ≡ map (moved_row q) (rows_lines ls)
  unfolding rows_lines
  lines-moved [] = refl
  lines-moved (l ∷ ls) = rows-moved (l ∷ ls) (fresh_state (form_of l.text)) 0 1

-- ---- the theorem

judge_within : (f : List ℕ) (k : ℕ) → length f ≤ feed_limit → judge_of f k ≡ judge_lines (message_of k f)
unfolding judge_of
judge_within f k h = rw (le-ltb feed_limit (length f) h, judge_of)

module _ (f : List ℕ) (q : ℕ) (s : Starts f q) where
  lines_are : lines f ≡ lines_before q (lines f) ++ mv q (lines (drop q f))
  lines_are = lines_from_lem f q s ∙ ap (λ (l : List Line). lines_before q (lines f) ++ l) (lines_shift q (drop q f))

  message_is : (j : ℕ) → 1 ≤ j → message_of (from_there f q j) f ≡ mv q (message_of j (drop q f))
  unfolding message_of
  message_is j h =
      ap (λ (l : List Line). up_to true (from_heading (from_there f q j) l)) lines_are
      ∙ ap (up_to true) (from_past (lines_before q (lines f)) (mv q (lines (drop q f))) j h ∙ from_moved q (lines (drop q f)) j)
      ∙ up_moved q (from_heading j (lines (drop q f))) true

pub healing : Healing
healing f q limit s =
    record {
      judged = λ j h.
          judge_within f _ limit
          ∙ ap judge_lines (message_is f q s j h)
          ∙ judge_moved q (message_of j (drop q f))
          ∙ sym (judge_within (drop q f) j (simp length-drop (omega arith)));
      rows = λ j h. ap rows_lines (message_is f q s j h) ∙ lines-moved q (message_of j (drop q f));
    }

-- the count goes by the answer alone
same_count : (d₁ d₂ : Desk) (j : Result ℕ Refusal) → (desk_after d₁ j).count ≡ (desk_after d₂ j).count
unfolding desk_after
same_count d₁ d₂ (Err e) = refl
same_count d₁ d₂ (Ok n) = refl

-- a table after an acceptance, by the rows that the message has
table_by : (f : List ℕ) (k n : ℕ) (rs : List Row) → rows_of f k ≡ rs → (d : Desk) (t : List ℕ) → (d.load.0 ≡ top_load → ⊥)
    → (place_of d f k (length t)).answer ≡ Ok n → place_table d f k t ≡ table_bytes rs ++ drop (host_row * n) t
table_by f k n rs r d t h e = (placing_fills d f k t n e).2 ∙ ap (λ (x : List Row). table_bytes x ++ drop (host_row * n) t) r

pub healing_placed : HealingPlaced
healing_placed f₁ f₂ q₁ q₂ l₁ l₂ s₁ s₂ e =
    let h₁ = healing f₁ q₁ l₁ s₁ in
    let h₂ = healing f₂ q₂ l₂ s₂ in
    let alike : (j : ℕ) → 1 ≤ j → judge_of f₁ (from_there f₁ q₁ j) ≡ judge_of f₂ (from_there f₂ q₂ j) =
    λ j k. h₁.judged j k ∙ ap (λ (s : List ℕ). judge_of s j) e ∙ sym (h₂.judged j k)
    in
    let same : (j : ℕ) → 1 ≤ j → (d₁ d₂ : Desk) (t₁ t₂ : List ℕ) → (d₁.load.0 ≡ top_load → ⊥) → (d₂.load.0 ≡ top_load → ⊥) → length t₁ ≡ length t₂
    → (place_of d₁ f₁ (from_there f₁ q₁ j) (length t₁)).answer ≡ (place_of d₂ f₂ (from_there f₂ q₂ j) (length t₂)).answer =
    λ j k d₁ d₂ t₁ t₂ n₁ n₂ g. answer_free d₁ f₁ _ _ n₁ ∙ ap₂ room_for g (alike j k) ∙ sym (answer_free d₂ f₂ _ _ n₂)
    in
    let rows : (j : ℕ) → 1 ≤ j → rows_of f₂ (from_there f₂ q₂ j) ≡ map (moved_row q₂) (rows_of (drop q₁ f₁) j) =
    λ j k. h₂.rows j k ∙ ap (λ (s : List ℕ). map (moved_row q₂) (rows_of s j)) (sym e)
    in
    record {
      base = λ j. rows_of (drop q₁ f₁) j;
      answers = same;
      counts = λ j k d₁ d₂ t₁ t₂ n₁ n₂ g.
          ap (λ (b : Desk). b.count) (desk_free d₁ f₁ _ _ n₁ _ (same j k d₁ d₂ t₁ t₂ n₁ n₂ g))
          ∙ same_count d₁ d₂ (place_of d₂ f₂ (from_there f₂ q₂ j) (length t₂)).answer
          ∙ sym (ap (λ (b : Desk). b.count) (desk_free d₂ f₂ _ _ n₂ _ refl));
      tables₁ = λ j n k d t u a. table_by f₁ _ n _ (h₁.rows j k) d t u a;
      tables₂ = λ j n k d t u a. table_by f₂ _ n _ (rows j k) d t u a;
      rows₁ = h₁.rows;
      rows₂ = rows;
    }
