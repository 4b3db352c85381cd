-- The list of a feed's lines: its first line and the rest, from any place where a line starts, and wherever the feed begins.
-- Assumes nothing.
use mathlib.Core.Path.{◌≡◌, refl, sym, ap, ap₂, ◌∙◌}
use mathlib.Core.List.Memᴰ
use mathlib.Core.List.{List, [], ◌∷◌, ◌++◌, map, append_assoc, append-nil, Memᴰ}
use mathlib.Core.Logic.{⊎_elim}
use mathlib.Core.Bool.{Bool, true, false, not, ◌&&◌, ◌||◌, false≢true}
use Prim.Native.Nat.{ℕ, zero, suc, ◌+◌, ◌-◌, ◌≤◌, ◌<◌}
use native.Mathlib.Nat.{not-suc-le-zero}
use native.Mathlib.Numerals.{add-one}
use native.Mathlib.Omega.{arith}
use lib.Dec.{eqb}
use lib.ListN.{length, take, drop, length-append, length-drop, drop_of_length-le}
use lib.Seq.{drop-drop}
use borrow.Author.Tests.{lt-ltb, le-ltb}
use Rattle.words.specs.Words.{run}
use Rattle.words.proofs.Laws.{run-le}
use Rattle.lines.proofs.Laws.{end-le}
use Rattle.lines.specs.declared.Ends.{Ends}
use Rattle.lines.specs.Feed.{Line, is_end, joins, last_line, lines_from, lines_at, lines, text_len, end_with, end_len, line_len, ends_of, Starts, lines_before, moved_line}

abbrev line : ℕ → List ℕ → Line
line at t = record { start = at; text = t }

-- ---- one byte read, one law a case

module _ (e at b : ℕ) (t s : List ℕ) where
  from_joined : joins e b ≡ true → lines_from e at t (b ∷ s) ≡ lines_from 0 (at + 1) t s
  unfolding lines_from
  from_joined q = rw (q, lines_from)

  from_end : joins e b ≡ false → is_end b ≡ true → lines_from e at t (b ∷ s) ≡ line at t ∷ lines_from b (at + (length t + 1)) [] s
  unfolding lines_from
  from_end q r = rw (q, lines_from) (rw r)

  from_text : joins e b ≡ false → is_end b ≡ false → lines_from e at t (b ∷ s) ≡ lines_from 0 at (t ++ (b ∷ [])) s
  unfolding lines_from
  from_text q r = rw (q, lines_from) (rw r)

end-one : (b : ℕ) → is_end b ≡ true → end_len (b ∷ []) ≡ 1
unfolding end_len end_with
end-one b = go (eqb b 13) (eqb b 10)
  where
    go : (t u : Bool) → (t || u) ≡ true
        → ◌≡◌ {A = ℕ} (elim ((t && false) || (u && false)) [ true ↦ 2 | false ↦ elim (t || u) [ true ↦ 1 | false ↦ 0 ] ]) 1
    go true true e = refl
    go true false e = refl
    go false true e = refl
    go false false e = absurd (false≢true e)

module _ (b c : ℕ) (s : List ℕ) where
  end_two : joins b c ≡ true → end_len (b ∷ c ∷ s) ≡ 2
  unfolding end_len end_with
  end_two q = rw (q, end_with)

  end_first : joins b c ≡ false → is_end b ≡ true → end_len (b ∷ c ∷ s) ≡ 1
  unfolding end_len end_with
  end_first q r = rw (q, end_with) (rw r)

module _ (b : ℕ) (s : List ℕ) where
  text_none : is_end b ≡ true → text_len (b ∷ s) ≡ 0
  unfolding run
  text_none q = rw (q, run)

  text_more : is_end b ≡ false → text_len (b ∷ s) ≡ suc (text_len s)
  unfolding run
  text_more q = rw (q, run) (add-one _)

  len_none : is_end b ≡ true → line_len (b ∷ s) ≡ end_len (b ∷ s)
  unfolding line_len
  len_none q = rw (text_none q) (omega arith)

  len_more : is_end b ≡ false → line_len (b ∷ s) ≡ suc (line_len s)
  unfolding line_len
  len_more q = rw (text_more q) (omega arith)

-- ---- the first line, and the rest

end-some : (b : ℕ) (s : List ℕ) → is_end b ≡ true → 0 < end_len (b ∷ s)
end-some b [] e = rw (end-one b e) (omega arith)
end-some b (c ∷ s) e = go (joins b c) refl
  where
    go : (t : Bool) → joins b c ≡ t → 0 < end_len (b ∷ c ∷ s)
    go true q = rw (end_two b c s q) (omega arith)
    go false q = rw (end_first b c s q e) (omega arith)

-- past an ending byte, its pair goes with it
past_end : (b a : ℕ) (s : List ℕ) → is_end b ≡ true → lines_from b (a + 1) [] s ≡ lines_at (a + end_len (b ∷ s)) (drop (end_len (b ∷ s)) (b ∷ s))
unfolding lines_from
past_end b a [] e = rw (end-one b e)
past_end b a (c ∷ s) e = go (joins b c) refl
  where
    go : (t : Bool) → joins b c ≡ t → lines_from b (a + 1) [] (c ∷ s) ≡ lines_at (a + end_len (b ∷ c ∷ s)) (drop (end_len (b ∷ c ∷ s)) (b ∷ c ∷ s))
    go true q = from_joined b (a + 1) c [] s q ∙ rw (end_two b c s q) (ap (λ (n : ℕ). lines_at n s) (omega arith))
    go false q = rw (end_first b c s q e) (rw (q, lines_from))

last_line_lem : (at b : ℕ) (t : List ℕ)
    → lines_from 0 at (b ∷ t) [] ≡ line at (b ∷ t ++ take (text_len []) []) ∷ lines_at (at + (suc (length t) + line_len [])) (drop (line_len []) [])
unfolding lines_from last_line run line_len end_len
last_line_lem at b t = ap (λ (u : List ℕ). line at (b ∷ u) ∷ []) (sym (append-nil t))

-- the text in hand is the first line's start
first_line : (s : List ℕ) (at : ℕ) (t : List ℕ) → 0 < length t + length s
    → lines_from 0 at t s ≡ line at (t ++ take (text_len s) s) ∷ lines_at (at + (length t + line_len s)) (drop (line_len s) s)
first_line [] at [] h = absurd (not-suc-le-zero h)
first_line [] at (b ∷ t) h = last_line_lem at b t
first_line (b ∷ s) at t h = go (is_end b) refl (first_line s at (t ++ (b ∷ [])))
  where
    go : (u : Bool) → is_end b ≡ u
        → (0 < length (t ++ (b ∷ [])) + length s → lines_from 0 at (t ++ (b ∷ [])) s ≡ line at ((t ++ (b ∷ [])) ++ take (text_len s) s) ∷ lines_at (at + (length (t ++ (b ∷ [])) + line_len s)) (drop (line_len s) s))
        → lines_from 0 at t (b ∷ s) ≡ line at (t ++ take (text_len (b ∷ s)) (b ∷ s)) ∷ lines_at (at + (length t + line_len (b ∷ s))) (drop (line_len (b ∷ s)) (b ∷ s))
    go true q ih =
        from_end 0 at b t s refl q
        ∙ rw (len_none b s q, text_none b s q)
        (ap₂ ◌∷◌ (ap (line at) (sym (append-nil t)))
        (ap (λ (n : ℕ). lines_from b n [] s) (omega arith) ∙ past_end b (at + length t) s q ∙ ap (λ (n : ℕ). lines_at n (drop (end_len (b ∷ s)) (b ∷ s))) (omega arith)))
    go false q ih =
        from_text 0 at b t s refl q
        ∙ ih (simp length-append (omega arith))
        ∙ rw (len_more b s q, text_more b s q)
        (ap₂ ◌∷◌ (ap (line at) (append_assoc t _ _)) (ap (λ (n : ℕ). lines_at n (drop (line_len s) s)) (simp length-append (omega arith))))

-- from a place where a line starts: its text, and the lines from the next place on
pub lines_next : (at : ℕ) (s : List ℕ) → 0 < length s → lines_at at s ≡ line at (take (text_len s) s) ∷ lines_at (at + line_len s) (drop (line_len s) s)
lines_next at s h = first_line s at [] (omega arith) ∙ ap (λ (n : ℕ). line at (take (text_len s) s) ∷ lines_at (at + n) (drop (line_len s) s)) (omega arith)

pub lines_end : (at : ℕ) → lines_at at [] ≡ []
unfolding lines_from last_line
lines_end at = refl

-- past the feed's end there are none
pub none_left : (f : List ℕ) (at : ℕ) → length f ≤ at → lines_at at (drop at f) ≡ []
none_left f at h = rw (drop_of_length-le f h) (lines_end at)

-- a line's text as the code slices it
pub text_left : (at : ℕ) (s : List ℕ) (e : Ends) → e ≡ ends_of at s → take (e.end - at) s ≡ take (text_len s) s
unfolding ends_of
text_left at s e q =
    let d : at + text_len s - at ≡ text_len s = omega arith in
    rw (q, d)

pub line_left : (f : List ℕ) (at : ℕ) (e : Ends) → at < length f → e ≡ ends_of at (drop at f)
    → lines_at at (drop at f) ≡ line at (take (e.end - at) (drop at f)) ∷ lines_at e.next (drop e.next f)
unfolding ends_of
line_left f at e h q =
    let s = drop at f in
    lines_next at s (omega (arith, length-drop at f)) ∙ rw (text_left at s e q, q, drop-drop (line_len s) at f)

-- a line takes at least a byte
pub len_some : (s : List ℕ) → 0 < length s → 0 < line_len s
len_some [] h = absurd (not-suc-le-zero h)
len_some (b ∷ s) h = go (is_end b) refl
  where
    go : (u : Bool) → is_end b ≡ u → 0 < line_len (b ∷ s)
    go true q = rw (len_none b s q) (end-some b s q)
    go false q = rw (len_more b s q) (omega arith)

-- ---- lines move with their start

move_last : (d e at : ℕ) (t : List ℕ) → lines_from e (d + at) t [] ≡ map (moved_line d) (lines_from e at t [])
unfolding lines_from last_line
move_last d e at [] = refl
move_last d e at (b ∷ t) = refl

lines_move : (d e at : ℕ) (t s : List ℕ) → lines_from e (d + at) t s ≡ map (moved_line d) (lines_from e at t s)
lines_move d e at t [] = move_last d e at t
lines_move d e at t (b ∷ s) =
    go (joins e b) refl (is_end b) refl (lines_move d 0 (at + 1) t s) (lines_move d b (at + (length t + 1)) [] s) (lines_move d 0 at (t ++ (b ∷ [])) s)
  where
    at_sum : (e' n : ℕ) (u : List ℕ) → lines_from e' (d + (at + n)) u s ≡ lines_from e' (d + at + n) u s
    at_sum e' n u = ap (λ (k : ℕ). lines_from e' k u s) (omega arith)

    go : (j : Bool) → joins e b ≡ j → (u : Bool) → is_end b ≡ u
        → lines_from 0 (d + (at + 1)) t s ≡ map (moved_line d) (lines_from 0 (at + 1) t s)
        → lines_from b (d + (at + (length t + 1))) [] s ≡ map (moved_line d) (lines_from b (at + (length t + 1)) [] s)
        → lines_from 0 (d + at) (t ++ (b ∷ [])) s ≡ map (moved_line d) (lines_from 0 at (t ++ (b ∷ [])) s)
        → lines_from e (d + at) t (b ∷ s) ≡ map (moved_line d) (lines_from e at t (b ∷ s))
    go true q u r x y z = from_joined e (d + at) b t s q ∙ sym (at_sum 0 1 t) ∙ x ∙ ap (map (moved_line d)) (sym (from_joined e at b t s q))
    go false q true r x y z =
        from_end e (d + at) b t s q r
        ∙ ap (λ (l : List Line). line (d + at) t ∷ l) (sym (at_sum b (length t + 1) []) ∙ y)
        ∙ ap (map (moved_line d)) (sym (from_end e at b t s q r))
    go false q false r x y z = from_text e (d + at) b t s q r ∙ z ∙ ap (map (moved_line d)) (sym (from_text e at b t s q r))

-- the lines from a place on are those of what stands there alone, moved
pub lines_shift : (q : ℕ) (s : List ℕ) → lines_at q s ≡ map (moved_line q) (lines s)
lines_shift q s =
    let z : q ≡ q + 0 = omega arith in
    ap (λ (k : ℕ). lines_at k s) z ∙ lines_move q 0 0 [] s

-- ---- the lines from any place where one starts

module _ (q : ℕ) (l : Line) (ls : List Line) where
  before_more : l.start < q → lines_before q (l ∷ ls) ≡ l ∷ lines_before q ls
  unfolding lines_before
  before_more h = rw (lt-ltb l.start q h, lines_before)

  before_less : q ≤ l.start → lines_before q (l ∷ ls) ≡ lines_before q ls
  unfolding lines_before
  before_less h = rw (le-ltb l.start q h, lines_before)

-- no line of what stands from a place on starts before it
none_moved : (q : ℕ) (ls : List Line) → lines_before q (map (moved_line q) ls) ≡ []
unfolding lines_before
none_moved q [] = refl
none_moved q (l ∷ ls) = before_less q (moved_line q l) (map (moved_line q) ls) (omega arith) ∙ none_moved q ls

none_before : (q : ℕ) (s : List ℕ) → lines_before q (lines_at q s) ≡ []
none_before q s = ap (lines_before q) (lines_shift q s) ∙ none_moved q (lines s)

abbrev starts : List Line → List ℕ
starts ls = map (λ (l : Line). l.start) ls

-- the lines before the place, then those of what stands from there on
record Cut (at : ℕ) (s : List ℕ) (q : ℕ) : Type 0 where
  after : at ≤ q
  same : lines_at at s ≡ lines_before q (lines_at at s) ++ lines_at q (drop (q - at) s)

abbrev CutTo : ℕ → Type 0
CutTo n = (at : ℕ) (s : List ℕ) → length s ≤ n → (q : ℕ) → Memᴰ q (starts (lines_at at s)) → Cut at s q

cut_none : (at : ℕ) (q : ℕ) → Memᴰ q (starts (lines_at at [])) → Cut at [] q
cut_none at q m = absurd (Memᴰ.not-nil (rw (lines_end at) at m))

cut_here : (at : ℕ) (s : List ℕ) (q : ℕ) → q ≡ at → Cut at s q
cut_here at s q e =
    let z : q - at ≡ 0 = omega arith in
    record { after = omega arith; same = rw (z, e) (rw (none_before at s)) }

cut_more : (n : ℕ) → CutTo n → CutTo (suc n)
cut_more n ih at [] h q m = cut_none at q m
cut_more n ih at (b ∷ s) h q m =
    let w = b ∷ s in
    let k : 0 < line_len w = len_some w (omega arith) in
    let first = line at (take (text_len w) w) in
    let rest = lines_at (at + line_len w) (drop (line_len w) w) in
    let next : lines_at at w ≡ first ∷ rest = lines_next at w (omega arith) in
    ⊎_elim (cut_here at w q)
    (λ m'.
    let c = ih (at + line_len w) (drop (line_len w) w) (simp length-drop (omega arith)) q m' in
    let d : line_len w + (q - (at + line_len w)) ≡ q - at = omega (arith, c.after) in
    let e : drop (q - (at + line_len w)) (drop (line_len w) w) ≡ drop (q - at) w = drop-drop (q - (at + line_len w)) (line_len w) w ∙ ap (λ (j : ℕ). drop j w) d in
    record {
      after = omega (arith, c.after);
      same =
          next
          ∙ ap (λ (l : List Line). first ∷ l) (c.same ∙ ap (λ (l : List ℕ). lines_before q rest ++ lines_at q l) e)
          ∙ ap (λ (l : List Line). l ++ lines_at q (drop (q - at) w)) (sym (before_more q first rest (omega (arith, c.after))) ∙ ap (lines_before q) (sym next));
    })
    (Memᴰ.cases_cons (rw next at m))

cut_zero : CutTo 0
cut_zero at [] h q m = cut_none at q m
cut_zero at (b ∷ s) h q m = absurd (not-suc-le-zero h)

cut_to : (n : ℕ) → CutTo n
cut_to zero = cut_zero
cut_to (suc n) = cut_more n (cut_to n)

-- a feed's lines are those before a place where a line starts, and then the lines of what stands there, whatever came before
pub lines_from_lem : (f : List ℕ) (q : ℕ) → Starts f q → lines f ≡ lines_before q (lines f) ++ lines_at q (drop q f)
lines_from_lem f q m =
    let z : q - 0 ≡ q = omega arith in
    (cut_to (length f) 0 f (omega arith) q m).same ∙ ap (λ (j : ℕ). lines_before q (lines f) ++ lines_at q (drop j f)) z

-- ---- the places of a line lie in the feed

pub record Placed (f : List ℕ) (from : ℕ) (e : Ends) : Type 0 where
  pub start : from ≤ e.end
  pub end : e.end ≤ length f
  pub on : from < e.next
  pub ends : e.end ≤ e.next
  pub next : e.next ≤ length f

pub placed : (f : List ℕ) (from : ℕ) (e : Ends) → from < length f → e ≡ ends_of from (drop from f) → Placed f from e
unfolding ends_of line_len
placed f from e h q =
    let s = drop from f in
    let d = length-drop from f in
    let t = run-le (λ b. not (is_end b)) s in
    let n = end-le (drop (text_len s) s) in
    let m = length-drop (text_len s) s in
    let k : 0 < line_len s = len_some s (omega arith) in
    rw q (record { start = omega arith; end = omega arith; on = omega arith; ends = omega arith; next = omega arith })

-- at the feed's end too, where no line stands, the text of a line ends in the feed
pub line_within : (f : List ℕ) (at : ℕ) (e : Ends) → at ≤ length f → e ≡ ends_of at (drop at f) → (at ≤ e.end) × (e.end ≤ length f)
unfolding ends_of
line_within f at e h q = rw q (omega arith, omega (arith, run-le (λ b. not (is_end b)) (drop at f), length-drop at f))

-- ---- an induction over a feed's lines

-- the line that stands first
abbrev pub line_first : ℕ → List ℕ → Line
line_first at s = record { start = at; text = take (text_len s) s }

-- a line takes no more than there is
pub len_le : (s : List ℕ) → 0 < length s → line_len s ≤ length s
unfolding ends_of
len_le s h = omega (arith, (placed s 0 (ends_of 0 s) h refl).next)

-- what holds of no lines at a feed's end, and of the lines from one on where it holds of those past it, holds of all
module _ (f : List ℕ) (P : ℕ → List Line → Type 0) (none : P (length f) [])
    (more : (at : ℕ) (s : List ℕ) (ls : List Line) → s ≡ drop at f → 0 < length s → P (at + line_len s) ls → P at (line_first at s ∷ ls)) where
  none_there : (at : ℕ) → at ≤ length f → [] ≡ drop at f → P at (lines_at at [])
  none_there at k e =
      let z : at ≡ length f = omega (arith, ap length e, length-drop at f) in
      rw (lines_end at, z) none

  pub by_lines_to : (n at : ℕ) (s : List ℕ) → length s ≤ n → at ≤ length f → s ≡ drop at f → P at (lines_at at s)
  by_lines_to zero at [] h k e = none_there at k e
  by_lines_to (suc n) at [] h k e = none_there at k e
  by_lines_to zero at (b ∷ s) h k e = absurd (not-suc-le-zero h)
  by_lines_to (suc n) at (b ∷ s) h k e =
      let w = b ∷ s in
      let i = by_lines_to n (at + line_len w) (drop (line_len w) w) (omega (arith, len_some w (omega arith), length-drop (line_len w) w))
      (omega (arith, len_le w (omega arith), ap length e, length-drop at f)) (ap (drop (line_len w)) e ∙ drop-drop (line_len w) at f) in
      rw (lines_next at w (omega arith)) (more at w _ e (omega arith) i)

  pub by_lines : P 0 (lines f)
  by_lines = by_lines_to (length f) 0 f (omega arith) (omega arith) refl

-- a feed has no more lines than bytes
pub lines_few : (f : List ℕ) → length (lines f) ≤ length f
lines_few f =
    let few = by_lines f (λ at ls. at + length ls ≤ length f) (omega arith) (λ at s ls e h i. let some = len_some s h in omega (arith, some, i)) in
    omega (arith, few)
