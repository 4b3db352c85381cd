-- Laws of a feed's messages, one a case: its lines from a place on, the heading lines among them, and one step of a walk along a message.
-- Assumes nothing.
use mathlib.Core.Path.{◌≡◌, refl, sym, ap, ◌∙◌}
use mathlib.Core.List.{List, [], ◌∷◌}
use mathlib.Core.Logic.{◌⊎◌, inl, inr, ⊎_elim}
use mathlib.Core.Bool.{Bool, true, false, not, ◌&&◌, false≢true}
use Prim.Native.Nat.{ℕ, zero, suc, ◌+◌, ◌-◌, ◌≤◌, ◌<◌}
use native.Mathlib.Omega.{arith}
use lib.Dec.{eqb, ltb}
use lib.ListN.{length, take, drop, length-take, length-drop}
use lib.Seq.{drop-drop}
use borrow.Author.Tests.{ne_eqb, lt-ltb, le-ltb, ltb-true, ltb-false}
use Rattle.lines.specs.declared.Ends.{Ends}
use Rattle.lines.specs.Feed.{Line, lines, lines_at, text_len, line_len, ends_of}
use Rattle.lines.proofs.Lists.{none_left, text_left, line_left, lines_next, line_first, by_lines, placed}
use Rattle.lines.specs.declared.Form.{Form}
use Rattle.step.specs.Step.{fresh_state, step_of}
use Rattle.step.specs.declared.State.{State}
use Rattle.step.specs.declared.Step.{Step}
use Rattle.reasons.specs.declared.Reason.{Reason}
use Rattle.reasons.specs.declared.Reason.TheVariants as Reasons
use Rattle.judge.specs.declared.Moved.{Moved}
use Rattle.judge.specs.declared.Offence.{Offence}
use Rattle.judge.specs.declared.Found.{Found}
use Rattle.judge.specs.declared.Stop.{Stop}
use Rattle.judge.specs.declared.Refusal.{Refusal}
use Rattle.step.proofs.Sound.{spans}
use Rattle.lines.specs.Text.{heading_of}
use Rattle.lines.specs.declared.Form.TheVariants.{Opm}
use Rattle.std.proofs.lemmas.List.Recursion.{is_count_by}
use Rattle.std.specs.List.{count_by, filter_map, cons_option, slice_get}
use Rattle.std.specs.Prelude.{cond, Option, Some, None, is_some, unwrap_or, option_map, Result, Ok, Err, IsOk}
use Rattle.judge.specs.Message.{is_heading, form_of, from_heading, headings, up_to, texts, end_of, judge_texts, judge_lines, message_of, judge_of, feed_limit, moved_to, moved_of, stop_of, stop_lines, walk_of, judged_by, refused, SureNext, found_of, opened_by, FoundIs, Sought, Unfound, sighted_of, SightedIs, rows_from, rows_lines, rows_of}

-- ---- past the feed's end

module _ (f : List ℕ) (at : ℕ) (h : length f ≤ at) where
  pub over_up : (first : Bool) → up_to first (lines_at at (drop at f)) ≡ []
  unfolding up_to
  over_up first = rw (none_left f at h)

-- ---- the line at a place

-- with its text as the code slices it
abbrev pub line_at : List ℕ → ℕ → Ends → Line
line_at f at e = record { start = at; text = take (e.end - at) (drop at f) }

-- the lines from the next place on
abbrev pub rest : List ℕ → Ends → List Line
rest f e = lines_at e.next (drop e.next f)

module _ (f : List ℕ) (at : ℕ) (e : Ends) (h : at < length f) (q : e ≡ ends_of at (drop at f)) where
  -- ---- the lines up to the next heading line

  pub up_stop : (first : Bool) → not first && is_heading (line_at f at e).text ≡ true → up_to first (lines_at at (drop at f)) ≡ []
  unfolding up_to
  up_stop first r = rw (line_left f at e h q) (rw (r, up_to))

  pub up_more : (first : Bool) → not first && is_heading (line_at f at e).text ≡ false
      → up_to first (lines_at at (drop at f)) ≡ line_at f at e ∷ up_to false (rest f e)
  unfolding up_to
  up_more first r = rw (line_left f at e h q) (rw (r, up_to))

-- no heading line has the number 0
pub from_none : (ls : List Line) → from_heading 0 ls ≡ []
unfolding from_heading
from_none [] = refl
from_none (l ∷ ls) = go (is_heading l.text) (from_none ls)
  where
    go : (t : Bool) → from_heading 0 ls ≡ [] → ◌≡◌ {A = List Line} (elim t [ true ↦ from_heading (0 - 1) ls | false ↦ from_heading 0 ls ]) []
    go true ih = ih
    go false ih = ih

-- ---- heading lines counted, and the one with a number found

-- in std's words
pub headings_counted : (ls : List Line) → headings ls ≡ count_by (λ (l : Line). is_heading l.text) ls
unfolding headings
headings_counted = is_count_by headings (λ (l : Line). is_heading l.text) refl (λ l ls. go (is_heading l.text) (headings ls))
  where
    go : (t : Bool) (n : ℕ) → elim t [ true ↦ n + 1 | false ↦ n ] ≡ cond t (1 + n) n
    go true n = omega arith
    go false n = refl

pub found_none : (k : ℕ) (ls : List Line) → k < 1 → None ≡ found_of (from_heading k ls)
unfolding found_of
found_none k ls h = let z : k ≡ 0 = omega arith in rw (z, from_none ls)

-- behind k others
pub found_nth : (k : ℕ) (ls : List Line) → slice_get (filter_map opened_by ls) k ≡ found_of (from_heading (k + 1) ls)
unfolding from_heading found_of
found_nth k [] = refl
found_nth k (l ∷ ls) = go (heading_of l.text) refl k (λ j. found_nth j ls)
  where
    go : (y : Option Form) → heading_of l.text ≡ y → (k : ℕ) → ((j : ℕ) → slice_get (filter_map opened_by ls) j ≡ found_of (from_heading (j + 1) ls))
        → slice_get (cons_option (option_map (λ form. record { at = l.start; form = form }) y) (filter_map opened_by ls)) k
        ≡ found_of (elim (is_some y) [ true ↦ elim (eqb (k + 1) 1) [ true ↦ l ∷ ls | false ↦ from_heading (k + 1 - 1) ls ] | false ↦ from_heading (k + 1) ls ])
    go (Some form) q zero i = ap (λ y. Some (record { at = l.start; form = unwrap_or y Opm })) (sym q)
    go (Some form) q (suc k) i =
        let less : suc k + 1 - 1 ≡ k + 1 = omega arith in
        rw (ne_eqb (suc k + 1) 1 (λ e. omega arith), less) (i k)
    go None q k i = i k

module _ (f : List ℕ) where
  -- lines of the feed, from one on
  abbrev LinesOn : List Line → Type 0
  LinesOn [] = Unit {0}
  LinesOn (l ∷ ls) = (l ∷ ls ≡ lines_at l.start (drop l.start f)) × (l.start < length f) × (l.text ≡ take (text_len (drop l.start f)) (drop l.start f))

  abbrev FromHeading : ℕ → List Line → Type 0
  FromHeading at ls = (ls ≡ lines_at at (drop at f)) × ((k : ℕ) → LinesOn (from_heading k ls))

  heading_none : FromHeading (length f) []
  unfolding from_heading
  heading_none = (sym (none_left f (length f) (omega arith)), λ k. tt)

  heading_more : (at : ℕ) (s : List ℕ) (ls : List Line) → s ≡ drop at f → 0 < length s → FromHeading (at + line_len s) ls → FromHeading at (line_first at s ∷ ls)
  unfolding from_heading
  heading_more at s ls e h i = (whole, λ k. go k (is_heading (line_first at s).text) (eqb k 1))
    where
      whole : line_first at s ∷ ls ≡ lines_at at (drop at f)
      whole =
          ap (λ (r : List Line). line_first at s ∷ r) (i.0 ∙ ap (lines_at (at + line_len s)) (sym (ap (drop (line_len s)) e ∙ drop-drop (line_len s) at f)))
          ∙ sym (lines_next at s h) ∙ ap (lines_at at) e

      go : (k : ℕ) (t u : Bool) → LinesOn (elim t [ true ↦ elim u [ true ↦ line_first at s ∷ ls | false ↦ from_heading (k - 1) ls ] | false ↦ from_heading k ls ])
      go k true true = (whole, omega (arith, h, ap length e, length-drop at f), ap (λ u. take (text_len u) u) e)
      go k true false = i.1 (k - 1)
      go k false u = i.1 k

  -- what is found by a number is where the message's lines stand
  pub found_is : (k : ℕ) (y : Option Found) → y ≡ found_of (from_heading k (lines f)) → FoundIs y k f
  unfolding FoundIs found_of
  found_is k y q = rw q (go (from_heading k (lines f)) refl ((by_lines f FromHeading heading_none heading_more).1 k))
    where
      go : (ls : List Line) → from_heading k (lines f) ≡ ls → LinesOn ls → FoundIs (found_of ls) k f
      go [] e w = e
      go (l ∷ ls) e w = (e ∙ w.0, w.1, ap form_of w.2)

-- ---- one step of a walk along a message

-- what is left of a message
abbrev pub left : List ℕ → ℕ → Bool → List Line
left f at first = up_to first (lines_at at (drop at f))

pub moved-end : (f : List ℕ) (at : ℕ) (first : Bool) (st : State) → left f at first ≡ [] → moved_of st at (drop at f) (left f at first) ≡ Ok None
unfolding moved_of
moved-end f at first st p = rw p

pub moved_more : (f : List ℕ) (at : ℕ) (first : Bool) (st : State) (e : Ends) → e ≡ ends_of at (drop at f)
    → left f at first ≡ line_at f at e ∷ up_to false (rest f e)
    → moved_of st at (drop at f) (left f at first) ≡ moved_to e.next (step_of st (line_at f at e).text)
unfolding moved_of ends_of
moved_more f at first st e q p = rw p (rw q)

-- whoever is not sure has nothing to know
pub unsure : (st : State) (ls : List Line) → SureNext false st ls
unfolding SureNext
unsure st [] = tt
unsure st (l ∷ ls) = λ e. absurd (false≢true e)

-- the next line of what is accepted is right
pub sure_next : (sure : Bool) (st : State) (line rows : ℕ) {n : ℕ} (ls : List Line) → judge_texts st line rows (texts ls) ≡ Ok n → SureNext sure st ls
unfolding SureNext judge_texts
sure_next sure st line rows [] e = tt
sure_next sure st line rows {n} (l ∷ ls) e = λ z. go (step_of st l.text) e
  where
    go : (y : Result Step Reason)
        → ◌≡◌ {A = Result ℕ Refusal} (elim y [ Err r ↦ refused r line | Ok x ↦ judge_texts x.state (line + 1) (rows + x.count) (texts ls) ]) (Ok n) → IsOk y
    go (Err r) q = cc
    go (Ok x) q = refl

-- the walk is at a line, behind which the next one starts
pub record AtLine (f : List ℕ) (at : ℕ) (first : Bool) (next : ℕ) : Type 0 where
  pub text : List ℕ
  pub more : left f at first ≡ record { start = at; text = text } ∷ left f next false
  pub on : at < next
  pub fits : at + length text ≤ next
  pub inside : next ≤ length f

-- a message's lines start with the first of those left
first_same : (first : Bool) (a b : Line) (xs ys : List Line) → up_to first (a ∷ xs) ≡ b ∷ ys → a ≡ b
unfolding up_to
first_same first a b xs ys = go (not first && is_heading a.text)
  where
    go : (t : Bool) → elim t [ true ↦ [] | false ↦ a ∷ up_to false xs ] ≡ b ∷ ys → a ≡ b
    go true e = cc
    go false e = cc

module _ (f : List ℕ) (at : ℕ) (first : Bool) (next : ℕ) (w : AtLine f at first next) where
  -- its text is what stands up to the first ending
  pub line-text : w.text ≡ take (text_len (drop at f)) (drop at f)
  line-text =
      let e = ends_of at (drop at f) in
      let h : at < length f = omega (arith, w.on, w.inside) in
      let p = first_same first _ _ _ _ (ap (up_to first) (sym (line_left f at e h refl)) ∙ w.more) in
      sym (ap (λ (l : Line). l.text) p) ∙ text_left at (drop at f) e refl

-- a walk is at the message's end or at a line
module _ (f : List ℕ) (at : ℕ) (first : Bool) where
  abbrev Ways : Type 0
  Ways = (left f at first ≡ []) ⊎ ((next : ℕ) × (next ≡ at + line_len (drop at f)) × AtLine f at first next)

  at_line : (e : Ends) → e ≡ ends_of at (drop at f) → at < length f → (t : Bool) → not first && is_heading (line_at f at e).text ≡ t → Ways
  unfolding ends_of
  at_line e z h true r = inl (up_stop f at e h z first r)
  at_line e z h false r =
      let p = up_more f at e h z first r in
      let w = placed f at e h z in
      inr (
        e.next,
        ap (λ (x : Ends). x.next) z,
        record {
          text = (line_at f at e).text;
          more = p;
          on = w.on;
          fits = simp (length-take, length-drop) (omega (arith, w.start, w.ends));
          inside = w.next;
        },
      )

  ways : (t : Bool) → ltb at (length f) ≡ t → Ways
  ways false r = inl (over_up f at (ltb-false at (length f) r) first)
  ways true r = at_line (ends_of at (drop at f)) refl (ltb-true at (length f) r) _ refl

  walk : Ways
  walk = ways _ refl

-- what the next step answers is that line judged
module _ (f : List ℕ) (at : ℕ) (first : Bool) (st : State) (y : Result (Option Moved) Offence) (q : y ≡ moved_of st at (drop at f) (left f at first)) where
  met : (next : ℕ) (w : AtLine f at first next) → next ≡ at + line_len (drop at f) → y ≡ moved_to next (step_of st w.text)
  unfolding moved_of
  met next w e = q ∙ rw w.more (rw e)

  no_end : (next : ℕ) (x : Result Step Reason) → y ≡ moved_to next x → y ≡ Ok None → ⊥
  no_end next (Err r) p e = cc
  no_end next (Ok x) p e = cc

  pub walk_end : y ≡ Ok None → left f at first ≡ []
  walk_end p = ⊎_elim (λ w. w) (λ w. absurd (no_end w.0 _ (met w.0 w.2 w.1) p)) (walk f at first)

  -- a line that offends
  abbrev pub Offends : Reason → Type 0
  Offends r = (next : ℕ) × (w : AtLine f at first next) × (step_of st w.text ≡ Err r)

  pub walk_wrong : (o : Offence) → y ≡ Err o → Offends o.reason
  unfolding moved_of
  walk_wrong o p = ⊎_elim (λ w. absurd (clash (q ∙ rw w))) (λ w. (w.0, w.2, which w.0 _ (met w.0 w.2 w.1))) (walk f at first)
    where
      clash : y ≡ Ok None → ⊥
      clash e = cc

      which : (next : ℕ) (x : Result Step Reason) → y ≡ moved_to next x → x ≡ Err o.reason
      which next (Err s) e = cc
      which next (Ok x) e = cc

  -- a line that is right
  walk_right : (m : Moved) → y ≡ Ok (Some m) → (w : AtLine f at first m.next) × (step_of st w.text ≡ Ok m.step) × (m.next ≡ at + line_len (drop at f))
  unfolding moved_of
  walk_right m p = ⊎_elim (λ w. absurd (clash (q ∙ rw w))) (λ w. which w.0 w.2 w.1 _ refl (met w.0 w.2 w.1)) (walk f at first)
    where
      clash : y ≡ Ok None → ⊥
      clash e = cc

      which : (next : ℕ) (w : AtLine f at first next) → next ≡ at + line_len (drop at f) → (x : Result Step Reason) → step_of st w.text ≡ x → y ≡ moved_to next x
          → (w : AtLine f at first m.next) × (step_of st w.text ≡ Ok m.step) × (m.next ≡ at + line_len (drop at f))
      which next w j (Err s) k e = cc
      which next w j (Ok x) k e =
          let z : record { step = x; next = next } ≡ m = cc in
          rw (← z) (w, k, j)

  pub walk_on : (m : Moved) → y ≡ Ok (Some m) → (w : AtLine f at first m.next) × (step_of st w.text ≡ Ok m.step)
  walk_on m p = let w = walk_right m p in (w.0, w.1)

  pub walk_next : (m : Moved) → y ≡ Ok (Some m) → m.next ≡ at + line_len (drop at f)
  walk_next m p = (walk_right m p).2

  -- which takes at least a byte of the feed, and has few rows
  pub step_on : (m : Moved) → y ≡ Ok (Some m) → (at < m.next) × (m.next ≤ length f) × (m.step.count ≤ 7)
  step_on m p = let w = walk_on m p in (w.0.on, w.0.inside, (spans st w.0.text m.step w.1).few)

  -- ---- and so the message is judged

  pub judged-end : (line rows : ℕ) → y ≡ Ok None → judge_texts st line rows (texts (left f at first)) ≡ end_of st line rows
  unfolding judge_texts
  judged-end line rows p = rw (walk_end p)

  pub judged-wrong : (line rows : ℕ) (o : Offence) → y ≡ Err o → judge_texts st line rows (texts (left f at first)) ≡ refused o.reason line
  unfolding judge_texts
  judged-wrong line rows o p =
      let w = walk_wrong o p in
      rw w.1.more (rw (w.2, judge_texts))

  pub judged-right : (line rows : ℕ) (m : Moved) → y ≡ Ok (Some m)
      → judge_texts st line rows (texts (left f at first)) ≡ judge_texts m.step.state (line + 1) (rows + m.step.count) (texts (left f m.next false))
  unfolding judge_texts
  judged-right line rows m p =
      let w = walk_on m p in
      rw w.0.more (rw (w.1, judge_texts))

-- ---- where the walk comes to its end

module _ (f : List ℕ) (at : ℕ) (first : Bool) (st : State) (y : Result (Option Moved) Offence) (q : y ≡ moved_of st at (drop at f) (left f at first)) where
  abbrev ends : Ends
  ends = ends_of at (drop at f)

  abbrev text : List ℕ
  text = (line_at f at ends).text

  abbrev over : Bool
  over = not first && is_heading text

  -- at the message's end there is no line, or a heading line that is not the first
  over_end : left f at first ≡ [] → at < length f → over ≡ true
  over_end p h = go over refl
    where
      go : (t : Bool) → over ≡ t → t ≡ true
      go true z = refl
      go false z = cc (p, up_more f at ends h refl first z)

  module _ (next : ℕ) (w : AtLine f at first next) where
    here_in : at < length f
    here_in = omega (arith, w.on, w.inside)

    goes : over ≡ false
    goes = go over refl
      where
        go : (t : Bool) → over ≡ t → t ≡ false
        go true z = cc (w.more, up_stop f at ends here_in refl first z)
        go false z = refl

    same_text : w.text ≡ text
    same_text = line-text f at first next w ∙ sym (text_left at (drop at f) ends refl)

  module _ (line rows : ℕ) where
    abbrev here : Stop
    here = stop_of (length f) first st line rows (lines_at at (drop at f))

    pub stopped-end : at ≤ length f → y ≡ Ok None → here ≡ record { at = at; line = line; rows = rows; state = st; offence = None }
    unfolding stop_of
    stopped-end a p = go (ltb at (length f)) refl
      where
        go : (t : Bool) → ltb at (length f) ≡ t → here ≡ record { at = at; line = line; rows = rows; state = st; offence = None }
        go true z =
            let h = ltb-true at (length f) z in
            rw (line_left f at ends h refl) (rw (over_end (walk_end f at first st y q p) h, stop_of))
        go false z =
            let h = ltb-false at (length f) z in
            let e : length f ≡ at = omega arith in
            rw (none_left f at h) (rw e)

    pub stopped-wrong : (o : Offence) → y ≡ Err o → here ≡ record { at = at; line = line; rows = rows; state = st; offence = Some o.reason }
    unfolding stop_of
    stopped-wrong o p =
        let w = walk_wrong f at first st y q o p in
        let e : step_of st text ≡ Err o.reason = rw (same_text w.0 w.1) at w.2 in
        rw (line_left f at ends (here_in w.0 w.1) refl) (rw (goes w.0 w.1, stop_of) (rw (e, stop_of)))

    pub stopped-right : (m : Moved) → y ≡ Ok (Some m)
        → here ≡ stop_of (length f) false m.step.state (line + 1) (rows + m.step.count) (lines_at m.next (drop m.next f))
    unfolding stop_of ends_of
    stopped-right m p =
        let w = walk_on f at first st y q m p in
        let e : step_of st text ≡ Ok m.step = rw (same_text m.next w.0) at w.1 in
        rw (walk_next f at first st y q m p, line_left f at ends (here_in m.next w.0) refl) (rw (goes m.next w.0, stop_of) (rw (e, stop_of)))

-- what the end says of a message is its judgement
pub judged-stop : (n : ℕ) (ls : List Line) (first : Bool) (st : State) (line rows : ℕ)
    → judge_texts st line rows (texts (up_to first ls)) ≡ judged_by (stop_of n first st line rows ls)
unfolding judge_texts up_to stop_of judged_by
judged-stop n [] first st line rows = refl
judged-stop n (l ∷ ls) first st line rows =
    go (not first && is_heading l.text) refl (step_of st l.text) refl (λ st' line' rows'. judged-stop n ls false st' line' rows')
  where
    go : (t : Bool) → not first && is_heading l.text ≡ t → (y : Result Step Reason) → step_of st l.text ≡ y
        → ((st' : State) (line' rows' : ℕ) → judge_texts st' line' rows' (texts (up_to false ls)) ≡ judged_by (stop_of n false st' line' rows' ls))
        → judge_texts st line rows (texts (up_to first (l ∷ ls))) ≡ judged_by (stop_of n first st line rows (l ∷ ls))
    go true z y k ih = rw (z, up_to, stop_of)
    go false z (Err r) k ih = rw (z, up_to, stop_of) (rw (k, judge_texts, stop_of))
    go false z (Ok x) k ih = rw (z, up_to, stop_of) (rw (k, judge_texts, stop_of) (ih x.state (line + 1) (rows + x.count)))

-- ---- a message by its number

module _ (f : List ℕ) (k : ℕ) where
  pub walk_long : feed_limit < length f → walk_of f k ≡ Err Reasons.FeedLong
  unfolding walk_of
  walk_long h = rw (lt-ltb _ _ h, walk_of)

  pub judge_long : feed_limit < length f → judge_of f k ≡ refused Reasons.FeedLong 0
  unfolding judge_of
  judge_long h = rw (lt-ltb _ _ h, judge_of)

  module _ (h : length f ≤ feed_limit) where
    pub judge_missing : FoundIs None k f → judge_of f k ≡ refused Reasons.NoMessage 0
    unfolding judge_of FoundIs message_of up_to judge_lines
    judge_missing q = rw (le-ltb _ _ h, judge_of) (rw q)

    pub judge_found : (x : Found) → FoundIs (Some x) k f → judge_of f k ≡ judge_texts (fresh_state x.form) 1 0 (texts (left f x.at true))
    unfolding judge_of FoundIs message_of judge_lines
    judge_found x q =
        let p = x.at in
        let e = ends_of p (drop p f) in
        rw (le-ltb _ _ h, judge_of) (rw (q.0, up_more f p e q.1 refl true refl) (rw (text_left p (drop p f) e refl, q.2)))

    pub walk_missing : FoundIs None k f → walk_of f k ≡ Err Reasons.NoMessage
    unfolding walk_of FoundIs stop_lines
    walk_missing q = rw (le-ltb _ _ h, walk_of) (rw q)

    pub walk_found : (x : Found) → FoundIs (Some x) k f → walk_of f k ≡ Ok (stop_of (length f) true (fresh_state x.form) 1 0 (lines_at x.at (drop x.at f)))
    unfolding walk_of FoundIs stop_lines
    walk_found x q =
        let p = x.at in
        let e = ends_of p (drop p f) in
        rw (le-ltb _ _ h, walk_of) (rw (q.0, line_left f p e q.1 refl) (rw (text_left p (drop p f) e refl, q.2)))

    -- what the walk's end says is the judgement
    pub judge_stopped : (x : Found) → FoundIs (Some x) k f
        → judge_of f k ≡ judged_by (stop_of (length f) true (fresh_state x.form) 1 0 (lines_at x.at (drop x.at f)))
    judge_stopped x q = judge_found x q ∙ judged-stop (length f) (lines_at x.at (drop x.at f)) true (fresh_state x.form) 1 0

module _ (f : List ℕ) (k : ℕ) where
  pub sought_long : feed_limit < length f → Unfound f k Reasons.FeedLong
  sought_long h = record { judged = judge_long f k h; walked = walk_long f k h }

  module _ (h : length f ≤ feed_limit) (y : Option Found) (q : y ≡ found_of (from_heading k (lines f))) (w : FoundIs y k f) where
    pub sought_not : y ≡ None → Unfound f k Reasons.NoMessage
    sought_not e = record { judged = judge_missing f k h (rw e at w); walked = walk_missing f k h (rw e at w) }

    pub sought : (x : Found) → y ≡ Some x → Sought f k x
    sought x e = record { short = h; place = sym e ∙ q; lines = rw e at w }

-- where a message is found lies in the feed
pub sought_in : (f : List ℕ) (k : ℕ) (x : Found) → Sought f k x → x.at ≤ length f
unfolding FoundIs
sought_in f k x w = omega (arith, w.lines.1)

-- ---- a message judged, with its place

module _ (f : List ℕ) (k : ℕ) where
  pub sighted-wrong : (e : Refusal) → judge_of f k ≡ Err e → (Err e ≡ sighted_of f k) × SightedIs (Err e) k f
  unfolding sighted_of SightedIs
  sighted-wrong e h = (rw h, h)

  pub sighted-right : (x : Found) (n : ℕ) → judge_of f k ≡ Ok n → Some x ≡ found_of (from_heading k (lines f)) → FoundIs (Some x) k f
      → (Ok (record { found = x; rows = n }) ≡ sighted_of f k) × SightedIs (Ok (record { found = x; rows = n })) k f
  unfolding sighted_of SightedIs
  sighted-right x n e q w = (rw (e, ← q), (e, w))

-- no message is both accepted and refused
pub not_both : {j : Result ℕ Refusal} {n : ℕ} {e : Refusal} → j ≡ Ok n → j ≡ Err e → ⊥
not_both p q = cc

-- a message that is accepted
module _ (f : List ℕ) (k n : ℕ) (e : judge_of f k ≡ Ok n) where
  pub accepted_short : length f ≤ feed_limit
  accepted_short = go (ltb feed_limit (length f)) refl
    where
      go : (t : Bool) → ltb feed_limit (length f) ≡ t → length f ≤ feed_limit
      go true q = absurd (not_both e (judge_long f k (ltb-true _ _ q)))
      go false q = ltb-false _ _ q

  pub not_missing : FoundIs None k f → ⊥
  not_missing q = not_both e (judge_missing f k accepted_short q)

-- a message's rows are those from the place where it is found
pub found_rows : (f : List ℕ) (k : ℕ) (found : Found) → FoundIs (Some found) k f → rows_of f k ≡ rows_from (fresh_state found.form) 0 1 (left f found.at true)
unfolding FoundIs message_of rows_lines
found_rows f k found q =
    let p = found.at in
    let x = ends_of p (drop p f) in
    rw (q.0, up_more f p x q.1 refl true refl) (rw (text_left p (drop p f) x refl, q.2))
