-- Why a message was refused: the reason is placing's, the codes are exactly those that could have stood there, the bytes lie in the blamed line.
-- Assumes nothing.
use Prim.Native.Nat.{ℕ, suc, ◌+◌, ◌-◌, ◌*◌, ◌≤◌, ◌<◌}
use mathlib.Core.Path.{◌≡◌, refl, sym, ap, ◌∙◌}
use mathlib.Core.Logic.{◌⊎◌, inl, inr, ⊎_elim, ◌↔◌}
use mathlib.Core.Bool.{Bool, true, false, not, ◌&&◌}
use mathlib.Core.List.{List, [], ◌∷◌, ◌++◌, Memᴰ}
use native.Mathlib.Omega.{arith}
use lib.Dec.{eqb, ltb}
use lib.ListN.{length, take, get_or, replicate, length-map}
use lib.Seq.{take_all}
use borrow.Author.Tests.{le-ltb, eq-eqb, ne_eqb, eqb-true}
use Rattle.lines.specs.Feed.{Line, lines}
use Rattle.grammar.specs.Order.{next_of}
use Rattle.step.specs.Step.{fresh_state, fits_here, step_of}
use Rattle.step.specs.declared.State.{State}
use Rattle.step.proofs.Sound.{OfLine, of_line}
use Rattle.reasons.specs.Reasons.{reason_no}
use Rattle.reasons.specs.declared.Reason.{Reason}
use Rattle.reasons.specs.declared.Reason.TheVariants as Reasons
use Rattle.judge.specs.Message.{is_heading, form_of, from_heading, up_to, message_of, texts, end_of, judge_texts, judge_lines, judge_of, feed_limit, refused}
use Rattle.judge.proofs.Laws.{from_none, not_both}
use Rattle.write.proofs.Names.{form_kept}
use Rattle.explain.specs.Codes.{can_begin, no_codes, codes_of, codes_for}
use Rattle.explain.specs.Explain.{plainly, blamed, ended, explain_from, explain_lines, explain_of}
use Rattle.explain.specs.declared.Explained.{Explained}
use Rattle.parts.proofs.Laws.{offending-inside}
use Rattle.tables.specs.Table.{host_row}
use Rattle.desk.specs.Placing.{place_of}
use Rattle.rows.specs.Filled.{room_for}
use Rattle.demands.proofs.Listed.{codes_packed, codes_exactly, codes_rising}
use Rattle.demands.specs.Placing.{JudgingPlain}
use Rattle.demands.specs.Why.{SameReason, state_after, form_in, state_before, listed_in, ListedExactly, no_line, start_or, InTheLine, Rising, InOrder}
use Rattle.step.specs.declared.Step.{Step}
use Rattle.std.specs.Prelude.{Result, Ok, Err}
use Rattle.judge.specs.declared.Refusal.{Refusal}

nil-cons : {A : Type 0} {x : A} {xs : List A} → [] ≡ x ∷ xs → ⊥
nil-cons e = let z : ◌≡◌ {A = ℕ} 0 1 = cc in omega arith

-- ---- what an explanation can be: of an acceptance, at the message's end e, or at a line; ms are the message's lines from here on

data Way (e : ℕ) (st : State) (line : ℕ) (ms : List Line) : Explained → Type 0 where
  accepted : (m : ℕ) → Way e st line ms (plainly (Ok m))
  short : (n : ℕ) → n ≡ line + length ms → (state_after st (texts ms)).form ≡ st.form
      → Way e st line ms (record { judged = refused Reasons.Short n; start = e; length = 0; listed = codes_of (state_after st (texts ms)) })
  blame : (i n : ℕ) (r : Reason) → n ≡ line + i → i < length ms → OfLine r → (state_after st (take i (texts ms))).form ≡ st.form
      → Way e st line ms (blamed (state_after st (take i (texts ms))) n (get_or ms i no_line) r)

ended_way : (st : State) (e line rows : ℕ) → Way e st line [] (ended st e line rows)
unfolding ended state_after
ended_way st e line rows = go (next_of st.form st.last).end
  where
    go : (t : Bool)
        → Way e st line [] (elim t [ true ↦ plainly (Ok rows) | false ↦ record { judged = refused Reasons.Short line; start = e; length = 0; listed = codes_of st } ])
    go true = accepted rows
    go false = short line (omega arith) refl

module _ (st : State) (e line : ℕ) (l : Line) (ms : List Line) where
  on_way : (x : Step) → step_of st l.text ≡ Ok x → {y : Explained} → Way e x.state (line + 1) ms y → Way e st line (l ∷ ms) y
  unfolding state_after
  on_way x v (accepted m) = accepted m
  on_way x v (short n q h) =
      let same : state_after st (texts (l ∷ ms)) ≡ state_after x.state (texts ms) = rw (v, state_after) in
      rw (← same) (short n (omega arith) (rw same (h ∙ form_kept st l.text x v)))
  on_way x v (blame i n r q b o h) =
      let same : state_after st (take (suc i) (texts (l ∷ ms))) ≡ state_after x.state (take i (texts ms)) = rw (v, state_after) in
      rw (← same) (blame (suc i) n r (omega arith) (omega arith) o (rw same (h ∙ form_kept st l.text x v)))

  line_way : (rest : Step → Explained) → ((x : Step) → Way e x.state (line + 1) ms (rest x))
      → Way e st line (l ∷ ms) (elim (step_of st l.text) [ Err r ↦ blamed st line l r | Ok x ↦ rest x ])
  unfolding state_after
  line_way rest w = go (step_of st l.text) refl
    where
      go : (y : Result Step Reason) → step_of st l.text ≡ y → Way e st line (l ∷ ms) (elim y [ Err r ↦ blamed st line l r | Ok x ↦ rest x ])
      go (Err r) q = blame 0 line r (omega arith) (omega arith) (of_line st l.text r q) refl
      go (Ok x) q = on_way x q (w x)

-- where a message ends
unfoldable end_in : ℕ → Bool → List Line → ℕ
end_in n first [] = n
end_in n first (l ∷ ls) = elim (not first && is_heading l.text) [ true ↦ l.start | false ↦ end_in n false ls ]

way : (n : ℕ) (ls : List Line) (first : Bool) (st : State) (line rows : ℕ)
    → Way (end_in n first ls) st line (up_to first ls) (explain_from n first st line rows ls)
unfolding end_in up_to explain_from
way n [] first st line rows = ended_way st n line rows
way n (l ∷ ls) first st line rows =
    go (not first && is_heading l.text)
    (line_way st (end_in n false ls) line l (up_to false ls) (λ x. explain_from n false x.state (line + 1) (rows + x.count) ls) (λ x. way n ls false x.state (line + 1) (rows + x.count)))
  where
    go : (t : Bool)
        → let y : Explained = elim (step_of st l.text) [ Err r ↦ blamed st line l r | Ok x ↦ explain_from n false x.state (line + 1) (rows + x.count) ls ] in
        Way (end_in n false ls) st line (l ∷ up_to false ls) y
        → Way (elim t [ true ↦ l.start | false ↦ end_in n false ls ]) st line (elim t [ true ↦ [] | false ↦ l ∷ up_to false ls ]) (elim t [ true ↦ ended st l.start line rows | false ↦ y ])
    go true w = ended_way st l.start line rows
    go false w = w

-- ---- the message's end: where the next heading line begins

end_next : (n : ℕ) (ls : List Line) → end_in n false ls ≡ start_or n (from_heading 1 ls)
unfolding end_in from_heading
end_next n [] = refl
end_next n (l ∷ ls) = go (is_heading l.text) (end_next n ls)
  where
    go : (t : Bool) → end_in n false ls ≡ start_or n (from_heading 1 ls)
        → ◌≡◌ {A = ℕ} (elim t [ true ↦ l.start | false ↦ end_in n false ls ]) (start_or n (elim t [ true ↦ l ∷ ls | false ↦ from_heading 1 ls ]))
    go true h = refl
    go false h = h

from_next : (k : ℕ) (ls : List Line) (l : Line) (ms : List Line) → from_heading k ls ≡ l ∷ ms → from_heading (k + 1) ls ≡ from_heading 1 ms
unfolding from_heading
from_next k [] l ms e = absurd (nil-cons e)
from_next k (a ∷ ls) l ms e = go (is_heading a.text) (eqb k 1) refl (from_next (k - 1) ls l ms) (from_next k ls l ms) e
  where
    go : (t u : Bool) → eqb k 1 ≡ u → (from_heading (k - 1) ls ≡ l ∷ ms → from_heading (k - 1 + 1) ls ≡ from_heading 1 ms)
        → (from_heading k ls ≡ l ∷ ms → from_heading (k + 1) ls ≡ from_heading 1 ms)
        → elim t [ true ↦ elim u [ true ↦ a ∷ ls | false ↦ from_heading (k - 1) ls ] | false ↦ from_heading k ls ] ≡ l ∷ ms
        → elim t [ true ↦ elim (eqb (k + 1) 1) [ true ↦ a ∷ ls | false ↦ from_heading (k + 1 - 1) ls ] | false ↦ from_heading (k + 1) ls ] ≡ from_heading 1 ms
    go true true q ih jh z =
        let h = eqb-true k 1 q in
        let one : k + 1 - 1 ≡ 1 = omega arith in
        let m : ls ≡ ms = cc in
        rw (ne_eqb (k + 1) 1 (λ w. omega arith), one, m)
    go true false q ih jh z =
        let some : k ≡ 0 → ⊥ = λ h. nil-cons (sym (from_none ls) ∙ ap (λ (n : ℕ). from_heading (n - 1) ls) (sym h) ∙ z) in
        let m : k + 1 - 1 ≡ k - 1 + 1 = omega (arith, some) in
        rw (ne_eqb (k + 1) 1 (λ h. some (omega arith)), m) (ih z)
    go false u q ih jh z = jh z

-- ---- the whole message

abbrev Story : List ℕ → ℕ → Explained → Type 0
Story f k x =
    ((r : Reason) × (reason_no r ≤ 2) × (x ≡ plainly (refused r 0)))
    ⊎ Way (start_or (length f) (from_heading (k + 1) (lines f))) (fresh_state (form_in (message_of k f))) 1 (message_of k f) x

story : (f : List ℕ) (k : ℕ) → Story f k (explain_of f k)
unfolding explain_of explain_lines message_of up_to end_in
story f k = go (ltb feed_limit (length f))
  where
    found : (ls : List Line) → from_heading k (lines f) ≡ ls → Story f k (explain_lines (length f) ls)
    found [] q = inl (Reasons.NoMessage, omega arith, refl)
    found (l ∷ ls) q =
        inr (rw (q, from_next k (lines f) l ls q, ← end_next (length f) ls) (way (length f) (l ∷ ls) true (fresh_state (form_of l.text)) 1 0))

    go : (t : Bool) → Story f k (elim t [ true ↦ plainly (refused Reasons.FeedLong 0) | false ↦ explain_lines (length f) (from_heading k (lines f)) ])
    go true = inl (Reasons.FeedLong, omega arith, refl)
    go false = found (from_heading k (lines f)) refl

-- what is judged
end-judged : (st : State) (n line rows : ℕ) → (ended st n line rows).judged ≡ end_of st line rows
unfolding ended end_of
end-judged st n line rows = go (next_of st.form st.last).end
  where
    go : (t : Bool)
        → (elim t as (λ z. Explained) [ true ↦ plainly (Ok rows) | false ↦ record { judged = refused Reasons.Short line; start = n; length = 0; listed = codes_of st } ]).judged
        ≡ elim t [ true ↦ Ok rows | false ↦ refused Reasons.Short line ]
    go true = refl
    go false = refl

judged_from : (n : ℕ) (ls : List Line) (first : Bool) (st : State) (line rows : ℕ)
    → (explain_from n first st line rows ls).judged ≡ judge_texts st line rows (texts (up_to first ls))
unfolding explain_from up_to judge_texts blamed
judged_from n [] first st line rows = end-judged st n line rows
judged_from n (l ∷ ls) first st line rows =
    go (not first && is_heading l.text) refl (step_of st l.text) refl (λ st' line' rows'. judged_from n ls false st' line' rows')
  where
    go : (t : Bool) → not first && is_heading l.text ≡ t → (y : Result Step Reason) → step_of st l.text ≡ y
        → ((st' : State) (line' rows' : ℕ) → (explain_from n false st' line' rows' ls).judged ≡ judge_texts st' line' rows' (texts (up_to false ls)))
        → (explain_from n first st line rows (l ∷ ls)).judged ≡ judge_texts st line rows (texts (up_to first (l ∷ ls)))
    go true z y k ih = rw (z, explain_from, up_to) (end-judged st l.start line rows)
    go false z (Err r) k ih = rw (z, explain_from, up_to) (rw (k, explain_from, judge_texts))
    go false z (Ok x) k ih = rw (z, explain_from, up_to) (rw (k, explain_from, judge_texts) (ih x.state (line + 1) (rows + x.count)))

judged_same : (f : List ℕ) (k : ℕ) → (explain_of f k).judged ≡ judge_of f k
unfolding explain_of judge_of explain_lines judge_lines message_of up_to
judged_same f k = go (ltb feed_limit (length f))
  where
    found : (ls : List Line) → (explain_lines (length f) ls).judged ≡ judge_lines (up_to true ls)
    found [] = refl
    found (l ∷ ls) = judged_from (length f) (l ∷ ls) true (fresh_state (form_of l.text)) 1 0

    go : (t : Bool)
        → (elim t as (λ z. Explained) [ true ↦ plainly (refused Reasons.FeedLong 0) | false ↦ explain_lines (length f) (from_heading k (lines f)) ]).judged
        ≡ elim t [ true ↦ refused Reasons.FeedLong 0 | false ↦ judge_lines (up_to true (from_heading k (lines f))) ]
    go true = refl
    go false = found (from_heading k (lines f))

-- ---- the theorems

room_stays : (bytes : ℕ) (j : Result ℕ Refusal) → ((n : ℕ) → j ≡ Ok n → host_row * n ≤ bytes) → room_for bytes j ≡ j
unfolding room_for
room_stays bytes (Err e) h = refl
room_stays bytes (Ok n) h = rw (le-ltb _ _ (h n refl), room_for)

pub same_reason : SameReason
unfolding place_of
same_reason d f k bytes h room = rw (ne_eqb _ _ h, place_of) (rw (← judged_same f k) (room_stays bytes _ room))

-- the codes beside a reason
codes_order : (st : State) (r : Reason) → reason_no r ≡ 7 → codes_for st r ≡ codes_of st
unfolding codes_for
codes_order st r e = rw (eq-eqb _ _ e, codes_for)

codes_other : (st : State) (r : Reason) → (reason_no r ≡ 7 → ⊥) → codes_for st r ≡ no_codes
unfolding codes_for
codes_other st r e = rw (ne_eqb _ _ e, codes_for)

-- two refusals that are the same
pub refused_same : {q r : Reason} {m n : ℕ} → refused q m ≡ refused r n → (q ≡ r) × (m ≡ n)
refused_same {q} {r} {m} {n} e =
    let z : ◌≡◌ {A = Refusal} (record { reason = q; line = m }) (record { reason = r; line = n }) = cc in
    (ap (λ (x : Refusal). x.reason) z, ap (λ (x : Refusal). x.line) z)

module _ (f : List ℕ) (k : ℕ) where
  abbrev ms : List Line
  ms = message_of k f

  abbrev end : ℕ
  end = start_or (length f) (from_heading (k + 1) (lines f))

  abbrev st₀ : State
  st₀ = fresh_state (form_in ms)

  abbrev Listed : Reason → ℕ → Explained → Type 0
  Listed r n x =
      ((reason_no r ≡ 7) ⊎ (reason_no r ≡ 11)
      → ((c : ℕ) → Memᴰ c (listed_in x.listed) ↔ ((can_begin (form_in ms) c ≡ true) × (fits_here (state_before f k n) c ≡ true)))
      × (x.listed.codes ≡ listed_in x.listed ++ replicate (4 - x.listed.count) 0))
      × ((reason_no r ≡ 7 → ⊥) → (reason_no r ≡ 11 → ⊥) → x.listed ≡ no_codes)

  exactly : (n : ℕ) (st : State) → st ≡ state_before f k n → st.form ≡ form_in ms
      → ((c : ℕ) → Memᴰ c (listed_in (codes_of st)) ↔ ((can_begin (form_in ms) c ≡ true) × (fits_here (state_before f k n) c ≡ true)))
      × ((codes_of st).codes ≡ listed_in (codes_of st) ++ replicate (4 - (codes_of st).count) 0)
  exactly n st e h = (λ c. rw (← e, ← h) (codes_exactly st c), (codes_packed st).1)

  -- the state before the line after the last, and before a line
  state_end : (m : ℕ) → m ≡ 1 + length ms → state_after st₀ (texts ms) ≡ state_before f k m
  state_end m q = ap (state_after st₀) (sym (take_all (m - 1) (texts ms) (omega (arith, length-map ms (λ (l : Line). l.text)))))

  state_line : (i m : ℕ) → m ≡ 1 + i → state_after st₀ (take i (texts ms)) ≡ state_before f k m
  state_line i m q = let j : i ≡ m - 1 = omega arith in ap (λ (n : ℕ). state_after st₀ (take n (texts ms))) j

  listed_way : (r : Reason) (n : ℕ) {x : Explained} → Way end st₀ 1 ms x → x.judged ≡ refused r n → Listed r n x
  unfolding blamed
  listed_way r n (accepted m) e = absurd (not_both {j = Ok m} refl e)
  listed_way r n (short m q h) e =
      let z = refused_same e in
      rw (← z.0, ← z.1) (λ w. exactly m _ (state_end m q) h, λ a b. absurd (b refl))
  listed_way r n (blame i m t q b o h) e =
      let z = refused_same e in
      rw (← z.0, ← z.1) (
        λ w. ⊎_elim (λ seven. rw (codes_order _ t seven) (exactly m _ (state_line i m q) h)) (λ eleven. absurd (omega (arith, o.1))) w,
        λ a c. codes_other _ t a,
      )

  abbrev Lies : Reason → ℕ → Explained → Type 0
  Lies r n x =
      (3 ≤ reason_no r → reason_no r ≤ 10
      → let l = get_or ms (n - 1) no_line in (1 ≤ n) × (n ≤ length ms) × (l.start ≤ x.start) × (x.start + x.length ≤ l.start + length l.text))
      × (reason_no r ≡ 11 → (n ≡ length ms + 1) × (x.start ≡ end) × (x.length ≡ 0))

  lies_way : (r : Reason) (n : ℕ) {x : Explained} → Way end st₀ 1 ms x → x.judged ≡ refused r n → Lies r n x
  unfolding blamed
  lies_way r n (accepted m) e = absurd (not_both {j = Ok m} refl e)
  lies_way r n (short m q h) e =
      let z = refused_same e in
      rw (← z.0, ← z.1) (λ a b. absurd (omega (arith, b)), λ w. (omega arith, refl, refl))
  lies_way r n (blame i m t q b o h) e =
      let z = refused_same e in
      let j : m - 1 ≡ i = omega arith in
      let w = offending-inside (get_or ms i no_line).text (state_after st₀ (take i (texts ms))) t in
      rw (← z.0, ← z.1) (
        λ a c. rw j (omega arith, omega arith, omega arith, omega (arith, w.order, w.end)),
        λ eleven. absurd (omega (arith, o.1)),
      )

  rises_way : {x : Explained} → Way end st₀ 1 ms x → Rising (listed_in x.listed)
  unfolding blamed codes_for
  rises_way (accepted m) = tt
  rises_way (short m q h) = codes_rising _
  rises_way (blame i m t q b o h) = go (eqb (reason_no t) 7)
    where
      go : (u : Bool) → Rising (listed_in (elim u [ true ↦ codes_of (state_after st₀ (take i (texts ms))) | false ↦ no_codes ]))
      go true = codes_rising _
      go false = tt

-- a refusal with nothing to explain
module _ (r : Reason) (n : ℕ) (x : Explained) (e : x.judged ≡ refused r n) (w : (q : Reason) × (reason_no q ≤ 2) × (x ≡ plainly (refused q 0))) where
  early : reason_no r ≤ 2
  early = rw (refused_same (sym (ap (λ (y : Explained). y.judged) w.2) ∙ e)).0 at w.1

pub listed_exactly : ListedExactly
listed_exactly f k r n e =
    ⊎_elim
    (λ w. let h = early r n _ e w in (λ c. ⊎_elim (λ z. absurd (omega arith)) (λ z. absurd (omega arith)) c, λ a b. ap (λ (y : Explained). y.listed) w.2))
    (λ w. listed_way f k r n w e) (story f k)

pub in_the_line : InTheLine
in_the_line f k r n e =
    ⊎_elim (λ w. let h = early r n _ e w in (λ a b. absurd (omega arith), λ z. absurd (omega arith))) (λ w. lies_way f k r n w e) (story f k)

-- and so which reasons judging gives
plain_way : (r : Reason) (n : ℕ) {e line : ℕ} {st : State} {ms : List Line} {x : Explained} → Way e st line ms x → x.judged ≡ refused r n → reason_no r ≤ 11
unfolding blamed
plain_way r n (accepted m) e = absurd (not_both {j = Ok m} refl e)
plain_way r n (short m q h) e = rw (← (refused_same e).0) (omega arith)
plain_way r n (blame i m t q b o h) e = rw (← (refused_same e).0) (omega (arith, o.1))

pub judging-plain : JudgingPlain
judging-plain f k r n e =
    let h = judged_same f k ∙ e in
    ⊎_elim (λ w. omega (arith, early r n _ h w)) (λ w. plain_way r n w h) (story f k)

pub in_order : InOrder
in_order f k = ⊎_elim (λ w. rw w.2 tt) (λ w. rises_way f k w) (story f k)
