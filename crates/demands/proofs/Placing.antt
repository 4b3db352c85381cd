-- Demands 1 and 2, from the definitions of placing and of a ticket's reading.
-- Assumes nothing.
use Prim.Native.Nat.{ℕ, ◌*◌, ◌≤◌, ◌<◌}
use mathlib.Core.Path.{◌≡◌, refl, sym, ap, ◌∙◌}
use mathlib.Core.List.{List, [], ◌∷◌}
use mathlib.Core.Bool.{Bool, true, false}
use native.Mathlib.Omega.{arith}
use lib.Dec.{eqb, ltb}
use lib.ListN.{length}
use borrow.Author.Tests.{eqb-true, eqb-false, ltb-true, ltb-false}
use Rattle.reasons.specs.Reasons.{reason_no}
use Rattle.reasons.specs.declared.Reason.{Reason}
use Rattle.judge.specs.Message.{judge_of, refused}
use Rattle.tables.specs.Table.{host_row}
use Rattle.desk.specs.Placing.{top_load, desk_after, place_of}
use Rattle.rows.specs.Filled.{room_for, table_after}
use Rattle.desk.specs.declared.Desk.{Desk}
use Rattle.desk.specs.declared.Placed.{Placed}
use Rattle.judge.proofs.Laws.{not_both}
use Rattle.rows.proofs.Fills.{no_room, room_enough, room-right}
use Rattle.desk.proofs.Reading.{place_spent, place_answer, read_gone}
use Rattle.demands.proofs.Why.{refused_same, judging-plain}
use Rattle.demands.specs.Placing.{ticket, RefusedKeeps, SpentKeeps, Host, Call, judging, placing, placed_for, after, EarlierGone, placings, PreviewKeeps, AsJudged, PlacingJudges, PlacingFills}
use Rattle.std.specs.Prelude.{Result, Ok, Err}
use Rattle.judge.specs.declared.Refusal.{Refusal}

module _ (d : Desk) (f : List ℕ) (k bytes : ℕ) where
  -- placing that is not refused as spent
  place_free : (d.load.0 ≡ top_load → ⊥)
      → place_of d f k bytes ≡ record { desk = desk_after d (room_for bytes (judge_of f k)); answer = room_for bytes (judge_of f k) }
  place_free h = place_answer d f k bytes h _ refl

  pub answer_free : (d.load.0 ≡ top_load → ⊥) → (place_of d f k bytes).answer ≡ room_for bytes (judge_of f k)
  answer_free h = ap (λ (x : Placed). x.answer) (place_free h)

  pub desk_free : (d.load.0 ≡ top_load → ⊥) → (j : Result ℕ Refusal) → (place_of d f k bytes).answer ≡ j → (place_of d f k bytes).desk ≡ desk_after d j
  desk_free h j e = ap (λ (x : Placed). x.desk) (place_free h) ∙ ap (desk_after d) (sym (answer_free h) ∙ e)

pub refused_keeps : RefusedKeeps
unfolding table_after desk_after
refused_keeps d f k t r l h e = (rw e, desk_free d f k (length t) h _ e)

pub spent_keeps : SpentKeeps
unfolding table_after
spent_keeps d f k t e = (rw (place_spent d f k (length t) e), place_spent d f k (length t) e)

one_higher : (d : Desk) (j : Result ℕ Refusal) → d.load.0 < (desk_after d j).load.0
unfolding desk_after
one_higher d (Err e) = omega arith
one_higher d (Ok n) = omega arith

-- no placing lowers the number, and one that is not refused as spent raises it
raises : (d : Desk) (f : List ℕ) (k bytes : ℕ) → d.load.0 < top_load → d.load.0 < (place_of d f k bytes).desk.load.0
raises d f k bytes h =
    let n : d.load.0 ≡ top_load → ⊥ = λ e. omega arith in
    rw (desk_free d f k bytes n _ refl) (one_higher d _)

keeps : (d : Desk) (f : List ℕ) (k bytes : ℕ) → d.load.0 ≤ (place_of d f k bytes).desk.load.0
keeps d f k bytes = go (eqb d.load.0 top_load) refl
  where
    go : (t : Bool) → eqb d.load.0 top_load ≡ t → d.load.0 ≤ (place_of d f k bytes).desk.load.0
    go true q = rw (place_spent d f k bytes (eqb-true _ _ q)) (omega arith)
    go false q = rw (desk_free d f k bytes (eqb-false _ _ q) _ refl) (omega (arith, one_higher d (place_of d f k bytes).answer))

run_keeps : (cs : List Call) (h : Host) → h.desk.load.0 ≤ (after h cs).desk.load.0
unfolding after
run_keeps [] h = omega arith
run_keeps (judging f k ∷ cs) h = run_keeps cs h
run_keeps (placing f k t ∷ cs) h = omega (arith, keeps h.desk f k (length t), run_keeps cs (placed_for h f k t))

pub earlier_gone : EarlierGone
unfolding after
earlier_gone h l g k u cs n f t =
    read_gone (after h (placing g k u ∷ cs)).desk (ticket h.desk.load.0 n) f t
    (λ e. omega (arith, raises h.desk g k (length u) l, run_keeps cs (placed_for h g k u)))

-- judgements left out of a run change nothing
left_out : (cs : List Call) (h : Host) → after h cs ≡ after h (placings cs)
unfolding after placings
left_out [] h = refl
left_out (judging f k ∷ cs) h = left_out cs h
left_out (placing f k t ∷ cs) h = left_out cs (placed_for h f k t)

pub preview_keeps : PreviewKeeps
unfolding after
preview_keeps h cs x f = (λ e. rw (left_out cs h, e), rw (left_out cs h))

-- ---- placing's answer

pub placing_fills : PlacingFills
unfolding table_after desk_after
placing_fills d f k t n e =
    let h : d.load.0 ≡ top_load → ⊥ = λ q. not_both e (ap (λ (x : Placed). x.answer) (place_spent d f k (length t) q)) in
    ((room-right (length t) (judge_of f k) n (sym e ∙ answer_free d f k (length t) h)).0, desk_free d f k (length t) h _ e, rw e)

-- two acceptances that are the same
rows_same : {m n : ℕ} → ◌≡◌ {A = Result ℕ Refusal} (Ok m) (Ok n) → m ≡ n
rows_same e = cc

module _ (d : Desk) (f : List ℕ) (k bytes : ℕ) where
  abbrev answer : Result ℕ Refusal
  answer = (place_of d f k bytes).answer

  -- two reasons of one answer have one number
  one_number : {q r : Reason} {m n : ℕ} → answer ≡ refused q m → answer ≡ refused r n → reason_no q ≡ reason_no r
  one_number e w = ap reason_no (refused_same (sym e ∙ w)).0

  as_spent : d.load.0 ≡ top_load → AsJudged d f k bytes
  as_spent q =
      let e = ap (λ (x : Placed). x.answer) (place_spent d f k bytes q) in
      record {
        spent = (λ w. q, λ w. e);
        no_room = (λ w. absurd (omega (arith, one_number e w)), λ w. absurd (w.0 q));
        judged = λ a b. absurd (a e);
      }

  module _ (h : d.load.0 ≡ top_load → ⊥) where
    as_refused : (r : Reason) (l : ℕ) → judge_of f k ≡ refused r l → AsJudged d f k bytes
    unfolding room_for
    as_refused r l q =
        let e : answer ≡ refused r l = answer_free d f k bytes h ∙ rw q in
        record {
          spent = (λ w. absurd (omega (arith, one_number e w, judging-plain f k r l q)), λ w. absurd (h w));
          no_room = (λ w. absurd (omega (arith, one_number e w, judging-plain f k r l q)), λ w. absurd (not_both w.1.1 q));
          judged = λ a b. e ∙ sym q;
        }

    as_accepted : (n : ℕ) → judge_of f k ≡ Ok n → AsJudged d f k bytes
    as_accepted n q = go (ltb bytes (host_row * n)) refl
      where
        go : (t : Bool) → ltb bytes (host_row * n) ≡ t → AsJudged d f k bytes
        go true z =
            let lt = ltb-true _ _ z in
            let e = answer_free d f k bytes h ∙ ap (room_for bytes) q ∙ sym (no_room bytes n lt) in
            record { spent = (λ w. absurd (omega (arith, one_number e w)), λ w. absurd (h w)); no_room = (λ w. (h, (n, q, lt)), λ w. e); judged = λ a b. absurd (b e) }
        go false z =
            let le = ltb-false _ _ z in
            let e = answer_free d f k bytes h ∙ ap (room_for bytes) q ∙ sym (room_enough bytes n le) in
            record {
              spent = (λ w. absurd (not_both e w), λ w. absurd (h w));
              no_room = (λ w. absurd (not_both e w), λ w. let s = rows_same (sym q ∙ w.1.1) in absurd (omega (arith, w.1.2)));
              judged = λ a b. e ∙ sym q;
            }

pub placing_judges : PlacingJudges
placing_judges d f k t = go (eqb d.load.0 top_load) refl
  where
    free : (d.load.0 ≡ top_load → ⊥) → (j : Result ℕ Refusal) → judge_of f k ≡ j → AsJudged d f k (length t)
    free h (Err e) q = as_refused d f k (length t) h e.reason e.line q
    free h (Ok n) q = as_accepted d f k (length t) h n q

    go : (b : Bool) → eqb d.load.0 top_load ≡ b → AsJudged d f k (length t)
    go true q = as_spent d f k (length t) (eqb-true _ _ q)
    go false q = free (eqb-false _ _ q) (judge_of f k) refl
