-- What is explained is where the judge's walk along the message came to its end.
-- Assumes nothing.
use mathlib.Core.Path.{◌≡◌, refl, ap, ◌∙◌}
use mathlib.Core.List.{List, [], ◌∷◌}
use mathlib.Core.Bool.{Bool, true, false, not, ◌&&◌}
use Prim.Native.Nat.{ℕ, ◌+◌, ◌-◌, ◌≤◌, ◌<◌}
use native.Mathlib.Omega.{arith}
use lib.Dec.{eqb, ltb}
use lib.ListN.{length, take, drop, length-drop}
use borrow.Author.Tests.{ltb-false}
use Rattle.lines.specs.Feed.{Line, lines, text_len, line_len}
use Rattle.lines.proofs.Lists.{line_first, by_lines}
use Rattle.reasons.specs.declared.Reason.{Reason}
use Rattle.reasons.specs.declared.Reason.TheVariants as Reasons
use Rattle.step.specs.Step.{fresh_state, step_of}
use Rattle.step.specs.declared.State.{State}
use Rattle.step.specs.declared.Step.{Step}
use Rattle.judge.specs.Message.{is_heading, form_of, from_heading, feed_limit, of_feed, refused, stop_of, stop_lines, walk_of}
use Rattle.judge.specs.declared.Stop.{Stop}
use Rattle.explain.specs.Explain.{plainly, told, explain_from, explain_lines, explain_of}
use Rattle.explain.specs.declared.Explained.{Explained}
use Rattle.std.specs.Prelude.{Result, Ok, Err}

module _ (f : List ℕ) where
  -- lines that are explained as the walk along them ends, which is in the feed
  abbrev Told : List Line → Type 0
  Told ls = (first : Bool) (st : State) (line rows : ℕ) →
      let x = stop_of (length f) first st line rows ls in (explain_from (length f) first st line rows ls ≡ told f x) × (x.at ≤ length f)

  none_told : Told []
  unfolding explain_from stop_of told
  none_told first st line rows = (refl, omega arith)

  more_told : (at : ℕ) (s : List ℕ) (ls : List Line) → s ≡ drop at f → 0 < length s → Told ls → Told (line_first at s ∷ ls)
  unfolding explain_from stop_of told
  more_told at s ls e h ih first st line rows = go (not first && is_heading (take (text_len s) s)) refl (step_of st (take (text_len s) s)) refl
    where
      here : at ≤ length f
      here = omega (arith, ap length e, length-drop at f)

      go : (t : Bool) → not first && is_heading (take (text_len s) s) ≡ t → (y : Result Step Reason) → step_of st (take (text_len s) s) ≡ y
          → let x = stop_of (length f) first st line rows (line_first at s ∷ ls) in
          (explain_from (length f) first st line rows (line_first at s ∷ ls) ≡ told f x) × (x.at ≤ length f)
      go true z y k = rw (z, explain_from, stop_of) (refl, here)
      go false z (Err r) k = rw (z, explain_from, stop_of) (rw (k, explain_from, stop_of) (rw (← e), here))
      go false z (Ok x) k = rw (z, explain_from, stop_of) (rw (k, explain_from, stop_of) (ih false x.state (line + 1) (rows + x.count)))

  -- and so are those from any heading line on
  abbrev All : ℕ → List Line → Type 0
  All at ls = Told ls × ((k : ℕ) → Told (from_heading k ls))

  all_more : (at : ℕ) (s : List ℕ) (ls : List Line) → s ≡ drop at f → 0 < length s → All (at + line_len s) ls → All at (line_first at s ∷ ls)
  unfolding from_heading
  all_more at s ls e h ih = (here, λ k. go k (is_heading (take (text_len s) s)) (eqb k 1))
    where
      here : Told (line_first at s ∷ ls)
      here = more_told at s ls e h ih.0

      go : (k : ℕ) (t u : Bool) → Told (elim t [ true ↦ elim u [ true ↦ line_first at s ∷ ls | false ↦ from_heading (k - 1) ls ] | false ↦ from_heading k ls ])
      go k true true = here
      go k true false = ih.1 (k - 1)
      go k false u = ih.1 k

  all_none : All (length f) []
  unfolding from_heading
  all_none = (none_told, λ k. none_told)

  message_told : (k : ℕ) → Told (from_heading k (lines f))
  message_told k = (by_lines f All all_none all_more).1 k

  module _ (k : ℕ) where
    -- no message, and a feed that is too long
    pub explain_unwalked : (r : Reason) → walk_of f k ≡ Err r → explain_of f k ≡ plainly (Err (of_feed r))
    unfolding walk_of stop_lines explain_of explain_lines
    explain_unwalked r e = go (ltb feed_limit (length f)) (from_heading k (lines f)) e
      where
        go : (t : Bool) (ls : List Line) → ◌≡◌ {A = Result Stop Reason} (elim t [ true ↦ Err Reasons.FeedLong | false ↦ stop_lines (length f) ls ]) (Err r)
            → elim t as (λ z. Explained) [ true ↦ plainly (refused Reasons.FeedLong 0) | false ↦ explain_lines (length f) ls ] ≡ plainly (Err (of_feed r))
        go true ls q = let z : Reasons.FeedLong ≡ r = cc in rw (← z)
        go false [] q = let z : Reasons.NoMessage ≡ r = cc in rw (← z)
        go false (l ∷ ls) q = cc

    -- a message
    explain_walked : (x : Stop) → walk_of f k ≡ Ok x → (explain_of f k ≡ told f x) × (length f ≤ feed_limit) × (x.at ≤ length f)
    unfolding walk_of stop_lines explain_of explain_lines
    explain_walked x e = go (ltb feed_limit (length f)) refl (from_heading k (lines f)) (message_told k) e
      where
        go : (t : Bool) → ltb feed_limit (length f) ≡ t → (ls : List Line) → Told ls → ◌≡◌ {A = Result Stop Reason} (elim t [ true ↦ Err Reasons.FeedLong | false ↦ stop_lines (length f) ls ]) (Ok x)
            → (elim t as (λ z. Explained) [ true ↦ plainly (refused Reasons.FeedLong 0) | false ↦ explain_lines (length f) ls ] ≡ told f x)
            × (length f ≤ feed_limit) × (x.at ≤ length f)
        go true z ls w q = cc
        go false z [] w q = cc
        go false z (l ∷ ls) w q =
            let h = w true (fresh_state (form_of l.text)) 1 0 in
            let s : stop_of (length f) true (fresh_state (form_of l.text)) 1 0 (l ∷ ls) ≡ x = cc in
            (h.0 ∙ ap (told f) s, ltb-false _ _ z, rw s at h.1)

    pub explain_told : (x : Stop) → walk_of f k ≡ Ok x → explain_of f k ≡ told f x
    explain_told x e = (explain_walked x e).0

    pub walk_fits : (x : Stop) → walk_of f k ≡ Ok x → (length f ≤ feed_limit) × (x.at ≤ length f)
    walk_fits x e = let w = explain_walked x e in (w.1, w.2)
