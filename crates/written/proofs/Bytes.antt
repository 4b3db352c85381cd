-- Texts each byte of which passes a test.
-- Assumes nothing.
use mathlib.Core.Path.{◌≡◌, refl, ap, ◌∙◌}
use mathlib.Core.List.{List, [], ◌∷◌, ◌++◌, Sublistᴰ}
use mathlib.Core.Bool.{Bool, true}
use Prim.Native.Nat.{ℕ, suc, ◌+◌, ◌-◌, ◌<◌}
use native.Mathlib.Numerals.{add-one}
use native.Mathlib.Omega.{arith}
use lib.ListN.{length, take, drop, length-append, take-append-drop}
use Rattle.words.specs.Words.{run}
use Rattle.lines.specs.declared.Span.{Span}
use Rattle.step.specs.Step.{part}
use Rattle.write.proofs.Readings.{whether}

abbrev pub Passes : (ℕ → Bool) → List ℕ → Type 0
Passes p s = run p s ≡ length s

-- one that is not empty
pub record Some (p : ℕ → Bool) (s : List ℕ) : Type 0 where
  pub some : 0 < length s
  pub whole : Passes p s

-- texts, each behind a byte
unfoldable pub after : ℕ → List (List ℕ) → List ℕ
after c [] = []
after c (s ∷ ss) = c ∷ s ++ after c ss

module _ (p : ℕ → Bool) where
  pub run-cons : (b : ℕ) (s : List ℕ) → p b ≡ true → run p (b ∷ s) ≡ suc (run p s)
  unfolding run
  run-cons b s e = rw (e, run) (add-one (run p s))

  pub pass_cons : (b : ℕ) (s : List ℕ) → p b ≡ true → Passes p s → Passes p (b ∷ s)
  pass_cons b s e h = run-cons b s e ∙ ap suc h

  pub pass_split : (b : ℕ) (s : List ℕ) → Passes p (b ∷ s) → (p b ≡ true) × Passes p s
  unfolding run
  pass_split b s = whether (λ (n : ℕ). n ≡ suc (length s) → (p b ≡ true) × Passes p s) (p b) (λ q e. (q, omega arith)) (λ q e. absurd (omega arith))

  -- past a text whose bytes all pass, the run goes on
  pub run_past : (s t : List ℕ) → Passes p s → run p (s ++ t) ≡ length s + run p t
  run_past [] t h = omega arith
  run_past (b ∷ s) t h = let w = pass_split b s h in omega (arith, run-cons b (s ++ t) w.0, run_past s t w.1)

  pub pass_append : (s t : List ℕ) → Passes p s → Passes p t → Passes p (s ++ t)
  pass_append s t h k = omega (arith, run_past s t h, length-append s t)

  pub pass_both : (s t : List ℕ) → Passes p (s ++ t) → Passes p s × Passes p t
  unfolding run
  pass_both [] t h = (refl, h)
  pass_both (b ∷ s) t h =
      let c = pass_split b (s ++ t) h in
      let d = pass_both s t c.1 in
      (pass_cons b s c.0 d.0, d.1)

  pub pass_part : (q : Span) (s : List ℕ) → Passes p s → Passes p (part q s)
  pass_part q s h =
      let r = drop q.from s in
      let k : Passes p r = (pass_both (take q.from s) r (rw (take-append-drop q.from s) h)).1 in
      (pass_both (part q s) (drop (q.to - q.from) r) (rw (take-append-drop (q.to - q.from) r) k)).0

  -- what stands in a text in its order has only the text's bytes
  pub pass_within : {s t : List ℕ} → Sublistᴰ s t → Passes p t → Passes p s
  pass_within Sublistᴰ.slnil h = h
  pass_within (Sublistᴰ.cons d) h = pass_within d (pass_split _ _ h).1
  pass_within (Sublistᴰ.cons-cons e d) h = let l = pass_split _ _ h in pass_cons _ _ (ap p e ∙ l.0) (pass_within d l.1)

  -- a run passes, and behind it stands none
  pub at_run : (s : List ℕ) → Passes p (take (run p s) s) × (run p (drop (run p s) s) ≡ 0)
  unfolding run
  at_run [] = (refl, refl)
  at_run (b ∷ s) =
      whether (λ (n : ℕ). Passes p (take n (b ∷ s)) × (run p (drop n (b ∷ s)) ≡ 0)) (p b)
      (λ q. let h = at_run s in rw (add-one (run p s)) (pass_cons b (take (run p s) s) q h.0, h.1)) (λ q. (refl, rw (q, run)))

-- they pass a weaker test too
pub pass_weaker : (p q : ℕ → Bool) → ((b : ℕ) → p b ≡ true → q b ≡ true) → (s : List ℕ) → Passes p s → Passes q s
unfolding run
pass_weaker p q f [] h = refl
pass_weaker p q f (b ∷ s) h = let w = pass_split p b s h in pass_cons q b s (f b w.0) (pass_weaker p q f s w.1)
