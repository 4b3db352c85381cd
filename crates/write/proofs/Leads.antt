-- Laws of what stands on a line before its values, one a case.
-- Assumes nothing.
use mathlib.Core.Path.{◌≡◌, ◌∙◌}
use mathlib.Core.List.{List, [], ◌++◌}
use mathlib.Core.Bool.{Bool, true, false}
use Prim.Native.Nat.{ℕ}
use lib.Dec.{eqb}
use lib.ListN.{get_or}
use borrow.Author.Tests.{eq-eqb, ne_eqb}
use Rattle.words.specs.Words.{bytes}
use Rattle.lines.specs.Text.{no_span}
use Rattle.step.specs.declared.Step.{Step}
use Rattle.write.specs.Plain.{word_of, comment_lead, lead_of}
use Rattle.write.specs.Inner.{text_at, name_of, Named, leads_of}

-- ---- one row

module _ (c : ℕ) (empty : Bool) where
  lead_start : c ≡ 37 → lead_of c empty ≡ bytes "META_START"
  unfolding lead_of
  lead_start e = rw e

  lead_stop : c ≡ 44 → lead_of c empty ≡ bytes "META_STOP"
  unfolding lead_of
  lead_stop e = rw e

  lead_comment : c ≡ 45 → (t : Bool) → empty ≡ t → lead_of c empty ≡ comment_lead t
  unfolding lead_of
  lead_comment e t q = rw (e, q)

  pub lead_keyword : (c ≡ 37 → ⊥) → (c ≡ 44 → ⊥) → (c ≡ 45 → ⊥) → lead_of c empty ≡ word_of c ++ bytes "="
  unfolding lead_of
  lead_keyword i j k = rw (ne_eqb c 37 i, lead_of) (rw (ne_eqb c 44 j, ne_eqb c 45 k))

-- ---- a line's rows

module _ (x : Step) where
  pub leads_none : (x.count ≡ 1 → ⊥) → leads_of x ≡ []
  unfolding leads_of
  leads_none h = rw (ne_eqb x.count 1 h, leads_of)

  pub leads_one : x.count ≡ 1 → let p = get_or x.spans 0 no_span in leads_of x ≡ lead_of x.code (eqb p.from p.to)
  unfolding leads_of
  leads_one h = rw (eq-eqb x.count 1 h, leads_of)

  module _ (h : x.count ≡ 1) where
    pub leads_start : x.code ≡ 37 → leads_of x ≡ bytes "META_START"
    leads_start e = leads_one h ∙ lead_start _ _ e

    pub leads_stop : x.code ≡ 44 → leads_of x ≡ bytes "META_STOP"
    leads_stop e = leads_one h ∙ lead_stop _ _ e

    pub leads_empty : x.code ≡ 45 → (get_or x.spans 0 no_span).from ≡ (get_or x.spans 0 no_span).to → leads_of x ≡ bytes "COMMENT"
    leads_empty e q = leads_one h ∙ lead_comment _ _ e true (eq-eqb _ _ q)

    pub leads_blank : x.code ≡ 45 → ((get_or x.spans 0 no_span).from ≡ (get_or x.spans 0 no_span).to → ⊥) → leads_of x ≡ bytes "COMMENT "
    leads_blank e q = leads_one h ∙ lead_comment _ _ e false (ne_eqb _ _ q)

    -- any other code's keyword is the line's
    pub leads_keyword : (f : List ℕ) (at : ℕ) → Named f at x.code → (x.code ≡ 37 → ⊥) → (x.code ≡ 44 → ⊥) → (x.code ≡ 45 → ⊥) → leads_of x ≡ name_of (text_at f at) ++ bytes "="
    leads_keyword f at n i j k = rw (n i j k) (leads_one h ∙ lead_keyword _ _ i j k)
