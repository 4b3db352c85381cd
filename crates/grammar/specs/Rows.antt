-- Tables on codes, by rows.
-- Assumes nothing.
use Rattle.std.specs.Prelude.{ℕ, List, [], ◌∷◌, Bool, true, false, ◌&&◌, leb}

abbrev pub between : ℕ → ℕ → ℕ → Bool
between low high n = leb low n && leb n high

-- the codes from one to another, and what each of them has
pub record Row (A : Type 0) : Type 0 where
  pub low : ℕ
  pub high : ℕ
  pub has : ℕ → A

abbrev pub each : {A : Type 0} → ℕ → ℕ → (ℕ → A) → Row A
each l h f = record { low = l; high = h; has = f }

-- these codes have the same
abbrev pub all : {A : Type 0} → ℕ → ℕ → A → Row A
all l h a = each l h (λ n. a)

-- one code has this
abbrev pub one : {A : Type 0} → ℕ → A → Row A
one n a = all n n a

-- what a table has for a code: what the first row with the code has for it, or `d` where no row has the code
unfoldable pub pick : {A : Type 0} → List (Row A) → A → ℕ → A
pick [] d n = d
pick (r ∷ rs) d n = elim (between r.low r.high n) [ true ↦ r.has n | false ↦ pick rs d n ]
