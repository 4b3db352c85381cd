-- Words as they are written in document 01, as the bytes that a feed holds.
-- Assumes nothing.
use Rattle.std.specs.Prelude.{ℕ, ◌+◌, ◌*◌, ◌/◌, List, [], ◌∷◌, Bool, true, false, not, ◌&&◌, eqb, leb, length}
use Prim.Native.Char.{code}
use Prim.Native.String.{String}

-- the bytes of a quoted text
unfoldable pub bytes : String → List ℕ
bytes String.[] = []
bytes (String.◌∷◌ c s) = code c ∷ bytes s

-- the text begins with a pattern: each byte of it passes the test with the text's byte
unfoldable pub agrees : (ℕ → ℕ → Bool) → List ℕ → List ℕ → Bool
agrees f [] s = true
agrees f (w ∷ ws) [] = false
agrees f (w ∷ ws) (b ∷ s) = f w b && agrees f ws s

-- the text begins with the word
abbrev pub begins : List ℕ → List ℕ → Bool
begins w s = agrees (λ a b. eqb b a) w s

-- how many bytes stand first that pass a test
unfoldable pub run : (ℕ → Bool) → List ℕ → ℕ
run p [] = 0
run p (b ∷ s) = elim (p b) [ true ↦ run p s + 1 | false ↦ 0 ]

-- every byte passes a test
unfoldable pub every : (ℕ → Bool) → List ℕ → Bool
every p [] = true
every p (b ∷ s) = p b && every p s

-- each member of a list has a property
abbrev pub Each : {A : Type 0} → (A → Type 0) → List A → Type 0
Each p [] = Unit {0}
Each p (x ∷ xs) = p x × Each p xs

-- of so many bytes, those that whole blocks of sixteen take
abbrev pub blocks_of : ℕ → ℕ
blocks_of n = n / 16 * 16

-- the first place of a byte, or the length where it is not there
abbrev pub first_at : ℕ → List ℕ → ℕ
first_at c s = run (λ b. not (eqb b c)) s

-- the text is the word
unfoldable pub is_word : List ℕ → List ℕ → Bool
is_word w s = eqb (length s) (length w) && begins w s

-- a digit is `0` to `9`
abbrev pub is_digit : ℕ → Bool
is_digit b = leb 48 b && leb b 57
