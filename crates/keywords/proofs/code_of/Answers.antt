-- `keywords::code_of` meets its contract: each arm holds the keywords of its length, and no keyword has another length, both by computation.
-- Assumes nothing.
use Rattle.std.proofs.Common.{rules, refl, List, [], ◌∷◌, ℕ}
use Rattle.words.specs.Words.{bytes}
use Rattle.keywords.specs.Keywords.{keywords}
use Rattle.keywords.proofs.Table.{among, cover, no_length}
use Rattle.keywords.proofs.code_of.Goals as goal

-- the arms' lengths, the last one first
abbrev lengths : List ℕ
lengths = 20 ∷ 18 ∷ 17 ∷ 15 ∷ 14 ∷ 13 ∷ 12 ∷ 11 ∷ 10 ∷ 9 ∷ 8 ∷ 5 ∷ 4 ∷ 2 ∷ 1 ∷ []

pub returns-in_default : goal.returns-in_default
unfolding among cover keywords bytes
returns-in_default c = no_length lengths keywords _ (search rules) refl
