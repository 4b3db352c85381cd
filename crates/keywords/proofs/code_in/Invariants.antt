-- `keywords::code_in` meets its contract: the text's code is its code among the keywords from the place on.
-- Assumes nothing.
use Rattle.std.proofs.Common.{◌≡◌, drop}
use Rattle.keywords.specs.Keywords.{keywords, code_in, entries}
use Rattle.keywords.proofs.code_in.Given as goal

abbrev pub invariant-loop-code : goal.invariant-loop-code
invariant-loop-code l = code_in (entries (drop l.code-index l.group)) l.text ≡ code_in keywords l.text
