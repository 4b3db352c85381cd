-- `judge::find_message` meets its contract: the chain gives the messages in turn, and the one asked stands behind those before it.
-- Assumes nothing.
use mathlib.Core.Path.{◌≡◌, sym, ap, ◌∙◌}
use Prim.Native.Nat.{◌+◌}
use borrow.Author.Tests.{tests}
use Rattle.std.proofs.Common.{rules}
use Rattle.std.proofs.lemmas.Iterator.Adapters.{option_map_id}
use Rattle.std.proofs.lemmas.Iterator.Consumers.{YieldsList-from_first, YieldsList-from_filter_map, nth_from_yields_List}
use Rattle.lines.specs.Feed.{line_of, lines_left, lines}
use Rattle.judge.specs.Message.{from_heading, found_of, opened_by}
use Rattle.judge.proofs.Laws.{found_nth, found_is}
use Rattle.judge.proofs.find_message.Goals as goal

pub returns-clause-answer : goal.returns-clause-answer
returns-clause-answer c =
    let behind : c.in_ok-before.before + 1 ≡ c.args.message = search rules in
    sym (option_map_id _)
    ∙ nth_from_yields_List c.nth.result c.nth.new.self _ c.nth.ensures.ran
    (YieldsList-from_filter_map _ opened_by
    (YieldsList-from_first line_of lines_left _ (ap lines_left c.filter_map.ensures.source ∙ c.lines_of.ensures.left))
    c.filter_map.ensures.closure (λ x r q k. search (rules, tests)))
    ∙ found_nth c.in_ok-before.before (lines c.args.feed.now)
    ∙ ap (λ k. found_of (from_heading k (lines c.args.feed.now))) behind

pub returns-clause-lines : goal.returns-clause-lines
returns-clause-lines c = found_is _ _ _ (returns-clause-answer c)
