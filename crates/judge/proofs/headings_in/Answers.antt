-- `judge::headings_in` meets its contract: the chain counts the feed's lines that are heading lines.
-- Assumes nothing.
use mathlib.Core.Path.{◌≡◌, sym, ◌∙◌}
use Rattle.std.proofs.Common.{rules}
use Rattle.std.proofs.iter.runs.Made.{chains}
use Rattle.std.proofs.iter.Rest.{running}
use Rattle.std.specs.List.{count_by}
use Rattle.lines.specs.Feed.{Line, lines}
use Rattle.judge.specs.Message.{is_heading}
use Rattle.judge.proofs.Laws.{headings_counted}
use Rattle.judge.proofs.headings_in.Goals as goal

pub returns : goal.returns
returns c =
    let e : c.count.result ≡ count_by (λ (l : Line). is_heading l.text) (lines c.args.feed.now) = search (rules, chains, running) in
    e ∙ sym (headings_counted _)
