-- `judge::count_headings` meets its contract: the feed's length is tested first.
-- Assumes nothing.
use borrow.Author.Tests.{lt-ltb, le-ltb}
use Rattle.judge.specs.Message.{count_of}
use Rattle.judge.proofs.count_headings.Goals as goal

pub returns-then-feed-gt-FEED_LIMIT : goal.returns-then-feed-gt-FEED_LIMIT
unfolding count_of
returns-then-feed-gt-FEED_LIMIT c = rw (lt-ltb _ _ c.if-feed-gt-FEED_LIMIT.true, count_of)

pub returns : goal.returns
unfolding count_of
returns c = rw (le-ltb _ _ c.if-feed-gt-FEED_LIMIT.false, count_of) (rw c.headings_in.ensures)
