use Rattle.lists.proofs.Prelude.{◌-◌, ◌≡◌}
use Rattle.feed.specs.Feed.{listing, entries_from}
use Rattle.feed.proofs.is_feed.Given as goal

abbrev pub invariant-loop : goal.invariant-loop
invariant-loop l = (listing l.feed).whole ≡ (entries_from l.feed (l.count - l.counter) l.low l.at).whole
