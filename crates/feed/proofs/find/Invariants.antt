use Rattle.lists.proofs.Prelude.{◌-◌, ◌≡◌}
use Rattle.feed.specs.Feed.{listing, entries_from}
use Rattle.feed.specs.Find.{found_in}
use Rattle.feed.proofs.find.Given as goal

abbrev pub invariant-loop : goal.invariant-loop
invariant-loop l = found_in (listing l.feed).entries l.k ≡ found_in (entries_from l.feed (l.count - l.counter) l.low l.at).entries l.k
