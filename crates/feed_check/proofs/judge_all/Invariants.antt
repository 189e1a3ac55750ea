use Rattle.lists.proofs.Prelude.{◌-◌, ◌≡◌}
use Rattle.tables.specs.Each.{tabulate}
use Rattle.fit.specs.Record.{prop_row}
use Rattle.feed.specs.Feed.{listing, entries_from}
use Rattle.feed_check.specs.Check.{corrections_judged}
use Rattle.feed_check.specs.LocalsOwner.{Behind}
use Rattle.feed_check.proofs.judge_all.Given as goal

abbrev pub invariant-loop : goal.invariant-loop
invariant-loop l = (corrections_judged l.text (tabulate (prop_row l.properties) 0 l.n) l.total l.feed (listing l.feed).entries
    ≡ corrections_judged l.text (tabulate (prop_row l.properties) 0 l.n) l.total l.feed (entries_from l.feed (l.count - l.counter) l.low l.at).entries) × Behind l.properties l.n l.p l.low
