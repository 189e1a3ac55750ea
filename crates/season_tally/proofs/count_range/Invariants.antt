use Rattle.season_tally.specs.Locals.{played_at, Goes, TagsFirst}
use Rattle.season_tally.proofs.count_range.Given as goal

abbrev pub invariant-loop-p : goal.invariant-loop-p
invariant-loop-p l = Goes (played_at l.rule l.text l.properties l.values) l.fn.from l.initial.sum l.p l.sum × TagsFirst l.bytes l.first
