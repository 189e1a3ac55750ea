use Rattle.lists.proofs.Prelude.{◌≡◌, true}
use Rattle.tables.specs.declared.Counts.{Counts}
use Rattle.tables.specs.Memory.{memory}
use Rattle.fit.specs.Fit.{Fit}
use Rattle.season_tally.specs.Locals.{TagsFirst}
use Rattle.fit.proofs.Clauses.{fit-clauses}
use Rattle.season_tally.proofs.Walk.{Walked}
use Rattle.season_tally.proofs.count_moves.Given as goal

abbrev pub invariant-loop-r : goal.invariant-loop-r
invariant-loop-r l = ((c : Counts) → l.m ≡ c.trees → l.n ≡ c.properties → (h : Fit (memory l.text l.used c l.trees l.nodes l.properties l.values) ≡ true)
    → Walked (fit-clauses (memory l.text l.used c l.trees l.nodes l.properties l.values) h) l.r l.from l.moves)
    × TagsFirst l.bytes l.tagged
