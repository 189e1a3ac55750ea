use Rattle.lists.proofs.Prelude.{◌-◌}
use Rattle.feed_laid.specs.OfMemory.{own_bytes}
use Rattle.feed_laws.specs.LocalsSweep.{until, lesser}
use Rattle.feed_apply.specs.LocalsSizes.{Tallied}
use Rattle.feed_apply.proofs.Swept.{bare, Swept, Carried}
use Rattle.feed_apply.proofs.sweep.rewrite.Given as goal

abbrev pub invariant-loop-s : goal.invariant-loop-s
invariant-loop-s l = Tallied l.values l.feed l.n l.s × Swept l.initial.text l.used l.n l.values (until l.s.due (lesser (bare l.initial.text l.used l.n l.values) l.feed) (own_bytes (bare l.initial.text l.used l.n l.values))) l.text l.length

abbrev pub decreases-loop-s : goal.decreases-loop-s
decreases-loop-s l = l.n - l.s.due

abbrev pub invariant-loop-t : goal.invariant-loop-t
invariant-loop-t l = Tallied l.values l.feed l.n l.t × Carried l.feed l.values l.n l.initial.text l.initial.length l.t.due l.text l.length

abbrev pub decreases-loop-t : goal.decreases-loop-t
decreases-loop-t l = l.n - l.t.due
