use Rattle.lists.proofs.Prelude.{◌≡◌, drop}
use Rattle.season_tag.specs.Tag.{tag_from}
use Rattle.season_tag.proofs.tag_on.Given as goal

abbrev pub invariant-loop-b : goal.invariant-loop-b
invariant-loop-b l = tag_from l.h (drop l.b-index l.s) ≡ tag_from l.initial.h l.s
