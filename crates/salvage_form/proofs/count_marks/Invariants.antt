use Rattle.lists.proofs.Prelude.{◌+◌, ◌≡◌, Bool, drop}
use Rattle.std.specs.Prelude.{count_by}
use Rattle.salvage_form.proofs.count_marks.Given as goal

abbrev pub invariant-loop-marked : goal.invariant-loop-marked
invariant-loop-marked l = l.n + count_by (λ (m : Bool). m) (drop l.marked-index l.marks) ≡ count_by (λ (m : Bool). m) l.marks
