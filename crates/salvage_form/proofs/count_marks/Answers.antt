use Rattle.lists.proofs.Prelude.{◌≡◌, ◌<◌, Bool, true, false, length, arith}
use Rattle.std.specs.Prelude.{count_by}
use Rattle.std.proofs.lemmas.List.Sums.{count_by-le-length}
use Rattle.salvage_form.proofs.Counted.{marks-counted, marks-turn, marks-end}
use Rattle.salvage_form.proofs.count_marks.Goals.{then-marked, else-marked}
use Rattle.salvage_form.proofs.count_marks.Goals as goal

pub overflow_add-n : goal.overflow_add-n
overflow_add-n c = omega (arith, c.loop-marked.invariant, count_by-le-length (λ (m : Bool). m) c.args.marks.now, c.requires)

pub loop-marked-preserved : goal.loop-marked-preserved
loop-marked-preserved c =
    let marks = c.args.marks.now in
    let p = c.loop-marked.invariant in
    let h : c.loop-marked.marked-index < length marks = omega (arith, c.loop-marked-test.true, c.requires) in
    elim c.if-marked.branch [
      | then-marked w ↦ rw w.n-is (marks-turn marks _ _ _ true h w.if-marked.true p)
      | else-marked w ↦ rw w.n-is (omega (arith, marks-turn marks _ _ _ false h w.if-marked.false p))
    ]

pub returns : goal.returns
returns c =
    let marks = c.args.marks.now in
    let e : c.loop-marked.n ≡ count_by (λ (m : Bool). m) marks =
    marks-end marks _ _ _ (omega (arith, c.loop-marked-test.false, c.requires)) c.loop-marked.invariant in
    (omega (arith, e, marks-counted 0 marks), omega (arith, e, count_by-le-length (λ (m : Bool). m) marks, c.requires))
