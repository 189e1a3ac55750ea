use Rattle.lists.proofs.Prelude.{◌+◌, refl, ap, ◌∙◌, arith, get_or, set, length-set, sets, take_all}
use Rattle.store_bytes.proofs.Lists.{sets-next}
use Rattle.store_bytes.proofs.copy.Goals as goal

pub loop-i-init : goal.loop-i-init
loop-i-init c = (refl, refl, omega arith)

pub loop-i-preserved : goal.loop-i-preserved
loop-i-preserved c = let a = c.args in
    let l = c.loop-i in (
      ap (λ o. set o (a.at + l.i) (get_or a.s.now l.i 0)) l.invariant.0 ∙ sets-next a.out.now a.at a.s.now l.i 0 c.loop-i-test.true,
      simp length-set l.invariant.1,
      omega arith,
    )

pub shape_of-out : goal.shape_of-out
shape_of-out c = c.loop-i.invariant.1

pub returns : goal.returns
returns c = let a = c.args in
    let l = c.loop-i in
    l.invariant.0 ∙ ap (sets a.out.now a.at) (take_all l.i a.s.now c.loop-i-test.false)
