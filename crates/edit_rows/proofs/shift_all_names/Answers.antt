use Rattle.lists.proofs.Prelude.{ℕ, ap, ◌∙◌, ◌≡◌, arith}
use Rattle.edit_rows.specs.LocalsShift.{names_shifted}
use Rattle.edit_rows.proofs.Shifting.{names-none, names_moved}
use Rattle.edit_rows.proofs.shift_all_names.Goals as goal

pub loop-i-init : goal.loop-i-init
loop-i-init c = names-none _ _ _ _ (omega (arith, c.lent-left.ensures))

pub loop-i-preserved : goal.loop-i-preserved
loop-i-preserved c = names_moved _ _ _ _ c.loop-i.invariant c.loop-i-test.true c.move_row.ensures

pub returns : goal.returns
returns c = let a = c.args in
    let n = c.lent-left.result in
    let e : c.loop-i.i ≡ n = omega (arith, c.loop-i-test.false) in
    (c.lent-left.ensures, c.loop-i.invariant.is ∙ ap (λ (z : ℕ). names_shifted a.by a.k z a.properties.now) e)
