use Rattle.lists.proofs.Prelude.{ℕ, ◌-◌, ◌*◌, ◌/◌, ◌≡◌, ap, ◌∙◌, arith, min, length}
use Rattle.tables.specs.Each.{tabulate}
use Rattle.tables.specs.Flat.{flat_vals}
use Rattle.lists.specs.Put.{put_at}
use Rattle.edit_rows.specs.LocalsShift.{val_added}
use Rattle.edit_rows.proofs.Shifting.{values-none, values_moved}
use Rattle.edit_rows.proofs.shift_values.Goals as goal

pub loop-i-init : goal.loop-i-init
loop-i-init c = values-none _ _ _ _ (omega (arith, c.lent-left.ensures))

pub loop-i-preserved : goal.loop-i-preserved
loop-i-preserved c = values_moved _ _ _ _ c.loop-i.invariant c.loop-i-test.true c.move_row.ensures

pub returns : goal.returns
returns c = let a = c.args in
    let x = c.loop-i.invariant in
    let e : c.loop-i.i ≡ min a.m (length a.values.now / 2 - a.k) = omega (arith, c.loop-i-test.false, c.lent-left.ensures) in
    x.is ∙ ap (λ (z : ℕ). put_at a.values.now (a.k * 2) (flat_vals (tabulate (val_added a.by a.values.now) a.k z))) e
