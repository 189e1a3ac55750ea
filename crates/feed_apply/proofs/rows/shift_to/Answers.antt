use Rattle.lists.proofs.Prelude.{◌-◌, ◌/◌, min, length, ◌≡◌, sym, ◌∙◌, arith}
use Rattle.edit_rows.proofs.Shifting.{before-all}
use Rattle.feed_apply.proofs.rows.shift_to.Goals as goal

pub returns-then-v-n : goal.returns-then-v-n
returns-then-v-n c = let a = c.args in
    let p = c.requires in
    let z = c.shift_all_names.ensures in
    let many = min a.m (length a.properties.now / 4 - a.k) in
    let e : a.v ≡ a.n = c.if-v-n.true in
    (z.0 ∙ sym (before-all a.properties.now a.v a.k many (λ j y u. omega (arith, e, p j y (omega arith)))), z.1)

pub returns : goal.returns
returns c = c.shift_names.ensures
