use Rattle.lists.proofs.Prelude.{ℕ, ◌+◌, ◌-◌, ◌≡◌, ap, ◌∙◌, arith, drop, paste}
use Rattle.edit_splice.proofs.Parted.{copy-own, left-parted}
use Rattle.edit_splice.proofs.close_up.Goals as goal

pub returns-then-to-from : goal.returns-then-to-from
returns-then-to-from c = let a = c.args in copy-own a.buffer.now a.to a.from a.n c.if-to-from.true

pub returns : goal.returns
returns c = let a = c.args in
    let p = c.requires in
    let h = c.before_step-head.result in
    let e : h + (a.n - h) ≡ a.n = omega (arith, c.before_step-head.ensures) in
    left-parted a.buffer.now _ _ a.from a.to h (a.n - h) p.0 (omega (arith, e, p.1)) c.move_left.ensures c.move_left-2.ensures
    ∙ ap (λ (k : ℕ). paste a.buffer.now a.to (drop a.from a.buffer.now) k) e
