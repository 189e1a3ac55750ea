use Rattle.lists.proofs.Prelude.{ℕ, ◌+◌, ◌-◌, ◌≡◌, ap, ◌∙◌, arith, drop, paste}
use Rattle.edit_splice.proofs.Parted.{right-parted}
use Rattle.edit_splice.proofs.open_up.Goals as goal

pub returns : goal.returns
returns c = let a = c.args in
    let p = c.requires in
    let m = c.behind_step-tail.result in
    let e : a.n - m + m ≡ a.n = omega (arith, c.behind_step-tail.ensures) in
    right-parted a.buffer.now _ _ a.from a.to (a.n - m) m p.0 (omega (arith, e, p.1)) c.move_right.ensures c.move_right-2.ensures
    ∙ ap (λ (k : ℕ). paste a.buffer.now a.to (drop a.from a.buffer.now) k) e
