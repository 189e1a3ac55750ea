use Rattle.lists.proofs.Prelude.{ℕ, ◌+◌, ◌-◌, ◌≡◌, refl, sym, ap, ◌∙◌, arith, length, take, drop, replicate, length-replicate, length-drop, length-take-le}
use Rattle.std.proofs.lemmas.Slice.{put_mid-paste}
use Rattle.edit_splice.proofs.Replaced.{replaced-left, replaced-right}
use Rattle.edit_splice.proofs.swap_in.Goals as goal

pub returns-then-to-end : goal.returns-then-to-end
returns-then-to-end c = let g = c.args in
    let b1 = c.close_up.new.buffer in
    let u = g.start + length g.new.now + (g.used - g.end) in
    let m = g.used - u in
    let k : length b1 ≡ length g.buffer.now = c.close_up.auto.buffer in
    let w = c.requires.within in
    let l : length (take m (drop u b1)) ≡ m = length-take-le m (drop u b1) (simp length-drop (omega arith)) in
    let z : c.fill.new.self ≡ replicate m 0 = c.fill.ensures.after (λ y h. h) ∙ ap (λ (n : ℕ). replicate n 0) l in
    replaced-left g.buffer.now g.new.now g.used g.start g.end w _ _ _ c.if-to-end.true c.close_up.ensures
    (put_mid-paste u m b1 c.fill.new.self (replicate m 0) m z refl (sym (length-replicate m 0)))
    c.copy_in.ensures

pub returns : goal.returns
returns c = let g = c.args in
    replaced-right g.buffer.now g.new.now g.used g.start g.end c.requires.within _ _ c.requires.room c.if-to-end.false c.open_up.ensures c.copy_in-2.ensures
