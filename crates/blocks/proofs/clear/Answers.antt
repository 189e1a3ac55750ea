use Rattle.blocks.proofs.Ending.{clears}
use Rattle.std.proofs.lemmas.Slice.{put_mid-paste}
use Rattle.lists.proofs.Prelude.{ℕ, sym, ap, ◌∙◌, ◌-◌, ◌/◌, ◌*◌, refl, arith, length, drop, replicate, length-drop, length-take-le, length-replicate}
use Rattle.blocks.proofs.clear.Goals as goal

pub returns : goal.returns
returns c =
    let t = c.args.rows.now in
    let a = c.args.first * 3 in
    let n = length t / 3 * 3 - a in
    let e = length-take-le n (drop a t) (omega (arith, length-drop a t)) in
    put_mid-paste _ _ _ _ (replicate n 0) n (c.fill.ensures.after (λ y e. e) ∙ ap (λ (m : ℕ). replicate m 0) e) refl (sym (length-replicate n 0))
    ∙ clears t c.args.first n refl c.requires
