use Rattle.lists.proofs.Prelude.{ℕ, suc, ◌-◌, ◌/◌, ◌%◌, ◌≡◌, subst, ap, ◌∙◌, arith}
use Rattle.season_tag.specs.Hex.{hex_digit}
use Rattle.season_tag.proofs.Putting.{Putting, putting-first, putting-next, putting-end, pow-four}
use Rattle.season_tag.proofs.put_hex.Goals as goal

pub loop-k-init : goal.loop-k-init
loop-k-init c = let a = c.args in putting-first a.n a.out.now a.at (omega arith)

pub loop-k-preserved : goal.loop-k-preserved
loop-k-preserved c = let a = c.args in
    let l = c.loop-k in
    let e : l.k ≡ suc (l.k - 1) = omega (arith, c.loop-k-test.true) in
    let p = subst (λ (z : ℕ). Putting a.n a.out.now a.at l.out l.next z) e l.invariant in
    putting-next _ _ _ p (omega (arith, c.well_formed)) (c.letter.ensures ∙ ap (λ (z : ℕ). hex_digit (a.n / z % 16)) (pow-four (l.k - 1)))
    c.put_byte-next.ensures

pub shape_of-out : goal.shape_of-out
shape_of-out c = c.loop-k.invariant.len

pub returns : goal.returns
returns c = let a = c.args in
    let l = c.loop-k in
    let e : l.k ≡ 0 = omega (arith, c.loop-k-test.false) in
    putting-end (subst (λ (z : ℕ). Putting a.n a.out.now a.at l.out l.next z) e l.invariant)
