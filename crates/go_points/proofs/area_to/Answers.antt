use Rattle.lists.proofs.Prelude.{◌≡◌, sym, ap, ◌∙◌, List, ◌∷◌, ℕ}
use Rattle.values.proofs.Steps.{stepped, read-cons}
use Rattle.go_points.specs.Area.{area_of}
use Rattle.go_points.proofs.area_to.Goals as goal

behind : (a b : ℕ) {l r : List ℕ} → l ≡ r → area_of (a ∷ b ∷ 0x3a ∷ r) ≡ area_of (a ∷ b ∷ 0x3a ∷ l)
behind a b e = ap (λ (z : List ℕ). area_of (a ∷ b ∷ 0x3a ∷ z)) (sym e)

pub returns-in_default : goal.returns-in_default
unfolding area_of
returns-in_default c = let args = c.args in
    let s = args.s.now in
    behind args.a args.b (stepped s _ c.next_read.ensures c.in_default.is)

pub returns-in_default-next_read : goal.returns-in_default-next_read
unfolding area_of
returns-in_default-next_read c = let args = c.args in
    let s = args.s.now in
    behind args.a args.b (read-cons s (stepped s _ c.next_read.ensures c.in-Some.is) (stepped s _ c.next_read-2.ensures c.in_default-next_read.is))

pub returns-in_default-next_read-2 : goal.returns-in_default-next_read-2
unfolding area_of
returns-in_default-next_read-2 c = let args = c.args in
    let s = args.s.now in
    let next-read = c.next_read in
    c.area_of.ensures ∙ behind args.a args.b (read-cons s (stepped s _ next-read.ensures c.in-Some.is) (read-cons s (stepped s _ c.next_read-2.ensures c.in-Some-next_read.is) (stepped s _ c.next_read-3.ensures c.in_default-next_read-2.is)))

pub returns : goal.returns
unfolding area_of
returns c = let args = c.args in
    let s = args.s.now in
    let next-read = c.next_read in
    behind args.a args.b (read-cons s (stepped s _ next-read.ensures c.in-Some.is) (read-cons s (stepped s _ c.next_read-2.ensures c.in-Some-next_read.is) (stepped s _ c.next_read-3.ensures c.in-Some-next_read-2.is).0))
