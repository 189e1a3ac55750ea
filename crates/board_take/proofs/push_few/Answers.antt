use Rattle.lists.proofs.Prelude.{ℕ, ◌≤◌, refl, sym, subst, length, take, get_or, eqb-true, arith}
use Rattle.board_take.specs.LocalsFlood.{Found, Here}
use Rattle.board_take.proofs.Sweeping.{part-found}
use Rattle.board_take.proofs.Listing.{few-none, few-put}
use Rattle.board_take.proofs.push_few.Goals as goal

pub returns-then-q-ge2704 : goal.returns-then-q-ge2704
returns-then-q-ge2704 c = let a = c.args in few-none (Here a.stones.now a.colour a.q) a.queue.now a.n c.requires.0 c.requires.1 (λ s p y. absurd (omega (arith, y.1, c.if-q-ge2704.true)))

pub returns-then-stones-q : goal.returns-then-stones-q
returns-then-stones-q c = let a = c.args in few-none (Here a.stones.now a.colour a.q) a.queue.now a.n c.requires.0 c.requires.1 (λ s p y. absurd (c.if-stones-q.true y.2))

pub returns-then-contains : goal.returns-then-contains
returns-then-contains c = let a = c.args in
    let n : a.n ≤ length a.queue.now = omega (arith, c.requires.0, c.requires.1) in
    let x = c.if-contains.ensures.cases in
    let found = part-found a.queue.now a.n n x.0 x.1 (eqb-true (get_or (take a.n a.queue.now) x.0 0) a.q (x.2 0)) in
    few-none (Here a.stones.now a.colour a.q) a.queue.now a.n c.requires.0 c.requires.1 (λ s p y. subst (λ (z : ℕ). Found a.queue.now a.n z) (sym y.0) found)

pub returns-then-n-ge32 : goal.returns-then-n-ge32
returns-then-n-ge32 c = let a = c.args in few-none (Here a.stones.now a.colour a.q) a.queue.now a.n c.requires.0 c.requires.1 (λ s p y. absurd (omega (arith, c.if-n-ge32.true)))

pub returns : goal.returns
returns c = let a = c.args in few-put a.stones.now a.colour a.queue.now a.n a.q c.requires.0 c.if-n-ge32.false (refl, c.if-q-ge2704.false, c.if-stones-q.false)
