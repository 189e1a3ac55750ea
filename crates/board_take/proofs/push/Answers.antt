use Rattle.lists.proofs.Prelude.{◌∙◌, ap, arith, false, get_or, ℕ}
use Rattle.board_take.specs.LocalsFlood.{Here}
use Rattle.board_take.proofs.Queue.{held-room, went-none, went-put, went-as}
use Rattle.board_take.proofs.push.Goals as goal

pub returns-then-q-ge2704 : goal.returns-then-q-ge2704
returns-then-q-ge2704 c = let a = c.args in went-none a.marks.now a.queue.now a.n c.requires (Here a.stones.now a.colour a.q) (λ p x. absurd (omega (arith, x.1, c.if-q-ge2704.true)))

pub returns-then-stones-q : goal.returns-then-stones-q
returns-then-stones-q c = let a = c.args in went-none a.marks.now a.queue.now a.n c.requires (Here a.stones.now a.colour a.q) (λ p x. absurd (c.if-stones-q.true x.2))

pub returns-then-marks-q : goal.returns-then-marks-q
returns-then-marks-q c = let a = c.args in went-none a.marks.now a.queue.now a.n c.requires (Here a.stones.now a.colour a.q) (λ p x. ap (λ (z : ℕ). get_or a.marks.now z false) x.0 ∙ c.if-marks-q.true)

pub offset_bounds-queue-n : goal.offset_bounds-queue-n
offset_bounds-queue-n c = let a = c.args in let l = held-room a.marks.now a.queue.now a.n c.requires a.q c.if-q-ge2704.false c.if-marks-q.false in omega arith

pub bounds-queue-n : goal.bounds-queue-n
bounds-queue-n c = let a = c.args in let l = held-room a.marks.now a.queue.now a.n c.requires a.q c.if-q-ge2704.false c.if-marks-q.false in omega (arith, c.requires.q-long)

pub overflow_add-result : goal.overflow_add-result
overflow_add-result c = let a = c.args in let l = held-room a.marks.now a.queue.now a.n c.requires a.q c.if-q-ge2704.false c.if-marks-q.false in omega arith

pub returns : goal.returns
returns c = let a = c.args in went-as (went-put a.marks.now a.queue.now a.n c.requires a.q c.if-q-ge2704.false c.if-marks-q.false) (λ p x. (x, c.if-q-ge2704.false, c.if-stones-q.false)) (λ p x. x.0)
