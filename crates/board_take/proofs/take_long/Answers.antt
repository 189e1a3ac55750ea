use Rattle.lists.proofs.Prelude.{◌≤◌, length, arith}
use Rattle.board_take.proofs.Queue.{held_new}
use Rattle.board_take.proofs.Sweeping.{part-length, part-coloured, part-swept}
use Rattle.board_take.proofs.Taking.{takes-nothing, seed-stone, lives-on, grown-coloured, takes-group}
use Rattle.board_take.proofs.take_long.Goals as goal

pub returns-then-lives : goal.returns-then-lives
returns-then-lives c = let a = c.args in (takes-nothing a.columns a.rows a.colour a.p a.stones.now (λ s. c.lives.ensures c.if-lives.true), omega arith)

pub push-n-requires : goal.push-n-requires
push-n-requires c = held_new

pub grow-r-requires : goal.grow-r-requires
grow-r-requires c = let a = c.args in (c.push-n.ensures.held, seed-stone a.columns a.rows a.colour a.p a.stones.now held_new c.requires.1 c.push-n.ensures)

pub returns-then-r-gt2704 : goal.returns-then-r-gt2704
returns-then-r-gt2704 c = let a = c.args in (takes-nothing a.columns a.rows a.colour a.p a.stones.now (λ s. lives-on a.columns a.rows a.colour a.p a.stones.now held_new s c.push-n.ensures (c.grow-r.ensures.stopped c.if-r-gt2704.true).1), omega arith)

pub clear-requires : goal.clear-requires
clear-requires c = let a = c.args in
    let n = c.grow-r.result in
    let q = c.grow-r.new.queue in
    let g = c.grow-r.ensures.ended c.if-r-gt2704.false in
    let l : n ≤ length q = omega (arith, g.held.q-long, c.if-r-gt2704.false) in
    let coloured = grown-coloured a.columns a.rows a.colour a.p a.stones.now held_new c.requires.1 c.push-n.ensures g in
    (c.requires.0, omega (arith, part-length q n l, c.if-r-gt2704.false), part-coloured q n l a.stones.now a.colour coloured)

pub returns : goal.returns
returns c = let a = c.args in
    let n = c.grow-r.result in
    let q = c.grow-r.new.queue in
    let g = c.grow-r.ensures.ended c.if-r-gt2704.false in
    let l : n ≤ length q = omega (arith, g.held.q-long, c.if-r-gt2704.false) in (
      takes-group a.columns a.rows a.colour a.p a.stones.now held_new c.requires.1 c.push-n.ensures g (part-swept q n l c.clear.ensures.0),
      c.clear.ensures.1,
    )
