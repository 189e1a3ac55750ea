use Rattle.lists.proofs.Prelude.{ℕ, ◌<◌, ◌≤◌, length, arith, length-replicate}
use Rattle.board_take.proofs.Sweeping.{part-length, part-coloured, part-swept}
use Rattle.board_take.proofs.Taking.{takes-nothing}
use Rattle.board_take.proofs.Listing.{few-coloured, few-takes}
use Rattle.board_take.proofs.take_short.Goals as goal

pub returns-then-lives_near : goal.returns-then-lives_near
returns-then-lives_near c = let a = c.args in (takes-nothing a.columns a.rows a.colour a.p a.stones.now (λ s. c.lives_near.ensures c.if-lives_near.true), omega arith)

pub few-n-requires : goal.few-n-requires
few-n-requires c = (c.requires.1, length-replicate {A = ℕ} 32 0)

pub returns-then-n-eq0 : goal.returns-then-n-eq0
returns-then-n-eq0 c = let a = c.args in (takes-nothing a.columns a.rows a.colour a.p a.stones.now (λ s. c.few-n.ensures.alive c.if-n-eq0.true), omega arith)

pub take_long-requires : goal.take_long-requires
take_long-requires c = c.requires

pub returns-then-n-ge32 : goal.returns-then-n-ge32
returns-then-n-ge32 c = c.take_long.ensures

pub clear-requires : goal.clear-requires
clear-requires c = let a = c.args in
    let n = c.few-n.result in
    let q = c.few-n.new.queue in
    let l : n ≤ length q = omega (arith, c.few-n.ensures.long, c.if-n-ge32.false) in
    let coloured = few-coloured a.columns a.rows a.stones.now a.colour a.p c.few-n.ensures c.requires.1 (omega (arith, c.if-n-eq0.false)) c.if-n-ge32.false in
    (c.requires.0, omega (arith, part-length q n l, c.if-n-ge32.false), part-coloured q n l a.stones.now a.colour coloured)

pub returns : goal.returns
returns c = let a = c.args in
    let n = c.few-n.result in
    let q = c.few-n.new.queue in
    let l : n ≤ length q = omega (arith, c.few-n.ensures.long, c.if-n-ge32.false) in
    let swept = part-swept q n l c.clear.ensures.0 in
    let some : 0 < n = omega (arith, c.if-n-eq0.false) in
    (few-takes a.columns a.rows a.stones.now a.colour a.p c.few-n.ensures c.requires.1 some c.if-n-ge32.false swept, c.clear.ensures.1)
