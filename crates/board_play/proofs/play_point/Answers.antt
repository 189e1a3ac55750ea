use Rattle.lists.proofs.Prelude.{refl, arith}
use Rattle.board_play.proofs.Playing.{playable-player, playable-place, playable-board, near-made}
use Rattle.board_play.proofs.play_point.Goals as goal

pub overflow_sub-colour : goal.overflow_sub-colour
overflow_sub-colour c = let a = c.args in let x = playable-player a.columns a.rows a.colour a.p c.requires in omega arith

pub take_sides-taken-requires : goal.take_sides-taken-requires
take_sides-taken-requires c = let a = c.args in let x = playable-player a.columns a.rows a.colour a.p c.requires in (λ k. omega arith, playable-board a.columns a.rows a.colour a.p c.requires, record { column = refl; row = refl })

pub take_point-lost-requires : goal.take_point-lost-requires
take_point-lost-requires c = let a = c.args in let x = playable-player a.columns a.rows a.colour a.p c.requires in (λ k. omega arith, playable-board a.columns a.rows a.colour a.p c.requires, record { column = refl; row = refl })

pub returns : goal.returns
returns c = let a = c.args in
    let s = c.set_stone-stood.ensures.within (playable-place a.columns a.rows a.colour a.p c.requires) in
    (s.0, near-made a.columns a.rows a.colour a.p a.stones.now s.1 c.take_sides-taken.ensures c.take_point-lost.ensures)
