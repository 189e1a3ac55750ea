use Rattle.lists.proofs.Prelude.{refl, arith}
use Rattle.board_node.proofs.Seen.{point-seen}
use Rattle.board_node.proofs.seen_point.Goals as goal

pub returns : goal.returns
returns c = let a = c.args in
    let x = c.if-not-is_ascii_lowercase.ensures.cases in
    let y = c.if-not-is_ascii_lowercase-2.ensures.cases in
    point-seen a.columns a.rows a.colour a.a a.b (omega (arith, x)) (omega (arith, x)) (omega (arith, y)) (omega (arith, y)) c.if-columns-i.false c.if-rows-j.false refl refl
