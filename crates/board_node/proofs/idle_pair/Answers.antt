use Rattle.lists.proofs.Prelude.{Bool, subst, arith}
use Rattle.std.specs.Prelude.{MatchBool}
use Rattle.std.specs.Char.{IsAsciiUppercase, IsNotAsciiUppercase}
use Rattle.board_node.proofs.Idle.{idle-pair}
use Rattle.board_node.proofs.idle_pair.Goals as goal

pub returns-then-is_ascii_uppercase : goal.returns-then-is_ascii_uppercase
returns-then-is_ascii_uppercase c = λ e. let b = c.args.b in
    let x = c.if-is_ascii_uppercase.ensures.cases in
    let y = subst (λ (r : Bool). MatchBool r (IsAsciiUppercase b) (IsNotAsciiUppercase b)) e c.is_ascii_uppercase-then-is_ascii_uppercase.ensures.cases in
    idle-pair c.args.a b (omega (arith, x, c.if-a-eq65.false)) (omega (arith, x)) (omega (arith, y)) (omega (arith, y))
