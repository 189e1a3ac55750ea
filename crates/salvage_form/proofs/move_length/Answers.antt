use Rattle.lists.proofs.Prelude.{arith}
use Rattle.salvage_form.proofs.Lengths.{move-pass, move-corner, move-point, move-stones, move-raw}
use Rattle.salvage_form.proofs.move_length.Goals as goal

pub returns-then-rule-x : goal.returns-then-rule-x
returns-then-rule-x c = (move-corner c.args.rule c.args.value.now c.read_move.ensures c.in-Move.is c.if-rule-x.true, omega arith)

pub returns-in-Pass : goal.returns-in-Pass
returns-in-Pass c = (move-pass c.args.rule c.args.value.now c.read_move.ensures c.in-Pass.is, omega arith)

pub returns-else-rule-x : goal.returns-else-rule-x
returns-else-rule-x c = (move-point c.args.rule c.args.value.now c.read_move.ensures c.in-Move.is c.if-rule-x.false, omega arith)

pub returns-in-Handicap : goal.returns-in-Handicap
returns-in-Handicap c = let d = c.count_digits.ensures.1 in (move-stones c.args.rule c.args.value.now c.read_move.ensures c.in-Handicap.is c.count_digits.ensures.0, omega arith)

pub returns-in_default : goal.returns-in_default
returns-in_default c = let p = c.requires in (move-raw c.args.rule c.args.value.now c.read_move.ensures c.in_default.in_default-own.keys4, omega arith)
