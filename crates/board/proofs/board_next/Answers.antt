use Rattle.parts_props.specs.Props.{properties_at}
use Rattle.lists.proofs.Prelude.{refl}
use Rattle.board.proofs.Next.{node-sides, next-none, next-refused, next-played}
use borrow.Author.Rules.{rules}
use Rattle.board.proofs.board_next.Goals as goal

pub returns-then-number-ne0 : goal.returns-then-number-ne0
returns-then-number-ne0 c = next-none (properties_at c.args.text.now c.args.properties.now c.args.values.now c.args.first c.args.count) c.args.board _ c.if-number-ne0.true refl

pub returns-then-refused : goal.returns-then-refused
returns-then-refused c = next-refused (properties_at c.args.text.now c.args.properties.now c.args.values.now c.args.first c.args.count) c.args.board c.if-number-ne0.false (node-sides c.wide.ensures c.wide-2.ensures c.play_upon-turn.ensures) c.if-refused.true c.refuse.ensures

pub returns : goal.returns
returns c = next-played (properties_at c.args.text.now c.args.properties.now c.args.values.now c.args.first c.args.count) c.args.board c.if-number-ne0.false (node-sides c.wide.ensures c.wide-2.ensures c.play_upon-turn.ensures) c.if-refused.false (let g = c.well_formed.0.1.1.1.1.1.1 in search rules)
