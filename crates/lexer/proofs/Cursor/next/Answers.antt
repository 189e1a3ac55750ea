use Rattle.lists.proofs.Prelude.{refl, arith}
use Rattle.lexer.proofs.Within.{found_within, behind-fits, stepped}
use Rattle.lexer.proofs.Cursor.next.Goals as goal

pub place_behind-next-requires : goal.place_behind-next-requires
place_behind-next-requires c = let s = c.args.s.now in
    let at = c.args.self.at in
    let token = c.next_token-token.result in
    behind-fits s at token (omega arith) (omega arith) (found_within s at token token c.next_token-token.ensures refl)

pub returns : goal.returns
returns c = stepped c.args.s.now c.args.self.at c.next_token-token.ensures c.place_behind-next.ensures
