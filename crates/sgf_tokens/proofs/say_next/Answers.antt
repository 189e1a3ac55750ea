use Rattle.lists.proofs.Prelude.{arith}
use Rattle.lexer.proofs.Within.{found_within}
use Rattle.sgf_tokens.proofs.say_next.Goals as goal

pub say_property-requires : goal.say_property-requires
say_property-requires c = let w = found_within c.args.text.now _ _ _ c.token_at-stepped.ensures.token-is c.in-Property.is in
    omega arith
