use Rattle.lists.proofs.Prelude.{arith, lt-ltb, le-ltb}
use Rattle.feed_numerals.specs.Numeral.{numeral_limit}
use Rattle.feed.proofs.Making.{made-large, made-full, made-put}
use Rattle.feed.proofs.make.put_count.Goals as goal

pub returns-then-count-ge-LIMIT : goal.returns-then-count-ge-LIMIT
returns-then-count-ge-LIMIT c = made-large (le-ltb c.args.count numeral_limit c.if-count-ge-LIMIT.true)

pub returns-then-out-numeral_size : goal.returns-then-out-numeral_size
returns-then-out-numeral_size c = made-full (lt-ltb c.args.count numeral_limit c.if-count-ge-LIMIT.false) (omega (arith, c.if-out-numeral_size.true, c.numeral_size.ensures))

pub returns : goal.returns
returns c = let n = c.numeral_size in
    made-put (lt-ltb c.args.count numeral_limit c.if-count-ge-LIMIT.false) (omega (arith, c.well_formed)) (omega (arith, c.if-out-numeral_size.false, n.ensures)) c.put_numeral.ensures
