use Rattle.lists.proofs.Prelude.{ap, ◌∙◌, ◌&&◌, arith, le-ltb, ltb, length, and-false}
use Rattle.feed_numerals.specs.Numeral.{numeral_limit}
use Rattle.feed_numerals.proofs.Spelling.{spelled-few}
use Rattle.store_bytes.proofs.Written.{wrote-more, wrote-length}
use Rattle.feed.proofs.Making.{made-large, made-full, made-put, both-held, correction-length}
use Rattle.feed.proofs.make.put_correction.Goals as goal

pub returns-then-value-ge-LIMIT : goal.returns-then-value-ge-LIMIT
returns-then-value-ge-LIMIT c = let a = c.args in
    made-large (ap (λ x. x && ltb (length a.bytes.now) numeral_limit) (le-ltb a.value numeral_limit c.if-value-ge-LIMIT.true))

pub returns-then-bytes-ge-LIMIT : goal.returns-then-bytes-ge-LIMIT
returns-then-bytes-ge-LIMIT c = let a = c.args in
    made-large (ap (λ x. ltb a.value numeral_limit && x) (le-ltb (length a.bytes.now) numeral_limit c.if-bytes-ge-LIMIT.true) ∙ and-false (ltb a.value numeral_limit))

pub overflow_add-size : goal.overflow_add-size
overflow_add-size c = omega (arith, spelled-few c.args.value, spelled-few (length c.args.bytes.now), c.numeral_size.ensures, c.numeral_size-2.ensures)

pub overflow_add-size-2 : goal.overflow_add-size-2
overflow_add-size-2 c = omega (arith, spelled-few c.args.value, spelled-few (length c.args.bytes.now), c.numeral_size.ensures, c.numeral_size-2.ensures, c.if-bytes-ge-LIMIT.false)

pub returns-then-out-size : goal.returns-then-out-size
returns-then-out-size c = let a = c.args in
    made-full (both-held a.value (length a.bytes.now) c.if-value-ge-LIMIT.false c.if-bytes-ge-LIMIT.false)
    (omega (arith, c.if-out-size.true, correction-length a.value a.bytes.now, c.numeral_size.ensures, c.numeral_size-2.ensures))

pub returns : goal.returns
returns c = let a = c.args in
    let good = c.well_formed in
    let x = c.put_numeral-next.ensures in
    let y = c.put_numeral-from.ensures in
    let z = c.put_bytes.ensures in
    made-put (both-held a.value (length a.bytes.now) c.if-value-ge-LIMIT.false c.if-bytes-ge-LIMIT.false) (omega (arith, good))
    (omega (arith, c.if-out-size.false, correction-length a.value a.bytes.now, c.numeral_size.ensures, c.numeral_size-2.ensures))
    (wrote-more (omega (arith, good)) x (wrote-more (omega (arith, good, wrote-length x)) y z))
