use Rattle.values.proofs.Spelling.{digits-part}
use Rattle.store_bytes.proofs.Written.{wrote-is}
use Rattle.values.proofs.spell.put_decimal.Goals as goal

pub returns : goal.returns
returns c = let digits_of = c.digits_of-d in
    wrote-is (digits-part digits_of.result.bytes digits_of.result.from digits_of.ensures.2 digits_of.ensures.0) c.put_bytes.ensures
