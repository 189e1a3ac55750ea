use Rattle.lists.proofs.Prelude.{sym, set_out}
use Rattle.store_bytes.proofs.put_byte.Goals as goal

pub returns : goal.returns
returns c = let a = c.args in
    record { place = c.saturating_add.ensures; bytes = sym (set_out a.out.now a.at a.b c.if-at-out.false) }
