use Rattle.lists.proofs.Prelude.{sym, ◌∙◌, arith, length-take, length-take-le}
use Rattle.store_bytes.proofs.Lists.{sets-out, sets-room}
use Rattle.store_bytes.proofs.put_bytes.Goals as goal

pub returns-then-out-at : goal.returns-then-out-at
returns-then-out-at c = let a = c.args in
    record { place = c.saturating_add-next.ensures; bytes = sym (sets-out a.out.now a.at a.s.now c.if-out-at.true) }

pub slice_bounds-copy-end : goal.slice_bounds-copy-end
slice_bounds-copy-end c = let a = c.args in
    sym (length-take-le c.min-n.result a.s.now (omega (arith, c.min-n.ensures)))

pub copy-requires : goal.copy-requires
copy-requires c = simp length-take (omega (arith, c.min-n.ensures, c.if-out-at.false))

pub returns : goal.returns
returns c = let a = c.args in
    record {
      place = c.saturating_add-next.ensures;
      bytes = c.copy.ensures ∙ sets-room a.out.now a.at a.s.now c.min-n.result (omega (arith, c.if-out-at.false)) c.min-n.ensures;
    }
