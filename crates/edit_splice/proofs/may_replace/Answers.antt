use Rattle.edit_splice.proofs.May.{may-turned, may-beyond, may-unlent, may-room}
use Rattle.edit_splice.proofs.may_replace.Goals as goal

pub returns-then-end-start : goal.returns-then-end-start
returns-then-end-start c = may-turned _ _ _ _ _ c.if-end-start.true

pub returns-then-used-end : goal.returns-then-used-end
returns-then-used-end c = may-beyond _ _ _ _ _ c.if-end-start.false c.if-used-end.true

pub returns-then-bytes-used : goal.returns-then-bytes-used
returns-then-bytes-used c = may-unlent _ _ _ _ _ c.if-end-start.false c.if-used-end.false c.if-bytes-used.true

pub returns : goal.returns
returns c = may-room _ _ _ _ _ c.if-end-start.false c.if-used-end.false c.if-bytes-used.false
