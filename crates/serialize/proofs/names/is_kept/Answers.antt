use Rattle.serialize.proofs.AllNames.{kept-nameless, kept-named, kept-other}
use Rattle.serialize.proofs.names.is_kept.Goals as goal

pub returns-then-not-is_named : goal.returns-then-not-is_named
returns-then-not-is_named c = let args = c.args in
    kept-nameless args.bad args.name.now c.if-not-mends.false c.is_named.ensures c.if-not-is_named.true

pub returns-then-not-bad : goal.returns-then-not-bad
returns-then-not-bad c = let args = c.args in
    kept-named args.mends args.name.now c.is_named.ensures c.if-not-is_named.false c.if-not-bad.true

pub returns : goal.returns
returns c = let args = c.args in
    kept-other args.name.now c.if-not-mends.false c.is_named.ensures c.if-not-is_named.false c.if-not-bad.false c.reads_as.ensures
