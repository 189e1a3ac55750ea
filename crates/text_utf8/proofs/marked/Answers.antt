use Rattle.text_utf8.proofs.Turns.{marked-white, marked-first, marked_next}
use Rattle.text_utf8.proofs.marked.Goals as goal

pub returns-then-white : goal.returns-then-white
returns-then-white c = let a = c.args in marked-white a.seen a.white a.start a.end c.if-white.true

pub returns-then-seen-eq0 : goal.returns-then-seen-eq0
returns-then-seen-eq0 c = marked-first c.args.seen c.args.white c.args.start c.args.end c.if-white.false c.if-seen-eq0.true c.requires

pub returns : goal.returns
returns c = marked_next c.args.seen c.args.white c.args.start c.args.end c.if-white.false c.if-seen-eq0.false c.requires
