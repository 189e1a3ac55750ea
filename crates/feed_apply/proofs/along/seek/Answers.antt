use Rattle.lists.proofs.Prelude.{sym, ◌∙◌, subst, arith}
use Rattle.feed_numerals.specs.Numeral.{numeral_limit}
use Rattle.feed.specs.LocalsNext.{Lies}
use Rattle.feed_apply.proofs.Walking.{ahead-end, ahead-fault, ahead-skip, sought-none, sought-one}
use Rattle.feed_apply.proofs.along.seek.Goals as goal

pub returns-then-left-eq0 : goal.returns-then-left-eq0
returns-then-left-eq0 c = let a = c.args in
    let p = c.requires in
    sought-none a.feed.now a.n a.low a.at a.grown a.shrunk p.1 p.2 p.3
    (ahead-end a.feed.now a.n a.left a.low a.at p.0 c.if-left-eq0.true)

pub returns-then-n-value : goal.returns-then-n-value
returns-then-n-value c = let a = c.args in
    let p = c.requires in
    sought-none a.feed.now a.n a.low a.at a.grown a.shrunk p.1 p.2 p.3
    (ahead-skip a.feed.now a.n a.left a.low a.at p.0 c.if-left-eq0.false c.in-Some.value c.in-Some.from c.in-Some.to
    (sym c.next_at.ensures.0 ∙ c.in-Some.is) a.n c.if-n-value.true (omega arith))

pub returns-in-None : goal.returns-in-None
returns-in-None c = let a = c.args in
    let p = c.requires in
    sought-none a.feed.now a.n a.low a.at a.grown a.shrunk p.1 p.2 p.3
    (ahead-fault a.feed.now a.n a.left a.low a.at p.0 c.if-left-eq0.false
    (sym c.next_at.ensures.0 ∙ c.in-None.is))

pub returns-else-n-value : goal.returns-else-n-value
returns-else-n-value c = let a = c.args in
    let p = c.requires in
    sought-one a.feed.now a.n a.low a.at a.grown a.shrunk p.1 p.2 p.3 a.left c.in-Some.value c.in-Some.from c.in-Some.to numeral_limit
    p.0 c.if-left-eq0.false (sym c.next_at.ensures.0 ∙ c.in-Some.is)
    (subst (Lies a.feed.now a.low numeral_limit) c.in-Some.is c.next_at.ensures.1) (omega (arith, c.if-n-value.false))
