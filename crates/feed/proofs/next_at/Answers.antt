use Rattle.lists.proofs.Prelude.{◌+◌, sym, ◌∙◌, subst, arith}
use Rattle.feed_numerals.specs.Numeral.{numeral_limit, Below}
use Rattle.feed_numerals.proofs.Groups.{numeral-within}
use Rattle.feed.proofs.Entries.{next-unnumbered, next-falling, next-unsized, next-short, next_one}
use Rattle.feed.proofs.next_at.Goals as goal

pub returns-then-value-low : goal.returns-then-value-low
returns-then-value-low c = let a = c.args in
    let e = sym c.read_numeral.ensures.0 ∙ c.in_ok-value.was in
    (next-falling a.feed.now a.low a.at c.in_ok-value.value c.in_ok-value.n e c.if-value-low.true, tt)

pub overflow_add-at : goal.overflow_add-at
overflow_add-at c = let a = c.args in
    let e = sym c.read_numeral.ensures.0 ∙ c.in_ok-value.was in
    omega (arith, numeral-within a.feed.now a.at c.in_ok-value.value c.in_ok-value.n e, c.well_formed)

pub overflow_add-from : goal.overflow_add-from
overflow_add-from c = let a = c.args in
    let e = sym c.read_numeral.ensures.0 ∙ c.in_ok-value.was in
    omega (arith, numeral-within a.feed.now a.at c.in_ok-value.value c.in_ok-value.n e, c.well_formed)

pub overflow_add-from-2 : goal.overflow_add-from-2
overflow_add-from-2 c = let a = c.args in
    let e = sym c.read_numeral.ensures.0 ∙ c.in_ok-value.was in
    let f = sym c.read_numeral-2.ensures.0 ∙ c.in_ok-size.was in
    omega (arith, numeral-within a.feed.now (a.at + c.in_ok-value.n) c.in_ok-size.size c.in_ok-size.m f, c.well_formed)

pub overflow_sub-feed : goal.overflow_sub-feed
overflow_sub-feed c = let a = c.args in
    let e = sym c.read_numeral.ensures.0 ∙ c.in_ok-value.was in
    let f = sym c.read_numeral-2.ensures.0 ∙ c.in_ok-size.was in
    numeral-within a.feed.now (a.at + c.in_ok-value.n) c.in_ok-size.size c.in_ok-size.m f

pub returns-then-feed-from : goal.returns-then-feed-from
returns-then-feed-from c = let a = c.args in
    let e = sym c.read_numeral.ensures.0 ∙ c.in_ok-value.was in
    let f = sym c.read_numeral-2.ensures.0 ∙ c.in_ok-size.was in
    (next-short a.feed.now a.low a.at c.in_ok-value.value c.in_ok-value.n e c.if-value-low.false c.in_ok-size.size c.in_ok-size.m f (omega (arith, c.if-feed-from.true, numeral-within a.feed.now (a.at + c.in_ok-value.n) c.in_ok-size.size c.in_ok-size.m f)), tt)

pub overflow_add-result : goal.overflow_add-result
overflow_add-result c = let a = c.args in
    let e = sym c.read_numeral.ensures.0 ∙ c.in_ok-value.was in
    let f = sym c.read_numeral-2.ensures.0 ∙ c.in_ok-size.was in
    omega (arith, c.if-feed-from.false, numeral-within a.feed.now (a.at + c.in_ok-value.n) c.in_ok-size.size c.in_ok-size.m f, c.well_formed)

pub returns-in_err-value : goal.returns-in_err-value
returns-in_err-value c = let a = c.args in
    rw c.from_residual.ensures (next-unnumbered a.feed.now a.low a.at (sym c.read_numeral.ensures.0 ∙ c.in_err-value.was), tt)

pub returns-in_err-size : goal.returns-in_err-size
returns-in_err-size c = let a = c.args in
    let e = sym c.read_numeral.ensures.0 ∙ c.in_ok-value.was in
    rw c.from_residual-in_err-size.ensures (next-unsized a.feed.now a.low a.at c.in_ok-value.value c.in_ok-value.n e c.if-value-low.false (sym c.read_numeral-2.ensures.0 ∙ c.in_err-size.was), tt)

pub returns : goal.returns
returns c = let a = c.args in
    let e = sym c.read_numeral.ensures.0 ∙ c.in_ok-value.was in
    let f = sym c.read_numeral-2.ensures.0 ∙ c.in_ok-size.was in (
      next_one a.feed.now a.low a.at c.in_ok-value.value c.in_ok-value.n e c.if-value-low.false c.in_ok-size.size c.in_ok-size.m f (omega (arith, c.if-feed-from.false, numeral-within a.feed.now (a.at + c.in_ok-value.n) c.in_ok-size.size c.in_ok-size.m f)),
      (
        c.if-value-low.false,
        subst (Below numeral_limit) c.in_ok-value.was c.read_numeral.ensures.1,
        omega arith,
        omega (arith, c.if-feed-from.false, numeral-within a.feed.now (a.at + c.in_ok-value.n) c.in_ok-size.size c.in_ok-size.m f),
      ),
    )
