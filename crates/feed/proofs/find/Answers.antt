use Rattle.lists.proofs.Prelude.{◌+◌, ◌-◌, ◌≡◌, sym, ap, ◌∙◌, subst, arith}
use Rattle.feed_numerals.specs.Numeral.{numeral_limit}
use Rattle.feed.specs.Feed.{Listing, entries_from}
use Rattle.feed.specs.LocalsNext.{Lies}
use Rattle.feed.specs.Find.{found_in}
use Rattle.feed.proofs.Entries.{found_none, found_here, found-later, listed-end, listed-fault, listed-next, listing-fault, listing-begin}
use Rattle.feed.proofs.find.Goals as goal
use Rattle.std.specs.Prelude.{Some}

pub loop-init : goal.loop-init
loop-init c = let w = c.args.feed.now in
    let k = c.args.k in
    ap (λ (x : Listing). found_in x.entries k) (listing-begin w c.in_ok-count.count c.in_ok-count.at (sym c.read_numeral.ensures.0 ∙ c.in_ok-count.was))

pub returns-in_err-value : goal.returns-in_err-value
returns-in_err-value c = let w = c.args.feed.now in
    let k = c.args.k in
    let l = c.loop in
    c.from_residual-in_err-value.ensures ∙ sym (l.invariant ∙ ap (λ (x : Listing). found_in x.entries k) (listed-fault w (c.in_ok-count.count - l.counter) l.low l.at (omega (arith, c.loop-test.true)) (sym c.next_at.ensures.0 ∙ c.in_err-value.was)) ∙ found_none k)

pub returns-then-value-k : goal.returns-then-value-k
returns-then-value-k c = let w = c.args.feed.now in
    let k = c.args.k in
    let l = c.loop in
    sym (l.invariant ∙ ap (λ (x : Listing). found_in x.entries k) (listed-next w c.in_ok-count.count l.counter l.low l.at c.in_ok-value.value c.in_ok-value.from c.in_ok-value.to c.loop-test.true (sym c.next_at.ensures.0 ∙ c.in_ok-value.was)) ∙ found_here c.in_ok-value.value c.in_ok-value.from c.in_ok-value.to k (entries_from w (c.in_ok-count.count - (l.counter + 1)) (c.in_ok-value.value + 1) c.in_ok-value.to).entries c.if-value-k.true)

pub overflow_add-low : goal.overflow_add-low
overflow_add-low c = let w = c.args.feed.now in
    let m : Lies w c.loop.low numeral_limit (Some (c.in_ok-value.value, c.in_ok-value.from, c.in_ok-value.to)) = subst (Lies w c.loop.low numeral_limit) c.in_ok-value.was c.next_at.ensures.1 in
    omega (arith, m.1)

pub loop-preserved : goal.loop-preserved
loop-preserved c = let w = c.args.feed.now in
    let k = c.args.k in
    let l = c.loop in
    l.invariant ∙ ap (λ (x : Listing). found_in x.entries k) (listed-next w c.in_ok-count.count l.counter l.low l.at c.in_ok-value.value c.in_ok-value.from c.in_ok-value.to c.loop-test.true (sym c.next_at.ensures.0 ∙ c.in_ok-value.was)) ∙ found-later c.in_ok-value.value c.in_ok-value.from c.in_ok-value.to k (entries_from w (c.in_ok-count.count - (l.counter + 1)) (c.in_ok-value.value + 1) c.in_ok-value.to).entries c.if-value-k.false

pub returns-in_err-count : goal.returns-in_err-count
returns-in_err-count c = let w = c.args.feed.now in
    let k = c.args.k in
    c.from_residual.ensures ∙ sym (ap (λ (x : Listing). found_in x.entries k) (listing-fault w (sym c.read_numeral.ensures.0 ∙ c.in_err-count.was)) ∙ found_none k)

pub returns : goal.returns
returns c = let w = c.args.feed.now in
    let k = c.args.k in
    let l = c.loop in
    let z : (c.in_ok-count.count - l.counter) ≡ 0 = omega (arith, c.loop-test.false) in
    sym (l.invariant ∙ ap (λ (x : Listing). found_in x.entries k) (listed-end w (c.in_ok-count.count - l.counter) l.low l.at z) ∙ found_none k)
