use Rattle.lists.proofs.Prelude.{ℕ, ◌+◌, ◌-◌, ◌/◌, ◌%◌, ◌∷◌, ◌≡◌, refl, sym, ap, ◌∙◌, arith}
use Rattle.store_bytes.proofs.Written.{wrote_none, wrote-more, wrote-is, wrote-length}
use Rattle.feed_numerals.specs.Numeral.{groups_of}
use Rattle.feed_numerals.proofs.Spelling.{groups-last, groups-more, groups_none, spelled-groups}
use Rattle.feed_numerals.proofs.put_numeral.Goals as goal

pub loop-init : goal.loop-init
loop-init c = (λ o r x. wrote-is (spelled-groups c.args.n) x, refl, omega (arith, c.well_formed))

pub shape_of-out-then-rest-lt128 : goal.shape_of-out-then-rest-lt128
shape_of-out-then-rest-lt128 c = wrote-length c.put_byte.ensures ∙ c.loop.invariant.1

pub returns-then-rest-lt128 : goal.returns-then-rest-lt128
returns-then-rest-lt128 c = let l = c.loop in
    l.invariant.0 _ _ (wrote-is (groups-last (4 - l.counter) l.rest (omega (arith, c.loop-test.true)) c.if-rest-lt128.true) c.put_byte.ensures)

pub loop-preserved : goal.loop-preserved
loop-preserved c =
    let l = c.loop in
    let good = c.well_formed in
    let k : 4 - (l.counter + 1) ≡ 4 - l.counter - 1 = omega arith in
    let e = ap (λ (g : ℕ). (0x80 + l.rest % 0x80) ∷ groups_of g (l.rest / 0x80)) k
    ∙ groups-more (4 - l.counter) l.rest (omega (arith, c.loop-test.true)) c.if-rest-lt128.false in (
      λ o r x. l.invariant.0 o r (wrote-is e (wrote-more (omega (arith, good, l.invariant.1)) c.put_byte-next.ensures x)),
      wrote-length c.put_byte-next.ensures ∙ l.invariant.1,
      omega (arith, c.put_byte-next.ensures.place),
    )

pub shape_of-out : goal.shape_of-out
shape_of-out c = c.loop.invariant.1

pub returns : goal.returns
returns c = let l = c.loop in
    let e : 4 - l.counter ≡ 0 = omega (arith, c.loop-test.false) in
    l.invariant.0 _ _ (wrote-is (sym (groups_none (4 - l.counter) l.rest e)) (wrote_none l.out l.next l.invariant.2))
