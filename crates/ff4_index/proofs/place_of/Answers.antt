use Rattle.lists.proofs.Prelude.{sym, ◌∙◌, arith, ne_eqb}
use Rattle.values.specs.Read.{read_identifier}
use Rattle.ff4_index.proofs.Placed.{letters-upper, place_is, place_end, place-on, place_out, place-more}
use Rattle.ff4_index.proofs.place_of.Goals as goal

pub loop-b-preserved-then-not-is_ascii_uppercase : goal.loop-b-preserved-then-not-is_ascii_uppercase
loop-b-preserved-then-not-is_ascii_uppercase c = let l = c.loop-b in
    let other = sym c.if-not-is_ascii_uppercase.ensures.value in
    (l.invariant.0, sym (place-on c.args.identifier.now l.b-index l.number c.loop-b-test.true other) ∙ l.invariant.1)

pub returns-then-number-gt26 : goal.returns-then-number-gt26
returns-then-number-gt26 c = let s = c.args.identifier.now in
    let l = c.loop-b in
    let letter = sym c.if-not-is_ascii_uppercase.ensures.value in
    sym (place_out s l.b-index l.number c.loop-b-test.true letter c.if-number-gt26.true)
    ∙ l.invariant.1
    ∙ place_is (read_identifier s) (letters-upper s)

pub loop-b-preserved : goal.loop-b-preserved
loop-b-preserved c = let l = c.loop-b in
    let letter = c.if-not-is_ascii_uppercase.ensures in (
      omega (arith, letter.cases),
      sym (place-more c.args.identifier.now l.b-index l.number c.loop-b-test.true (sym letter.value) c.if-number-gt26.false) ∙ l.invariant.1,
    )

pub returns-then-number-eq0 : goal.returns-then-number-eq0
returns-then-number-eq0 c = let s = c.args.identifier.now in
    let l = c.loop-b in
    sym (place_end s l.b-index l.number c.loop-b-test.false ∙ rw c.if-number-eq0.true)
    ∙ l.invariant.1
    ∙ place_is (read_identifier s) (letters-upper s)

pub returns : goal.returns
returns c = let s = c.args.identifier.now in
    let l = c.loop-b in
    sym (place_end s l.b-index l.number c.loop-b-test.false ∙ rw (ne_eqb l.number 0 c.if-number-eq0.false))
    ∙ l.invariant.1
    ∙ place_is (read_identifier s) (letters-upper s)
