use Rattle.lists.proofs.Prelude.{◌<◌, arith, length, sym}
use Rattle.parts_props.proofs.Reading.{reads_end, reads_on, reads-long, reads_other, reads_more}
use Rattle.parts_props.proofs.reads_as.Goals as goal
use Rattle.parts_props.proofs.reads_as.Goals.{then-n-name-via-then-n-name, then-n-name-via-else-n-name+then-b-name}

pub loop-b-preserved-then-not-is_ascii_uppercase : goal.loop-b-preserved-then-not-is_ascii_uppercase
loop-b-preserved-then-not-is_ascii_uppercase c = let l = c.loop-b in (
  l.invariant.0,
  reads_on c.args.identifier.now c.args.name.now l.b-index l.n l.invariant.1 c.loop-b-test.true (sym c.if-not-is_ascii_uppercase.ensures.value),
)

pub returns : goal.returns
returns c = let l = c.loop-b in
    reads_end c.args.identifier.now c.args.name.now l.b-index l.n l.invariant.1 c.loop-b-test.false l.invariant.0

pub returns-then-n-name : goal.returns-then-n-name
returns-then-n-name c = let i = c.args.identifier.now in
    let w = c.args.name.now in
    let l = c.loop-b in
    let letter = sym c.if-not-is_ascii_uppercase.ensures.value in
    elim c.then-n-name.branch [
      | then-n-name-via-then-n-name u ↦ let e = u.if-n-name.true in
          reads-long i w l.b-index l.n l.invariant.1 c.loop-b-test.true letter (omega arith)
      | then-n-name-via-else-n-name+then-b-name u ↦ let e = u.if-n-name.false in
          reads_other i w l.b-index l.n l.invariant.1 c.loop-b-test.true letter (omega (arith, e)) u.if-b-name.true
    ]

pub loop-b-preserved : goal.loop-b-preserved
loop-b-preserved c = let l = c.loop-b in
    let letter = sym c.if-not-is_ascii_uppercase.ensures.value in
    let e = c.if-n-name.false in
    let h : l.n < length c.args.name.now = omega (arith, e) in
    (omega arith, reads_more c.args.identifier.now c.args.name.now l.b-index l.n l.invariant.1 c.loop-b-test.true letter h c.if-b-name.false)
