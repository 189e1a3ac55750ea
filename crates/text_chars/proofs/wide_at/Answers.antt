use Rattle.lists.proofs.Prelude.{sym, ◌∙◌}
use Rattle.text_chars.proofs.Wide.{decoded-2, decoded-3, decoded-4, decoded-0}
use Rattle.text_chars.proofs.wide_at.Goals as goal

pub returns-then-two : goal.returns-then-two
returns-then-two c = rw (c.is_white.ensures, c.scalar2.ensures) (sym (decoded-2 c.args.s.now c.args.i c.requires.0 c.requires.1
    c.byte_at-c.result c.byte_at-c.ensures (sym c.two.ensures ∙ c.if-two.true)))

pub returns-then-three : goal.returns-then-three
returns-then-three c = rw (c.is_white-then-three.ensures, c.scalar3.ensures) (sym (decoded-3 c.args.s.now c.args.i c.requires.0 c.requires.1
    c.byte_at-c.result c.byte_at-c.ensures (sym c.two.ensures ∙ c.if-two.false)
    c.byte_at-d.result c.byte_at-d.ensures (sym c.three.ensures ∙ c.if-three.true)))

pub returns-then-four : goal.returns-then-four
returns-then-four c = rw (c.is_white-then-four.ensures, c.scalar4.ensures) (sym (decoded-4 c.args.s.now c.args.i c.requires.0 c.requires.1
    c.byte_at-c.result c.byte_at-c.ensures (sym c.two.ensures ∙ c.if-two.false)
    c.byte_at-d.result c.byte_at-d.ensures (sym c.three.ensures ∙ c.if-three.false)
    c.byte_at-e.result c.byte_at-e.ensures (sym c.four.ensures ∙ c.if-four.true)))

pub returns : goal.returns
returns c = sym (decoded-0 c.args.s.now c.args.i c.requires.0 c.requires.1
    c.byte_at-c.result c.byte_at-c.ensures (sym c.two.ensures ∙ c.if-two.false)
    c.byte_at-d.result c.byte_at-d.ensures (sym c.three.ensures ∙ c.if-three.false)
    c.byte_at-e.result c.byte_at-e.ensures (sym c.four.ensures ∙ c.if-four.false))
