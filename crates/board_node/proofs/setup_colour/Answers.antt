use Rattle.board_node.specs.Node.{setup_colour}
use Rattle.values.specs.Read.{read_identifier}
use Rattle.lists.specs.Same.{same}
use Rattle.lists.proofs.Prelude.{true, false, ◌≡◌, sym, ◌∙◌, [], ◌∷◌}
use Rattle.board_node.proofs.setup_colour.Goals as goal

pub returns-then-reads_as : goal.returns-then-reads_as
unfolding setup_colour
returns-then-reads_as c = let e : same (read_identifier c.args.identifier.now) (0x41 ∷ 0x42 ∷ []) ≡ true = sym c.reads_as.ensures ∙ c.if-reads_as.true in rw e

pub returns-then-reads_as-2 : goal.returns-then-reads_as-2
unfolding setup_colour
returns-then-reads_as-2 c = let a = c.args in
    let e : same (read_identifier a.identifier.now) (0x41 ∷ 0x42 ∷ []) ≡ false = sym c.reads_as.ensures ∙ c.if-reads_as.false in let f : same (read_identifier a.identifier.now) (0x41 ∷ 0x57 ∷ []) ≡ true = sym c.reads_as-2.ensures ∙ c.if-reads_as-2.true in rw (e, f)

pub returns-then-reads_as-3 : goal.returns-then-reads_as-3
unfolding setup_colour
returns-then-reads_as-3 c = let a = c.args in
    let e : same (read_identifier a.identifier.now) (0x41 ∷ 0x42 ∷ []) ≡ false = sym c.reads_as.ensures ∙ c.if-reads_as.false in let f : same (read_identifier a.identifier.now) (0x41 ∷ 0x57 ∷ []) ≡ false = sym c.reads_as-2.ensures ∙ c.if-reads_as-2.false in let g : same (read_identifier a.identifier.now) (0x41 ∷ 0x45 ∷ []) ≡ true = sym c.reads_as-3.ensures ∙ c.if-reads_as-3.true in rw (e, f, g)

pub returns : goal.returns
unfolding setup_colour
returns c = let a = c.args in
    let e : same (read_identifier a.identifier.now) (0x41 ∷ 0x42 ∷ []) ≡ false = sym c.reads_as.ensures ∙ c.if-reads_as.false in let f : same (read_identifier a.identifier.now) (0x41 ∷ 0x57 ∷ []) ≡ false = sym c.reads_as-2.ensures ∙ c.if-reads_as-2.false in let g : same (read_identifier a.identifier.now) (0x41 ∷ 0x45 ∷ []) ≡ false = sym c.reads_as-3.ensures ∙ c.if-reads_as-3.false in rw (e, f, g)
