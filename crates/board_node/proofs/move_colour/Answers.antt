use Rattle.board_node.specs.Node.{move_colour}
use Rattle.values.specs.Read.{read_identifier}
use Rattle.lists.specs.Same.{same}
use Rattle.lists.proofs.Prelude.{true, false, ◌≡◌, sym, ◌∙◌, [], ◌∷◌}
use Rattle.board_node.proofs.move_colour.Goals as goal

pub returns-then-reads_as : goal.returns-then-reads_as
unfolding move_colour
returns-then-reads_as c = let e : same (read_identifier c.args.identifier.now) (0x42 ∷ []) ≡ true = sym c.reads_as.ensures ∙ c.if-reads_as.true in rw e

pub returns-then-reads_as-2 : goal.returns-then-reads_as-2
unfolding move_colour
returns-then-reads_as-2 c = let a = c.args in
    let e : same (read_identifier a.identifier.now) (0x42 ∷ []) ≡ false = sym c.reads_as.ensures ∙ c.if-reads_as.false in let f : same (read_identifier a.identifier.now) (0x57 ∷ []) ≡ true = sym c.reads_as-2.ensures ∙ c.if-reads_as-2.true in rw (e, f)

pub returns : goal.returns
unfolding move_colour
returns c = let a = c.args in
    let e : same (read_identifier a.identifier.now) (0x42 ∷ []) ≡ false = sym c.reads_as.ensures ∙ c.if-reads_as.false in let f : same (read_identifier a.identifier.now) (0x57 ∷ []) ≡ false = sym c.reads_as-2.ensures ∙ c.if-reads_as-2.false in rw (e, f)
