use Rattle.lists.proofs.Prelude.{ap, ◌∙◌, ◌-◌, List, ℕ, take, drop, eqb}
use Rattle.std.specs.Cmp.Lexicographic.{pointwise}
use Rattle.lists.specs.Same.{same}
use Rattle.parser.specs.Game.{GM}
use Rattle.parser_game.proofs.GameValues.{same-pointwise, part-is}
use Rattle.parser_game.proofs.is_gm.Goals as goal

pub returns : goal.returns
returns c =
    let s = c.args.s.now in
    let part = take (c.args.k - c.args.i) (drop c.args.i s) in
    c.eq.ensures
    ∙ ap (λ (z : List ℕ). pointwise eqb part z) c.as_slice.ensures
    ∙ same-pointwise part GM
    ∙ ap (λ (z : List ℕ). same z GM) (part-is s c.args.i c.args.k c.requires.0 c.requires.1)
