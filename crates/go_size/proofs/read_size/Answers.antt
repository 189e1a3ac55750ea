use Rattle.lists.proofs.Prelude.{sym, ◌∙◌}
use Rattle.go_size.proofs.Colons.{colon-found, colon-missed, size-one, size-two}
use Rattle.go_size.proofs.read_size.Goals as goal

pub returns-in-Some : goal.returns-in-Some
returns-in-Some c = let s = c.args.s.now in
    let f = colon-found s c.in-Some.p (sym c.colon_place.ensures ∙ c.in-Some.is) in
    size-two s c.in-Some.p c.side-in-Some.result f.0 f.1 c.side.ensures c.side-in-Some.ensures c.board.ensures

pub returns-in-None : goal.returns-in-None
returns-in-None c = let s = c.args.s.now in
    size-one s (colon-missed s (sym c.colon_place.ensures ∙ c.in-None.is)) c.side-x.ensures c.board-in-None.ensures
