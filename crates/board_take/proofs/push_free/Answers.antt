use Rattle.lists.proofs.Prelude.{◌∙◌, not-false, not-true, sym, true≢false}
use Rattle.board_take.proofs.Visiting.{stands-stone, stone-stands, seed-not, seed-here}
use Rattle.board_take.proofs.push_free.Goals as goal

pub returns-then-not-stands : goal.returns-then-not-stands
returns-then-not-stands c = let a = c.args in
    seed-not a.columns a.rows a.stones.now a.colour a.marks.now a.queue.now a.n a.p c.requires
    (λ s f. true≢false (sym (stone-stands a.columns a.rows a.stones.now a.colour a.p s) ∙ (sym c.stands.ensures ∙ not-true c.stands.result c.if-not-stands.true-raw)))

pub free-requires : goal.free-requires
free-requires c = let a = c.args in (stands-stone a.columns a.rows a.stones.now a.colour a.p (sym c.stands.ensures ∙ not-false c.stands.result c.if-not-stands.false-raw)).on

pub returns-then-not-free : goal.returns-then-not-free
returns-then-not-free c = let a = c.args in seed-not a.columns a.rows a.stones.now a.colour a.marks.now a.queue.now a.n a.p c.requires (λ s f. c.free.ensures.no-free (not-true c.free.result c.if-not-free.true-raw) f)

pub returns : goal.returns
returns c = let a = c.args in
    seed-here a.columns a.rows a.stones.now a.colour a.p (stands-stone a.columns a.rows a.stones.now a.colour a.p (sym c.stands.ensures ∙ not-false c.stands.result c.if-not-stands.false-raw))
    (c.free.ensures.yes-free (not-false c.free.result c.if-not-free.false-raw)) c.push.ensures
