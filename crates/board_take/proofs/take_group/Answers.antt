use Rattle.lists.proofs.Prelude.{◌∙◌, arith, not-false, not-true, refl, sym, true≢false}
use Rattle.board_take.proofs.Taking.{takes-nothing, free-lives}
use Rattle.board_take.proofs.Visiting.{stands-stone, stone-stands}
use Rattle.board_take.proofs.take_group.Goals as goal

pub returns-then-colour-eq0 : goal.returns-then-colour-eq0
returns-then-colour-eq0 c = (record { none = λ e. (refl, refl); some = λ f. absurd (f c.if-colour-eq0.true) }, omega arith)

pub returns-then-not-stands : goal.returns-then-not-stands
returns-then-not-stands c = let a = c.args in (
  record {
    none = λ e. absurd (c.if-colour-eq0.false e);
    some = λ f. takes-nothing a.columns a.rows a.colour a.p a.stones.now
        (λ s. absurd (true≢false (sym (stone-stands a.columns a.rows a.stones.now a.colour a.p s) ∙ (sym c.stands.ensures ∙ not-true c.stands.result c.if-not-stands.true-raw))));
  },
  omega arith,
)

pub free-requires : goal.free-requires
free-requires c = let a = c.args in (stands-stone a.columns a.rows a.stones.now a.colour a.p (sym c.stands.ensures ∙ not-false c.stands.result c.if-not-stands.false-raw)).on

pub returns-then-free : goal.returns-then-free
returns-then-free c = let a = c.args in
    (record { none = λ e. absurd (c.if-colour-eq0.false e); some = λ f. takes-nothing a.columns a.rows a.colour a.p a.stones.now (free-lives a.columns a.rows a.colour a.p a.stones.now (c.free.ensures.yes-free c.if-free.true)) }, omega arith)

pub take_short-requires : goal.take_short-requires
take_short-requires c = let a = c.args in (c.if-colour-eq0.false, stands-stone a.columns a.rows a.stones.now a.colour a.p (sym c.stands.ensures ∙ not-false c.stands.result c.if-not-stands.false-raw))

pub returns : goal.returns
returns c = (record { none = λ e. absurd (c.if-colour-eq0.false e); some = λ f. c.take_short.ensures.0 }, c.take_short.ensures.1)
