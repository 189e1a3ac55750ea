use Rattle.lists.proofs.Prelude.{ℕ, refl, sym, ap₂, ◌∙◌, arith, length-take-le}
use Rattle.tables.specs.Memory.{memory}
use Rattle.season_tally.specs.Locals.{next_first}
use Rattle.fit.proofs.Whole.{fit-lent}
use Rattle.fit.proofs.Clauses.{fit-clauses}
use Rattle.season_tally.proofs.Walk.{roots-lent, walked-first, rises, walked_next, walked_end}
use Rattle.season_tally.proofs.Tagging.{tags-none}
use Rattle.season_tally.proofs.count_moves.Goals as goal

pub slice_bounds-t-end : goal.slice_bounds-t-end
slice_bounds-t-end c = let a = c.args in
    sym (length-take-le a.used a.text.now (fit-lent (memory a.text.now a.used a.counts a.trees.now a.nodes.now a.properties.now a.values.now) c.requires).0)

pub loop-r-init : goal.loop-r-init
loop-r-init c = let a = c.args in
    (λ k x y h. walked-first (fit-clauses (memory a.text.now a.used k a.trees.now a.nodes.now a.properties.now a.values.now) h), tags-none a.bytes.now c.tag.ensures)

pub next_first-to-requires : goal.next_first-to-requires
next_first-to-requires c = let a = c.args in
    (c.loop-r-test.true, roots-lent (fit-clauses (memory a.text.now a.used a.counts a.trees.now a.nodes.now a.properties.now a.values.now) c.requires))

pub count_range-more-requires : goal.count_range-more-requires
count_range-more-requires c = let a = c.args in
    let l = c.loop-r in
    let w = l.invariant.0 a.counts refl refl c.requires in
    let u = rises (fit-clauses (memory a.text.now a.used a.counts a.trees.now a.nodes.now a.properties.now a.values.now) c.requires) l.r l.from l.moves w c.loop-r-test.true c.next_first-to.result c.next_first-to.ensures in
    (u.0, w.below, l.invariant.1)

pub loop-r-preserved : goal.loop-r-preserved
loop-r-preserved c = let a = c.args in
    let l = c.loop-r in
    let g = c.count_range-more in
    let f = c.next_first-to in
    let q = c.rule_at-rule in (
      λ k x y h. walked_next (fit-clauses (memory a.text.now a.used k a.trees.now a.nodes.now a.properties.now a.values.now) h) l.r l.from l.moves (l.invariant.0 k x y h) (omega (arith, x, c.loop-r-test.true)) f.result
          (f.ensures ∙ ap₂ (λ (u v : ℕ). next_first a.trees.now a.nodes.now u l.r v) x y) q.result q.ensures _ g.ensures.0,
      g.ensures.1,
    )

pub returns : goal.returns
returns c = let a = c.args in
    let l = c.loop-r in
    (walked_end (fit-clauses (memory a.text.now a.used a.counts a.trees.now a.nodes.now a.properties.now a.values.now) c.requires) l.r l.from l.moves (l.invariant.0 a.counts refl refl c.requires) c.loop-r-test.false, l.invariant.1)
