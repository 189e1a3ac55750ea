use Rattle.lists.proofs.Prelude.{◌+◌, ◌-◌, ◌≡◌, refl, ap, ◌∙◌, arith, length}
use Rattle.tables.specs.Columns.{val_from_at}
use Rattle.tables.specs.Memory.{memory}
use Rattle.fit.specs.Record.{text_in}
use Rattle.fit.proofs.Clauses.{fit-short}
use Rattle.fit.proofs.Whole.{fit-lent}
use Rattle.fit_spans.proofs.Lists.{part_slice}
use Rattle.feed_laws.specs.Corrected.{new_bytes}
use Rattle.feed_laws.specs.LocalsSweep.{until, lesser}
use Rattle.feed_laws.proofs.Held.{held-length}
use Rattle.feed_laws.proofs.Partly.{way-longer}
use Rattle.feed_apply.specs.LocalsSizes.{grown_to, shrunk_to}
use Rattle.feed_apply.proofs.Measuring.{spread}
use Rattle.feed_apply.proofs.Sizes.{tallied-begin, tallied-pass, shrunk-start}
use Rattle.feed_apply.proofs.Holding.{holds-own, less-skip, less-new, new-done}
use Rattle.feed_apply.proofs.Sweeping.{less-fits, new-starts, new-fits, new-within, used-is}
use Rattle.feed_apply.proofs.Swept.{carried-begin, carried-more, swept-more}
use Rattle.feed_apply.proofs.sweep.rewrite.Goals as goal

pub loop-s-init : goal.loop-s-init
loop-s-init c = let a = c.args in let p = c.requires in let m = memory a.text.now a.used a.counts a.trees.now a.nodes.now a.properties.now a.values.now in
    let r = less-skip m p.0 a.feed.now 0 c.begin-s.result.due (omega arith) c.begin-s.ensures.1 (holds-own m p.0 a.feed.now) in
    (tallied-begin a.values.now a.feed.now c.begin-s.ensures, record { bytes = r.bytes; long = r.long })

pub size_of-old-requires : goal.size_of-old-requires
size_of-old-requires c = let a = c.args in let p = c.requires in let l = c.loop-s in let m = memory a.text.now a.used a.counts a.trees.now a.nodes.now a.properties.now a.values.now in let h = c.loop-s-test.true in let x = spread m p.0 a.feed.now in
    (omega (arith, h, (fit-lent m p.0).1.values), x.order l.s.due h)

pub start_of-requires : goal.start_of-requires
start_of-requires c = let a = c.args in let p = c.requires in let l = c.loop-s in let m = memory a.text.now a.used a.counts a.trees.now a.nodes.now a.properties.now a.values.now in let h = c.loop-s-test.true in let x = spread m p.0 a.feed.now in
    omega (arith, h, (fit-lent m p.0).1.values)

pub overflow_sub-start : goal.overflow_sub-start
overflow_sub-start c = let a = c.args in let p = c.requires in let l = c.loop-s in let m = memory a.text.now a.used a.counts a.trees.now a.nodes.now a.properties.now a.values.now in let h = c.loop-s-test.true in let x = spread m p.0 a.feed.now in
    omega (arith, c.start_of.ensures, l.invariant.0.shrunk, shrunk-start a.values.now a.feed.now a.counts.values (length (text_in m)) x l.s.due h)

pub slice_bounds-put_shorter-count : goal.slice_bounds-put_shorter-count
slice_bounds-put_shorter-count c = c.loop-s.invariant.0.stands.order

pub slice_bounds-put_shorter-start : goal.slice_bounds-put_shorter-start
slice_bounds-put_shorter-start c = let i = c.loop-s.invariant.0.stands in omega (arith, i.order, i.inside)

pub slice_bounds-put_shorter-end : goal.slice_bounds-put_shorter-end
slice_bounds-put_shorter-end c = let i = c.loop-s.invariant.0.stands in omega (arith, i.order, i.inside)

pub put_shorter-length-requires : goal.put_shorter-length-requires
put_shorter-length-requires c = let a = c.args in let p = c.requires in let l = c.loop-s in let m = memory a.text.now a.used a.counts a.trees.now a.nodes.now a.properties.now a.values.now in let h = c.loop-s-test.true in let x = spread m p.0 a.feed.now in
    let i = l.invariant.0 in
    omega (
      arith,
      c.start_of.ensures,
      c.size_of-old.ensures,
      i.shrunk,
      less-fits m p.0 a.feed.now l.s.due l.s.from l.s.to h (i.stands.here h) (record { bytes = l.invariant.1.bytes; long = l.invariant.1.long }),
    )

pub pass-s-requires : goal.pass-s-requires
pass-s-requires c = let a = c.args in let p = c.requires in let l = c.loop-s in let m = memory a.text.now a.used a.counts a.trees.now a.nodes.now a.properties.now a.values.now in let h = c.loop-s-test.true in let x = spread m p.0 a.feed.now in
    let i = l.invariant.0 in
    let b = shrunk-start a.values.now a.feed.now a.counts.values (length (text_in m)) x l.s.due h in
    (h, i.stands, omega (arith, c.size_of-old.ensures, i.shrunk, b, x.order l.s.due h, x.inside l.s.due h, used-is m p.0 a.feed.now, fit-short m p.0))

pub loop-s-smaller : goal.loop-s-smaller
loop-s-smaller c = omega (arith, c.loop-s-test.true, c.pass-s.ensures.2)

pub loop-s-preserved : goal.loop-s-preserved
loop-s-preserved c = let a = c.args in let p = c.requires in let l = c.loop-s in let m = memory a.text.now a.used a.counts a.trees.now a.nodes.now a.properties.now a.values.now in let h = c.loop-s-test.true in let x = spread m p.0 a.feed.now in
    let i = l.invariant.0 in
    let e = c.pass-s.ensures in
    let r = swept-more m p.0 a.feed.now (record { bytes = l.invariant.1.bytes; long = l.invariant.1.long }) h (i.stands.here h)
    (omega (arith, c.start_of.ensures, i.shrunk)) c.size_of-old.ensures c.put_shorter-length.ensures.0 c.put_shorter-length.ensures.1 e.1 e.2 in
    (tallied-pass a.values.now a.feed.now i h c.size_of-old.ensures e, record { bytes = r.bytes; long = r.long })

pub loop-t-init : goal.loop-t-init
loop-t-init c = let a = c.args in
    (tallied-begin a.values.now a.feed.now c.begin-t.ensures, carried-begin a.feed.now a.values.now a.counts.values _ _ c.begin-t.result.due c.begin-t.ensures.1)

pub size_of-old-requires-in-loop-t : goal.size_of-old-requires-in-loop-t
size_of-old-requires-in-loop-t c = let a = c.args in let p = c.requires in let l = c.loop-t in let m = memory a.text.now a.used a.counts a.trees.now a.nodes.now a.properties.now a.values.now in let h = c.loop-t-test.true in let x = spread m p.0 a.feed.now in
    (omega (arith, h, (fit-lent m p.0).1.values), x.order l.t.due h)

pub start_of-requires-in-loop-t : goal.start_of-requires-in-loop-t
start_of-requires-in-loop-t c = let a = c.args in let p = c.requires in let l = c.loop-t in let m = memory a.text.now a.used a.counts a.trees.now a.nodes.now a.properties.now a.values.now in let h = c.loop-t-test.true in let x = spread m p.0 a.feed.now in
    omega (arith, h, (fit-lent m p.0).1.values)

pub overflow_sub-start-in-loop-t : goal.overflow_sub-start-in-loop-t
overflow_sub-start-in-loop-t c = let a = c.args in let p = c.requires in let l = c.loop-t in let m = memory a.text.now a.used a.counts a.trees.now a.nodes.now a.properties.now a.values.now in let h = c.loop-t-test.true in let x = spread m p.0 a.feed.now in
    omega (arith, c.start_of-in-loop-t.ensures, l.invariant.0.shrunk, shrunk-start a.values.now a.feed.now a.counts.values (length (text_in m)) x l.t.due h)

pub overflow_add-start : goal.overflow_add-start
overflow_add-start c = let a = c.args in let p = c.requires in let l = c.loop-t in let m = memory a.text.now a.used a.counts a.trees.now a.nodes.now a.properties.now a.values.now in let h = c.loop-t-test.true in let x = spread m p.0 a.feed.now in let f = c.loop-s in let y = l.invariant.1 m p.0 refl refl p.1 (less-new m p.0 a.feed.now f.s.due (omega (arith, c.loop-s-test.false)) (record { bytes = f.invariant.1.bytes; long = f.invariant.1.long })) in
    let i = l.invariant.0 in
    let o = c.size_of-old-in-loop-t.ensures in
    let s = c.start_of-in-loop-t.ensures in
    let b = shrunk-start a.values.now a.feed.now a.counts.values (length (text_in m)) x l.t.due h in
    let es : c.start_of-in-loop-t.result - l.t.shrunk + l.t.grown ≡ val_from_at a.values.now l.t.due + grown_to a.values.now a.feed.now l.t.due - shrunk_to a.values.now a.feed.now l.t.due = omega (arith, s, i.grown, i.shrunk, b) in
    omega (arith, es, new-starts m p.0 a.feed.now l.t.due l.t.from l.t.to h (i.stands.here h) y es o, y.long, way-longer m p.0 a.feed.now l.t.due, p.1, c.well_formed)

pub slice_bounds-put_longer-count : goal.slice_bounds-put_longer-count
slice_bounds-put_longer-count c = c.loop-t.invariant.0.stands.order

pub slice_bounds-put_longer-start : goal.slice_bounds-put_longer-start
slice_bounds-put_longer-start c = let i = c.loop-t.invariant.0.stands in omega (arith, i.order, i.inside)

pub slice_bounds-put_longer-end : goal.slice_bounds-put_longer-end
slice_bounds-put_longer-end c = let i = c.loop-t.invariant.0.stands in omega (arith, i.order, i.inside)

pub put_longer-length-requires : goal.put_longer-length-requires
put_longer-length-requires c = let a = c.args in let p = c.requires in let l = c.loop-t in let m = memory a.text.now a.used a.counts a.trees.now a.nodes.now a.properties.now a.values.now in let h = c.loop-t-test.true in let x = spread m p.0 a.feed.now in let f = c.loop-s in let y = l.invariant.1 m p.0 refl refl p.1 (less-new m p.0 a.feed.now f.s.due (omega (arith, c.loop-s-test.false)) (record { bytes = f.invariant.1.bytes; long = f.invariant.1.long })) in
    let i = l.invariant.0 in
    let w = i.stands.here h in
    let o = c.size_of-old-in-loop-t.ensures in
    let s = c.start_of-in-loop-t.ensures in
    let b = shrunk-start a.values.now a.feed.now a.counts.values (length (text_in m)) x l.t.due h in
    let es : c.start_of-in-loop-t.result - l.t.shrunk + l.t.grown ≡ val_from_at a.values.now l.t.due + grown_to a.values.now a.feed.now l.t.due - shrunk_to a.values.now a.feed.now l.t.due = omega (arith, s, i.grown, i.shrunk, b) in
    let q = ap length (part_slice l.t.from l.t.to a.feed.now) in (
      λ g. new-fits m p.0 a.feed.now l.t.due l.t.from l.t.to h w y es o (omega (arith, g, q)),
      omega (arith, q, new-within m p.0 a.feed.now l.t.due l.t.from l.t.to h w y es o p.1, c.well_formed),
    )

pub pass-t-requires : goal.pass-t-requires
pass-t-requires c = let a = c.args in let p = c.requires in let l = c.loop-t in let m = memory a.text.now a.used a.counts a.trees.now a.nodes.now a.properties.now a.values.now in let h = c.loop-t-test.true in let x = spread m p.0 a.feed.now in
    let i = l.invariant.0 in
    let b = shrunk-start a.values.now a.feed.now a.counts.values (length (text_in m)) x l.t.due h in
    (h, i.stands, omega (arith, c.size_of-old-in-loop-t.ensures, i.shrunk, b, x.order l.t.due h, x.inside l.t.due h, used-is m p.0 a.feed.now, fit-short m p.0))

pub loop-t-smaller : goal.loop-t-smaller
loop-t-smaller c = omega (arith, c.loop-t-test.true, c.pass-t.ensures.2)

pub loop-t-preserved : goal.loop-t-preserved
loop-t-preserved c = let a = c.args in let p = c.requires in let l = c.loop-t in let m = memory a.text.now a.used a.counts a.trees.now a.nodes.now a.properties.now a.values.now in let h = c.loop-t-test.true in let x = spread m p.0 a.feed.now in
    let i = l.invariant.0 in
    let e = c.pass-t.ensures in (
      tallied-pass a.values.now a.feed.now i h c.size_of-old-in-loop-t.ensures e,
      carried-more a.feed.now a.values.now a.counts.values _ _ l.invariant.1 h (i.stands.here h)
          (omega (arith, c.start_of-in-loop-t.ensures, i.grown, i.shrunk, shrunk-start a.values.now a.feed.now a.counts.values (length (text_in m)) x l.t.due h)) c.size_of-old-in-loop-t.ensures c.put_longer-length.ensures.0 c.put_longer-length.ensures.1 e.1 e.2,
    )

pub shape_of-text : goal.shape_of-text
shape_of-text c = let a = c.args in let p = c.requires in let l = c.loop-t in let m = memory a.text.now a.used a.counts a.trees.now a.nodes.now a.properties.now a.values.now in let f = c.loop-s in let y = l.invariant.1 m p.0 refl refl p.1 (less-new m p.0 a.feed.now f.s.due (omega (arith, c.loop-s-test.false)) (record { bytes = f.invariant.1.bytes; long = f.invariant.1.long })) in
    ap length y.bytes ∙ held-length m p.0 (until l.t.due (new_bytes m a.feed.now) (lesser m a.feed.now)) (omega (arith, way-longer m p.0 a.feed.now l.t.due, p.1))

pub returns : goal.returns
returns c = let a = c.args in let p = c.requires in let l = c.loop-t in let m = memory a.text.now a.used a.counts a.trees.now a.nodes.now a.properties.now a.values.now in let f = c.loop-s in let y = l.invariant.1 m p.0 refl refl p.1 (less-new m p.0 a.feed.now f.s.due (omega (arith, c.loop-s-test.false)) (record { bytes = f.invariant.1.bytes; long = f.invariant.1.long })) in
    (new-done m p.0 a.feed.now l.t.due (omega (arith, c.loop-t-test.false)) y).bytes
