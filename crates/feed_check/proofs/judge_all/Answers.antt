use Rattle.lists.proofs.Prelude.{ℕ, ◌+◌, ◌-◌, ◌≡◌, sym, ap, ◌∙◌, subst, List, arith, ltb, drop, length-take}
use Rattle.lexer.specs.Closed.{closed}
use Rattle.text_utf8.specs.Trim.{trimmed}
use Rattle.tables.specs.Each.{tabulate}
use Rattle.fit_spans.proofs.Lists.{part_slice}
use Rattle.fit.specs.Record.{prop_row}
use Rattle.feed_numerals.specs.Numeral.{numeral_limit}
use Rattle.feed.specs.Feed.{Entry, Listing, entries_from}
use Rattle.feed.specs.LocalsNext.{Lies}
use Rattle.feed.proofs.Entries.{listed-end, listed-fault, listed-next, listing-fault, listing-begin}
use Rattle.feed_check.specs.Check.{bytes_judged, corrections_judged}
use Rattle.feed_check.specs.LocalsOwner.{tested_by}
use Rattle.feed_check.proofs.Owned.{behind-first, behind-later, game-type-is}
use Rattle.feed_check.proofs.Judging.{judged-none, judged-refused, judged-passed}
use Rattle.feed_check.proofs.judge_all.Goals as goal
use Rattle.std.specs.Prelude.{Some, Err}
use Rattle.std.proofs.lemmas.Result.{err_from_is_err_and}
use Rattle.tables.specs.declared.Refusal.{Refusal}
use Rattle.feed_check.specs.declared.FeedRefusal.{FeedRefusal}

pub loop-init : goal.loop-init
loop-init c = let a = c.args in (
  ap (λ (y : Listing). corrections_judged a.text.now (tabulate (prop_row a.properties.now) 0 a.n) a.total a.feed.now y.entries) (listing-begin a.feed.now c.in-Some.count c.in-Some.at (sym c.read_numeral.ensures.0 ∙ c.in-Some.is)),
  behind-first a.properties.now a.n 0,
)

pub returns-in_default-next_at : goal.returns-in_default-next_at
returns-in_default-next_at c = let a = c.args in
    let l = c.loop in
    sym (l.invariant.0 ∙ ap (λ (y : Listing). corrections_judged a.text.now (tabulate (prop_row a.properties.now) 0 a.n) a.total a.feed.now y.entries) (listed-fault a.feed.now (c.in-Some.count - l.counter) l.low l.at (omega (arith, c.loop-test.true)) (sym c.next_at.ensures.0 ∙ c.in_default-next_at.is))
    ∙ judged-none a.text.now (tabulate (prop_row a.properties.now) 0 a.n) a.total a.feed.now)

pub owner_from-owner-requires : goal.owner_from-owner-requires
owner_from-owner-requires c = let a = c.args in
    let l = c.loop in
    let m : Lies a.feed.now l.low numeral_limit (Some (c.in-Some-next_at.value, c.in-Some-next_at.from, c.in-Some-next_at.to)) = subst (Lies a.feed.now l.low numeral_limit) c.in-Some-next_at.is c.next_at.ensures.1 in
    (c.requires.0, behind-later a.properties.now a.n l.p l.low c.in-Some-next_at.value l.invariant.1 m.0)

pub is_game_type-fixed-requires : goal.is_game_type-fixed-requires
is_game_type-fixed-requires c = c.requires

pub slice_bounds-judge_one-count : goal.slice_bounds-judge_one-count
slice_bounds-judge_one-count c = let a = c.args in
    let l = c.loop in
    let m : Lies a.feed.now l.low numeral_limit (Some (c.in-Some-next_at.value, c.in-Some-next_at.from, c.in-Some-next_at.to)) = subst (Lies a.feed.now l.low numeral_limit) c.in-Some-next_at.is c.next_at.ensures.1 in
    omega (arith, m.2, m.3)

pub slice_bounds-judge_one-start : goal.slice_bounds-judge_one-start
slice_bounds-judge_one-start c = let a = c.args in
    let l = c.loop in
    let m : Lies a.feed.now l.low numeral_limit (Some (c.in-Some-next_at.value, c.in-Some-next_at.from, c.in-Some-next_at.to)) = subst (Lies a.feed.now l.low numeral_limit) c.in-Some-next_at.is c.next_at.ensures.1 in
    omega (arith, m.2, m.3)

pub slice_bounds-judge_one-end : goal.slice_bounds-judge_one-end
slice_bounds-judge_one-end c = let a = c.args in
    let l = c.loop in
    let m : Lies a.feed.now l.low numeral_limit (Some (c.in-Some-next_at.value, c.in-Some-next_at.from, c.in-Some-next_at.to)) = subst (Lies a.feed.now l.low numeral_limit) c.in-Some-next_at.is c.next_at.ensures.1 in
    omega (arith, m.2, m.3)

pub judge_one-requires : goal.judge_one-requires
judge_one-requires c = let a = c.args in
    let l = c.loop in
    let m : Lies a.feed.now l.low numeral_limit (Some (c.in-Some-next_at.value, c.in-Some-next_at.from, c.in-Some-next_at.to)) = subst (Lies a.feed.now l.low numeral_limit) c.in-Some-next_at.is c.next_at.ensures.1 in
    omega (arith, m.2, m.3, length-take (c.in-Some-next_at.to - c.in-Some-next_at.from) (drop c.in-Some-next_at.from a.feed.now), c.well_formed)

pub returns-in_err-judge_one : goal.returns-in_err-judge_one
returns-in_err-judge_one c = let a = c.args in
    let l = c.loop in
    let o = c.owner_from-owner in
    let f = c.is_game_type-fixed in
    let x : Entry = record { value = c.in-Some-next_at.value; from = c.in-Some-next_at.from; to = c.in-Some-next_at.to } in
    let next = (entries_from a.feed.now (c.in-Some.count - (l.counter + 1)) (c.in-Some-next_at.value + 1) c.in-Some-next_at.to).entries in
    let is = f.ensures ∙ game-type-is a.properties.now a.n a.text.now c.in-Some-next_at.value o.result o.ensures.0 o.ensures.1 in
    let e = listed-next a.feed.now c.in-Some.count l.counter l.low l.at c.in-Some-next_at.value c.in-Some-next_at.from c.in-Some-next_at.to c.loop-test.true (sym c.next_at.ensures.0 ∙ c.in-Some-next_at.is) in
    let s = sym (ap (λ (z : List ℕ). tested_by (ltb c.in-Some-next_at.value a.total) f.result (bytes_judged c.in-Some-next_at.from (trimmed z) (closed z))) (part_slice c.in-Some-next_at.from c.in-Some-next_at.to a.feed.now)) ∙ sym c.judge_one.ensures in
    let r : Refusal FeedRefusal = c.in_err-judge_one.field-0.0 in
    let q = err_from_is_err_and _ c.from_residual.ensures.1 in
    q.1 ∙ ap (λ (e : Refusal FeedRefusal). Err e) q.2 ∙ sym (l.invariant.0 ∙ ap (λ (y : Listing). corrections_judged a.text.now (tabulate (prop_row a.properties.now) 0 a.n) a.total a.feed.now y.entries) e ∙ judged-refused a.text.now (tabulate (prop_row a.properties.now) 0 a.n) a.total a.feed.now x next f.result is r.reason r.place (s ∙ c.in_err-judge_one.was))

pub overflow_add-low : goal.overflow_add-low
overflow_add-low c = let a = c.args in
    let l = c.loop in
    let m : Lies a.feed.now l.low numeral_limit (Some (c.in-Some-next_at.value, c.in-Some-next_at.from, c.in-Some-next_at.to)) = subst (Lies a.feed.now l.low numeral_limit) c.in-Some-next_at.is c.next_at.ensures.1 in
    omega (arith, m.1)

pub loop-preserved : goal.loop-preserved
loop-preserved c = let a = c.args in
    let l = c.loop in
    let o = c.owner_from-owner in
    let f = c.is_game_type-fixed in
    let x : Entry = record { value = c.in-Some-next_at.value; from = c.in-Some-next_at.from; to = c.in-Some-next_at.to } in
    let next = (entries_from a.feed.now (c.in-Some.count - (l.counter + 1)) (c.in-Some-next_at.value + 1) c.in-Some-next_at.to).entries in
    let is = f.ensures ∙ game-type-is a.properties.now a.n a.text.now c.in-Some-next_at.value o.result o.ensures.0 o.ensures.1 in
    let e = listed-next a.feed.now c.in-Some.count l.counter l.low l.at c.in-Some-next_at.value c.in-Some-next_at.from c.in-Some-next_at.to c.loop-test.true (sym c.next_at.ensures.0 ∙ c.in-Some-next_at.is) in
    let s = sym (ap (λ (z : List ℕ). tested_by (ltb c.in-Some-next_at.value a.total) f.result (bytes_judged c.in-Some-next_at.from (trimmed z) (closed z))) (part_slice c.in-Some-next_at.from c.in-Some-next_at.to a.feed.now)) ∙ sym c.judge_one.ensures in (
      l.invariant.0 ∙ ap (λ (y : Listing). corrections_judged a.text.now (tabulate (prop_row a.properties.now) 0 a.n) a.total a.feed.now y.entries) e ∙ judged-passed a.text.now (tabulate (prop_row a.properties.now) 0 a.n) a.total a.feed.now x next f.result is (s ∙ c.in_ok-judge_one.was),
      behind-later a.properties.now a.n o.result c.in-Some-next_at.value (c.in-Some-next_at.value + 1) o.ensures.0 (omega arith),
    )

pub returns-in_default : goal.returns-in_default
returns-in_default c = let a = c.args in
    sym (ap (λ (y : Listing). corrections_judged a.text.now (tabulate (prop_row a.properties.now) 0 a.n) a.total a.feed.now y.entries) (listing-fault a.feed.now (sym c.read_numeral.ensures.0 ∙ c.in_default.is)) ∙ judged-none a.text.now (tabulate (prop_row a.properties.now) 0 a.n) a.total a.feed.now)

pub returns : goal.returns
returns c = let a = c.args in
    let l = c.loop in
    let z : c.in-Some.count - l.counter ≡ 0 = omega (arith, c.loop-test.false) in
    sym (l.invariant.0 ∙ ap (λ (y : Listing). corrections_judged a.text.now (tabulate (prop_row a.properties.now) 0 a.n) a.total a.feed.now y.entries) (listed-end a.feed.now (c.in-Some.count - l.counter) l.low l.at z) ∙ judged-none a.text.now (tabulate (prop_row a.properties.now) 0 a.n) a.total a.feed.now)
