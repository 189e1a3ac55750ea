use Rattle.lists.proofs.Prelude.{ℕ, ◌+◌, ◌-◌, ◌<◌, ◌≤◌, ◌≡◌, List, Bool, false, sym, ◌∙◌, length, get_or, arith, rules}
use Rattle.std.proofs.lemmas.List.{places}
use borrow.Author.Count.{below_more}
use borrow.Rule.Slice.PartMut.{mid_of, mid_len}
use Rattle.lists.proofs.Tests.{or-neither}
use Rattle.serialize_values.proofs.any_marked.Goals as goal

place-in : (l : List Bool) (i k : ℕ) → i + 64 ≤ length l → k < 64 → get_or (mid_of i (i + 64 - i) l) k false ≡ get_or l (i + k) false
place-in l i k p q = search (rules, places)

pub loop-mark-preserved : goal.loop-mark-preserved
loop-mark-preserved c = λ e.
    let p = or-neither c.loop-mark.any _ e in
    below_more _ _ (c.loop-mark.invariant p.0) p.1

pub returns : goal.returns
returns c = λ e k h.
    let a = c.args in
    let n = mid_len a.i (a.i + 64) a.marks.now (omega arith) in
    sym (place-in a.marks.now a.i k (omega arith) h) ∙ c.loop-mark.invariant e k (omega (arith, n, c.loop-mark-test.false))
