use Rattle.lists.proofs.Prelude.{ℕ, ◌-◌, ◌^◌, ◌<◌, ◌≡◌, List, length}
use Rattle.store_bytes.specs.LocalsWrote.{Wrote}
use Rattle.feed_numerals.specs.Numeral.{groups_of, spelled}
use Rattle.feed_numerals.proofs.put_numeral.Given as goal

abbrev pub invariant-loop : goal.invariant-loop
invariant-loop l =
    ((o : List ℕ) (r : ℕ) → Wrote (groups_of (4 - l.counter) l.rest) l.out l.next o r → Wrote (spelled l.n) l.initial.out l.at o r)
    × (length l.out ≡ length l.initial.out)
    × (l.next < 2 ^ 64)
