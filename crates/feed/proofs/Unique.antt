-- No second answer: two answers that meet the contract of a public function are equal. Assumes nothing.
use Rattle.lists.proofs.Prelude.{ℕ, ◌≡◌, sym, ap, ◌∙◌, Bool, List}
use Rattle.lists.specs.Once.{Once}
use Rattle.lists.proofs.Once.{once_is}
use Rattle.feed_numerals.specs.Numeral.{numeral_limit}
use Rattle.feed.specs.Feed.{entry_at, listing}
use Rattle.feed.specs.Find.{found_in}
use Rattle.feed.specs.LocalsNext.{Lies}
use Rattle.feed.specs.Made.{MadeIs, out_after}
use Rattle.std.specs.Prelude.{Result}
use Rattle.feed.specs.declared.make.MakeFault.{MakeFault}

pub next-at-once : (w : List ℕ) (low at : ℕ) → Once (λ r. (r ≡ entry_at w low at) × Lies w low numeral_limit r)
next-at-once w low at r r' h k = once_is (entry_at w low at) r r' h.0 k.0

pub is-feed-once : (w : List ℕ) → Once (λ r. r ≡ (listing w).whole)
is-feed-once w = once_is (listing w).whole

pub find-once : (w : List ℕ) (k : ℕ) → Once (λ r. r ≡ found_in (listing w).entries k)
find-once w k = once_is (found_in (listing w).entries k)

-- of the count and of a correction
pub made-once : (held : Bool) (bytes out x y : List ℕ) (r r' : Result ℕ MakeFault) → MadeIs held bytes out x r → MadeIs held bytes out y r' → (x ≡ y) × (r ≡ r')
made-once held bytes out x y r r' f g =
    let e = f.answer ∙ sym g.answer in
    (f.memory ∙ ap (λ (z : Result ℕ MakeFault). out_after z bytes out) e ∙ sym g.memory, e)
