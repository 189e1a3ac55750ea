-- No second answer: two answers that meet the contract of a public function are equal. Assumes nothing.
use Rattle.lists.proofs.Prelude.{ℕ, ◌≡◌, sym, ◌∙◌, List, length}
use Rattle.lists.specs.Once.{Once}
use Rattle.lists.proofs.Once.{once_is}
use Rattle.store_bytes.specs.LocalsWrote.{Wrote}
use Rattle.feed_numerals.specs.Numeral.{numeral_at, spelled, numeral_limit, Below}

pub read-numeral-once : (s : List ℕ) (at : ℕ) → Once (λ r. (r ≡ numeral_at s at) × Below numeral_limit r)
read-numeral-once s at r r' h k = once_is (numeral_at s at) r r' h.0 k.0

pub numeral-size-once : (n : ℕ) → Once (λ r. r ≡ length (spelled n))
numeral-size-once n = once_is (length (spelled n))

pub put-numeral-once : (n at : ℕ) (out x y : List ℕ) (r r' : ℕ) → Wrote (spelled n) out at x r → Wrote (spelled n) out at y r' → (x ≡ y) × (r ≡ r')
put-numeral-once n at out x y r r' f g = (f.bytes ∙ sym g.bytes, f.place ∙ sym g.place)
