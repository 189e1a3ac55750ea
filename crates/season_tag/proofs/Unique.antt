-- No second answer: two answers that meet the contract of a public function are equal. Assumes nothing.
use Rattle.lists.proofs.Prelude.{ℕ, ◌*◌, ◌%◌, ◌^◌, ◌≡◌, sym, ◌∙◌, List}
use Rattle.lists.specs.Once.{Once}
use Rattle.lists.proofs.Once.{once_is}
use Rattle.store_bytes.specs.LocalsWrote.{Wrote}
use Rattle.season_tag.specs.Tag.{tag_from, tag_of}
use Rattle.season_tag.specs.Hex.{hex_of}

pub product-once : (a b : ℕ) → Once (λ r. r ≡ (a * b) % 2 ^ 64)
product-once a b = once_is ((a * b) % 2 ^ 64)

pub tag-on-once : (h : ℕ) (w : List ℕ) → Once (λ r. r ≡ tag_from h w)
tag-on-once h w = once_is (tag_from h w)

pub tag-once : (w : List ℕ) → Once (λ r. r ≡ tag_of w)
tag-once w = once_is (tag_of w)

pub put-hex-once : (n : ℕ) (out : List ℕ) (at : ℕ) (x y : List ℕ) (r s : ℕ) → Wrote (hex_of n) out at x r → Wrote (hex_of n) out at y s → (x ≡ y) × (r ≡ s)
put-hex-once n out at x y r s f g = (f.bytes ∙ sym g.bytes, f.place ∙ sym g.place)
