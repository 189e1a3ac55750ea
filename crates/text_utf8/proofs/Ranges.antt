-- The ranges of the machine and those of table 3-7. Assumes nothing.
use Rattle.lists.proofs.Prelude.{◌≡◌, refl, ℕ, List, ◌∷◌, replicate}
use Rattle.text_chars.specs.White.{within}
use Rattle.text_utf8.specs.Text.{Range, any, from-a0, to-9f, from-90, to-8f, holds}
use Rattle.text_chars.specs.Table.{Bytes, to}

-- the bytes of a range
abbrev pub bytes : Range → Bytes
bytes any = to 0x80 0xbf
bytes from-a0 = to 0xa0 0xbf
bytes to-9f = to 0x80 0x9f
bytes from-90 = to 0x90 0xbf
bytes to-8f = to 0x80 0x8f

pub holds-is : (r : Range) (b : ℕ) → holds r b ≡ within (bytes r).low (bytes r).high b
holds-is any b = refl
holds-is from-a0 b = refl
holds-is to-9f b = refl
holds-is from-90 b = refl
holds-is to-8f b = refl

-- the bytes after the first one of a row: one of r, and n more
abbrev pub after : Range → ℕ → List Bytes
after r n = bytes r ∷ replicate n (to 0x80 0xbf)
