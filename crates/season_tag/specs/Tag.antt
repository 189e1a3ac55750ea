-- FNV-1a, 64 bits.
use Rattle.lists.specs.Prelude.{ℕ, List, []}
use Rattle.std.specs.Prelude.{bit_xor, ◌*◌, ◌%◌, ◌^◌, ◌∷◌}

-- one byte: exclusive-or, then the product with the prime, modulo 2 ^ 64
abbrev pub tag_step : ℕ → ℕ → ℕ
tag_step h b = (bit_xor h b * 1099511628211) % 2 ^ 64

-- byte by byte, from a number on
abbrev pub tag_from : ℕ → List ℕ → ℕ
tag_from h [] = h
tag_from h (b ∷ bs) = tag_from (tag_step h b) bs

-- the tag of bytes
unfoldable pub tag_of : List ℕ → ℕ
tag_of w = tag_from 14695981039346656037 w
