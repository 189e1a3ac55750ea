-- Well-formed UTF-8 as Unicode's table 3-7 has it.
use Rattle.std.specs.Prelude.{◌+◌, ◌*◌, ◌-◌, ◌<◌, ◌≡◌, ◌||◌, ◌&&◌, ◌∷◌}
use Rattle.lists.specs.Prelude.{ℕ, zero, suc, Bool, true, false, List, [], eqb, length, take, drop}
use Rattle.text_chars.specs.White.{within}

-- a range of bytes, both ends in it
pub record Bytes : Type 0 where
  pub low : ℕ
  pub high : ℕ

-- the range from a to b
abbrev pub to : ℕ → ℕ → Bytes
to a b = record { low = a; high = b }

-- table 3-7: the well-formed sequences, a range for each byte
unfoldable pub table37 : List (List Bytes)
table37 =
    (to 0x00 0x7f ∷ []) ∷
    (to 0xc2 0xdf ∷ to 0x80 0xbf ∷ []) ∷
    (to 0xe0 0xe0 ∷ to 0xa0 0xbf ∷ to 0x80 0xbf ∷ []) ∷
    (to 0xe1 0xec ∷ to 0x80 0xbf ∷ to 0x80 0xbf ∷ []) ∷
    (to 0xed 0xed ∷ to 0x80 0x9f ∷ to 0x80 0xbf ∷ []) ∷
    (to 0xee 0xef ∷ to 0x80 0xbf ∷ to 0x80 0xbf ∷ []) ∷
    (to 0xf0 0xf0 ∷ to 0x90 0xbf ∷ to 0x80 0xbf ∷ to 0x80 0xbf ∷ []) ∷
    (to 0xf1 0xf3 ∷ to 0x80 0xbf ∷ to 0x80 0xbf ∷ to 0x80 0xbf ∷ []) ∷
    (to 0xf4 0xf4 ∷ to 0x80 0x8f ∷ to 0x80 0xbf ∷ to 0x80 0xbf ∷ []) ∷ []

-- the bytes begin with a sequence of the row
abbrev pub fits : List Bytes → List ℕ → Bool
fits [] t = true
fits (r ∷ rs) [] = false
fits (r ∷ rs) (b ∷ t) = within r.low r.high b && fits rs t

-- the bytes begin with a sequence of n bytes that one of the rows has
abbrev pub listed_in : List (List Bytes) → ℕ → List ℕ → Bool
listed_in [] n t = false
listed_in (row ∷ rows) n t = eqb (length row) n && fits row t || listed_in rows n t

-- the bytes begin with a well-formed sequence of n bytes
unfoldable pub listed : ℕ → List ℕ → Bool
listed n t = listed_in table37 n t

-- nothing, or a well-formed sequence and then a well-formed text (SCOPE 33)
pub data WellFormed : List ℕ → Type 0 where
  empty : WellFormed []
  begins : {t : List ℕ} (n : ℕ) → listed n t ≡ true → WellFormed (drop n t) → WellFormed t

-- p is the start of the first bad sequence: what stands before it is well formed, and no well-formed sequence begins there (SCOPE 51)
pub record BadFrom (t : List ℕ) (p : ℕ) : Type 0 where
  pub inside : p < length t
  pub before : WellFormed (take p t)
  pub here : (n : ℕ) → listed n (drop p t) ≡ false

-- what marks the first byte of a sequence of n bytes more
abbrev pub base : ℕ → ℕ
base zero = 0
base (suc zero) = 0xc0
base (suc (suc zero)) = 0xe0
base (suc (suc (suc n))) = 0xf0

-- the bits so far, and six of each byte more
abbrev pub bits : ℕ → List ℕ → ℕ
bits code [] = code
bits code (b ∷ bs) = bits (code * 64 + (b - 0x80)) bs

-- the character that a sequence codes (table 3-6)
abbrev pub scalar : List ℕ → ℕ
scalar [] = 0
scalar (b ∷ bs) = bits (b - base (length bs)) bs
