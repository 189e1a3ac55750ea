-- Bytes, UTF-8 and trimming: one machine, one step for each byte. `text_chars/specs/Table` says the same of UTF-8 without a machine.
use Rattle.std.specs.Prelude.{◌+◌, ◌*◌, ◌-◌, ◌∷◌}
use Rattle.lists.specs.Prelude.{ℕ, zero, suc, Bool, true, false, List, [], leb, eqb}
use Rattle.text_chars.specs.White.{within, white}

-- what is kept of the text so far: nothing but white space, or from the first other character to the end of the last one
pub data Ink : Type 0 where
  blank : Ink
  inked : ℕ → ℕ → Ink

-- a character from s to e more: is it white space
abbrev pub mark : Bool → Ink → ℕ → ℕ → Ink
mark true k s e = k
mark false blank s e = inked s e
mark false (inked f l) s e = inked f e

-- what the next byte of a character may be
pub data Range : Type 0 where
  any from-a0 to-9f from-90 to-8f : Range

-- a byte of the range
abbrev pub holds : Range → ℕ → Bool
holds any b = within 0x80 0xbf b
holds from-a0 b = within 0xa0 0xbf b
holds to-9f b = within 0x80 0x9f b
holds from-90 b = within 0x90 0xbf b
holds to-8f b = within 0x80 0x8f b

-- between characters; within one that began at s, of which n bytes and one more are to come; or bad from a place on
pub data Utf : Type 0 where
  whole : Ink → Utf
  part : Ink → (s n : ℕ) → Range → (code : ℕ) → Utf
  bad : ℕ → Utf

-- the first byte of a character, by the tests of its range
abbrev pub first : (b1 b2 b3 b4 b5 b6 b7 b8 : Bool) → Ink → ℕ → ℕ → Utf
first true b2 b3 b4 b5 b6 b7 b8 k o b = whole (mark (white b) k o (suc o))
first false true b3 b4 b5 b6 b7 b8 k o b = part k o 0 any (b - 0xc0)
first false false true b4 b5 b6 b7 b8 k o b = part k o 1 from-a0 (b - 0xe0)
first false false false true b5 b6 b7 b8 k o b = part k o 1 to-9f (b - 0xe0)
first false false false false true b6 b7 b8 k o b = part k o 1 any (b - 0xe0)
first false false false false false true b7 b8 k o b = part k o 2 from-90 (b - 0xf0)
first false false false false false false true b8 k o b = part k o 2 any (b - 0xf0)
first false false false false false false false true k o b = part k o 2 to-8f (b - 0xf0)
first false false false false false false false false k o b = bad o

-- a later byte, by the test of its range
abbrev pub later : Bool → Ink → (s n code o b : ℕ) → Utf
later true k s zero code o b = whole (mark (white (code * 64 + (b - 0x80))) k s (suc o))
later true k s (suc n) code o b = part k s n any (code * 64 + (b - 0x80))
later false k s n code o b = bad s

-- the byte b at the place o
abbrev pub utf : Utf → ℕ → ℕ → Utf
utf (whole k) o b =
    first (leb b 0x7f) (within 0xc2 0xdf b) (eqb b 0xe0) (eqb b 0xed) (within 0xe1 0xef b) (eqb b 0xf0) (within 0xf1 0xf3 b) (eqb b 0xf4) k o b
utf (part k s n r code) o b = later (holds r b) k s n code o b
utf (bad p) o b = bad p

-- the bytes from the place o on
abbrev pub utfs : Utf → ℕ → List ℕ → Utf
utfs u o [] = u
utfs u o (b ∷ bs) = utfs (utf u o b) (suc o) bs
