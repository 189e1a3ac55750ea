-- UTF-8 one byte a call follows the machine that keeps what trimming keeps. Assumes nothing.
use Rattle.lists.proofs.Prelude.{◌≡◌, refl, ℕ, zero, suc, ◌+◌, ◌-◌, ◌*◌, ◌%◌, ◌≤◌, ◌<◌, arith, Bool, true, false, leb, eqb, leb-true, eqb-true, ◌&&◌}
use Rattle.lists.proofs.Tests.{and_both}
use native.Mathlib.Nat.{mod-eq_of_lt}
use Rattle.text_chars.specs.White.{white}
use Rattle.text_utf8.specs.Text.{Ink, blank, inked, mark, Range, any, from-a0, to-9f, from-90, to-8f, holds, Utf, whole, part, bad, first, later, utf}
use Rattle.blocks_step.specs.declared.Utf8.TheVariants.{Whole, Within, Bad}
use Rattle.blocks_step.specs.declared.Char.{Char}
use Rattle.blocks_step.specs.declared.Char.TheVariants.{Ended, Goes}
use Rattle.blocks_step.specs.Decode.{more_of, range_of, left_by, char_of, decodes}

-- so few bits by how many bytes are to come after the next one
abbrev pub Small : ℕ → ℕ → Type 0
Small zero c = c < 20480
Small (suc zero) c = c < 320
Small (suc (suc n)) c = c < 5

-- a character that is not whole yet, as the machine has it
pub record Begun (n : ℕ) (r : Range) (c : ℕ) : Type 0 where
  pub low : n ≤ 2
  pub more : more_of (left_by n r) ≡ n
  pub range : range_of (left_by n r) ≡ r
  pub small : Small n c

-- what a byte at o does to the machine where k is kept, and to UTF-8 alone
pub data Steps (k : Ink) (o : ℕ) : Utf → Char → Type 0 where
  space : Steps k o (whole k) (Ended true)
  ink : (f : ℕ) → Steps k o (whole (inked f (suc o))) (Ended false)
  partly : (s n : ℕ) (r : Range) (c : ℕ) → Begun n r c → Steps k o (part k s n r c) (Goes (Within (left_by n r) s c))
  broken : (p : ℕ) → Steps k o (bad p) (Goes (Bad p))

mark-steps : (w : Bool) (k : Ink) (s o : ℕ) → Steps k o (whole (mark w k s (suc o))) (char_of (whole (mark w blank s (suc o))))
mark-steps true k s o = space
mark-steps false blank s o = ink s
mark-steps false (inked f l) s o = ink f

range-high : (a z b : ℕ) → (leb a b && leb b z) ≡ true → b ≤ z
range-high a z b h = leb-true b z (and_both (leb a b) (leb b z) h).1

-- ---- the first byte

first-steps : (k : Ink) (o b : ℕ) (b1 b2 b3 b4 b5 b6 b7 b8 : Bool) → (b2 ≡ true → b ≤ 0xdf) → (b3 ≡ true → b ≡ 0xe0) → (b4 ≡ true → b ≡ 0xed) → (b5 ≡ true → b ≤ 0xef)
    → (b6 ≡ true → b ≡ 0xf0) → (b7 ≡ true → b ≤ 0xf3) → (b8 ≡ true → b ≡ 0xf4)
    → Steps k o (first b1 b2 b3 b4 b5 b6 b7 b8 k o b) (char_of (first b1 b2 b3 b4 b5 b6 b7 b8 blank o b))
first-steps k o b true b2 b3 b4 b5 b6 b7 b8 h2 h3 h4 h5 h6 h7 h8 = mark-steps (white b) k o o
first-steps k o b false true b3 b4 b5 b6 b7 b8 h2 h3 h4 h5 h6 h7 h8 = partly o 0 any (b - 0xc0) (record { low = omega arith; more = refl; range = refl; small = omega (arith, h2 refl) })
first-steps k o b false false true b4 b5 b6 b7 b8 h2 h3 h4 h5 h6 h7 h8 = partly o 1 from-a0 (b - 0xe0) (record { low = omega arith; more = refl; range = refl; small = omega (arith, h3 refl) })
first-steps k o b false false false true b5 b6 b7 b8 h2 h3 h4 h5 h6 h7 h8 = partly o 1 to-9f (b - 0xe0) (record { low = omega arith; more = refl; range = refl; small = omega (arith, h4 refl) })
first-steps k o b false false false false true b6 b7 b8 h2 h3 h4 h5 h6 h7 h8 = partly o 1 any (b - 0xe0) (record { low = omega arith; more = refl; range = refl; small = omega (arith, h5 refl) })
first-steps k o b false false false false false true b7 b8 h2 h3 h4 h5 h6 h7 h8 = partly o 2 from-90 (b - 0xf0) (record { low = omega arith; more = refl; range = refl; small = omega (arith, h6 refl) })
first-steps k o b false false false false false false true b8 h2 h3 h4 h5 h6 h7 h8 = partly o 2 any (b - 0xf0) (record { low = omega arith; more = refl; range = refl; small = omega (arith, h7 refl) })
first-steps k o b false false false false false false false true h2 h3 h4 h5 h6 h7 h8 = partly o 2 to-8f (b - 0xf0) (record { low = omega arith; more = refl; range = refl; small = omega (arith, h8 refl) })
first-steps k o b false false false false false false false false h2 h3 h4 h5 h6 h7 h8 = broken o

pub whole-steps : (k : Ink) (o b : ℕ) → Steps k o (utf (whole k) o b) (decodes Whole o b)
unfolding decodes
whole-steps k o b =
    first-steps k o b (leb b 0x7f) (leb 0xc2 b && leb b 0xdf) (eqb b 0xe0) (eqb b 0xed) (leb 0xe1 b && leb b 0xef) (eqb b 0xf0) (leb 0xf1 b && leb b 0xf3) (eqb b 0xf4)
    (range-high 0xc2 0xdf b) (eqb-true b 0xe0) (eqb-true b 0xed) (range-high 0xe1 0xef b) (eqb-true b 0xf0) (range-high 0xf1 0xf3 b) (eqb-true b 0xf4)

-- ---- a later one

holds-high : (r : Range) (b : ℕ) → holds r b ≡ true → b ≤ 0xbf
holds-high any b h = range-high 0x80 0xbf b h
holds-high from-a0 b h = range-high 0xa0 0xbf b h
holds-high to-9f b h = let x = range-high 0x80 0x9f b h in omega arith
holds-high from-90 b h = range-high 0x90 0xbf b h
holds-high to-8f b h = let x = range-high 0x80 0x8f b h in omega arith

later-begun : (n : ℕ) (r : Range) (c b : ℕ) → Begun (suc n) r c → b ≤ 0xbf → Begun n any (c * 64 + (b - 0x80))
later-begun zero r c b h l = let x : c < 320 = h.small in record { low = omega arith; more = refl; range = refl; small = omega arith }
later-begun (suc zero) r c b h l = let x : c < 5 = h.small in record { low = omega arith; more = refl; range = refl; small = omega arith }
later-begun (suc (suc n)) r c b h l = absurd (omega (arith, h.low))

later-steps : (t : Bool) (k : Ink) (s n : ℕ) (r : Range) (c o b : ℕ) → Begun n r c → (t ≡ true → b ≤ 0xbf) → Steps k o (later t k s n c o b) (char_of (later t blank s n c o b))
later-steps true k s zero r c o b h l = mark-steps (white (c * 64 + (b - 0x80))) k s o
later-steps true k s (suc n) r c o b h l = partly s n any (c * 64 + (b - 0x80)) (later-begun n r c b h (l refl))
later-steps false k s n r c o b h l = broken s

small-below : (n : ℕ) (c : ℕ) → Small n c → c < 32768
small-below zero c h = omega (arith, h)
small-below (suc zero) c h = omega (arith, h)
small-below (suc (suc n)) c h = omega (arith, h)

pub part-steps : (k : Ink) (s n : ℕ) (r : Range) (c o b : ℕ) → Begun n r c → Steps k o (utf (part k s n r c) o b) (decodes (Within (left_by n r) s c) o b)
unfolding decodes
part-steps k s n r c o b h =
    let e : c % 32768 ≡ c = mod-eq_of_lt (small-below n c h.small) in
    rw (h.more, h.range, e) (later-steps (holds r b) k s n r c o b h (holds-high r b))
