-- The rows of table 3-7 by their width: those of one width end alike, and differ in their first two bytes. Assumes nothing.
use Rattle.lists.proofs.Prelude.{◌≡◌, ℕ, Bool, true, false, ◌&&◌, ◌||◌, and-true, and-false, or-false, or_assoc, [], ◌∷◌}
use Rattle.text_chars.specs.White.{within}
use Rattle.text_chars.specs.Table.{table37, listed}

pub listed-2 : (b c : ℕ) → listed 2 (b ∷ c ∷ []) ≡ within 0xc2 0xdf b && within 0x80 0xbf c
unfolding listed table37
listed-2 b c = simp (and-true, or-false)

alike-4 : (p q r s t u v w x : Bool)
    → p && (q && (x && true)) || (r && (s && (x && true)) || (t && (u && (x && true)) || (v && (w && (x && true)) || false))) ≡ (p && q || r && s || t && u || v && w) && x
alike-4 p q r s t u v w true = simp (and-true, or-false, or_assoc)
alike-4 p q r s t u v w false = simp and-false

pub listed-3 : (b c d : ℕ) → listed 3 (b ∷ c ∷ d ∷ [])
    ≡ (within 0xe0 0xe0 b && within 0xa0 0xbf c || within 0xe1 0xec b && within 0x80 0xbf c || within 0xed 0xed b && within 0x80 0x9f c || within 0xee 0xef b && within 0x80 0xbf c)
    && within 0x80 0xbf d
unfolding listed table37
listed-3 b c d =
    alike-4 (within 0xe0 0xe0 b) (within 0xa0 0xbf c) (within 0xe1 0xec b) (within 0x80 0xbf c) (within 0xed 0xed b) (within 0x80 0x9f c) (within 0xee 0xef b) (within 0x80 0xbf c)
    (within 0x80 0xbf d)

alike-3 : (p q r s t u x y : Bool) → p && (q && (x && (y && true))) || (r && (s && (x && (y && true))) || (t && (u && (x && (y && true))) || false)) ≡ (p && q || r && s || t && u) && (x && y)
alike-3 p q r s t u true true = simp (and-true, or-false, or_assoc)
alike-3 p q r s t u true false = simp and-false
alike-3 p q r s t u false y = simp and-false

pub listed-4 : (b c d e : ℕ) → listed 4 (b ∷ c ∷ d ∷ e ∷ [])
    ≡ (within 0xf0 0xf0 b && within 0x90 0xbf c || within 0xf1 0xf3 b && within 0x80 0xbf c || within 0xf4 0xf4 b && within 0x80 0x8f c)
    && (within 0x80 0xbf d && within 0x80 0xbf e)
unfolding listed table37
listed-4 b c d e =
    alike-3 (within 0xf0 0xf0 b) (within 0x90 0xbf c) (within 0xf1 0xf3 b) (within 0x80 0xbf c) (within 0xf4 0xf4 b) (within 0x80 0x8f c) (within 0x80 0xbf d) (within 0x80 0xbf e)
