-- Where ink begins and ends, within the text. Assumes nothing.
use Rattle.lists.proofs.Prelude.{ℕ, zero, suc, ◌+◌, ◌-◌, ◌*◌, ◌≤◌, arith, Bool, true, false, List, [], ◌∷◌}
use Rattle.text_chars.specs.White.{white}
use Rattle.text_utf8.specs.Text.{Ink, blank, inked, mark, holds, Utf, whole, part, bad, later, utf, utfs}
use Rattle.text_utf8.proofs.Steps.{place, utf-both}

-- the ink begins by o, and ends from L to o
abbrev pub InkB : (L o : ℕ) → Ink → Type 0
InkB L o blank = L ≤ o
InkB L o (inked a l) = (a ≤ o) × (L ≤ l) × (l ≤ o)

abbrev pub Bnd : (L o : ℕ) → Utf → Type 0
Bnd L o (whole k) = InkB L o k
Bnd L o (part k s n r c) = InkB L o k × (s ≤ o) × (L ≤ o)
Bnd L o (bad p) = Unit {0}

bnd-up : (L o : ℕ) (k : Ink) → InkB L o k → (InkB L (suc o) k) × (L ≤ o)
bnd-up L o blank h = (omega arith, h)
bnd-up L o (inked a l) h = ((omega arith, h.1, omega arith), omega arith)

bnd-mark : (L : ℕ) (w : Bool) (k : Ink) (s o : ℕ) → s ≤ o → InkB L o k → InkB L (suc o) (mark w k s (suc o))
bnd-mark L true k s o l h = (bnd-up L o k h).0
bnd-mark L false blank s o l h = (omega arith, omega arith, omega arith)
bnd-mark L false (inked a l') s o l h = (omega arith, omega arith, omega arith)

bnd-part : (L : ℕ) (k : Ink) (s o : ℕ) → s ≤ o → InkB L o k → InkB L (suc o) k × (s ≤ suc o) × (L ≤ suc o)
bnd-part L k s o l h = let z = bnd-up L o k h in (z.0, omega arith, omega arith)

bnd-later : (L : ℕ) (t : Bool) (k : Ink) (s n c o b : ℕ) → s ≤ o → InkB L o k → Bnd L (suc o) (later t k s n c o b)
bnd-later L true k s zero c o b l h = bnd-mark L (white (c * 64 + (b - 0x80))) k s o l h
bnd-later L true k s (suc n) c o b l h = bnd-part L k s o l h
bnd-later L false k s n c o b l h = tt

pub bnd-utf : (L : ℕ) (u : Utf) (o b : ℕ) → Bnd L o u → Bnd L (suc o) (utf u o b)
bnd-utf L (whole k) o b h =
    utf-both (λ (u _ : Utf). Bnd L (suc o) u) k k o o b (bnd-mark L (white b) k o o (omega arith) h) (λ n r c. bnd-part L k o o (omega arith) h) tt
bnd-utf L (part k s n r c) o b h = bnd-later L (holds r b) k s n c o b h.1 h.0
bnd-utf L (bad p) o b h = tt

pub bnd-utfs : (L : ℕ) (u : Utf) (o : ℕ) (bs : List ℕ) → Bnd L o u → Bnd L (place o bs) (utfs u o bs)
bnd-utfs L u o [] h = h
bnd-utfs L u o (b ∷ bs) h = bnd-utfs L (utf u o b) (suc o) bs (bnd-utf L u o b h)
