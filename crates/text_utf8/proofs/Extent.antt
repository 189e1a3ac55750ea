-- What trimming keeps is not empty and lies in the text; the start of a bad sequence does too. Assumes nothing.
use Rattle.lists.proofs.Prelude.{◌≡◌, subst, ℕ, zero, suc, ◌+◌, ◌-◌, ◌*◌, ◌≤◌, ◌<◌, arith, Bool, true, false, List, [], ◌∷◌, length}
use Rattle.text_utf8.specs.declared.Trimmed.{Trimmed}
use Rattle.text_utf8.specs.declared.Trimmed.TheVariants.{NotUtf8, Blank, Kept}
use Rattle.text_chars.specs.White.{white}
use Rattle.text_utf8.specs.Text.{Ink, blank, inked, mark, holds, Utf, whole, part, bad, later, utf, utfs}
use Rattle.text_utf8.specs.Trim.{trim_of, trimmed}
use Rattle.text_utf8.proofs.Steps.{place, place_is, utf-both}

-- before the place o: ink that is not empty, the start of a character, the start of a bad sequence
abbrev InkIn : ℕ → Ink → Type 0
InkIn o blank = Unit {0}
InkIn o (inked a l) = (a < l) × (l ≤ o)

abbrev UtfIn : ℕ → Utf → Type 0
UtfIn o (whole k) = InkIn o k
UtfIn o (part k s n r c) = InkIn o k × (s < o)
UtfIn o (bad p) = p < o

in-up : (o : ℕ) (k : Ink) → InkIn o k → InkIn (suc o) k
in-up o blank h = tt
in-up o (inked a l) h = (h.0, omega arith)

in-mark : (w : Bool) (k : Ink) (s o : ℕ) → s ≤ o → InkIn o k → InkIn (suc o) (mark w k s (suc o))
in-mark true k s o l h = in-up o k h
in-mark false blank s o l h = (omega arith, omega arith)
in-mark false (inked a e) s o l h = (omega arith, omega arith)

in-later : (t : Bool) (k : Ink) (s n c o b : ℕ) → s < o → InkIn o k → UtfIn (suc o) (later t k s n c o b)
in-later true k s zero c o b l h = in-mark (white (c * 64 + (b - 0x80))) k s o (omega arith) h
in-later true k s (suc n) c o b l h = (in-up o k h, omega arith)
in-later false k s n c o b l h = omega arith

in-utf : (u : Utf) (o b : ℕ) → UtfIn o u → UtfIn (suc o) (utf u o b)
in-utf (whole k) o b h = utf-both (λ (u _ : Utf). UtfIn (suc o) u) k k o o b (in-mark (white b) k o o (omega arith) h) (λ n r c. (in-up o k h, omega arith)) (omega arith)
in-utf (part k s n r c) o b h = in-later (holds r b) k s n c o b h.1 h.0
in-utf (bad p) o b h = omega arith

in-utfs : (u : Utf) (o : ℕ) (bs : List ℕ) → UtfIn o u → UtfIn (place o bs) (utfs u o bs)
in-utfs u o [] h = h
in-utfs u o (b ∷ bs) h = in-utfs (utf u o b) (suc o) bs (in-utf u o b h)

-- an answer within a text of n bytes
abbrev pub AnswerIn : ℕ → Trimmed → Type 0
AnswerIn n (NotUtf8 p) = p < n
AnswerIn n Blank = Unit {0}
AnswerIn n (Kept f l) = (f < l) × (l ≤ n)

in-shown : (n : ℕ) (u : Utf) → UtfIn n u → AnswerIn n (trim_of u)
in-shown n (whole blank) h = tt
in-shown n (whole (inked a l)) h = h
in-shown n (part k s m r c) h = h.1
in-shown n (bad p) h = h

pub trim-in : (t : List ℕ) → AnswerIn (length t) (trimmed t)
unfolding trimmed
trim-in t =
    let e : place 0 t ≡ length t = omega (arith, place_is 0 t) in
    in-shown (length t) (utfs (whole blank) 0 t) (subst (λ (n : ℕ). UtfIn n (utfs (whole blank) 0 t)) e (in-utfs (whole blank) 0 t tt))

pub trim-bounds : (t : List ℕ) (f l : ℕ) → trimmed t ≡ Kept f l → (f < l) × (l ≤ length t)
trim-bounds t f l e = subst (AnswerIn (length t)) e (trim-in t)

pub bad-bound : (t : List ℕ) (p : ℕ) → trimmed t ≡ NotUtf8 p → p < length t
bad-bound t p e = subst (AnswerIn (length t)) e (trim-in t)
