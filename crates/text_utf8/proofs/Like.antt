-- Whether bytes are well formed depends neither on the place where they begin nor on the ink before them. Assumes nothing.
use Rattle.lists.proofs.Prelude.{◌≡◌, refl, ap, ℕ, zero, suc, ◌+◌, ◌-◌, ◌*◌, Bool, true, false, List, [], ◌∷◌}
use Rattle.text_chars.specs.White.{white}
use Rattle.text_utf8.specs.Text.{Ink, blank, inked, mark, holds, Utf, whole, part, bad, later, utf, utfs}
use Rattle.text_utf8.proofs.Steps.{utf-both}

-- u and u' are at the same place of a character, and u' has ink from a
abbrev pub Like : ℕ → Utf → Utf → Type 0
Like a (whole k) (whole blank) = ⊥
Like a (whole k) (whole (inked a' l)) = a' ≡ a
Like a (whole k) (part k' s n r c) = ⊥
Like a (whole k) (bad p) = ⊥
Like a (part k s n r c) (whole k') = ⊥
Like a (part k s n r c) (part blank s' n' r' c') = ⊥
Like a (part k s n r c) (part (inked a' l) s' n' r' c') = (a' ≡ a) × (n ≡ n') × (r ≡ r') × (c ≡ c')
Like a (part k s n r c) (bad p) = ⊥
Like a (bad p) (whole k) = ⊥
Like a (bad p) (part k s n r c) = ⊥
Like a (bad p) (bad p') = Unit {0}

like-mark : (a : ℕ) (w : Bool) (k : Ink) (a' l s s' e e' : ℕ) → a' ≡ a → Like a (whole (mark w k s e)) (whole (mark w (inked a' l) s' e'))
like-mark a true k a' l s s' e e' h = h
like-mark a false k a' l s s' e e' h = h

like-later : (a : ℕ) (t : Bool) (k : Ink) (a' l s s' n c o o' b : ℕ) → a' ≡ a → Like a (later t k s n c o b) (later t (inked a' l) s' n c o' b)
like-later a true k a' l s s' zero c o o' b h = like-mark a (white (c * 64 + (b - 0x80))) k a' l s s' (suc o) (suc o') h
like-later a true k a' l s s' (suc n) c o o' b h = (h, refl, refl, refl)
like-later a false k a' l s s' n c o o' b h = tt

pub like-utf : (a : ℕ) (u u' : Utf) (o o' b : ℕ) → Like a u u' → Like a (utf u o b) (utf u' o' b)
like-utf a (whole k) (whole blank) o o' b h = absurd h
like-utf a (whole k) (whole (inked a' l)) o o' b h =
    utf-both (Like a) k (inked a' l) o o' b (like-mark a (white b) k a' l o o' (suc o) (suc o') h) (λ n r c. (h, refl, refl, refl)) tt
like-utf a (whole k) (part k' s n r c) o o' b h = absurd h
like-utf a (whole k) (bad p) o o' b h = absurd h
like-utf a (part k s n r c) (whole k') o o' b h = absurd h
like-utf a (part k s n r c) (part blank s' n' r' c') o o' b h = absurd h
like-utf a (part k s n r c) (part (inked a' l) s' n' r' c') o o' b h =
    rw (h.1, h.2, h.3) (like-later a (holds r' b) k a' l s s' n' c' o o' b h.0)
like-utf a (part k s n r c) (bad p) o o' b h = absurd h
like-utf a (bad p) (whole k) o o' b h = absurd h
like-utf a (bad p) (part k s n r c) o o' b h = absurd h
like-utf a (bad p) (bad p') o o' b h = tt

pub like-utfs : (a : ℕ) (u u' : Utf) (o o' : ℕ) (bs : List ℕ) → Like a u u' → Like a (utfs u o bs) (utfs u' o' bs)
like-utfs a u u' o o' [] h = h
like-utfs a u u' o o' (b ∷ bs) h = like-utfs a (utf u o b) (utf u' o' b) (suc o) (suc o') bs (like-utf a u u' o o' b h)

pub like-ink : (a : ℕ) (k k' : Ink) → Like a (whole k) (whole k') → (l : ℕ) × (k' ≡ inked a l)
like-ink a k blank h = absurd h
like-ink a k (inked a' l) h = (l, ap (λ (z : ℕ). inked z l) h)

pub like-whole : (a : ℕ) (k : Ink) (u : Utf) → Like a (whole k) u → (l : ℕ) × (u ≡ whole (inked a l))
like-whole a k (whole k') h = let x = like-ink a k k' h in (x.0, ap whole x.1)
like-whole a k (part k' s n r c) h = absurd h
like-whole a k (bad p) h = absurd h
