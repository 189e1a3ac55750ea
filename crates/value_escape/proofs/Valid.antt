-- UTF-8 stays UTF-8 where it is escaped: a backslash and `]` are characters of one byte. Assumes nothing.
use Rattle.lists.proofs.Prelude.{◌≡◌, refl, sym, ap, ◌∙◌, ℕ, zero, suc, Bool, true, false, ◌||◌, List, [], ◌∷◌, ◌++◌, eqb, eqb-true}
use Rattle.lists.proofs.Tests.{never}
use Rattle.text_utf8.specs.Text.{Ink, blank, Range, any, from-a0, to-9f, from-90, to-8f, holds, Utf, whole, part, bad, later, utf, utfs}
use Rattle.text_utf8.proofs.Steps.{utf-both, utfs-bad, bad-whole}
use Rattle.value_escape.specs.Escape.{escaped_byte, escaped_text}

-- at the same place of a character, if the first machine is not bad
abbrev At : Utf → Utf → Type 0
At (whole k) (whole k') = Unit {0}
At (whole k) (part k' s n r c) = ⊥
At (whole k) (bad p) = ⊥
At (part k s n r c) (whole k') = ⊥
At (part k s n r c) (part k' s' n' r' c') = (n ≡ n') × (r ≡ r')
At (part k s n r c) (bad p) = ⊥
At (bad p) u = Unit {0}

at-later : (t : Bool) (k k' : Ink) (s s' n c c' o o' b : ℕ) → At (later t k s n c o b) (later t k' s' n c' o' b)
at-later true k k' s s' zero c c' o o' b = tt
at-later true k k' s s' (suc n) c c' o o' b = (refl, refl)
at-later false k k' s s' n c c' o o' b = tt

at-utf : (u u' : Utf) (o o' b : ℕ) → At u u' → At (utf u o b) (utf u' o' b)
at-utf (whole k) (whole k') o o' b h = utf-both At k k' o o' b tt (λ n r c. (refl, refl)) tt
at-utf (whole k) (part k' s n r c) o o' b h = absurd h
at-utf (whole k) (bad p) o o' b h = absurd h
at-utf (part k s n r c) (whole k') o o' b h = absurd h
at-utf (part k s n r c) (part k' s' n' r' c') o o' b h = rw (h.0, h.1) (at-later (holds r' b) k k' s s' n' c c' o o' b)
at-utf (part k s n r c) (bad p) o o' b h = absurd h
at-utf (bad p) u' o o' b h = tt

-- a whole text, wherever it begins
abbrev Ends : Utf → Type 0
Ends u = (k : Ink) × (u ≡ whole k)

ends_at : (u u' : Utf) → At u u' → Ends u → Ends u'
ends_at (whole k) (whole k') h e = (k', refl)
ends_at (whole k) (part k' s n r c) h e = absurd h
ends_at (whole k) (bad p) h e = absurd h
ends_at (part k s n r c) u' h e = never cc
ends_at (bad p) u' h e = bad-whole p e.0 e.1

-- neither byte is a later one of a character
apart : (r : Range) (b : ℕ) → (eqb b 0x5c || eqb b 0x5d) ≡ true → holds r b ≡ false
apart r b h = go (eqb b 0x5c) refl (eqb b 0x5d) refl h
  where
    one : (s : Range) → holds s 0x5c ≡ false
    one = elim [ any ↦ refl | from-a0 ↦ refl | to-9f ↦ refl | from-90 ↦ refl | to-8f ↦ refl ]

    two : (s : Range) → holds s 0x5d ≡ false
    two = elim [ any ↦ refl | from-a0 ↦ refl | to-9f ↦ refl | from-90 ↦ refl | to-8f ↦ refl ]

    go : (x : Bool) → eqb b 0x5c ≡ x → (y : Bool) → eqb b 0x5d ≡ y → (x || y) ≡ true → holds r b ≡ false
    go true e y f g = ap (holds r) (eqb-true b 0x5c e) ∙ one r
    go false e true f g = ap (holds r) (eqb-true b 0x5d f) ∙ two r
    go false e false f g = never cc

-- the machine on a text, and on what it is escaped
abbrev Follows : List ℕ → Type 0
Follows t = (u u' : Utf) (o o' : ℕ) → At u u' → Ends (utfs u o t) → Ends (utfs u' o' (escaped_text t))

follows-mark : (b : ℕ) (t : List ℕ) → (eqb b 0x5c || eqb b 0x5d) ≡ true → Follows t
    → (u u' : Utf) (o o' : ℕ) → At u u' → Ends (utfs u o (b ∷ t)) → Ends (utfs u' o' (0x5c ∷ b ∷ escaped_text t))
follows-mark b t g f (whole k) (whole k') o o' h e =
    f (utf (whole k) o b) (utf (utf (whole k') o' 0x5c) (suc o') b) (suc o) (suc (suc o')) (at-utf (whole k) (utf (whole k') o' 0x5c) o (suc o') b tt) e
follows-mark b t g f (whole k) (part k' s n r c) o o' h e = absurd h
follows-mark b t g f (whole k) (bad p) o o' h e = absurd h
follows-mark b t g f (part k s n r c) u' o o' h e =
    bad-whole s e.0 (sym (ap (λ (x : Bool). utfs (later x k s n c o b) (suc o) t) (apart r b g) ∙ utfs-bad s (suc o) t) ∙ e.1)
follows-mark b t g f (bad p) u' o o' h e = bad-whole p e.0 (sym (utfs-bad p (suc o) t) ∙ e.1)

follows : (t : List ℕ) → Follows t
unfolding escaped_text
follows [] u u' o o' h e = ends_at u u' h e
follows (b ∷ t) u u' o o' h e = go (eqb b 0x5c || eqb b 0x5d) refl (follows t)
  where
    go : (x : Bool) → (eqb b 0x5c || eqb b 0x5d) ≡ x → Follows t → Ends (utfs u' o' (escaped_byte b ++ escaped_text t))
    go true g f = rw g (follows-mark b t g f u u' o o' h e)
    go false g f = rw g (f (utf u o b) (utf u' o' b) (suc o) (suc o') (at-utf u u' o o' b h) e)

-- a valid text is valid where it is escaped, as a value of its own
pub escape-valid : (t : List ℕ) (k : Ink) → utfs (whole blank) 0 t ≡ whole k → (k' : Ink) × (utfs (whole blank) 0 (escaped_text t) ≡ whole k')
escape-valid t k e = follows t (whole blank) (whole blank) 0 0 tt (k, e)
