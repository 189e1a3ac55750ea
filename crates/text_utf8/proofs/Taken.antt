-- From a place between characters the machine takes a sequence of table 3-7 whole. Assumes nothing.
use Rattle.lists.proofs.Prelude.{◌≡◌, refl, ap, ◌∙◌, subst, ℕ, zero, suc, ◌+◌, ◌*◌, ◌-◌, ◌≤◌, arith, add-one, Bool, true, false≢true, List, [], ◌∷◌, length, take, drop, length-replicate, length-take-le, lt-leb, le-leb, ne_eqb}
use Rattle.text_chars.specs.White.{white}
use Rattle.text_utf8.specs.Text.{Ink, mark, Range, any, from-a0, to-9f, from-90, to-8f, Utf, whole, part, later, utf, utfs}
use Rattle.text_chars.specs.Table.{to, table37, fits, listed, base, bits, scalar}
use Rattle.text_utf8.proofs.Ranges.{bytes, holds-is, after}
use Rattle.text_chars.proofs.Rows.{listed-elim, fits_both, fits-long}
use Rattle.text_chars.proofs.Tests.{within-true, in_within, above_within}

-- the machine takes the first n bytes as one character
abbrev pub Taken : ℕ → List ℕ → Type 0
Taken n t = (k : Ink) (o : ℕ) → utfs (whole k) o t ≡ utfs (whole (mark (white (scalar (take n t))) k o (o + n))) (o + n) (drop n t)

rest-taken : (n : ℕ) (r : Range) (cs : List ℕ) → fits (after r n) cs ≡ true → (k : Ink) (s code o : ℕ)
    → utfs (part k s n r code) o cs ≡ utfs (whole (mark (white (bits code (take (suc n) cs))) k s (o + suc n))) (o + suc n) (drop (suc n) cs)
rest-taken n r [] h k s code o = absurd (false≢true h)
rest-taken zero r (c ∷ cs) h k s code o = rw (holds-is r c ∙ (fits_both (bytes r) [] c cs h).0, add-one)
rest-taken (suc n) r (c ∷ cs) h k s code o =
    let p = fits_both (bytes r) (after any n) c cs h in
    let e : suc o + suc n ≡ o + suc (suc n) = omega arith in
    ap (λ (x : Bool). utfs (later x k s (suc n) code o c) (suc o) cs) (holds-is r c ∙ p.0) ∙ rest-taken n any cs p.1 k s (code * 64 + (c - 0x80)) (suc o) ∙ rw e

-- the first byte asks for n more and one, the next in r
abbrev Leads : ℕ → Range → ℕ → Type 0
Leads n r b = (k : Ink) (o : ℕ) → utf (whole k) o b ≡ part k o n r (b - base (suc n))

taken_more : (a z n : ℕ) (r : Range) → ((b : ℕ) → a ≤ b → b ≤ z → Leads n r b) → (t : List ℕ) → fits (to a z ∷ after r n) t ≡ true → Taken (suc (suc n)) t
taken_more a z n r f [] h k o = absurd (false≢true h)
taken_more a z n r f (b ∷ cs) h k o =
    let p = fits_both (to a z) (after r n) b cs h in
    let w = within-true a z b p.0 in
    let e : suc o + suc n ≡ o + suc (suc n) = omega arith in
    let l : length (take (suc n) cs) ≡ suc n = length-take-le (suc n) cs (omega (arith, fits-long (after r n) cs p.1, length-replicate n (to 0x80 0xbf))) in
    ap (λ (u : Utf). utfs u (suc o) cs) (f b w.0 w.1 k o) ∙ rest-taken n r cs p.1 k o (b - base (suc n)) (suc o) ∙ rw (e, l)

taken-one : (t : List ℕ) → fits (to 0x00 0x7f ∷ []) t ≡ true → Taken 1 t
taken-one [] h k o = absurd (false≢true h)
taken-one (b ∷ l) h k o =
    let e : b - 0 ≡ b = omega arith in
    rw (le-leb b 0x7f (within-true 0 0x7f b (fits_both (to 0x00 0x7f) [] b l h).0).1, e, add-one)

leads-c2 : (b : ℕ) → 0xc2 ≤ b → b ≤ 0xdf → Leads 0 any b
leads-c2 b l h k o = rw (lt-leb b 0x7f (omega arith), in_within 0xc2 0xdf b l h)

leads-e1 : (b : ℕ) → 0xe1 ≤ b → b ≤ 0xef → (b ≡ 0xed → ⊥) → Leads 1 any b
leads-e1 b l h n k o =
    rw (lt-leb b 0x7f (omega arith), above_within 0xc2 0xdf b (omega arith), ne_eqb b 0xe0 (λ e. omega arith), ne_eqb b 0xed n, in_within 0xe1 0xef b l h)

leads-f1 : (b : ℕ) → 0xf1 ≤ b → b ≤ 0xf3 → Leads 2 any b
leads-f1 b l h k o =
    rw (
      lt-leb b 0x7f (omega arith),
      above_within 0xc2 0xdf b (omega arith),
      ne_eqb b 0xe0 (λ e. omega arith),
      ne_eqb b 0xed (λ e. omega arith),
      above_within 0xe1 0xef b (omega arith),
      ne_eqb b 0xf0 (λ e. omega arith),
      in_within 0xf1 0xf3 b l h,
    )

-- a range of one byte
leads-only : (v n : ℕ) (r : Range) → Leads n r v → (b : ℕ) → v ≤ b → b ≤ v → Leads n r b
leads-only v n r f b l h = let e : v ≡ b = omega arith in subst (Leads n r) e f

infixr 5 ◌&◌
-- a fact of the first row, and one of each other
◌&◌ : {A B : Type 0} → A → B → A × B
a & b = (a, b)

pub listed-taken : (n : ℕ) (t : List ℕ) → listed n t ≡ true → Taken n t
unfolding listed table37
listed-taken n t h =
    listed-elim (λ m. Taken m t) table37 n t h
    (taken-one t
    & taken_more 0xc2 0xdf 0 any leads-c2 t
    & taken_more 0xe0 0xe0 1 from-a0 (leads-only 0xe0 1 from-a0 (λ k o. refl)) t
    & taken_more 0xe1 0xec 1 any (λ b l h. leads-e1 b l (omega arith) (λ e. omega arith)) t
    & taken_more 0xed 0xed 1 to-9f (leads-only 0xed 1 to-9f (λ k o. refl)) t
    & taken_more 0xee 0xef 1 any (λ b l h. leads-e1 b (omega arith) h (λ e. omega arith)) t
    & taken_more 0xf0 0xf0 2 from-90 (leads-only 0xf0 2 from-90 (λ k o. refl)) t
    & taken_more 0xf1 0xf3 2 any leads-f1 t
    & taken_more 0xf4 0xf4 2 to-8f (leads-only 0xf4 2 to-8f (λ k o. refl)) t
    & tt)
