-- The white space of three bytes that display shows as a space is Unicode's, and none has four. Assumes nothing.
use Rattle.lists.proofs.Prelude.{ℕ, ◌+◌, ◌*◌, ◌-◌, ◌≤◌, ◌<◌, ◌≡◌, refl, sym, ◌∙◌, Bool, true, false, ◌&&◌, ◌||◌, [], ◌∷◌, arith, leb, eqb, leb-true, le-leb, eqb-true, ne_eqb}
use Rattle.lists.proofs.Tests.{and_both, same_or}
use Rattle.text_chars.specs.White.{within, white}
use Rattle.text_chars.specs.Table.{listed, scalar}
use Rattle.text_chars.proofs.Tests.{within-true, in_within, above_within}
use Rattle.text_chars.proofs.White.{far-dark}
use Rattle.text_chars.proofs.Widths.{listed-3, listed-4}
use Rattle.value_display.specs.Display.{blank3}
use Rattle.reader_exactly.proofs.White.{both_ways, either, white-cases}

-- ---- three bytes

digits : (x y n m : ℕ) → x * 64 + y ≡ n * 64 + m → y < 64 → m < 64 → (x ≡ n) × (y ≡ m)
digits x y n m e h k = let q : x ≡ n = omega arith in (q, omega arith)

module _ (a b c v : ℕ) (ev : v ≡ ((a - 0xe0) * 64 + (b - 0x80)) * 64 + (c - 0x80)) where
  white-at : (x : ℕ) → v ≡ x → white x ≡ true → white v ≡ true
  white-at x e h = rw e h

  white-quad : 0x2000 ≤ v → v ≤ 0x200a → white v ≡ true
  unfolding white
  white-quad l h =
      rw (
        above_within 0x9 0xd v (omega arith),
        ne_eqb v 0x20 (λ e. omega arith),
        ne_eqb v 0x85 (λ e. omega arith),
        ne_eqb v 0xa0 (λ e. omega arith),
        ne_eqb v 0x1680 (λ e. omega arith),
        in_within 0x2000 0x200a v l h,
      ) refl

  bytes-are : (x y z : ℕ) → (eqb a x && (eqb b y && eqb c z)) ≡ true → (a ≡ x) × (b ≡ y) × (c ≡ z)
  bytes-are x y z h =
      let p = and_both (eqb a x) (eqb b y && eqb c z) h in
      let q = and_both (eqb b y) (eqb c z) p.1 in
      (eqb-true a x p.0, eqb-true b y q.0, eqb-true c z q.1)

  abbrev R : Bool
  R = leb 0x80 c && leb c 0x8a

  abbrev S : Bool
  S = eqb c 0xa8 || (eqb c 0xa9 || eqb c 0xaf)

  abbrev E2 : Bool
  E2 = eqb a 0xe2 && (eqb b 0x80 && (R || S))

  blank3-true : blank3 a b c ≡ true → white v ≡ true
  unfolding white
  blank3-true h =
      either (eqb a 0xe1 && (eqb b 0x9a && eqb c 0x80)) (E2 || (eqb a 0xe2 && (eqb b 0x81 && eqb c 0x9f) || eqb a 0xe3 && (eqb b 0x80 && eqb c 0x80))) h
      (λ i. let p = bytes-are 0xe1 0x9a 0x80 i in white-at 0x1680 (omega (arith, p.0, p.1, p.2)) refl)
      (λ i. either E2 (eqb a 0xe2 && (eqb b 0x81 && eqb c 0x9f) || eqb a 0xe3 && (eqb b 0x80 && eqb c 0x80)) i e2
      (λ j. either (eqb a 0xe2 && (eqb b 0x81 && eqb c 0x9f)) (eqb a 0xe3 && (eqb b 0x80 && eqb c 0x80)) j
      (λ k. let p = bytes-are 0xe2 0x81 0x9f k in white-at 0x205f (omega (arith, p.0, p.1, p.2)) refl)
      (λ k. let p = bytes-are 0xe3 0x80 0x80 k in white-at 0x3000 (omega (arith, p.0, p.1, p.2)) refl)))
    where
      e2 : E2 ≡ true → white v ≡ true
      e2 h =
          let p = and_both (eqb a 0xe2) (eqb b 0x80 && (R || S)) h in
          let q = and_both (eqb b 0x80) (R || S) p.1 in
          let ea = eqb-true a 0xe2 p.0 in
          let eb = eqb-true b 0x80 q.0 in
          either R S q.1
          (λ i. let r = and_both (leb 0x80 c) (leb c 0x8a) i in let l = leb-true 0x80 c r.0 in let g = leb-true c 0x8a r.1 in white-quad (omega arith) (omega arith))
          (λ i. either (eqb c 0xa8) (eqb c 0xa9 || eqb c 0xaf) i (λ e. white-at 0x2028 (omega (arith, ea, eb, eqb-true c 0xa8 e)) refl)
          (λ j. either (eqb c 0xa9) (eqb c 0xaf) j (λ e. white-at 0x2029 (omega (arith, ea, eb, eqb-true c 0xa9 e)) refl)
          (λ e. white-at 0x202f (omega (arith, ea, eb, eqb-true c 0xaf e)) refl)))

  module _ (la : 0xe0 ≤ a) (ha : a ≤ 0xef) (lb : 0x80 ≤ b) (hb : b ≤ 0xbf) (lc : 0x80 ≤ c) (hc : c ≤ 0xbf) (far : 0x800 ≤ v) where
    three-is : (x y z : ℕ) → a ≡ x → b ≡ y → c ≡ z → blank3 x y z ≡ true → blank3 a b c ≡ true
    three-is x y z e f g h = rw (e, f, g) h

    quads : 0x2000 ≤ v → v ≤ 0x200a → blank3 a b c ≡ true
    quads l h =
        let ea : a ≡ 0xe2 = omega arith in
        let eb : b ≡ 0x80 = omega arith in
        let ec : c ≤ 0x8a = omega arith in
        rw (ea, eb, le-leb 0x80 c lc, le-leb c 0x8a ec) refl

    -- the bytes of a character, six bits by six
    three-at : (n m k : ℕ) → v ≡ (n * 64 + m) * 64 + k → m < 64 → k < 64 → blank3 (n + 0xe0) (m + 0x80) (k + 0x80) ≡ true → blank3 a b c ≡ true
    three-at n m k e hm hk =
        let q = digits ((a - 0xe0) * 64 + (b - 0x80)) (c - 0x80) (n * 64 + m) k (sym ev ∙ e) (omega arith) hk in
        let r = digits (a - 0xe0) (b - 0x80) n m q.0 (omega arith) hm in
        let r0 = r.0 in
        let r1 = r.1 in
        let q1 = q.1 in
        three-is (n + 0xe0) (m + 0x80) (k + 0x80) (omega arith) (omega arith) (omega arith)

    true-blank3 : white v ≡ true → blank3 a b c ≡ true
    true-blank3 =
        white-cases v (λ x y. absurd (omega arith)) (λ e. absurd (omega arith)) (λ e. absurd (omega arith)) (λ e. absurd (omega arith))
        (λ e. three-at 1 26 0 e (omega arith) (omega arith) refl) quads
        (λ x y. same_or v 0x2028 (λ e. three-at 2 0 40 e (omega arith) (omega arith) refl)
        (λ n. let e : v ≡ 0x2029 = omega arith in three-at 2 0 41 e (omega arith) (omega arith) refl))
        (λ e. three-at 2 0 47 e (omega arith) (omega arith) refl)
        (λ e. three-at 2 1 31 e (omega arith) (omega arith) refl)
        (λ e. three-at 3 0 0 e (omega arith) (omega arith) refl)

-- the first two bytes in a row of the table
row : {X : Type 0} (a b p q r s : ℕ) → (p ≤ a → a ≤ q → r ≤ b → b ≤ s → X) → (within p q a && within r s b) ≡ true → X
row a b p q r s f e =
    let w = and_both (within p q a) (within r s b) e in
    let x = within-true p q a w.0 in
    let y = within-true r s b w.1 in
    f x.0 x.1 y.0 y.1

module _ (a b : ℕ) where
  abbrev r0 : Bool
  r0 = within 0xe0 0xe0 a && within 0xa0 0xbf b

  abbrev r1 : Bool
  r1 = within 0xe1 0xec a && within 0x80 0xbf b

  abbrev r2 : Bool
  r2 = within 0xed 0xed a && within 0x80 0x9f b

  abbrev r3 : Bool
  r3 = within 0xee 0xef a && within 0x80 0xbf b

-- the first two bytes of three, by the table's rows
first_two : (a b : ℕ) → (within 0xe0 0xe0 a && within 0xa0 0xbf b || within 0xe1 0xec a && within 0x80 0xbf b || within 0xed 0xed a && within 0x80 0x9f b || within 0xee 0xef a && within 0x80 0xbf b) ≡ true
    → (0xe0 ≤ a) × (a ≤ 0xef) × (0x80 ≤ b) × (b ≤ 0xbf) × (0x20 ≤ (a - 0xe0) * 64 + (b - 0x80))
first_two a b h =
    either (r0 a b || r1 a b || r2 a b) (r3 a b) h
    (λ i. either (r0 a b || r1 a b) (r2 a b) i
    (λ j. either (r0 a b) (r1 a b) j (row a b 0xe0 0xe0 0xa0 0xbf (λ p q r s. (omega arith, omega arith, omega arith, omega arith, omega arith)))
    (row a b 0xe1 0xec 0x80 0xbf (λ p q r s. (omega arith, omega arith, omega arith, omega arith, omega arith))))
    (row a b 0xed 0xed 0x80 0x9f (λ p q r s. (omega arith, omega arith, omega arith, omega arith, omega arith))))
    (row a b 0xee 0xef 0x80 0xbf (λ p q r s. (omega arith, omega arith, omega arith, omega arith, omega arith)))

-- a character of three bytes
pub blank3-white : (a b c : ℕ) → listed 3 (a ∷ b ∷ c ∷ []) ≡ true → blank3 a b c ≡ white (scalar (a ∷ b ∷ c ∷ []))
blank3-white a b c h =
    let p = and_both
    (within 0xe0 0xe0 a && within 0xa0 0xbf b || within 0xe1 0xec a && within 0x80 0xbf b || within 0xed 0xed a && within 0x80 0x9f b || within 0xee 0xef a && within 0x80 0xbf b)
    (within 0x80 0xbf c) (sym (listed-3 a b c) ∙ h) in
    let f = first_two a b p.0 in
    let w = within-true 0x80 0xbf c p.1 in
    let v = scalar (a ∷ b ∷ c ∷ []) in
    both_ways (blank3 a b c) (white v) (blank3-true a b c v refl)
    (true-blank3 a b c v refl f.0 f.1 f.2 f.3 w.0 w.1 (far ((a - 0xe0) * 64 + (b - 0x80)) (c - 0x80) f.4))
  where
    far : (x y : ℕ) → 0x20 ≤ x → 0x800 ≤ x * 64 + y
    far x y l = omega arith

module _ (a b : ℕ) where
  abbrev q0 : Bool
  q0 = within 0xf0 0xf0 a && within 0x90 0xbf b

  abbrev q1 : Bool
  q1 = within 0xf1 0xf3 a && within 0x80 0xbf b

  abbrev q2 : Bool
  q2 = within 0xf4 0xf4 a && within 0x80 0x8f b

  -- of four bytes
  lead-four : (q0 || q1 || q2) ≡ true → 0x10 ≤ (a - 0xf0) * 64 + (b - 0x80)
  lead-four h =
      either (q0 || q1) q2 h
      (λ i. either q0 q1 i (row a b 0xf0 0xf0 0x90 0xbf (λ p q r s. omega arith)) (row a b 0xf1 0xf3 0x80 0xbf (λ p q r s. omega arith)))
      (row a b 0xf4 0xf4 0x80 0x8f (λ p q r s. omega arith))

-- a character of four bytes is no white space
pub four-dark : (a b c d : ℕ) → listed 4 (a ∷ b ∷ c ∷ d ∷ []) ≡ true → white (scalar (a ∷ b ∷ c ∷ d ∷ [])) ≡ false
four-dark a b c d h =
    let p = and_both (q0 a b || q1 a b || q2 a b) (within 0x80 0xbf c && within 0x80 0xbf d) (sym (listed-4 a b c d) ∙ h) in
    far-dark (scalar (a ∷ b ∷ c ∷ d ∷ [])) (far ((a - 0xf0) * 64 + (b - 0x80)) (c - 0x80) (d - 0x80) (lead-four a b p.0))
  where
    far : (x y z : ℕ) → 0x10 ≤ x → 0x3000 < (x * 64 + y) * 64 + z
    far x y z l = omega arith
