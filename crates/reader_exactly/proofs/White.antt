-- The white space that display shows as a space is Unicode's, but that line breaks stay. Assumes nothing.
use Rattle.lists.proofs.Prelude.{ℕ, ◌+◌, ◌*◌, ◌-◌, ◌≤◌, ◌<◌, ◌≡◌, refl, sym, ◌∙◌, Bool, true, false, ◌&&◌, ◌||◌, not, false≢true, [], ◌∷◌, arith, eqb, eqb-true}
use Rattle.lists.proofs.Tests.{and_both, same_or}
use Rattle.text_chars.specs.White.{within, white}
use Rattle.text_chars.specs.Table.{listed, scalar}
use Rattle.text_chars.proofs.Tests.{within-true}
use Rattle.text_chars.proofs.Widths.{listed-2}
use Rattle.value_display.specs.Display.{blank1, blank2}

pub both_ways : (x y : Bool) → (x ≡ true → y ≡ true) → (y ≡ true → x ≡ true) → x ≡ y
both_ways true y f g = sym (f refl)
both_ways false true f g = g refl
both_ways false false f g = refl

pub either : {X : Type 0} (x y : Bool) → (x || y) ≡ true → (x ≡ true → X) → (y ≡ true → X) → X
either true y h f g = f refl
either false y h f g = g h

-- ---- the characters of the list

abbrev w1 : ℕ → Bool
w1 v = within 0x9 0xd v

abbrev w2 : ℕ → Bool
w2 v = w1 v || eqb v 0x20

abbrev w3 : ℕ → Bool
w3 v = w2 v || eqb v 0x85

abbrev w4 : ℕ → Bool
w4 v = w3 v || eqb v 0xa0

abbrev w5 : ℕ → Bool
w5 v = w4 v || eqb v 0x1680

abbrev w6 : ℕ → Bool
w6 v = w5 v || within 0x2000 0x200a v

abbrev w7 : ℕ → Bool
w7 v = w6 v || within 0x2028 0x2029 v

abbrev w8 : ℕ → Bool
w8 v = w7 v || eqb v 0x202f

abbrev w9 : ℕ → Bool
w9 v = w8 v || eqb v 0x205f

module _ {X : Type 0} (v : ℕ) (tab : 0x9 ≤ v → v ≤ 0xd → X) (sp : v ≡ 0x20 → X) (nel : v ≡ 0x85 → X) (nbsp : v ≡ 0xa0 → X) (ogham : v ≡ 0x1680 → X)
    (quad : 0x2000 ≤ v → v ≤ 0x200a → X) (lines : 0x2028 ≤ v → v ≤ 0x2029 → X) (narrow : v ≡ 0x202f → X) (math : v ≡ 0x205f → X) (wide : v ≡ 0x3000 → X) where
  cases_4 : w4 v ≡ true → X
  cases_4 h =
      either (w3 v) (eqb v 0xa0) h
      (λ i. either (w2 v) (eqb v 0x85) i
      (λ j. either (w1 v) (eqb v 0x20) j (λ k. let p = within-true 0x9 0xd v k in tab p.0 p.1) (λ e. sp (eqb-true v 0x20 e)))
      (λ e. nel (eqb-true v 0x85 e)))
      (λ e. nbsp (eqb-true v 0xa0 e))

  cases-7 : w7 v ≡ true → X
  cases-7 h =
      either (w6 v) (within 0x2028 0x2029 v) h
      (λ i. either (w5 v) (within 0x2000 0x200a v) i
      (λ j. either (w4 v) (eqb v 0x1680) j cases_4 (λ e. ogham (eqb-true v 0x1680 e)))
      (λ k. let p = within-true 0x2000 0x200a v k in quad p.0 p.1))
      (λ k. let p = within-true 0x2028 0x2029 v k in lines p.0 p.1)

  pub white-cases : white v ≡ true → X
  unfolding white
  white-cases h =
      either (w9 v) (eqb v 0x3000) h
      (λ i. either (w8 v) (eqb v 0x205f) i (λ j. either (w7 v) (eqb v 0x202f) j cases-7 (λ e. narrow (eqb-true v 0x202f e))) (λ e. math (eqb-true v 0x205f e)))
      (λ e. wide (eqb-true v 0x3000 e))

-- ---- one byte

abbrev line : ℕ → Bool
line a = eqb a 0xa || eqb a 0xd

blank1-true : (a : ℕ) → blank1 a ≡ true → (white a && not (line a)) ≡ true
unfolding white
blank1-true a h =
    either (eqb a 0x9) (eqb a 0xb || (eqb a 0xc || eqb a 0x20)) h (λ e. rw (eqb-true a 0x9 e) refl)
    (λ i. either (eqb a 0xb) (eqb a 0xc || eqb a 0x20) i (λ e. rw (eqb-true a 0xb e) refl)
    (λ j. either (eqb a 0xc) (eqb a 0x20) j (λ e. rw (eqb-true a 0xc e) refl) (λ e. rw (eqb-true a 0x20 e) refl)))

no_line : (a : ℕ) → not (line a) ≡ true → (a ≡ 0xa → ⊥) × (a ≡ 0xd → ⊥)
no_line a h = ((λ e. false≢true (rw e at h)), λ e. false≢true (rw e at h))

true-blank1 : (a : ℕ) → a < 0x80 → (white a && not (line a)) ≡ true → blank1 a ≡ true
true-blank1 a l h =
    let p = and_both (white a) (not (line a)) h in
    let n = no_line a p.1 in
    white-cases a
    (λ x y. same_or a 0x9 (λ e. rw e refl) (λ n9. same_or a 0xb (λ e. rw e refl) (λ nb. same_or a 0xc (λ e. rw e refl)
    (λ nc. same_or a 0xa (λ e. absurd (n.0 e)) (λ na. same_or a 0xd (λ e. absurd (n.1 e)) (λ nd. absurd (omega arith)))))))
    (λ e. rw e refl) (λ e. absurd (omega arith)) (λ e. absurd (omega arith)) (λ e. absurd (omega arith)) (λ x y. absurd (omega arith)) (λ x y. absurd (omega arith))
    (λ e. absurd (omega arith)) (λ e. absurd (omega arith)) (λ e. absurd (omega arith)) p.0

-- a character of one byte
pub blank1-white : (a : ℕ) → a < 0x80 → blank1 a ≡ (white a && not (eqb a 0xa || eqb a 0xd))
blank1-white a l = both_ways (blank1 a) (white a && not (line a)) (blank1-true a) (true-blank1 a l)

-- ---- two bytes

blank2-true : (a b : ℕ) → blank2 a b ≡ true → white (scalar (a ∷ b ∷ [])) ≡ true
unfolding white
blank2-true a b h =
    let p = and_both (eqb a 0xc2) (eqb b 0x85 || eqb b 0xa0) h in
    let ea = eqb-true a 0xc2 p.0 in
    either (eqb b 0x85) (eqb b 0xa0) p.1 (λ e. rw (ea, eqb-true b 0x85 e) refl) (λ e. rw (ea, eqb-true b 0xa0 e) refl)

module _ (a b v : ℕ) (ev : v ≡ (a - 0xc0) * 64 + (b - 0x80)) (la : 0xc2 ≤ a) (ha : a ≤ 0xdf) (lb : 0x80 ≤ b) (hb : b ≤ 0xbf) where
  two_is : (x y : ℕ) → a ≡ x → b ≡ y → blank2 x y ≡ true → blank2 a b ≡ true
  two_is x y e f h = rw (e, f) h

  true-blank2 : white v ≡ true → blank2 a b ≡ true
  true-blank2 =
      white-cases v (λ x y. absurd (omega arith)) (λ e. absurd (omega arith))
      (λ e. two_is 0xc2 0x85 (omega arith) (omega arith) refl) (λ e. two_is 0xc2 0xa0 (omega arith) (omega arith) refl)
      (λ e. absurd (omega arith)) (λ x y. absurd (omega arith)) (λ x y. absurd (omega arith)) (λ e. absurd (omega arith)) (λ e. absurd (omega arith)) (λ e. absurd (omega arith))

-- a character of two bytes
pub blank2-white : (a b : ℕ) → listed 2 (a ∷ b ∷ []) ≡ true → blank2 a b ≡ white (scalar (a ∷ b ∷ []))
blank2-white a b h =
    let p = and_both (within 0xc2 0xdf a) (within 0x80 0xbf b) (sym (listed-2 a b) ∙ h) in
    let wa = within-true 0xc2 0xdf a p.0 in
    let wb = within-true 0x80 0xbf b p.1 in
    both_ways (blank2 a b) (white (scalar (a ∷ b ∷ []))) (blank2-true a b) (true-blank2 a b (scalar (a ∷ b ∷ [])) refl wa.0 wa.1 wb.0 wb.1)
