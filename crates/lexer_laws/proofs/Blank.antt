-- White space: what is skipped between tokens is exactly the ASCII part of what trimming drops. Assumes nothing.
use Rattle.lists.proofs.Prelude.{◌≡◌, refl, sym, ◌∙◌, ℕ, ◌≤◌, ◌<◌, arith, Bool, true, false, false≢true, leb, leb-true, leb-false, ne_eqb}
use Rattle.lists.proofs.Tests.{same_or}
use Rattle.text_chars.specs.White.{white, within}
use Rattle.text_chars.proofs.Tests.{below-within, above_within}
use Rattle.lexer_scan.specs.Scan.{space}

module _ (b : ℕ) (blank : b ≡ 0x20 → ⊥) (line : 0x9 ≤ b → b ≤ 0xd → ⊥) where
  space-dark : space b ≡ false
  unfolding space
  space-dark =
      rw (
        ne_eqb b 0x20 blank,
        ne_eqb b 0x9 (λ e. line (omega arith) (omega arith)),
        ne_eqb b 0xa (λ e. line (omega arith) (omega arith)),
        ne_eqb b 0xb (λ e. line (omega arith) (omega arith)),
        ne_eqb b 0xc (λ e. line (omega arith) (omega arith)),
        ne_eqb b 0xd (λ e. line (omega arith) (omega arith)),
      )

  within-dark : within 0x9 0xd b ≡ false
  within-dark = go (leb 0x9 b) (leb b 0xd) refl refl
    where
      go : (x y : Bool) → leb 0x9 b ≡ x → leb b 0xd ≡ y → within 0x9 0xd b ≡ false
      go true true e f = absurd (line (leb-true 0x9 b e) (leb-true b 0xd f))
      go true false e f = above_within 0x9 0xd b (leb-false b 0xd f)
      go false y e f = below-within 0x9 0xd b (leb-false 0x9 b e)

  white-dark : b < 0x80 → white b ≡ false
  unfolding white
  white-dark l =
      rw (
        within-dark,
        ne_eqb b 0x20 blank,
        ne_eqb b 0x85 (λ e. omega arith),
        ne_eqb b 0xa0 (λ e. omega arith),
        ne_eqb b 0x1680 (λ e. omega arith),
        below-within 0x2000 0x200a b (omega arith),
        below-within 0x2028 0x2029 b (omega arith),
        ne_eqb b 0x202f (λ e. omega arith),
        ne_eqb b 0x205f (λ e. omega arith),
        ne_eqb b 0x3000 (λ e. omega arith),
      )

pub space-white : (b : ℕ) → b < 0x80 → space b ≡ white b
unfolding space white
space-white b l =
    same_or b 0x20 (λ e. rw e refl) (λ n. same_or b 0x9 (λ e. rw e refl) (λ n9. same_or b 0xa (λ e. rw e refl) (λ na. same_or b 0xb (λ e. rw e refl)
    (λ nb. same_or b 0xc (λ e. rw e refl) (λ nc. same_or b 0xd (λ e. rw e refl)
    (λ nd. space-dark b n (λ x y. omega arith) ∙ sym (white-dark b n (λ x y. omega arith) l)))))))

pub space-ascii : (b : ℕ) → space b ≡ true → b < 0x80
space-ascii b h = go (leb 0x80 b) refl
  where
    go : (t : Bool) → leb 0x80 b ≡ t → b < 0x80
    go true e = let l = leb-true 0x80 b e in absurd (false≢true (sym (space-dark b (λ x. omega (arith, l)) (λ x y. omega (arith, l))) ∙ h))
    go false e = leb-false 0x80 b e
