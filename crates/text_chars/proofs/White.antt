-- Characters that are no white space. Assumes nothing.
use Rattle.lists.proofs.Prelude.{◌≡◌, ℕ, ◌<◌, arith, false, ne_eqb}
use Rattle.text_chars.specs.White.{white}
use Rattle.text_chars.proofs.Tests.{above_within, below-within}

-- ASCII beyond 0x20 is no white space
pub ascii-dark : (b : ℕ) → 32 < b → b < 128 → white b ≡ false
unfolding white
ascii-dark b l h =
    rw (
      above_within 0x9 0xd b (omega arith),
      ne_eqb b 0x20 (λ e. omega arith),
      ne_eqb b 0x85 (λ e. omega arith),
      ne_eqb b 0xa0 (λ e. omega arith),
      ne_eqb b 0x1680 (λ e. omega arith),
      below-within 0x2000 0x200a b (omega arith),
      below-within 0x2028 0x2029 b (omega arith),
      ne_eqb b 0x202f (λ e. omega arith),
      ne_eqb b 0x205f (λ e. omega arith),
      ne_eqb b 0x3000 (λ e. omega arith),
    )

-- beyond the last white space
pub far-dark : (c : ℕ) → 0x3000 < c → white c ≡ false
unfolding white
far-dark c h =
    rw (
      above_within 0x9 0xd c (omega arith),
      ne_eqb c 0x20 (λ e. omega arith),
      ne_eqb c 0x85 (λ e. omega arith),
      ne_eqb c 0xa0 (λ e. omega arith),
      ne_eqb c 0x1680 (λ e. omega arith),
      above_within 0x2000 0x200a c (omega arith),
      above_within 0x2028 0x2029 c (omega arith),
      ne_eqb c 0x202f (λ e. omega arith),
      ne_eqb c 0x205f (λ e. omega arith),
      ne_eqb c 0x3000 (λ e. omega arith),
    )
