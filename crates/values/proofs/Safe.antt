-- Bytes that stand for themselves in a value: ASCII, and neither a backslash nor `]`. Assumes nothing.
use Rattle.lists.proofs.Prelude.{ℕ, zero, suc, ◌+◌, ◌/◌, ◌%◌, ◌<◌, ◌≡◌, refl, ap, List, [], ◌∷◌, arith, ltb, ne_eqb}
use Rattle.lists.specs.All.{All}
use Rattle.lists.proofs.Pick.{pick-elim}
use Rattle.values.specs.Read.{read_from, read_value}
use Rattle.values.specs.Decimal.{spell, decimal}

pub record Safe (b : ℕ) : Type 0 where
  pub ascii : b < 0x80
  pub no-escape : b ≡ 0x5c → ⊥
  pub no-close : b ≡ 0x5d → ⊥

pub read-safe : (s : List ℕ) → All Safe s → read_value s ≡ s
unfolding read_from
read-safe [] h = refl
read-safe (b ∷ bs) h = rw (ne_eqb b 0x5c h.0.no-escape) (ap (λ (z : List ℕ). b ∷ z) (read-safe bs h.1))

digit-safe : (n : ℕ) → Safe (0x30 + n % 10)
digit-safe n = record { ascii = omega arith; no-escape = λ e. omega arith; no-close = λ e. omega arith }

pub spell-safe : (k n : ℕ) (rest : List ℕ) → All Safe rest → All Safe (spell k n rest)
unfolding spell
spell-safe zero n rest h = h
spell-safe (suc k) n rest h =
    pick-elim (All Safe) (ltb n 10) (λ e. (digit-safe n, h)) (λ e. spell-safe k (n / 10) ((0x30 + n % 10) ∷ rest) (digit-safe n, h))

pub decimal-safe : (n : ℕ) → All Safe (decimal n)
unfolding decimal
decimal-safe n = spell-safe 20 n [] tt
