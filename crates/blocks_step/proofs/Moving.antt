-- What one byte does, by the tests of the token rules. Assumes nothing.
use Rattle.lists.proofs.Prelude.{◌≡◌, refl, ℕ, Bool, true, false, false≢true, arith, eqb, eq-eqb, pick}
use Rattle.lists.proofs.Tests.{never}
use Rattle.lexer_scan.specs.Scan.{space}
use Rattle.lexer.specs.Token.{begins}
use Rattle.blocks_step.specs.declared.Phase.{Phase}
use Rattle.blocks_step.specs.declared.Phase.TheVariants.{Between, Value, After}
use Rattle.blocks_step.specs.declared.Tokens.{Tokens}
use Rattle.blocks_step.specs.declared.Tokens.TheVariants.{Silent}
use Rattle.blocks_step.specs.declared.Moved.{Moved}
use Rattle.blocks_step.specs.Lean.{moved_of, moves, kind_of}

-- these
abbrev pub moved : Tokens → Phase → Moved
moved t p = record { tokens = t; next = p }

-- the kind by three tests
abbrev kind_by : (c1 c2 c3 : Bool) → ℕ
kind_by c1 c2 c3 = pick c1 1 (pick c2 2 (pick c3 3 0))

-- ---- between tokens

begins-space : (c1 c2 c3 c4 : Bool) (o b : ℕ) → 0 ≡ kind_by c1 c2 c3 → c4 ≡ true → moved Silent Between ≡ moved_of (begins c1 c2 c3 c4 o b)
begins-space true c2 c3 c4 o b h e = never h
begins-space false true c3 c4 o b h e = absurd (omega (arith, h))
begins-space false false true c4 o b h e = absurd (omega (arith, h))
begins-space false false false true o b h e = refl
begins-space false false false false o b h e = absurd (false≢true e)

pub skipped : (o b : ℕ) → 0 ≡ kind_of b → space b ≡ true → moved Silent Between ≡ moves Between o b
unfolding kind_of moves
skipped o b h e = begins-space (eqb b 0x28) (eqb b 0x29) (eqb b 0x3b) (space b) o b h e

-- ---- after a value

module _ (s o b : ℕ) where
  pub after-skips : space b ≡ true → moved Silent (After s) ≡ moves (After s) o b
  unfolding moves
  after-skips h = rw h

  module _ (h : space b ≡ false) where
    pub after-opens : b ≡ 0x5b → moved Silent (Value s) ≡ moves (After s) o b
    unfolding moves
    after-opens e = rw (h, eq-eqb b 0x5b e)
