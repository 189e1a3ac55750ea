-- Bytes that complete no token, and what is known where no byte since matters. Assumes nothing.
use Rattle.lists.proofs.Prelude.{◌≡◌, refl, sym, ap, ◌∙◌, ℕ, zero, suc, ◌<◌, arith, true, false, true≢false, eq-eqb, ne_eqb, lt-leb}
use Rattle.lexer_scan.specs.Scan.{space}
use Rattle.lexer_laws.proofs.Laws.{space-exactly}
use Rattle.blocks_step.specs.declared.Utf8.TheVariants.{Whole}
use Rattle.blocks_step.specs.declared.Phase.{Phase}
use Rattle.blocks_step.specs.declared.Phase.TheVariants.{Between, Ident, Value, Escaped, After, Foreign}
use Rattle.blocks_step.specs.Lean.{moves, kind_of}
use Rattle.blocks_step.proofs.Moving.{skipped, after-skips, after-opens}
use Rattle.blocks.specs.declared.BlocksKnown.{BlocksKnown}
use Rattle.blocks.specs.State.{phase_number, phase_from, phase_by}
use Rattle.blocks.specs.LocalsSteady.{quiet_move, WhiteStays, steady_at, Steady}

space-dark : (b : ℕ) → 32 < b → space b ≡ false
unfolding space
space-dark b h =
    rw (
      ne_eqb b 0x20 (λ z. absurd (omega arith)),
      ne_eqb b 0x9 (λ z. absurd (omega arith)),
      ne_eqb b 0xa (λ z. absurd (omega arith)),
      ne_eqb b 0xb (λ z. absurd (omega arith)),
      ne_eqb b 0xc (λ z. absurd (omega arith)),
      ne_eqb b 0xd (λ z. absurd (omega arith)),
    )

-- ---- what it does

module _ (s o b : ℕ) where
  pub value_stays : (b ≡ 93 → ⊥) → (b ≡ 92 → ⊥) → moves (Value s) o b ≡ quiet_move (Value s)
  unfolding moves
  value_stays h e = rw (ne_eqb b 93 h, ne_eqb b 92 e)

  pub ident-opens : b ≡ 91 → moves (Ident s) o b ≡ quiet_move (Value s)
  unfolding moves
  ident-opens h = rw (eq-eqb b 91 h)

  pub ident-stays : (b ≡ 91 → ⊥) → b < 128 → moves (Ident s) o b ≡ quiet_move (Ident s)
  unfolding moves
  ident-stays h a = rw (ne_eqb b 91 h, lt-leb 128 b a)

  pub foreign-on : moves (Foreign s) o b ≡ quiet_move (Foreign s)
  unfolding moves
  foreign-on = refl

module _ (o b : ℕ) (d : 32 < b) where
  pub after-again : (s : ℕ) → b ≡ 91 → moves (After s) o b ≡ quiet_move (Value s)
  after-again s h = sym (after-opens s o b (space-dark b d) h)

-- ---- white space

not-space : (b n : ℕ) → space b ≡ true → space n ≡ false → b ≡ n → ⊥
not-space b n e f z = true≢false (sym e ∙ ap space z ∙ f)

white-kind : (b : ℕ) → space b ≡ true → 0 ≡ kind_of b
unfolding kind_of space
white-kind b e = rw (ne_eqb b 40 (not-space b 40 e refl), ne_eqb b 41 (not-space b 41 e refl), ne_eqb b 59 (not-space b 59 e refl))

pub white-between : WhiteStays Between
white-between o b e = sym (skipped o b (white-kind b e) e)

pub white-ident : (s : ℕ) → WhiteStays (Ident s)
unfolding space
white-ident s o b e = ident-stays s o b (not-space b 91 e refl) ((space-exactly b).1 e)

pub white-value : (s : ℕ) → WhiteStays (Value s)
unfolding space
white-value s o b e = value_stays s o b (not-space b 93 e refl) (not-space b 92 e refl)

pub white-after : (s : ℕ) → WhiteStays (After s)
white-after s o b e = sym (after-skips s o b e)

pub white-foreign : (s : ℕ) → WhiteStays (Foreign s)
white-foreign s o b e = foreign-on s o b

-- nothing is escaped
pub white-stays : (p : Phase) → ((s : ℕ) → p ≡ Escaped s → ⊥) → WhiteStays p
white-stays Between h = white-between
white-stays (Ident s) h = white-ident s
white-stays (Value s) h = white-value s
white-stays (Escaped s) h = absurd (h s refl)
white-stays (After s) h = white-after s
white-stays (Foreign s) h = white-foreign s

-- ---- a phase by its numbers

pub phase-back : (p : Phase) → phase_by (phase_number p) (phase_from p) ≡ p
unfolding phase_by
phase-back Between = refl
phase-back (Ident s) = refl
phase-back (Value s) = refl
phase-back (Escaped s) = refl
phase-back (After s) = refl
phase-back (Foreign s) = refl

pub steady-known : (k : BlocksKnown) → (k.last ≡ 0 → ⊥) → k.held ≡ k.count → k.now ≡ k.kept → k.utf8 ≡ Whole → Steady k
unfolding steady_at
steady-known k l h n u = record { same = rw (u, h, sym n); inked = positive k.last l }
  where
    positive : (n : ℕ) → (n ≡ 0 → ⊥) → 0 < n
    positive zero h = absurd (h refl)
    positive (suc n) h = omega arith
