-- The token at a place that is no white space, by its first byte. Assumes nothing.
use Rattle.lists.proofs.Prelude.{ℕ, ◌+◌, ◌≤◌, ◌<◌, ◌≡◌, refl, sym, ap, ◌∙◌, Bool, true, false, ◌&&◌, not, List, ◌∷◌, arith, length, get_or, slice, eqb, ltb, ne_eqb, eq-eqb, eqb-true, eqb-false, ltb-true, ltb-false, lt-ltb, le-ltb, not-true}
use Rattle.lists.proofs.Tests.{and_both}
use Rattle.lexer_close.specs.Close.{close_at}
use Rattle.lexer_close.specs.LocalsRun.{closes_nothing}
use Rattle.lexer_close.proofs.Leads.{close-pair}
use Rattle.lexer_scan.specs.Scan.{space, skip_at, ident_at, value_step_at, values_end_at}
use Rattle.lexer_scan.specs.declared.Ident.{Ident}
use Rattle.lexer_scan.specs.declared.Ident.TheVariants.{Opens}
use Rattle.lexer_scan.specs.declared.ValueStep.TheVariants.{Value}
use Rattle.lexer_scan.proofs.Scans.{skip-past, skip_stop, ident-on, ident-here}
use Rattle.lexer_scan.proofs.Bounds.{value_on, value_none}
use Rattle.lexer_scan.proofs.Values.{values-more, values-none}
use Rattle.lexer.specs.Token.{Val, lex_at}
use Rattle.lexer.specs.Step.{on_ident, head_from, head_at, on_values, on_head, next_at, step_on}
use Rattle.lexer.specs.declared.Step.TheVariants.{Start, End, Node, Done}
use Rattle.lexer.proofs.Listed.{vals-more, vals-none}
use Rattle.lexer_laws.proofs.Rest.{skip-stops}
use Rattle.lexer_laws.proofs.Join.{lex-next}
use Rattle.parser_census.specs.LocalsCount.{NameAt, ShortIs}
use Rattle.std.specs.Prelude.{Some}

pub space-high : (b : ℕ) → 32 < b → space b ≡ false
unfolding space
space-high b h = rw (ne_eqb b 0x20 (λ e. omega (arith, h, e)), ne_eqb b 0x9 (λ e. omega (arith, h, e)), ne_eqb b 0xa (λ e. omega (arith, h, e)), ne_eqb b 0xb (λ e. omega (arith, h, e)), ne_eqb b 0xc (λ e. omega (arith, h, e)), ne_eqb b 0xd (λ e. omega (arith, h, e)))

-- what is no white space is high, or a token's own byte
space-of : {b k : ℕ} → b ≡ k → space k ≡ false → space b ≡ false
space-of e h = ap space e ∙ h

module _ (s : List ℕ) (i : ℕ) where
  -- skipping where there is no white space
  skip-still : space (get_or s i 0) ≡ false → skip_at s i ≡ i
  skip-still h = go (ltb i (length s)) refl
    where
      go : (b : Bool) → ltb i (length s) ≡ b → skip_at s i ≡ i
      go true e = skip_stop s i (ltb-true i (length s) e) h
      go false e = skip-past s i (ltb-false i (length s) e)

  next-still : space (get_or s i 0) ≡ false → next_at s i ≡ on_head s (head_from s i)
  unfolding next_at head_at
  next-still h = ap (λ (z : ℕ). on_head s (head_from s z)) (skip-still h)

  pub next-done : length s ≤ i → next_at s i ≡ Done
  unfolding next_at head_at head_from
  next-done h = ap (λ (z : ℕ). on_head s (head_from s z)) (skip-past s i h) ∙ rw (le-ltb i (length s) h)

  module _ (h : i < length s) where
    pub next_start : get_or s i 0 ≡ 0x28 → next_at s i ≡ Start i
    unfolding head_from space
    next_start e = next-still (space-of e refl) ∙ rw (lt-ltb i (length s) h, eq-eqb (get_or s i 0) 0x28 e)

    pub next-end : get_or s i 0 ≡ 0x29 → next_at s i ≡ End i
    unfolding head_from space
    next-end e = next-still (space-of e refl) ∙ rw (lt-ltb i (length s) h, e)

    pub next-node : get_or s i 0 ≡ 0x3b → next_at s i ≡ Node i
    unfolding head_from space
    next-node e = next-still (space-of e refl) ∙ rw (lt-ltb i (length s) h, e)

    pub next-name : NameAt s i → next_at s i ≡ on_head s (on_ident i (ident_at s i))
    unfolding head_from
    next-name a = next-still a.still ∙ rw (lt-ltb i (length s) h, ne_eqb (get_or s i 0) 0x28 a.start, ne_eqb (get_or s i 0) 0x29 a.end, ne_eqb (get_or s i 0) 0x3b a.node)

-- the tokens from a place on are those from behind the white space there
pub lex-still : (s : List ℕ) (i : ℕ) → lex_at s i ≡ lex_at s (skip_at s i)
unfolding next_at head_at
lex-still s i = lex-next s i ∙ ap (λ (z : ℕ). step_on s (on_head s (head_from s z))) (sym (skip-still s (skip_at s i) (skip-stops s i))) ∙ sym (lex-next s (skip_at s i))

-- seven tests that hold
seven : (x y z w u r q : Bool) → (x && y) && (z && (w && (u && (r && q)))) ≡ true → (x ≡ true) × (y ≡ true) × (z ≡ true) × (w ≡ true) × (u ≡ true) × (r ≡ true) × (q ≡ true)
seven x y z w u r q h =
    let e1 = and_both (x && y) (z && (w && (u && (r && q)))) h in
    let e2 = and_both x y e1.0 in
    let e3 = and_both z (w && (u && (r && q))) e1.1 in
    let e4 = and_both w (u && (r && q)) e3.1 in
    let e5 = and_both u (r && q) e4.1 in
    let e6 = and_both r q e5.1 in
    (e2.0, e2.1, e3.0, e4.0, e5.0, e6.0, e6.1)

-- a short property
pub short-is : (s : List ℕ) (i : ℕ) → i + 6 ≤ length s → NameAt s i → {a b : Bool} → a ≡ closes_nothing (get_or s (i + 2) 0) → b ≡ closes_nothing (get_or s (i + 3) 0)
    → (ltb (get_or s i 0) 128 && not (eqb (get_or s i 0) 0x5b)) && (eqb (get_or s (i + 1) 0) 0x5b && (eqb (get_or s (i + 4) 0) 0x5d && ((a && b) && (ltb 32 (get_or s (i + 5) 0) && not (eqb (get_or s (i + 5) 0) 0x5b))))) ≡ true
    → ShortIs s i
short-is s i h at {a} {b} p q e =
    let f = seven (ltb (get_or s i 0) 128) (not (eqb (get_or s i 0) 0x5b)) (eqb (get_or s (i + 1) 0) 0x5b) (eqb (get_or s (i + 4) 0) 0x5d) (a && b) (ltb 32 (get_or s (i + 5) 0)) (not (eqb (get_or s (i + 5) 0) 0x5b)) e in
    let id : ident_at s i ≡ Opens (i + 1) =
    ident-on s i (omega (arith, h)) (ltb-true (get_or s i 0) 128 f.0) (eqb-false (get_or s i 0) 0x5b (not-true (eqb (get_or s i 0) 0x5b) f.1))
    ∙ ident-here s (i + 1) (omega (arith, h)) (eqb-true (get_or s (i + 1) 0) 0x5b f.2) in
    let j2 : i + 1 + 1 ≡ i + 2 = omega arith in
    let j3 : i + 2 + 1 ≡ i + 3 = omega arith in
    let j4 : i + 2 + 2 ≡ i + 4 = omega arith in
    let j5 : i + 4 + 1 ≡ i + 5 = omega arith in
    let c2 : close_at s (i + 2) ≡ Some (i + 2 + 2) =
    close-pair s (i + 2) (omega (arith, h)) p (q ∙ ap (λ (z : ℕ). closes_nothing (get_or s z 0)) (sym j3)) (ap (λ (z : ℕ). eqb (get_or s z 0) 0x5d && (a && b)) j4 ∙ rw (f.3, f.4)) in
    let c : close_at s (i + 1 + 1) ≡ Some (i + 4) = ap (close_at s) j2 ∙ c2 ∙ ap Some j4 in
    let st : space (get_or s (i + 5) 0) ≡ false = space-high (get_or s (i + 5) 0) (ltb-true 32 (get_or s (i + 5) 0) f.5) in
    let sk : i + 5 ≡ skip_at s (i + 4 + 1) = sym (skip-still s (i + 5) st) ∙ ap (skip_at s) (sym j5) in
    let va : value_step_at s (i + 1) ≡ Value (i + 1 + 1) (i + 4) (i + 5) = value_on s (i + 1) (i + 4) (i + 5) (eqb-true (get_or s (i + 1) 0) 0x5b f.2) c sk in
    let no = value_none s (i + 5) (eqb-false (get_or s (i + 5) 0) 0x5b (not-true (eqb (get_or s (i + 5) 0) 0x5b) f.6)) in
    let vs : values_end_at s (i + 1) ≡ Some (i + 5) = values-more s (i + 1) (i + 1 + 1) (i + 4) (i + 5) va ∙ values-none s (i + 5) no in
    record {
      inside = h;
      next = next-name s i (omega (arith, h)) at ∙ ap (λ (z : Ident). on_head s (on_ident i z)) id ∙ ap (on_values i (i + 1)) vs;
      one = ap length (vals-more s (i + 1) (i + 1 + 1) (i + 4) (i + 5) va) ∙ ap (λ (z : List Val). length (record { from = i + 1 + 1; to = i + 4; raw = slice (i + 1 + 1) (i + 4) s } ∷ z)) (vals-none s (i + 5) no);
      still = st;
    }
