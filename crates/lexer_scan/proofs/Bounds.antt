-- Where the scans' answers lie. Assumes nothing.
use Rattle.lists.proofs.Prelude.{ℕ, suc, ◌+◌, ◌≤◌, ◌<◌, ◌≡◌, refl, sym, ◌∙◌, Bool, true, false, List, [], ◌∷◌, arith, length, drop, get_or, length-drop, get_or-eq_default, get_or-drop, eqb, leb, eq-eqb, ne_eqb, eqb-true, pick}
use Rattle.lists.proofs.Pick.{pick-elim}
use Rattle.lists.proofs.Tests.{never}
use Rattle.lexer_scan.specs.Scan.{space, skip_from, skip_at, ident_from, ident_at, on_close, value_step_at}
use Rattle.lexer_close.proofs.Bounds.{close-bounds}
use Rattle.lexer_close.specs.Close.{close_at}
use Rattle.lexer_scan.specs.declared.Ident.{Ident}
use Rattle.lexer_scan.specs.declared.Ident.TheVariants.{Opens}
use Rattle.lexer_scan.specs.declared.ValueStep.{ValueStep}
use Rattle.lexer_scan.specs.declared.ValueStep.TheVariants.{Value, NoMore, Unclosed}
use Rattle.std.specs.Prelude.{Option, Some, None}

skip-within-from : (i : ℕ) (l : List ℕ) → (i ≤ skip_from i l) × (skip_from i l ≤ i + length l)
unfolding skip_from
skip-within-from i [] = omega arith
skip-within-from i (b ∷ l) = go (space b) (skip-within-from (i + 1) l)
  where
    go : (t : Bool) → (i + 1 ≤ skip_from (i + 1) l) × (skip_from (i + 1) l ≤ i + 1 + length l)
        → (i ≤ pick t (skip_from (i + 1) l) i) × (pick t (skip_from (i + 1) l) i ≤ i + length (b ∷ l))
    go true h = omega arith
    go false h = omega arith

-- white space is skipped forwards
pub skip-bounds : (s : List ℕ) (i : ℕ) → i ≤ skip_at s i
skip-bounds s i = (skip-within-from i (drop i s)).0

-- and not past the end
pub skip-within : (s : List ℕ) (i : ℕ) → i ≤ length s → skip_at s i ≤ length s
skip-within s i h = omega (arith, (skip-within-from i (drop i s)).1, length-drop i s)

-- nothing opens past the end
pub past : (s : List ℕ) (i : ℕ) → length s ≤ i → get_or s i 0 ≡ 0x5b → ⊥
past s i h q = let z : get_or s i 0 ≡ 0 = get_or-eq_default s 0 h in omega arith

ident-within : (i : ℕ) (l : List ℕ) (k : ℕ) → ident_from i l ≡ Opens k → (j : ℕ) × (k ≡ i + j) × (j < length l) × (get_or l j 0 ≡ 0x5b)
unfolding ident_from
ident-within i [] k q = never (cc)
ident-within i (b ∷ l) k q =
    pick-elim P (eqb b 0x5b)
    (λ h q. let z : i ≡ k = cc in (0, omega arith, omega arith, eqb-true b 0x5b h))
    (λ _. pick-elim P (leb 0x80 b) (λ _ q. never (cc)) (λ _ q. up (ident-within (i + 1) l k q)))
    q
  where
    Out : Type 0
    Out = (j : ℕ) × (k ≡ i + j) × (j < length (b ∷ l)) × (get_or (b ∷ l) j 0 ≡ 0x5b)

    P : Ident → Type 0
    P x = x ≡ Opens k → Out

    up : (j : ℕ) × (k ≡ i + 1 + j) × (j < length l) × (get_or l j 0 ≡ 0x5b) → Out
    up r = (suc r.0, omega arith, omega arith, r.3)

-- an identifier ends at a `[` of the text
pub ident-bounds : (s : List ℕ) (i k : ℕ) → ident_at s i ≡ Opens k → (i ≤ k) × (k < length s) × (get_or s k 0 ≡ 0x5b)
ident-bounds s i k q =
    let r = ident-within i (drop i s) k q in
    (omega arith, omega (arith, length-drop i s), rw (r.1, ← get_or-drop i s r.0 0) r.3)

-- the value that a step found: where its brackets are, and that the next place is behind it
pub record ValueIs (s : List ℕ) (k a e n : ℕ) : Type 0 where
  pub opens : get_or s k 0 ≡ 0x5b
  pub from : a ≡ k + 1
  pub closes : close_at s (k + 1) ≡ Some e
  pub next : n ≡ skip_at s (e + 1)
  pub forward : a ≤ e
  pub inside : e < length s
  pub on : e < n
  pub still : n ≤ length s

pub value-is : (s : List ℕ) (k a e n : ℕ) → value_step_at s k ≡ Value a e n → ValueIs s k a e n
unfolding value_step_at
value-is s k a e n q = pick-elim P (eqb (get_or s k 0) 0x5b) (λ h. go (close_at s (k + 1)) refl (eqb-true _ _ h)) (λ _ q. never (cc)) q
  where
    P : ValueStep → Type 0
    P x = x ≡ Value a e n → ValueIs s k a e n

    go : (z : Option ℕ) → close_at s (k + 1) ≡ z → get_or s k 0 ≡ 0x5b → on_close s k z ≡ Value a e n → ValueIs s k a e n
    go (Some j) c h q =
        let x : k + 1 ≡ a = cc in
        let y : j ≡ e = cc in
        let w : skip_at s (j + 1) ≡ n = cc in
        let b = close-bounds s (k + 1) j c in
        let l = skip-bounds s (j + 1) in
        let u = skip-within s (j + 1) (omega arith) in
        record { opens = h; from = sym x; closes = rw (← y) c; next = rw (← y) (sym w); forward = omega arith; inside = omega arith; on = omega arith; still = omega arith }
    go None c h q = never (cc)

module _ (s : List ℕ) (k : ℕ) where
  pub value_on : (j n : ℕ) → get_or s k 0 ≡ 0x5b → close_at s (k + 1) ≡ Some j → n ≡ skip_at s (j + 1) → value_step_at s k ≡ Value (k + 1) j n
  unfolding value_step_at
  value_on j n b q e = rw (eq-eqb (get_or s k 0) 0x5b b, q, e)

  pub value-open : get_or s k 0 ≡ 0x5b → close_at s (k + 1) ≡ None → value_step_at s k ≡ Unclosed
  unfolding value_step_at
  value-open b q = rw (eq-eqb (get_or s k 0) 0x5b b, q)

  pub value_none : (get_or s k 0 ≡ 0x5b → ⊥) → value_step_at s k ≡ NoMore
  unfolding value_step_at
  value_none b = rw (ne_eqb (get_or s k 0) 0x5b b)

-- where a `[` stands, a value is found or does not close
pub opens-not-none : (s : List ℕ) (k : ℕ) → get_or s k 0 ≡ 0x5b → value_step_at s k ≡ NoMore → ⊥
opens-not-none s k b q = go (close_at s (k + 1)) refl
  where
    go : (z : Option ℕ) → close_at s (k + 1) ≡ z → ⊥
    go (Some j) c = let e : Value (k + 1) j (skip_at s (j + 1)) ≡ NoMore = sym (value_on s k j _ b c refl) ∙ q in never (cc)
    go None c = let e : Unclosed ≡ NoMore = sym (value-open s k b c) ∙ q in never (cc)
