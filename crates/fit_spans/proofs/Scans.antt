-- The lexer's scans answer what fitting asks of identifiers and values. Assumes nothing.
use Rattle.lists.proofs.Prelude.{ℕ, suc, ◌+◌, ◌-◌, ◌≤◌, ◌<◌, Bool, true, false, not, ◌&&◌, and-false, and-true, List, [], ◌∷◌, ◌++◌, ◌≡◌, refl, sym, ap, ◌∙◌, subst, arith, leb, ltb, eqb, length, get_or, take, drop, take-append-drop, get_or-eq_default, slice, take_at, get_or_at, get_or-drop, drop-cons, drop-append-le, length-take-le, length-slice, eq-eqb, ne_eqb, eqb-true, lt-ltb, le-ltb, leb-true, leb-false, pick}
use Rattle.lexer_laws.proofs.Exactly.{CloseIs, close-is, close-exactly}
use Rattle.lexer.specs.Closed.{closed}
use Rattle.lexer_scan.specs.Scan.{ident_from}
use Rattle.lexer_close.specs.Close.{close_at}
use Rattle.lexer_scan.specs.declared.Ident.{Ident}
use Rattle.lexer_scan.specs.declared.Ident.TheVariants.{Opens, Missing, Foreign}
use Rattle.tables.specs.Columns.{name_from_at, name_to_at, val_from_at, val_to_at}
use Rattle.fit_spans.specs.Spans.{plain_name, name_right, in_brackets_closed, value_right}
use Rattle.tables.proofs.Cases.{either-bool, below_or, true-false, and_left, and_right}
use Rattle.lists.proofs.Tests.{same_or}
use Rattle.fit_spans.proofs.Lists.{part_slice}
use Rattle.std.specs.Prelude.{Option, Some, None}

-- ---- an identifier is plain where no `[` and no other byte than ASCII ends the scan

abbrev pub runs_out : Ident → Bool
runs_out (Opens k) = false
runs_out Missing = true
runs_out Foreign = false

pub plain-runs-out : (i : ℕ) (bs : List ℕ) → runs_out (ident_from i bs) ≡ plain_name bs
unfolding ident_from plain_name
plain-runs-out i [] = refl
plain-runs-out i (b ∷ bs) = go (eqb b 0x5b) (leb 0x80 b) refl (plain-runs-out (i + 1) bs)
  where
    go : (x y : Bool) → leb 0x80 b ≡ y → runs_out (ident_from (i + 1) bs) ≡ plain_name bs
        → runs_out (pick x (Opens i) (pick y Foreign (ident_from (i + 1) bs))) ≡ (ltb b 0x80 && (not x && plain_name bs))
    go true y e h = sym (and-false (ltb b 0x80))
    go false true e h = rw (le-ltb b 0x80 (leb-true 0x80 b e))
    go false false e h = rw (lt-ltb b 0x80 (leb-false 0x80 b e)) h

-- ---- a value is closed, and `]` follows, where the scan from its start ends at its end

abbrev pub ends_at : ℕ → Option ℕ → Bool
ends_at e (Some j) = eqb j e
ends_at e None = false

module _ (t : List ℕ) (a e : ℕ) (order : a ≤ e) (inside : e ≤ length t) where
  abbrev Shut : Bool
  Shut = eqb (get_or t e 0) 0x5d && closed (slice a e t)

  shut-ends : get_or t e 0 ≡ 0x5d → closed (slice a e t) ≡ true → close_at t a ≡ Some e
  shut-ends b c =
      let l : e < length t = below_or e (length t) (λ z. z) (λ z. absurd (omega (arith, get_or-eq_default t 0 z))) in
      let d : drop a t ≡ slice a e t ++ (0x5d ∷ drop (suc e) t) =
      ap (drop a) (sym (take-append-drop e t))
      ∙ drop-append-le a (take e t) (drop e t) (omega (arith, length-take-le e t inside))
      ∙ ap (λ (z : List ℕ). slice a e t ++ z) (drop-cons t e 0 l ∙ ap (λ (z : ℕ). z ∷ drop (suc e) t) b) in
      close-exactly false a (drop a t) (Some e) (slice a e t, drop (suc e) t, d, c, omega (arith, length-slice a e t inside))

  ends-shut : close_at t a ≡ Some e → Shut ≡ true
  ends-shut h = go (subst (CloseIs false a (drop a t)) h (close-is false a (drop a t)))
    where
      go : CloseIs false a (drop a t) (Some e) → Shut ≡ true
      go x =
          let w : e - a ≡ length x.0 = omega (arith, x.4) in
          let s : slice a e t ≡ x.0 = sym (part_slice a e t) ∙ rw (w, x.2) (take_at x.0 (0x5d ∷ x.1) (length x.0) refl) in
          let g : get_or t e 0 ≡ 0x5d = ap (λ (z : ℕ). get_or t z 0) x.4 ∙ sym (get_or-drop a t (length x.0) 0) ∙ rw x.2 (get_or_at x.0 0x5d x.1 0 (length x.0) refl) in
          rw (g, s) x.3

  open-not : (c : Option ℕ) → c ≡ close_at t a → Shut ≡ false → ends_at e c ≡ false
  open-not (Some j) h x = same_or j e (λ z. true-false Shut (ends-shut (sym h ∙ ap Some z)) x) (λ z. ne_eqb j e z)
  open-not None h x = refl

  scan-is : (c : Option ℕ) → c ≡ close_at t a → ends_at e c ≡ Shut
  scan-is c h =
      either-bool Shut
      (λ x.
      ap (ends_at e) (h ∙ shut-ends (eqb-true (get_or t e 0) 0x5d (and_left (eqb (get_or t e 0) 0x5d) (closed (slice a e t)) x)) (and_right (eqb (get_or t e 0) 0x5d) (closed (slice a e t)) x))
      ∙ eq-eqb e e refl ∙ sym x)
      (λ x. open-not c h x ∙ sym x)

  -- ---- a value's three tests

  pub boxed-none : a ≡ 0 → false ≡ in_brackets_closed t a e
  boxed-none h = rw (le-ltb 0 a (omega arith))

  pub boxed-other : (a ≡ 0 → ⊥) → (get_or t (a - 1) 0 ≡ 91 → ⊥) → false ≡ in_brackets_closed t a e
  boxed-other h k = rw (lt-ltb 0 a (omega arith), ne_eqb (get_or t (a - 1) 0) 91 k)

  pub boxed-is : (a ≡ 0 → ⊥) → get_or t (a - 1) 0 ≡ 91 → (c : Option ℕ) → c ≡ close_at t a → ends_at e c ≡ in_brackets_closed t a e
  boxed-is h k c s = rw (lt-ltb 0 a (omega arith), eq-eqb (get_or t (a - 1) 0) 91 k) (scan-is c s)

-- ---- a row's, by the cells that were read

pub name-is : (t pr : List ℕ) (k : ℕ) {a e : ℕ} → a ≡ name_from_at pr k → e ≡ name_to_at pr k → {r : Bool} → r ≡ plain_name (take (e - a) (drop a t)) → r ≡ name_right t pr k
name-is t pr k {a} {e} ea ee er = er ∙ ap plain_name (part_slice a e t) ∙ rw (ea, ee)

pub value-is : (t vl : List ℕ) (k : ℕ) {a e : ℕ} → a ≡ val_from_at vl k → e ≡ val_to_at vl k → {r : Bool} → r ≡ in_brackets_closed t a e → r ≡ value_right t vl k
value-is t vl k ea ee er = er ∙ rw (ea, ee)

-- one byte
pub plain-one : (s : List ℕ) → length s ≡ 1 → (ltb (get_or s 0 0) 0x80 && not (eqb (get_or s 0 0) 0x5b)) ≡ plain_name s
unfolding plain_name
plain-one [] h = absurd (omega (arith, h))
plain-one (b ∷ []) h = ap (λ (x : Bool). ltb b 0x80 && x) (sym (and-true (not (eqb b 0x5b))))
plain-one (b ∷ d ∷ s) h = absurd (omega (arith, h))
