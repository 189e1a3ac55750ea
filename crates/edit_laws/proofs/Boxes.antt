-- What stands in the spans after an edit: in those that lie apart from the value what stood there, in the value the new bytes. Assumes nothing.
use Rattle.lists.proofs.Prelude.{ℕ, ◌+◌, ◌-◌, ◌≤◌, ◌<◌, Bool, true, ◌&&◌, List, ◌⊎◌, inl, inr, ◌≡◌, ap, ap₂, ◌∙◌, arith, ltb, eqb, length, get_or, slice, ltb-true, lt-ltb, eqb-true, eq-eqb}
use Rattle.lexer.specs.Closed.{closed}
use Rattle.lexer.specs.Move.{starts_at, ends_at}
use Rattle.lexer_laws.proofs.Replace.{starts-low, starts-high, ends_low, ends-high}
use Rattle.tables.specs.declared.Counts.{Counts}
use Rattle.tables.specs.Columns.{val_from_at, val_to_at}
use Rattle.fit_spans.specs.Spans.{in_brackets_closed, value_right}
use Rattle.tables.proofs.Cases.{and_left, and_right}
use Rattle.tables.proofs.Each.{each_at}
use Rattle.fit.proofs.Clauses.{Clauses}
use Rattle.edit_laws.proofs.Pasted.{U, byte-before, byte-after, slice-before, slice-after, slice-new}

-- what a value's three tests say
pub record Boxed (t : List ℕ) (a e : ℕ) : Type 0 where
  pub some : 0 < a
  pub opens : get_or t (a - 1) 0 ≡ 0x5b
  pub closes : get_or t e 0 ≡ 0x5d
  pub shut : closed (slice a e t) ≡ true

pub is-boxed : (t : List ℕ) (a e : ℕ) → in_brackets_closed t a e ≡ true → Boxed t a e
is-boxed t a e h =
    let x : Bool = ltb 0 a in
    let y : Bool = eqb (get_or t (a - 1) 0) 0x5b in
    let z : Bool = eqb (get_or t e 0) 0x5d in
    let w : Bool = closed (slice a e t) in
    let h1 = and_right x (y && (z && w)) h in
    let h2 = and_right y (z && w) h1 in
    record {
      some = ltb-true 0 a (and_left x (y && (z && w)) h);
      opens = eqb-true (get_or t (a - 1) 0) 0x5b (and_left y (z && w) h1);
      closes = eqb-true (get_or t e 0) 0x5d (and_left z w h2);
      shut = and_right z w h2;
    }

pub boxed-is : (t : List ℕ) (a e : ℕ) → Boxed t a e → in_brackets_closed t a e ≡ true
boxed-is t a e x = rw (lt-ltb 0 a x.some, eq-eqb (get_or t (a - 1) 0) 0x5b x.opens, eq-eqb (get_or t e 0) 0x5d x.closes) x.shut

-- the text t, the value k of it, the new bytes; and tables whose rows are the moved ones
module _ (t : List ℕ) (c : Counts) (tr nd pr vl : List ℕ) (fits : Clauses t c tr nd pr vl) (k : ℕ) (below : k < c.values) (new : List ℕ)
    (order : val_from_at vl k ≤ val_to_at vl k) (within : val_to_at vl k ≤ length t) where
  abbrev pub q : ℕ
  q = val_from_at vl k

  abbrev pub e : ℕ
  e = val_to_at vl k

  abbrev pub m : ℕ
  m = length new

  abbrev pub u : List ℕ
  u = U t new q e order within

  pub value-box : (j : ℕ) → j < c.values → Boxed t (val_from_at vl j) (val_to_at vl j)
  value-box j l = is-boxed t (val_from_at vl j) (val_to_at vl j) (each_at (value_right t vl) c.values j fits.values l)

  -- ---- a span that lies apart has the same bytes at its new place

  pub slice-apart : (a b : ℕ) → a ≤ b → (b < q) ⊎ (e < a) → slice (starts_at q e m a) (ends_at q e m b) u ≡ slice a b t
  slice-apart a b o (inl h) = rw (starts-low q e m a (omega arith), ends_low q e m b (omega arith)) (slice-before t new q e order within a b (omega arith))
  slice-apart a b o (inr h) =
      let x : e + (a - e) ≡ a = omega arith in
      let y : e + (b - e) ≡ b = omega arith in
      ap₂ (λ (i j : ℕ). slice i j u) (starts-high q e m a (omega arith)) (ends-high q e m b (omega arith))
      ∙ slice-after t new q e order within (a - e) (b - e)
      ∙ ap₂ (λ (i j : ℕ). slice i j t) x y

  pub box-apart : (a b : ℕ) → a ≤ b → (b < q) ⊎ (e < a) → Boxed t a b → Boxed u (starts_at q e m a) (ends_at q e m b)
  box-apart a b o (inl h) x =
      let s = x.some in
      let f = starts-low q e m a (omega arith) in
      let g = ends_low q e m b (omega arith) in
      record {
        some = omega arith;
        opens = ap (λ (i : ℕ). get_or u (i - 1) 0) f ∙ byte-before t new q e order within (a - 1) (omega arith) ∙ x.opens;
        closes = ap (λ (i : ℕ). get_or u i 0) g ∙ byte-before t new q e order within b h ∙ x.closes;
        shut = ap closed (slice-apart a b o (inl h)) ∙ x.shut;
      }
  box-apart a b o (inr h) x =
      let f = starts-high q e m a (omega arith) in
      let g = ends-high q e m b (omega arith) in
      let i1 : starts_at q e m a - 1 ≡ q + m + (a - 1 - e) = omega arith in
      let i2 : e + (a - 1 - e) ≡ a - 1 = omega arith in
      let i3 : e + (b - e) ≡ b = omega arith in
      record {
        some = omega arith;
        opens = ap (λ (i : ℕ). get_or u i 0) i1 ∙ byte-after t new q e order within (a - 1 - e) ∙ ap (λ (i : ℕ). get_or t i 0) i2 ∙ x.opens;
        closes = ap (λ (i : ℕ). get_or u i 0) g ∙ byte-after t new q e order within (b - e) ∙ ap (λ (i : ℕ). get_or t i 0) i3 ∙ x.closes;
        shut = ap closed (slice-apart a b o (inr h)) ∙ x.shut;
      }

  pub box-new : closed new ≡ true → Boxed u (starts_at q e m q) (ends_at q e m e)
  box-new h =
      let x = value-box k below in
      let s = x.some in
      let f = starts-low q e m q (omega arith) in
      let g : ends_at q e m e ≡ q + m = ends-high q e m e (omega arith) ∙ omega arith in
      let z : q + m ≡ q + m + 0 = omega arith in
      let w : e + 0 ≡ e = omega arith in
      record {
        some = omega arith;
        opens = ap (λ (i : ℕ). get_or u (i - 1) 0) f ∙ byte-before t new q e order within (q - 1) (omega arith) ∙ x.opens;
        closes = ap (λ (i : ℕ). get_or u i 0) (g ∙ z) ∙ byte-after t new q e order within 0 ∙ ap (λ (i : ℕ). get_or t i 0) w ∙ x.closes;
        shut = ap closed (ap₂ (λ (i j : ℕ). slice i j u) f g ∙ slice-new t new q e order within) ∙ h;
      }
