-- When the list of an open node is empty: node p on the stack has children exactly where node p + 1 exists. Assumes nothing.
use Rattle.lists.proofs.Prelude.{ℕ, suc, ◌+◌, ◌≤◌, ◌<◌, ◌≡◌, refl, sym, ap, ◌∙◌, subst, ◌⊎◌, inl, inr, Bool, true, false, ◌||◌, List, [], ◌∷◌, arith, length, eqb, ltb, eq-eqb, ne_eqb, lt-ltb, le-ltb, ltb-true, pick}
use Rattle.lexer.specs.Token.{Prop}
use Rattle.tables.specs.Numbers.{none}
use Rattle.tables.specs.Record.{Node}
use Rattle.tables.specs.declared.Reason.TheVariants.{UnexpectedGameTreeStart}
use Rattle.parser.specs.Walk.{children, walk, refuse, opens}
use Rattle.parser_step.specs.LocalsActs.{has_child, may_open}

abbrev In : ℕ → ℕ → Type 0
In n y = (y ≡ none) ⊎ (y < n)

-- each on the stack: its list is not empty exactly where `has_child` says so; it is the one above it, or its list is not empty
abbrev Held : (base n : ℕ) → List Node → ℕ → List ℕ → Type 0
Held base n ns x [] = Unit {0}
Held base n ns x (y ∷ st) = (children y ns ≡ has_child base n y) × In n y × ((y ≡ x) ⊎ (has_child base n y ≡ true)) × Held base n ns y st

pub record Line (base : ℕ) (ns : List Node) (cur : ℕ) (st : List ℕ) : Type 0 where
  pub fine : children cur ns ≡ has_child base (base + length ns) cur
  pub inside : In (base + length ns) cur
  pub held : Held base (base + length ns) ns cur st
  pub fresh : (y : ℕ) → base + length ns ≤ y → (y ≡ none → ⊥) → children y ns ≡ false

or-true : (b : Bool) {x : Bool} → x ≡ true → (b || x) ≡ true
or-true true e = refl
or-true false e = e

fuller-more : (base n y : ℕ) → has_child base n y ≡ true → has_child base (suc n) y ≡ true
fuller-more base n y = go (eqb y none)
  where
    go : (b : Bool) → pick b (ltb base n) (ltb (y + 1) n) ≡ true → pick b (ltb base (suc n)) (ltb (y + 1) (suc n)) ≡ true
    go true e = let h = ltb-true base n e in lt-ltb base (suc n) (omega arith)
    go false e = let h = ltb-true (y + 1) n e in lt-ltb (y + 1) (suc n) (omega arith)

fuller-cur : (base n y : ℕ) → base ≤ n → In n y → has_child base (suc n) y ≡ true
fuller-cur base n y h (inl e) = ap (λ (z : Bool). pick z (ltb base (suc n)) (ltb (y + 1) (suc n))) (eq-eqb y none e) ∙ lt-ltb base (suc n) (omega arith)
fuller-cur base n y h (inr l) = go (eqb y none)
  where
    go : (b : Bool) → pick b (ltb base (suc n)) (ltb (y + 1) (suc n)) ≡ true
    go true = lt-ltb base (suc n) (omega arith)
    go false = lt-ltb (y + 1) (suc n) (omega arith)

in-more : (n y : ℕ) → In n y → In (suc n) y
in-more n y (inl e) = inl e
in-more n y (inr l) = inr (omega arith)

pub line_first : (base : ℕ) → Line base [] none []
line_first base = record { fine = sym (le-ltb base (base + 0) (omega arith)); inside = inl refl; held = tt; fresh = λ y h k. refl }

pub line-open : {base : ℕ} {ns : List Node} {cur : ℕ} {st : List ℕ} → Line base ns cur st → Line base ns cur (cur ∷ st)
line-open x = record { fine = x.fine; inside = x.inside; held = (x.fine, x.inside, inl refl, x.held); fresh = x.fresh }

pub line-shut : {base : ℕ} {ns : List Node} {cur y : ℕ} {st : List ℕ} → Line base ns cur (y ∷ st) → Line base ns y st
line-shut x = record { fine = x.held.0; inside = x.held.1; held = x.held.3; fresh = x.fresh }

pub line-prop : {base : ℕ} {n : Node} {ns : List Node} {cur : ℕ} {st : List ℕ} (ps : List Prop) → Line base (n ∷ ns) cur st → Line base (record { parent = n.parent; props = ps } ∷ ns) cur st
line-prop {base} {n} {ns} {cur} {st} ps x = record { fine = x.fine; inside = x.inside; held = same cur st x.held; fresh = x.fresh }
  where
    same : (z : ℕ) (st : List ℕ) → Held base (base + suc (length ns)) (n ∷ ns) z st → Held base (base + suc (length ns)) (record { parent = n.parent; props = ps } ∷ ns) z st
    same z [] h = tt
    same z (y ∷ st) h = (h.0, h.1, h.2, same y st h.3)

held-node : (base n : ℕ) (ns : List Node) (cur : ℕ) → base ≤ n → In n cur → (ps : List Prop) (x : ℕ) (st : List ℕ) → (x ≡ cur) ⊎ (has_child base n x ≡ true)
    → Held base n ns x st → (z : ℕ) → Held base (suc n) (record { parent = cur; props = ps } ∷ ns) z st
held-node base n ns cur hb hc ps x [] o h z = tt
held-node base n ns cur hb hc ps x (y ∷ st) o h z = go (up o h.2) (λ w. held-node base n ns cur hb hc ps y st w h.3 y)
  where
    up : (x ≡ cur) ⊎ (has_child base n x ≡ true) → (y ≡ x) ⊎ (has_child base n y ≡ true) → (y ≡ cur) ⊎ (has_child base n y ≡ true)
    up (inl e) (inl f) = inl (f ∙ e)
    up (inr e) (inl f) = inr (ap (has_child base n) f ∙ e)
    up o (inr f) = inr f

    go : (y ≡ cur) ⊎ (has_child base n y ≡ true) → ((y ≡ cur) ⊎ (has_child base n y ≡ true) → Held base (suc n) (record { parent = cur; props = ps } ∷ ns) y st)
        → Held base (suc n) (record { parent = cur; props = ps } ∷ ns) z (y ∷ st)
    go (inl e) k =
        let f : has_child base (suc n) y ≡ true = fuller-cur base n y hb h.1 in
        (ap (λ (b : Bool). b || children y ns) (eq-eqb cur y (sym e)) ∙ sym f, in-more n y h.1, inr f, k (inl e))
    go (inr e) k =
        let f : has_child base (suc n) y ≡ true = fuller-more base n y e in
        (or-true (eqb cur y) (h.0 ∙ e) ∙ sym f, in-more n y h.1, inr f, k (inr e))

pub line-node : {base : ℕ} {ns : List Node} {cur : ℕ} {st : List ℕ} → base + length ns < none → Line base ns cur st
    → Line base (record { parent = cur; props = [] } ∷ ns) (base + length ns) st
line-node {base} {ns} {cur} {st} lt x =
    let n : ℕ = base + length ns in
    let e : base + suc (length ns) ≡ suc (base + length ns) = omega arith in
    let ne : eqb cur (base + length ns) ≡ false = ne_eqb cur (base + length ns) (off x.inside) in
    let fr : children (base + length ns) ns ≡ false = x.fresh (base + length ns) (omega arith) (λ q. omega arith) in
    record {
      fine = ap (λ (b : Bool). b || children (base + length ns) ns) ne ∙ fr
          ∙ sym (ap (λ (b : Bool). pick b (ltb base (base + suc (length ns))) (ltb (base + length ns + 1) (base + suc (length ns)))) (ne_eqb (base + length ns) none (λ q. omega arith))
          ∙ le-ltb (base + length ns + 1) (base + suc (length ns)) (omega arith));
      inside = inr (omega arith);
      held = subst (λ (m : ℕ). Held base m (record { parent = cur; props = [] } ∷ ns) (base + length ns) st) (sym e)
          (held-node base (base + length ns) ns cur (omega arith) x.inside [] cur st (inl refl) x.held (base + length ns));
      fresh = λ y h k. ap (λ (b : Bool). b || children y ns) (ne_eqb cur y (apart y h k x.inside)) ∙ x.fresh y (omega arith) k;
    }
  where
    off : In (base + length ns) cur → cur ≡ base + length ns → ⊥
    off (inl e) q = omega arith
    off (inr l) q = omega arith

    apart : (y : ℕ) → base + suc (length ns) ≤ y → (y ≡ none → ⊥) → In (base + length ns) cur → cur ≡ y → ⊥
    apart y h k (inl e) q = k (sym q ∙ e)
    apart y h k (inr l) q = omega arith

-- a start: is the list on top of the stack not empty
pub line-may : (len : Bool) {base : ℕ} {ns : List Node} {cur : ℕ} {st : List ℕ} → Line base ns cur st
    → opens len cur st ns ≡ pick (may_open base (base + length ns) st) (walk cur (cur ∷ st) false ns) (refuse len UnexpectedGameTreeStart ns)
line-may len {base} {ns} {cur} {st} x = go st x.held
  where
    go : (st : List ℕ) → Held base (base + length ns) ns cur st
        → opens len cur st ns ≡ pick (may_open base (base + length ns) st) (walk cur (cur ∷ st) false ns) (refuse len UnexpectedGameTreeStart ns)
    go [] h = refl
    go (y ∷ st) h = ap (λ (b : Bool). pick b (walk cur (cur ∷ y ∷ st) false ns) (refuse len UnexpectedGameTreeStart ns)) h.0
