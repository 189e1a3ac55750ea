-- The parents of an accepted reading follow the rule: each is none, the node before, or an ancestor of it, whatever a slice begins with. Assumes nothing.
use Rattle.lists.proofs.Prelude.{◌≡◌, refl, sym, ◌∙◌, subst, ◌⊎◌, inl, inr, ℕ, suc, ◌+◌, ◌-◌, ◌≤◌, ◌<◌, arith, true, List, [], ◌∷◌, length, eq-eqb, ne_eqb, lt-ltb, Bool, false}
use Rattle.lexer.specs.Token.{Tok}
use Rattle.tables.specs.Numbers.{none}
use Rattle.tables.specs.Record.{Node}
use Rattle.tables.specs.Columns.{parent_at}
use Rattle.fit_nodes.specs.Nodes.{on_path, parent_right}
use Rattle.fit_nodes.proofs.Path.{path-self, path-up, path-le, path-trans, has-parent}
use Rattle.reader_laws.proofs.Grown.{walk_of}
use Rattle.reader_laws.proofs.Walks.{Kept, keep-walk}

-- the table has the parents of the nodes (last first), numbered from base on
abbrev pub Agrees : List ℕ → ℕ → List Node → Type 0
Agrees nd base [] = Unit {0}
Agrees nd base (n ∷ ns) = (parent_at nd (base + length ns) ≡ n.parent) × Agrees nd base ns

-- and they follow the rule
abbrev pub Rule : List ℕ → ℕ → List Node → Type 0
Rule nd base [] = Unit {0}
Rule nd base (n ∷ ns) = (parent_right nd (base + length ns) ≡ true) × Rule nd base ns

module _ (nd : List ℕ) where
  -- c is none, or on the path of node k - 1
  abbrev On : ℕ → ℕ → Type 0
  On k c = (c ≡ none) ⊎ ((c ≡ none → ⊥) × (c < k) × (on_path nd (k - 1) c ≡ true))

  -- x is none, or above c
  abbrev Above : ℕ → ℕ → Type 0
  Above c x = (x ≡ none) ⊎ ((c ≡ none → ⊥) × (x ≡ none → ⊥) × (on_path nd c x ≡ true))

  -- each is none, or above the one before
  abbrev Chain : ℕ → List ℕ → Type 0
  Chain c [] = Unit {0}
  Chain c (x ∷ st) = Above c x × Chain x st

  -- the new node's rule
  rule-on : (k c : ℕ) → parent_at nd k ≡ c → On k c → parent_right nd k ≡ true
  rule-on k c e (inl h) = rw (eq-eqb (parent_at nd k) none (e ∙ h))
  rule-on k c e (inr h) =
      let l = h.1 in
      rw (ne_eqb (parent_at nd k) none (λ z. h.0 (sym e ∙ z)), lt-ltb 0 k (omega arith)) (subst (λ (z : ℕ). on_path nd (k - 1) z ≡ true) (sym e) h.2)

  -- what is above the new node's parent is above it
  above_new : (k c x : ℕ) → parent_at nd k ≡ c → On k c → k < none → Above c x → Above k x
  above_new k c x e o b (inl h) = inl h
  above_new k c x e (inl z) b (inr h) = absurd (h.0 z)
  above_new k c x e (inr o) b (inr h) =
      let l = o.1 in
      let q = path-le nd c x h.2 in
      inr (
        (λ z. omega arith),
        h.1,
        path-up nd k x (λ z. omega arith) (has-parent nd k (λ z. o.0 (sym e ∙ z)) (omega arith)) ∙ subst (λ (z : ℕ). on_path nd z x ≡ true) (sym e) h.2,
      )

  chain-new : (k c : ℕ) (st : List ℕ) → parent_at nd k ≡ c → On k c → k < none → Chain c st → Chain k st
  chain-new k c [] e o b h = tt
  chain-new k c (x ∷ st) e o b h = (above_new k c x e o b h.0, h.1)

  -- back to what was pushed
  on-back : (k c x : ℕ) → On k c → Above c x → On k x
  on-back k c x o (inl h) = inl h
  on-back k c x (inl z) (inr h) = absurd (h.0 z)
  on-back k c x (inr o) (inr h) = let l = o.1 in let q = path-le nd c x h.2 in inr (h.1, omega arith, path-trans nd (k - 1) c x o.2 h.2)

  above-self : (k c : ℕ) → On k c → Above c c
  above-self k c (inl h) = inl h
  above-self k c (inr h) = inr (h.0, h.0, path-self nd c)

  on-self : (k n : ℕ) → n ≡ suc k → k < none → On n k
  on-self k n e b =
      let z : n - 1 ≡ k = omega arith in
      inr ((λ y. omega arith), omega arith, subst (λ (y : ℕ). on_path nd y k ≡ true) (sym z) (path-self nd k))

-- of the walk, whatever table has the parents
module _ (base : ℕ) where
  abbrev Ruled : List Node → Type 0
  Ruled ns = (nd : List ℕ) → base + length ns ≤ none → Agrees nd base ns → Rule nd base ns

  abbrev Lined : ℕ → List ℕ → List Node → Type 0
  Lined cur st ns = (nd : List ℕ) → base + length ns ≤ none → Agrees nd base ns → Rule nd base ns × On nd (base + length ns) cur × Chain nd cur st

  lined : Kept base (λ ts cur st g ns. Lined cur st ns) Ruled
  lined =
      record {
        opening = λ {o} {cur} {ts} {st} {g} {ns} m h nd b a. let r = h nd b a in (r.0, r.1, (above-self nd (base + length ns) cur r.1, r.2));
        closing = λ {o} {cur} {p} {ts} {st} {g} {ns} h nd b a. let r = h nd b a in (r.0, on-back nd (base + length ns) cur p r.1 r.2.0, r.2.1);
        joining = λ {o} {cur} {ts} {st} {g} {ns} h nd b a.
            let k : ℕ = base + length ns in
            let r = h nd (omega arith) a.1 in (
              (rule-on nd (base + length ns) cur a.0 r.1, r.0),
              on-self nd (base + length ns) (base + suc (length ns)) (omega arith) (omega arith),
              chain-new nd (base + length ns) cur st a.0 r.1 (omega arith) r.2,
            );
        adding = λ h nd b a. h nd b a;
        over = λ h nd b a. (h nd b a).0;
        without = λ nd b a. tt;
      }

  pub walk-ruled : (len : Bool) (s : List Tok) → Ruled (walk_of len base s)
  walk-ruled len s = keep-walk lined len none [] false [] s (λ nd b a. (tt, inl refl, tt))
