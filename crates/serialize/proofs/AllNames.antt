-- The names that the walk asks are those of the record that fitting tables denote. Assumes nothing.
use Rattle.lists.proofs.Prelude.{ℕ, zero, suc, ◌+◌, Bool, true, false, not, ◌&&◌, ◌||◌, or-false, List, [], ◌∷◌, ◌++◌, ◌≡◌, refl, sym, ap, ◌∙◌, arith, leb, ltb, length, lt-ltb, le-ltb, lt-leb, le-leb}
use Rattle.lexer.specs.Token.{Prop}
use Rattle.values.specs.Read.{read_identifier}
use Rattle.tables.specs.Record.{all_nodes, all_props}
use Rattle.tables.specs.Rows.{PropRow}
use Rattle.tables.proofs.Cases.{below_or}
use Rattle.fit.proofs.Clauses.{fit-clauses}
use Rattle.fit.proofs.Parts.{tabulate-last, map-tabulate}
use Rattle.fit.proofs.RecordRows.{vals_in, record-props}
use Rattle.tables.specs.Each.{each, tabulate}
use Rattle.tables.specs.Memory.{Memory}
use Rattle.fit.specs.Fit.{Fit}
use Rattle.fit.specs.Record.{prop_row, prop_of, text_in, record_in}
use Rattle.lists.specs.Same.{same}
use Rattle.parser.specs.Game.{GM}
use Rattle.serialize.specs.LocalsWalk.{is_kept, names_good}
use Rattle.serialize.specs.Branch.{nameless}

-- ---- one name after another, from the first and from the last

nameless-more : (xs ys : List Prop) → nameless (xs ++ ys) ≡ (nameless xs || nameless ys)
nameless-more [] ys = refl
nameless-more (x ∷ xs) ys = go (leb (length (read_identifier x.name)) 0) (nameless-more xs ys)
  where
    go : (b : Bool) → nameless (xs ++ ys) ≡ (nameless xs || nameless ys) → (b || nameless (xs ++ ys)) ≡ ((b || nameless xs) || nameless ys)
    go true h = refl
    go false h = h

some-not : (l : ℕ) → ltb 0 l ≡ not (leb l 0)
some-not l = below_or 0 l (λ h. lt-ltb 0 l h ∙ sym (ap not (lt-leb l 0 h))) (λ h. le-ltb 0 l h ∙ sym (ap not (le-leb l 0 h)))

module _ (p : ℕ → Prop) where
  names-below : (m : ℕ) → each m (λ i. ltb 0 (length (read_identifier (p i).name))) ≡ not (nameless (tabulate p 0 m))
  unfolding each tabulate
  names-below zero = refl
  names-below (suc m) =
      let e : 0 + m ≡ m = omega arith in
      sym (ap (λ (z : List Prop). not (nameless z)) (tabulate-last p 0 m) ∙ rw e (ap not (nameless-more (tabulate p 0 m) (p m ∷ [])))
      ∙ go (nameless (tabulate p 0 m)) (length (read_identifier (p m).name)) (names-below m))
    where
      go : (b : Bool) (l : ℕ) {c : Bool} → c ≡ not b → not (b || (leb l 0 || false)) ≡ (c && ltb 0 l)
      go true l h = rw h
      go false l h = rw (h, some-not l, or-false (leb l 0))

pub names-are : (m : Memory) → Fit m ≡ true
    → names_good (text_in m) m.properties m.counts.properties ≡ not (nameless (all_props (all_nodes (record_in m))))
unfolding names_good
names-are m h =
    let u : List ℕ = text_in m in
    let prop : PropRow → Prop = prop_of u (vals_in u m.values m.counts.values) in
    names-below (λ p. prop (prop_row m.properties p)) m.counts.properties
    ∙ ap (λ (z : List Prop). not (nameless z)) (sym (record-props (fit-clauses m h) u ∙ map-tabulate (prop_row m.properties) prop 0 m.counts.properties))

-- ---- which properties are written

module _ {mends : Bool} (bad : Bool) (w : List ℕ) (m : mends ≡ true) {n : Bool} (e : n ≡ ltb 0 (length (read_identifier w))) where
  -- an empty identifier
  pub kept-nameless : n ≡ false → false ≡ is_kept mends bad (read_identifier w)
  kept-nameless h = rw (m, ← some-not (length (read_identifier w)), ← e, h)

module _ (mends : Bool) {bad : Bool} (w : List ℕ) {n : Bool} (e : n ≡ ltb 0 (length (read_identifier w))) (h : n ≡ true) where
  -- another one, where no GM is removed
  pub kept-named : bad ≡ false → true ≡ is_kept mends bad (read_identifier w)
  kept-named b = rw (b, ← some-not (length (read_identifier w)), ← e, h) (sym (or-true (not mends)))
    where
      or-true : (x : Bool) → x || true ≡ true
      or-true true = refl
      or-true false = refl

module _ {mends bad : Bool} (w : List ℕ) (m : mends ≡ true) {n : Bool} (e : n ≡ ltb 0 (length (read_identifier w))) (h : n ≡ true) where
  -- where one is
  pub kept-other : bad ≡ true → {r : Bool} → r ≡ same (read_identifier w) GM → not r ≡ is_kept mends bad (read_identifier w)
  kept-other b q = rw (m, b, ← some-not (length (read_identifier w)), ← e, h) (ap not q)
