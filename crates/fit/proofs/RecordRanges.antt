-- Lent tables that have a record's rows: the ranges of nodes and properties follow one another without gap. Assumes nothing.
use Rattle.lists.proofs.Prelude.{ℕ, suc, ◌+◌, ◌≤◌, ◌<◌, true, List, [], ◌∷◌, ◌++◌, head-eq_of_cons-eq, tail-eq_of_cons-eq, ◌≡◌, refl, sym, ap, ap₂, ◌∙◌, subst, add-one, arith, eqb, length, length-append, eq-eqb}
use Rattle.lexer.specs.Token.{Prop}
use Rattle.tables.specs.Record.{Node, all_props, all_vals}
use Rattle.tables.specs.Rows.{NodeRow, PropRow, node_rows, prop_rows}
use Rattle.tables.specs.Columns.{first_prop_at, prop_count_at, first_val_at, val_count_at}
use Rattle.tables.specs.Each.{sum, tabulate}
use Rattle.fit_spans.specs.Ranges.{gapless}
use Rattle.fit.specs.Record.{node_row, prop_row}
use Rattle.lists.proofs.Tests.{same_or}
use Rattle.tables.proofs.Each.{each_all}
use Rattle.fit_spans.proofs.Ranges.{sum-next}

-- ---- rows of any kind, by their counts

module _ (first count : ℕ → ℕ) where
  -- from row b on, whose first is f, the rows have these counts and follow one another up to l
  abbrev Follow : (f b l : ℕ) → List ℕ → Type 0
  Follow f b l [] = f ≡ l
  Follow f b l (k ∷ ks) = (first b ≡ f) × (count b ≡ k) × Follow (f + k) (suc b) l ks

  follow-sums : (f b l : ℕ) (ks : List ℕ) → f ≡ sum count b → Follow f b l ks
      → ((i : ℕ) → b ≤ i → i < b + length ks → first i ≡ sum count i) × (sum count (b + length ks) ≡ l)
  follow-sums f b l [] e h = let z : b + 0 ≡ b = omega arith in ((λ i a c. absurd (omega arith)), ap (sum count) z ∙ sym e ∙ h)
  follow-sums f b l (k ∷ ks) e h =
      let g : f + k ≡ sum count (suc b) = ap₂ (λ (x y : ℕ). x + y) e (sym h.1) ∙ sym (sum-next first count b) ∙ ap (sum count) (add-one b) in
      let r = follow-sums (f + k) (suc b) l ks g h.2 in
      let z : b + suc (length ks) ≡ suc b + length ks = omega arith in
      ((λ i a c. same_or i b (λ w. subst (λ (x : ℕ). first x ≡ sum count x) (sym w) (h.0 ∙ e)) (λ w. r.0 i (omega arith) (omega arith))), ap (sum count) z ∙ r.1)

  follow-gapless : (l : ℕ) (ks : List ℕ) → Follow 0 0 l ks → gapless first count (length ks) l ≡ true
  unfolding sum
  follow-gapless l ks h =
      let r = follow-sums 0 0 l ks refl h in
      let z : 0 + length ks ≡ length ks = omega arith in
      rw (each_all (λ k. eqb (first k) (sum count k)) (length ks) (λ i a. eq-eqb (first i) (sum count i) (r.0 i (omega arith) (omega arith))))
      (eq-eqb (sum count (length ks)) l (ap (sum count) (sym z) ∙ r.1))

-- ---- nodes and properties

abbrev prop_counts : List Node → List ℕ
prop_counts [] = []
prop_counts (n ∷ ns) = length n.props ∷ prop_counts ns

abbrev val_counts : List Prop → List ℕ
val_counts [] = []
val_counts (p ∷ ps) = length p.vals ∷ val_counts ps

prop-counts-length : (ns : List Node) → length (prop_counts ns) ≡ length ns
prop-counts-length [] = refl
prop-counts-length (n ∷ ns) = ap suc (prop-counts-length ns)

val-counts-length : (ps : List Prop) → length (val_counts ps) ≡ length ps
val-counts-length [] = refl
val-counts-length (p ∷ ps) = ap suc (val-counts-length ps)

nodes-follow : (nd qs : List ℕ) (f b : ℕ) (ns : List Node) → tabulate (node_row nd) b (length ns) ≡ node_rows qs b f ns
    → Follow (first_prop_at nd) (prop_count_at nd) f b (f + length (all_props ns)) (prop_counts ns)
unfolding tabulate
nodes-follow nd qs f b [] e = omega arith
nodes-follow nd qs f b (n ∷ ns) e =
    let l : f + length n.props + length (all_props ns) ≡ f + length (n.props ++ all_props ns) = omega (arith, length-append n.props (all_props ns)) in (
      ap (λ (z : NodeRow). z.first) (head-eq_of_cons-eq e),
      ap (λ (z : NodeRow). z.count) (head-eq_of_cons-eq e),
      subst (λ (z : ℕ). Follow (first_prop_at nd) (prop_count_at nd) (f + length n.props) (suc b) z (prop_counts ns)) l (nodes-follow nd qs (f + length n.props) (suc b) ns (tail-eq_of_cons-eq e)),
    )

props-follow : (pr : List ℕ) (f b : ℕ) (ps : List Prop) → tabulate (prop_row pr) b (length ps) ≡ prop_rows f ps
    → Follow (first_val_at pr) (val_count_at pr) f b (f + length (all_vals ps)) (val_counts ps)
unfolding tabulate
props-follow pr f b [] e = omega arith
props-follow pr f b (p ∷ ps) e =
    let l : f + length p.vals + length (all_vals ps) ≡ f + length (p.vals ++ all_vals ps) = omega (arith, length-append p.vals (all_vals ps)) in (
      ap (λ (z : PropRow). z.first) (head-eq_of_cons-eq e),
      ap (λ (z : PropRow). z.count) (head-eq_of_cons-eq e),
      subst (λ (z : ℕ). Follow (first_val_at pr) (val_count_at pr) (f + length p.vals) (suc b) z (val_counts ps)) l (props-follow pr (f + length p.vals) (suc b) ps (tail-eq_of_cons-eq e)),
    )

pub node-ranges-fit : (nd qs : List ℕ) (ns : List Node) → tabulate (node_row nd) 0 (length ns) ≡ node_rows qs 0 0 ns
    → gapless (first_prop_at nd) (prop_count_at nd) (length ns) (length (all_props ns)) ≡ true
node-ranges-fit nd qs ns e =
    rw (← prop-counts-length ns) (follow-gapless (first_prop_at nd) (prop_count_at nd) (length (all_props ns)) (prop_counts ns)
    (subst (λ (z : ℕ). Follow (first_prop_at nd) (prop_count_at nd) 0 0 z (prop_counts ns)) (omega arith) (nodes-follow nd qs 0 0 ns e)))

pub prop-ranges-fit : (pr : List ℕ) (ps : List Prop) → tabulate (prop_row pr) 0 (length ps) ≡ prop_rows 0 ps
    → gapless (first_val_at pr) (val_count_at pr) (length ps) (length (all_vals ps)) ≡ true
prop-ranges-fit pr ps e =
    rw (← val-counts-length ps) (follow-gapless (first_val_at pr) (val_count_at pr) (length (all_vals ps)) (val_counts ps)
    (subst (λ (z : ℕ). Follow (first_val_at pr) (val_count_at pr) 0 0 z (val_counts ps)) (omega arith) (props-follow pr 0 0 ps e)))
