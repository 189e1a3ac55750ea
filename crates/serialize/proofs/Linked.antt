-- The writing of the record that fitting tables denote is the walk along their links; so is the writing of the mended record. Assumes nothing.
use Rattle.lists.proofs.Prelude.{ℕ, suc, ◌+◌, ◌≤◌, ◌<◌, ◌-◌, Bool, true, false, List, [], ◌∷◌, ◌++◌, map, ◌≡◌, refl, sym, ap, ap₂, ◌∙◌, arith, eq-eqb}
use Rattle.lexer.specs.Token.{Prop}
use Rattle.tables.specs.Numbers.{none}
use Rattle.tables.specs.Record.{Node, Tree}
use Rattle.tables.specs.declared.Counts.{Counts}
use Rattle.parser.specs.Game.{Game}
use Rattle.fit.proofs.Clauses.{Clauses, fit-clauses}
use Rattle.fit.proofs.Parts.{map-tabulate}
use Rattle.fit_spans.proofs.Ranges.{gapless-in}
use Rattle.fit.proofs.RootRows.{root_in}
use Rattle.tables.specs.Columns.{root_at, game_at, parent_at, first_prop_at, prop_count_at, first_val_at, val_count_at}
use Rattle.tables.specs.Each.{tabulate}
use Rattle.tables.specs.Memory.{Memory}
use Rattle.fit.specs.Fit.{Fit}
use Rattle.fit.specs.Record.{text_in, record_in}
use Rattle.go_size.specs.Root.{size_in}
use Rattle.fit_rule.specs.Rule.{rule_by, size_of_tree, rule_of, rule_at}
use Rattle.fit_rule.proofs.Denotes.{tabulate-alike, properties-at, root-properties, rule-tree}
use Rattle.salvage_mend.specs.Mend.{root_game, kept_game, gms_bad, mend_props, mend_node, mend_tree, mended}
use Rattle.salvage_rows.specs.LocalsGM.{game_in}
use Rattle.salvage_rows.proofs.Again.{size-mended}
use Rattle.salvage_rows.proofs.Denotes.{game-props}
use Rattle.serialize.specs.Form.{form_prop, form_node, form_tree, writing}
use Rattle.serialize.specs.LocalsWalk.{tree_rule, bad_at, props_text, ends_before, node_by, node_text, links_text}
use Rattle.serialize.specs.Branch.{write_props, tree_text, trees_text}
use Rattle.serialize.proofs.Chained.{node_k, body, walked_tree, all-trees}
use Rattle.serialize.proofs.Joined.{texts-joined}
use Rattle.serialize.proofs.PropTexts.{node-text, node-mended}
use Rattle.serialize.proofs.TreeSlices.{linking, rule-here}
use Rattle.serialize.proofs.TreeWalk.{Stretch, tree_is}
use Rattle.serialize.proofs.Walked.{bad-below}

module _ {t : List ℕ} {c : Counts} {tr nd pr vl : List ℕ} (fit : Clauses t c tr nd pr vl) (i b : ℕ) (l : i < c.trees) (x : Stretch nd c.nodes (root_at tr i) b) where
  abbrev R : ℕ
  R = root_at tr i

  abbrev node_at : ℕ → Node
  node_at = node_k fit

  values-in : (p : ℕ) → p < c.properties → first_val_at pr p + val_count_at pr p ≤ c.values
  values-in = gapless-in (first_val_at pr) (val_count_at pr) c.properties c.values fit.prop-ranges

  props-in : (k : ℕ) → k < b → first_prop_at nd k + prop_count_at nd k ≤ c.properties
  props-in k v = gapless-in (first_prop_at nd) (prop_count_at nd) c.nodes c.properties fit.node-ranges k (omega (arith, x.inside))

  -- ---- a tree as it is

  abbrev rule : ℕ
  rule = tree_rule false t tr nd pr vl i

  abbrev props_of : ℕ → List Prop
  props_of k = map (form_prop rule) (node_at k).props

  body_is : (k : ℕ) → R ≤ k → k < b → write_props (props_of k) ≡ body fit false k
  body_is k u v =
      node-text t vl c.values fit.held.values pr c.properties values-in nd rule k (props-in k v)
      ∙ ap (λ (z : ℕ). props_text false t nd pr vl z k) (sym (rule-here fit false i l x k u v))

  rule-is : rule_of (record { root = R; game = game_at tr i; nodes = tabulate node_at R (b - R) }) ≡ rule
  unfolding rule_at
  rule-is = rule-tree fit i b l x.some

  pub own-text : (us : List Node) → us ≡ tabulate node_at R (b - R)
      → tree_text (form_tree (record { root = R; game = game_at tr i; nodes = us })) ≡ walked_tree fit false i b
  own-text us e =
      ap (λ (z : List Node). tree_text (form_tree (record { root = R; game = game_at tr i; nodes = z }))) e
      ∙ ap (λ (z : ℕ). tree_text (record { root = R; game = game_at tr i; nodes = map (form_node z) (tabulate node_at R (b - R)) })) rule-is
      ∙ ap (λ (z : List Node). tree_text (record { root = R; game = game_at tr i; nodes = z })) (map-tabulate node_at (form_node rule) R (b - R))
      ∙ tree_is (linking fit) x props_of (body fit false) body_is (game_at tr i)

  -- ---- a mended tree

  abbrev rule_m : ℕ
  rule_m = tree_rule true t tr nd pr vl i

  abbrev bad_k : ℕ → Bool
  bad_k k = bad_at true t nd pr vl k

  abbrev mended_of : ℕ → List Prop
  mended_of k = map (form_prop rule_m) (mend_props (bad_k k) (node_at k).props)

  mended-body : (k : ℕ) → R ≤ k → k < b → write_props (mended_of k) ≡ body fit true k
  mended-body k u v =
      node-mended t vl c.values fit.held.values pr c.properties values-in nd rule_m k (props-in k v)
      ∙ ap (λ (z : ℕ). props_text true t nd pr vl z k) (sym (rule-here fit true i l x k u v))

  -- its nodes behind the root
  abbrev later : List Node
  later = tabulate node_at (suc R) (b - suc R)

  abbrev game : Game
  game = root_game (node_at R ∷ later)

  abbrev whole : Tree
  whole = record { root = R; game = game_at tr i; nodes = node_at R ∷ later }

  root-first : tabulate node_at R (b - R) ≡ node_at R ∷ later
  unfolding tabulate
  root-first = let e : b - R ≡ suc (b - suc R) = omega (arith, x.some) in ap (tabulate node_at R) e

  bad-is : gms_bad game ≡ bad_k R
  unfolding bad_at
  bad-is =
      rw (eq-eqb (parent_at nd R) none x.root)
      (ap gms_bad (sym (game-props (node_at R).props) ∙ ap game_in (properties-at fit R (root_in tr nd c.trees c.nodes fit.roots i l).0)))

  rule-mended : rule_of (mend_tree whole) ≡ rule_m
  unfolding rule_of size_of_tree
  rule-mended =
      ap₂ rule_by (ap kept_game (sym (game-props (node_at R).props) ∙ ap game_in (root-properties fit i l)))
      (size-mended (gms_bad game) (node_at R).props ∙ ap size_in (root-properties fit i l))

  abbrev node_m : ℕ → Node
  node_m k = record { parent = parent_at nd k; props = mended_of k }

  later-is : map (form_node rule_m) (map (mend_node false) later) ≡ tabulate node_m (suc R) (b - suc R)
  later-is =
      ap (map (form_node rule_m)) (map-tabulate node_at (mend_node false) (suc R) (b - suc R))
      ∙ map-tabulate (λ k. mend_node false (node_at k)) (form_node rule_m) (suc R) (b - suc R)
      ∙ tabulate-alike (λ k. form_node rule_m (mend_node false (node_at k))) node_m (suc R) (b - suc R)
      (λ k u v.
      ap (λ (z : Bool). record { parent = parent_at nd k; props = map (form_prop rule_m) (mend_props z (node_at k).props) })
      (bad-below true t nd pr vl k (x.others k (omega arith) (omega arith))))

  nodes-are : form_node rule_m (mend_node (gms_bad game) (node_at R)) ∷ map (form_node rule_m) (map (mend_node false) later) ≡ tabulate node_m R (b - R)
  unfolding tabulate
  nodes-are =
      let e : b - R ≡ suc (b - suc R) = omega (arith, x.some) in
      ap₂ (λ (z : Bool) (w : List Node). record { parent = parent_at nd R; props = map (form_prop rule_m) (mend_props z (node_at R).props) } ∷ w) bad-is later-is
      ∙ sym (ap (tabulate node_m R) e)

  pub mended-text : (us : List Node) → us ≡ tabulate node_at R (b - R)
      → tree_text (form_tree (mend_tree (record { root = R; game = game_at tr i; nodes = us }))) ≡ walked_tree fit true i b
  mended-text us e =
      ap (λ (z : List Node). tree_text (form_tree (mend_tree (record { root = R; game = game_at tr i; nodes = z })))) (e ∙ root-first)
      ∙ ap (λ (z : ℕ). tree_text (record { root = R; game = kept_game game; nodes = map (form_node z) (mend_tree whole).nodes })) rule-mended
      ∙ ap (λ (z : List Node). tree_text (record { root = R; game = kept_game game; nodes = z })) nodes-are
      ∙ tree_is (linking fit) x mended_of (body fit true) mended-body (kept_game game)

-- ---- all trees

forms-mended : (ts : List Tree) → trees_text (map (λ (t : Tree). form_tree (mend_tree t)) ts) ≡ writing (mended ts)
forms-mended [] = refl
forms-mended (t ∷ ts) = ap (λ (z : List ℕ). tree_text (form_tree (mend_tree t)) ++ z) (forms-mended ts)

module _ (m : Memory) (h : Fit m ≡ true) where
  abbrev walked : Bool → List ℕ
  walked mends = links_text mends (text_in m) m.trees m.nodes m.properties m.values m.counts.nodes

  pub linked-is : walked false ≡ writing (record_in m)
  unfolding links_text node_by
  linked-is =
      let f = fit-clauses m h in
      ap (λ (z : List ℕ). z ++ ends_before m.nodes m.counts.nodes none) (texts-joined (node_text false (text_in m) m.trees m.nodes m.properties m.values) m.counts.nodes)
      ∙ all-trees f false form_tree (own-text f) m.counts.trees refl

  pub mended-is : walked true ≡ writing (mended (record_in m))
  unfolding links_text node_by
  mended-is =
      let f = fit-clauses m h in
      ap (λ (z : List ℕ). z ++ ends_before m.nodes m.counts.nodes none) (texts-joined (node_text true (text_in m) m.trees m.nodes m.properties m.values) m.counts.nodes)
      ∙ all-trees f true (λ (t : Tree). form_tree (mend_tree t)) (mended-text f) m.counts.trees refl
      ∙ forms-mended (record_in m)
