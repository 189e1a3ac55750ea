-- One tree, written from its nodes and along the links. Assumes nothing.
use Rattle.lists.proofs.Prelude.{ℕ, zero, suc, ◌+◌, ◌≤◌, ◌<◌, ◌-◌, Bool, true, false, List, [], ◌∷◌, ◌++◌, append_assoc, ◌≡◌, refl, sym, ap, ap₂, ◌∙◌, subst, arith, leb, eq-eqb, pick}
use Rattle.lexer.specs.Token.{Prop}
use Rattle.tables.specs.Numbers.{none}
use Rattle.tables.specs.Record.{Node}
use Rattle.tables.specs.Rows.{parents}
use Rattle.tables.proofs.Cases.{below_or, true-false}
use Rattle.fit.proofs.Parts.{tabulate-length}
use Rattle.fit_nodes.proofs.Path.{has-none, path-out, path-le}
use Rattle.fit_nodes.proofs.Rule.{rule-at, rule-has, off-on}
use Rattle.tables.specs.Columns.{parent_at, child_at, sibling_at}
use Rattle.tables.specs.Each.{tabulate}
use Rattle.fit_nodes.specs.Locals.{Ruled}
use Rattle.fit_nodes.specs.Nodes.{first_under, next_sibling, on_path}
use Rattle.serialize.specs.LocalsWalk.{in_brackets, start_text, ends_before}
use Rattle.serialize.specs.Branch.{tree_text, write_props}
use Rattle.serialize.specs.LocalsWrite.{Open, bracketed, path_left, opened, ends_text, write_nodes, write_tree}
use Rattle.serialize.proofs.Branches.{opening, Good}
use Rattle.serialize.proofs.Joined.{joined}
use Rattle.serialize.proofs.OpenPath.{PathFrom, left-path, path-on, ends-before, ends_last}
use Rattle.serialize.proofs.Siblings.{counted_none, brackets-are, counted-here}
use Rattle.serialize.proofs.TreeTexts.{tree-text}

-- n nodes whose links are right
pub record Linking (nd : List ℕ) (n : ℕ) : Type 0 where
  pub ruled : Ruled nd n
  pub child : (k : ℕ) → k < n → child_at nd k ≡ first_under nd k 0 n
  pub sibling : (k : ℕ) → k < n → sibling_at nd k ≡ next_sibling nd n k

-- the nodes from a up to b are one tree of them
pub record Stretch (nd : List ℕ) (n a b : ℕ) : Type 0 where
  pub root : parent_at nd a ≡ none
  pub some : a < b
  pub inside : b ≤ n
  pub others : (k : ℕ) → a < k → k < b → parent_at nd k ≡ none → ⊥
  pub next : b < n → parent_at nd b ≡ none

-- a node's text where `body` are its properties
abbrev pub text_of : (nd : List ℕ) (body : ℕ → List ℕ) → ℕ → List ℕ
text_of nd body k = ends_before nd k (parent_at nd k) ++ (start_text nd k ++ (0x3b ∷ body k))

regroup : (e : List ℕ) (c : Bool) (w r z : List ℕ) → (e ++ opened c (0x3b ∷ (w ++ r))) ++ z ≡ (e ++ (pick c (0x28 ∷ []) [] ++ (0x3b ∷ w))) ++ (r ++ z)
regroup e true w r z =
    append_assoc e (0x28 ∷ 0x3b ∷ (w ++ r)) z ∙ ap (λ (v : List ℕ). e ++ (0x28 ∷ 0x3b ∷ v)) (append_assoc w r z) ∙ sym (append_assoc e (0x28 ∷ 0x3b ∷ w) (r ++ z))
regroup e false w r z =
    append_assoc e (0x3b ∷ (w ++ r)) z ∙ ap (λ (v : List ℕ). e ++ (0x3b ∷ v)) (append_assoc w r z) ∙ sym (append_assoc e (0x3b ∷ w) (r ++ z))

module _ {nd : List ℕ} {n a b : ℕ} (linking : Linking nd n) (stretch : Stretch nd n a b) (props : ℕ → List Prop) (body : ℕ → List ℕ)
    (body_is : (k : ℕ) → a ≤ k → k < b → write_props (props k) ≡ body k) where
  abbrev node_at : ℕ → Node
  node_at k = record { parent = parent_at nd k; props = props k }

  parents-are : (m k : ℕ) → parents (tabulate node_at k m) ≡ tabulate (parent_at nd) k m
  unfolding tabulate
  parents-are zero k = refl
  parents-are (suc m) k = ap (λ (z : List ℕ). parent_at nd k ∷ z) (parents-are m (suc k))

  abbrev ps : List ℕ
  ps = tabulate (parent_at nd) a (b - a)

  -- a node of the tree that is not its root: its parent is on the path before it
  module _ (j : ℕ) (low : a ≤ j) (high : suc j < b) where
    abbrev p : ℕ
    p = parent_at nd (suc j)

    in-n : suc j < n
    in-n = omega (arith, stretch.inside)

    has : p ≡ none → ⊥
    has = stretch.others (suc j) (omega arith) high

    on-path : on_path nd j p ≡ true
    on-path = let e : suc j - 1 ≡ j = omega arith in subst (λ (z : ℕ). on_path nd z p ≡ true) e (rule-at linking.ruled (suc j) in-n has).1

    in_tree : a ≤ p
    in_tree =
        below_or p a
        (λ l.
        let o = path-out nd a p (λ z. omega arith) (has-none nd a stretch.root) in
        true-false (on_path nd j p) on-path (off-on linking.ruled a j p low (omega (arith, in-n)) (omega arith) o))
        (λ l. l)

    pub brackets-here : bracketed ps p ≡ in_brackets nd (suc j)
    brackets-here =
        let w = linking.ruled.most in
        let l = path-le nd j p on-path in
        ap (leb 2) (counted-here linking.ruled a b (omega arith) stretch.inside stretch.next p in_tree (omega arith))
        ∙ brackets-are nd n (suc j) w in-n has (linking.child p (omega (arith, in-n))) (linking.sibling (suc j) in-n)

    pub path-next : (c : Bool) (xs : List Open) → c ≡ in_brackets nd (suc j) → PathFrom nd j xs → PathFrom nd (suc j) (record { num = suc j; brk = c } ∷ path_left p xs)
    path-next c xs e h = go (path_left p xs) (left-path nd j p xs h on-path)
      where
        go : (ys : List Open) → PathFrom nd p ys → PathFrom nd (suc j) (record { num = suc j; brk = c } ∷ ys)
        go [] z = absurd z
        go (y ∷ ys) z = (refl, e, rule-has linking.ruled (suc j) in-n has, z)

  walk_is : (m j : ℕ) (xs : List Open) → suc j + m ≡ b → a ≤ j → PathFrom nd j xs
      → write_nodes ps (suc j) xs (tabulate node_at (suc j) m) ++ (0x29 ∷ []) ≡ joined (text_of nd body) (suc j) m ++ ends_before nd b none
  unfolding tabulate joined
  walk_is zero j xs e l h =
      let w = linking.ruled.most in
      let d : suc j ≡ b = omega arith in
      ends_last nd j xs h (omega (arith, stretch.inside)) ∙ ap (λ (z : ℕ). ends_before nd z none) d
  walk_is (suc m) j xs e l h =
      let q : ℕ = parent_at nd (suc j) in
      let u : suc j < b = omega arith in
      let c : bracketed ps q ≡ in_brackets nd (suc j) = brackets-here j l u in
      let r : List ℕ = write_nodes ps (suc (suc j)) (record { num = suc j; brk = bracketed ps q } ∷ path_left q xs) (tabulate node_at (suc (suc j)) m) in
      let i : r ++ (0x29 ∷ []) ≡ joined (text_of nd body) (suc (suc j)) m ++ ends_before nd b none = walk_is m (suc j) (record { num = suc j; brk = bracketed ps q } ∷ path_left q xs) (omega arith) (omega arith) (path-next j l u (bracketed ps q) xs c h) in
      regroup (ends_text q xs) (bracketed ps q) (write_props (props (suc j))) r (0x29 ∷ [])
      ∙ ap₂ (λ (x y : List ℕ). x ++ y)
      (ap₂ (λ (x y : List ℕ). x ++ y) (ends-before nd j xs h q (on-path j l u))
      (ap₂ (λ (x : Bool) (y : List ℕ). pick x (0x28 ∷ []) [] ++ (0x3b ∷ y)) c (body_is (suc j) (omega arith) u)))
      i
      ∙ sym (append_assoc (text_of nd body (suc j)) (joined (text_of nd body) (suc (suc j)) m) (ends_before nd b none))

  pub root-counted : bracketed ps none ≡ false
  unfolding tabulate
  root-counted =
      let e : b - a ≡ suc (b - suc a) = omega (arith, stretch.some) in
      rw (e, eq-eqb (parent_at nd a) none stretch.root, counted_none nd none (b - suc a) (suc a) (λ i l u. stretch.others i (omega arith) (omega arith)))

  tree-walked : (game : ℕ) → write_tree (record { root = a; game = game; nodes = tabulate node_at a (b - a) })
      ≡ (start_text nd a ++ (0x3b ∷ body a)) ++ (joined (text_of nd body) (suc a) (b - suc a) ++ ends_before nd b none)
  unfolding tabulate
  tree-walked game =
      let s = stretch.some in
      let e : b - a ≡ suc (b - suc a) = omega arith in
      let top : Open = record { num = a; brk = bracketed ps (parent_at nd a) } in
      let f : bracketed ps (parent_at nd a) ≡ false = ap (bracketed ps) stretch.root ∙ root-counted in
      let g : 0x28 ∷ 0x3b ∷ body a ≡ start_text nd a ++ (0x3b ∷ body a) = rw (eq-eqb (parent_at nd a) none stretch.root) in
      let r : List ℕ = write_nodes ps (suc a) (top ∷ []) (tabulate node_at (suc a) (b - suc a)) in
      ap (λ (z : List ℕ). 0x28 ∷ (write_nodes z a [] (tabulate node_at a (b - a)) ++ (0x29 ∷ []))) (parents-are (b - a) a)
      ∙ ap (λ (z : ℕ). 0x28 ∷ (write_nodes ps a [] (tabulate node_at a z) ++ (0x29 ∷ []))) e
      ∙ ap (λ (z : List ℕ). 0x28 ∷ z)
      (regroup [] (bracketed ps (parent_at nd a)) (write_props (props a)) r (0x29 ∷ [])
      ∙ ap₂ (λ (x : Bool) (y : List ℕ). (pick x (0x28 ∷ []) [] ++ (0x3b ∷ y)) ++ (r ++ (0x29 ∷ []))) f (body_is a (omega arith) s))
      ∙ ap₂ (λ (x y : List ℕ). x ++ y) g
      (walk_is (b - suc a) a (top ∷ []) (omega arith) (omega arith) (refl, f, stretch.root))

  -- ---- the tree by recursion

  good-from : (m j : ℕ) (xs : List Open) → suc j + m ≡ b → a ≤ j → PathFrom nd j xs → Good ps (suc j) xs (tabulate node_at (suc j) m)
  unfolding tabulate
  good-from zero j xs e l h = tt
  good-from (suc m) j xs e l h =
      let q : ℕ = parent_at nd (suc j) in
      let u : suc j < b = omega arith in
      (path-on nd j q xs h (on-path j l u), good-from m (suc j) (opening ps (suc j) q ∷ path_left q xs) (omega arith) (omega arith) (path-next j l u (bracketed ps q) xs (brackets-here j l u) h))

  parents-from : ps ≡ none ∷ parents (tabulate node_at (suc a) (b - suc a))
  unfolding tabulate
  parents-from =
      let e : b - a ≡ suc (b - suc a) = omega (arith, stretch.some) in
      ap (tabulate (parent_at nd) a) e ∙ ap₂ (λ (x : ℕ) (y : List ℕ). x ∷ y) stretch.root (sym (parents-are (b - suc a) (suc a)))

  pub tree_is : (game : ℕ) → tree_text (record { root = a; game = game; nodes = tabulate node_at a (b - a) })
      ≡ (start_text nd a ++ (0x3b ∷ body a)) ++ (joined (text_of nd body) (suc a) (b - suc a) ++ ends_before nd b none)
  unfolding tabulate
  tree_is game =
      let s = stretch.some in
      let e : b - a ≡ suc (b - suc a) = omega arith in
      let ns : List Node = tabulate node_at (suc a) (b - suc a) in
      let top : List ℕ → Open = λ z. opening z a none in
      ap (λ (z : ℕ). tree_text (record { root = a; game = game; nodes = tabulate node_at a z })) e
      ∙ sym (tree-text a game (node_at a) ns stretch.root (subst (λ (z : List ℕ). bracketed z none ≡ false) parents-from root-counted)
      (subst (λ (z : List ℕ). Good z (suc a) (top z ∷ []) ns) parents-from (good-from (b - suc a) a (top ps ∷ []) (omega arith) (omega arith) (refl, root-counted, stretch.root)))
      (omega (arith, tabulate-length node_at (suc a) (b - suc a), linking.ruled.most, stretch.inside)))
      ∙ ap (λ (z : ℕ). write_tree (record { root = a; game = game; nodes = tabulate node_at a z })) (sym e)
      ∙ tree-walked game
