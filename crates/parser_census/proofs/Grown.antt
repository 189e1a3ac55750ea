-- What is read from a token on where a census says `Simple`: outside a slice, behind its start, inside. Assumes nothing.
use Rattle.lists.proofs.Prelude.{ℕ, suc, ◌+◌, ◌≡◌, refl, sym, ap, ◌∙◌, subst, subst⁻¹, Bool, true, false, List, [], ◌∷◌, ◌++◌, append_assoc, reverse, reverse-cons, arith, length, length-append}
use Rattle.lists.specs.All.{All}
use Rattle.lexer.specs.Token.{Prop, Tok, start, node, End}
use Rattle.tables.specs.Numbers.{none}
use Rattle.tables.specs.Record.{Node, Tree, all_nodes}
use Rattle.parser.specs.Game.{Game, is, GM, props_named, find_gametype, game_props}
use Rattle.parser.specs.LocalsSlice.{slice_from, rest_from, first_slices}
use Rattle.parser.specs.Walk.{Walk, walk, children, walks, walked}
use Rattle.parser.specs.Read.{Trees, trees_so_far, tree_of_walk, tree_of_game, parse_gametrees}
use Rattle.parser_game.proofs.Gather.{props-slice}
use Rattle.parser_census.specs.declared.Mode.{Mode}
use Rattle.parser_census.specs.declared.Mode.TheVariants.{Outside, First, Root}
use Rattle.parser_census.proofs.Sizes.{props_in, vals_in, props-in-append, vals-in-append}
use Rattle.parser_census.proofs.Holds.{Holds}
use Rattle.parser_census.proofs.Odds.{Says, says-start, says_none, root-is-go}

shift : (u : Tree) (us ys : List Tree) → reverse us ++ (u ∷ ys) ≡ reverse (u ∷ us) ++ ys
shift u us ys = sym (ap (λ (z : List Tree). z ++ ys) (reverse-cons u us) ∙ append_assoc (reverse us) (u ∷ []) ys)

module _ (ct cn cp cv : ℕ) (e : End) (len : Bool) where
  abbrev pub On : Mode → (d t n p v : ℕ) → List Tok → Type 0
  On = Says ct cn cp cv e

  -- the trees us are read from here on, where t trees and n, p and v rows came before
  pub record Grown (t n p v : ℕ) (ts : List Tok) : Type 0 where
    pub us : List Tree
    pub trees : ct ≡ t + length us
    pub nodes : cn ≡ n + length (all_nodes us)
    pub props : cp ≡ p + props_in (all_nodes us)
    pub vals : cv ≡ v + vals_in (all_nodes us)
    pub grown : (ys : List Tree) → parse_gametrees len (trees_so_far n ys) (first_slices (length us) ts) ≡ trees_so_far cn (reverse us ++ ys)
    pub games : All (λ (s : List Tok). find_gametype s ≡ is 0) (first_slices (length us) ts)

  -- in a slice, walked as far as w and at depth d: its nodes are es, and then the other trees are read
  pub record Inside (t b p0 v0 : ℕ) (w : Walk) (d : ℕ) (ts : List Tok) : Type 0 where
    pub es : List Node
    pub tree : (k : ℕ) (ys : List Tree) → tree_of_walk len b k (walked len b w (slice_from d ts)) ys ≡ trees_so_far (b + length es) (record { root = b; game = k; nodes = es } ∷ ys)
    pub rest : Grown (t + 1) (b + length es) (p0 + props_in es) (v0 + vals_in es) (rest_from d ts)

  -- one token of a slice
  module _ {t b p0 v0 : ℕ} {w w' : Walk} (tok : Tok) {d d' : ℕ} {ts : List Tok} (es : slice_from d (tok ∷ ts) ≡ tok ∷ slice_from d' ts) (er : rest_from d (tok ∷ ts) ≡ rest_from d' ts) (ew : walks len b w tok ≡ w') where
    pub inside_on : Inside t b p0 v0 w' d' ts → Inside t b p0 v0 w d (tok ∷ ts)
    inside_on x =
        record {
          es = x.es;
          tree = λ k ys.
              ap (λ (z : List Tok). tree_of_walk len b k (walked len b w z) ys) es
              ∙ ap (λ (z : Walk). tree_of_walk len b k (walked len b z (slice_from d' ts)) ys) ew
              ∙ x.tree k ys;
          rest = subst⁻¹ (Grown (t + 1) (b + length x.es) (p0 + props_in x.es) (v0 + vals_in x.es)) er x.rest;
        }

  -- ---- what is shown of the tokens ts

  abbrev pub Outer : List Tok → Type 0
  Outer ts = (t n p v : ℕ) → On Outside 0 t n p v ts → Grown t n p v ts

  abbrev pub Begun : List Tok → Type 0
  Begun ts = (t n p v : ℕ) → On First 1 t n p v ts → Inside t n p v (walk none (none ∷ []) false []) 1 ts × (find_gametype (start 0 ∷ slice_from 1 ts) ≡ is 0)

  abbrev pub Inner : List Tok → Type 0
  Inner ts =
      (m : Mode) (d t b p0 v0 cur : ℕ) (st : List ℕ) (g : Bool) (x : Node) (ns : List Node)
      → Holds m cur st g (x ∷ ns) → length st ≡ suc d
      → On m (suc d) t (b + length (x ∷ ns)) (p0 + props_in (x ∷ ns)) (v0 + vals_in (x ∷ ns)) ts
      → Inside t b p0 v0 (walk cur st g (x ∷ ns)) (suc d) ts

  pub record Shown (ts : List Tok) : Type 0 where
    pub outer : Outer ts
    pub begun : Begun ts
    pub inner : Inner ts

  -- ---- outside

  pub outer-none : Outer []
  unfolding first_slices
  outer-none t n p v h =
      let s = says_none ct cn cp cv e Outside 0 t n p v h in
      record {
        us = [];
        trees = omega (arith, s.3);
        nodes = omega (arith, s.4);
        props = omega (arith, s.5);
        vals = omega (arith, s.6);
        grown = λ ys. ap (λ (z : ℕ). trees_so_far z ys) (sym s.4);
        games = tt;
      }

  -- a slice, and the trees behind it
  pub outer_start : (o : ℕ) (ts : List Tok) → Begun ts → Outer (start o ∷ ts)
  unfolding first_slices slice_from rest_from
  outer_start o ts ih t n p v h =
      let s = says-start ct cn cp cv e Outside 0 t n p v o ts h in
      let i = ih t n p v s.1 in
      let x = i.0 in
      let r = x.rest in
      let l = length-append x.es (all_nodes r.us) in
      let lp = props-in-append x.es (all_nodes r.us) in
      let lv = vals-in-append x.es (all_nodes r.us) in
      record {
        us = record { root = n; game = 0; nodes = x.es } ∷ r.us;
        trees = omega (arith, r.trees);
        nodes = omega (arith, r.nodes, l);
        props = omega (arith, r.props, lp);
        vals = omega (arith, r.vals, lv);
        grown = λ ys.
            ap (λ (z : Game). parse_gametrees len (tree_of_game len n z (start o ∷ slice_from 1 ts) ys) (first_slices (length r.us) (rest_from 1 ts))) i.1
            ∙ ap (λ (z : Trees). parse_gametrees len z (first_slices (length r.us) (rest_from 1 ts))) (x.tree 0 ys)
            ∙ r.grown (record { root = n; game = 0; nodes = x.es } ∷ ys)
            ∙ ap (trees_so_far cn) (shift (record { root = n; game = 0; nodes = x.es }) r.us ys);
        games = (i.1, r.games);
      }

  -- ---- behind the start of a slice

  pub begun-node : (o : ℕ) (ts : List Tok) → Inner ts → Begun (node o ∷ ts)
  unfolding slice_from rest_from
  begun-node o ts ih t n p v h =
      let q2 : p ≡ p + 0 = omega arith in
      let q3 : v ≡ v + 0 = omega arith in
      let h1 : On Root 1 t (n + 1) (p + 0) (v + 0) ts = subst (λ (z : ℕ). On Root 1 t (n + 1) (p + 0) z ts) q3 (subst (λ (z : ℕ). On Root 1 t (n + 1) z v ts) q2 h) in (
        inside_on (node o) refl refl refl (ih Root 0 t n p v (n + 0) (none ∷ []) true (record { parent = none; props = [] }) [] (refl, (eq-children, tt)) refl h1),
        ap (λ (z : List Prop). game_props (props_named GM z)) (props-slice 1 ts) ∙ root-is-go ct cn cp cv e ts 1 t (n + 1) p v h,
      )
    where
      eq-children : children none (record { parent = none; props = [] } ∷ []) ≡ true
      eq-children = refl
