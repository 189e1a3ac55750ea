-- The trees of the slices, one slice at a time. Assumes nothing.
use Rattle.lists.proofs.Prelude.{ℕ, suc, ◌+◌, ◌-◌, ◌*◌, ◌≤◌, ◌<◌, ◌≡◌, refl, sym, ap, ◌∙◌, subst, subst⁻¹, Bool, true, false, List, [], ◌∷◌, ◌++◌, append_assoc, append-nil, reverse, reverse-cons, reverse-reverse, arith, length, length-reverse}
use Rattle.lists.specs.All.{All}
use Rattle.lists.specs.Put.{PutIs}
use Rattle.lists.proofs.Put.{put-none, put-more}
use Rattle.lexer.specs.Token.{Tok, lex_at}
use Rattle.tables.specs.Record.{Node, Tree, all_nodes}
use Rattle.tables.specs.Rows.{tree_rows}
use Rattle.tables.specs.Flat.{flat_trees}
use Rattle.tables.specs.declared.Reason.{Reason}
use Rattle.parser.specs.Game.{Game, is, find_gametype}
use Rattle.parser.specs.LocalsSlice.{slice_from, rest_from, first_slices, Shallow}
use Rattle.parser.specs.Read.{Trees, trees_so_far, no_trees, tree_of_walk, tree_of_game, parse_gametrees}
use Rattle.parser_tree.specs.LocalsWalks.{walk_of, Ready, Stored, TreeIs, WalkIs}
use Rattle.parser_tree.proofs.Between.{Between, between-ready, between_next}
use Rattle.parser_tree.proofs.Stored.{stored-none, stored-both}
use Rattle.reader.specs.Lent.{Lent, lent}
use Rattle.reader.specs.LocalsSlices.{leniently, read_of, SlicesReady, GoIf, TreesPutIs}
use Rattle.parser_game.specs.LocalsGame.{type_of}
use Rattle.reader.proofs.Kinded.{fails, kinded-is, kinded-refused}
use Rattle.std.specs.Prelude.{Result, Ok, Err}

tree-append : (xs ys : List Tree) → flat_trees (tree_rows (xs ++ ys)) ≡ flat_trees (tree_rows xs) ++ flat_trees (tree_rows ys)
tree-append [] ys = refl
tree-append (x ∷ xs) ys = ap (λ (z : List ℕ). x.root ∷ x.game ∷ z) (tree-append xs ys)

pub tree-length : (xs : List Tree) → length (flat_trees (tree_rows xs)) ≡ length xs * 2
tree-length [] = refl
tree-length (x ∷ xs) = let h = tree-length xs in omega arith

nodes-append : (xs ys : List Tree) → all_nodes (xs ++ ys) ≡ all_nodes xs ++ all_nodes ys
nodes-append [] ys = refl
nodes-append (x ∷ xs) ys = ap (λ (z : List Node). x.nodes ++ z) (nodes-append xs ys) ∙ sym (append_assoc x.nodes (all_nodes xs) (all_nodes ys))

-- ---- k slices are read, n nodes, p properties and v values

pub record Planting (len go : Bool) (u : List ℕ) (l : List Tok) (count : ℕ) (before after : Lent) (at n p v k : ℕ) : Type 0 where
  pub ts : List Tree
  pub made : length ts ≡ k
  pub below : k ≤ count
  pub same : read_of len count l ≡ parse_gametrees len (trees_so_far n ts) (first_slices (count - k) (lex_at u at).toks)
  pub trees : PutIs before.trees 0 (flat_trees (tree_rows (reverse ts))) after.trees
  pub rows : Stored 0 0 0 (all_nodes (reverse ts)) before.nodes before.props before.vals after.nodes after.props after.vals n p v
  pub ready : Between len u at k n p v (count - k)
  pub games : GoIf go (first_slices (count - k) (lex_at u at).toks)

pub plant-first : {len go : Bool} {u : List ℕ} {from count : ℕ} (b : Lent) → SlicesReady len u from count → GoIf go (first_slices count (lex_at u from).toks) → Planting len go u (lex_at u from).toks count b b from 0 0 0 0
unfolding read_of
plant-first {len} {go} {u} {from} {count} b x ks =
    let e : count - 0 ≡ count = omega arith in
    let f = x.bound in
    record {
      ts = [];
      made = refl;
      below = omega arith;
      same = ap (λ (z : ℕ). parse_gametrees len (trees_so_far 0 []) (first_slices z (lex_at u from).toks)) (sym e);
      trees = put-none b.trees 0;
      rows = stored-none 0 0 0 b.nodes b.props b.vals;
      ready = record {
        short = x.short;
        inside = x.inside;
        trees = omega arith;
        nodes = omega arith;
        props = omega arith;
        vals = omega arith;
        shallow = subst⁻¹ (λ (z : ℕ). All (Shallow 0) (first_slices z (lex_at u from).toks)) e x.shallow;
        faultless = x.faultless;
      };
      games = subst⁻¹ (λ (z : ℕ). GoIf go (first_slices z (lex_at u from).toks)) e ks;
    }

module _ {len go : Bool} {u : List ℕ} {l : List Tok} {count : ℕ} {before after : Lent} {at n p v k : ℕ}
    (x : Planting len go u l count before after at n p v k) where
  abbrev toks : List Tok
  toks = (lex_at u at).toks

  pub plant-keeps : (length after.trees ≡ length before.trees) × (length after.nodes ≡ length before.nodes) × (length after.props ≡ length before.props) × (length after.vals ≡ length before.vals)
  plant-keeps = (x.trees.len, x.rows.tnodes.len, x.rows.tprops.len, x.rows.tvals.len)

  pub plant-end : count ≤ k → TreesPutIs (read_of len count l) count before after n p v
  unfolding first_slices
  plant-end h =
      let b = x.below in
      let e : count - k ≡ 0 = omega arith in
      let f : k ≡ count = omega arith in
      let r = x.ready in
      record {
        ts = reverse x.ts;
        trees-are = x.same ∙ ap (λ (z : ℕ). parse_gametrees len (trees_so_far n x.ts) (first_slices z toks)) e ∙ ap (trees_so_far n) (sym (reverse-reverse x.ts));
        count-is = length-reverse x.ts ∙ x.made ∙ f;
        bound = omega arith;
        ttrees = x.trees;
        stored = x.rows;
      }

  module _ (h : k < count) where
    left : count - k ≡ suc (count - (k + 1))
    left = omega arith

    pub plant-between : Between len u at k n p v (suc (count - (k + 1)))
    plant-between = subst (Between len u at k n p v) left x.ready

    pub plant-ready : Ready len u at n p v
    plant-ready = between-ready plant-between

    plant-games : GoIf go (first_slices (suc (count - (k + 1))) toks)
    plant-games = subst (λ (z : ℕ). GoIf go (first_slices z toks)) left x.games

    pub plant-go : go ≡ true → find_gametype (slice_from 0 toks) ≡ is 0
    unfolding first_slices
    plant-go e = (plant-games e).0

    plant-others : GoIf go (first_slices (count - (k + 1)) (rest_from 0 toks))
    unfolding first_slices
    plant-others e = (plant-games e).1

    turn : read_of len count l ≡ parse_gametrees len (tree_of_game len n (find_gametype (slice_from 0 toks)) (slice_from 0 toks) x.ts) (first_slices (count - (k + 1)) (rest_from 0 toks))
    unfolding first_slices
    turn = x.same ∙ ap (λ (z : ℕ). parse_gametrees len (trees_so_far n x.ts) (first_slices z toks)) left

    pub plant-no : {r : Reason} {g : Result ℕ Reason} → g ≡ type_of (leniently len (find_gametype (slice_from 0 toks))) → g ≡ Err r → read_of len count l ≡ no_trees r
    plant-no {r} e q =
        turn
        ∙ ap (λ (j : Trees). parse_gametrees len j (first_slices (count - (k + 1)) (rest_from 0 toks))) (kinded-refused len n (slice_from 0 toks) x.ts (find_gametype (slice_from 0 toks)) r (sym q ∙ e))
        ∙ fails len r (first_slices (count - (k + 1)) (rest_from 0 toks))

    module _ {g : Result ℕ Reason} {j : ℕ} (e : g ≡ type_of (leniently len (find_gametype (slice_from 0 toks)))) (q : g ≡ Ok j) where
      turned : read_of len count l ≡ parse_gametrees len (tree_of_walk len n j (walk_of len n toks) x.ts) (first_slices (count - (k + 1)) (rest_from 0 toks))
      unfolding walk_of
      turned = turn ∙ ap (λ (y : Trees). parse_gametrees len y (first_slices (count - (k + 1)) (rest_from 0 toks))) (kinded-is len n (slice_from 0 toks) x.ts (find_gametype (slice_from 0 toks)) j (sym q ∙ e))

      pub plant-stop : {r : Reason} → ((i : ℕ) (ts : List Tree) → tree_of_walk len n i (walk_of len n toks) ts ≡ no_trees r) → read_of len count l ≡ no_trees r
      plant-stop {r} f = turned ∙ ap (λ (y : Trees). parse_gametrees len y (first_slices (count - (k + 1)) (rest_from 0 toks))) (f j x.ts) ∙ fails len r (first_slices (count - (k + 1)) (rest_from 0 toks))

      pub plant-more : {t q w r : List ℕ} {at' n' p' v' : ℕ} → TreeIs len u at n p v after.nodes after.props after.vals t q w at' n' p' v' → PutIs after.trees (k * 2) (n ∷ j ∷ []) r
          → Planting len go u l count before (lent r t q w) at' n' p' v' (k + 1)
      plant-more {t} {q} {w} {r} {at'} {n'} {p'} {v'} y pt =
          let m = x.made in
          let rn = y.stored.nodes in
          let lr : length (reverse x.ts) ≡ length x.ts = length-reverse x.ts in
          let sk : suc k ≡ k + 1 = omega arith in
          record {
            ts = record { root = n; game = j; nodes = y.es } ∷ x.ts;
            made = omega arith;
            below = omega arith;
            same =
                turned
                ∙ ap (λ (z : Trees). parse_gametrees len z (first_slices (count - (k + 1)) (rest_from 0 toks))) (y.tree j x.ts ∙ ap (λ (z : ℕ). trees_so_far z (record { root = n; game = j; nodes = y.es } ∷ x.ts)) (sym rn))
                ∙ ap (λ (z : List Tok). parse_gametrees len (trees_so_far n' (record { root = n; game = j; nodes = y.es } ∷ x.ts)) (first_slices (count - (k + 1)) z)) y.rest;
            trees =
                subst⁻¹ (λ (z : List Tree). PutIs before.trees 0 (flat_trees (tree_rows z)) r) (reverse-cons (record { root = n; game = j; nodes = y.es }) x.ts)
                (subst⁻¹ (λ (z : List ℕ). PutIs before.trees 0 z r) (tree-append (reverse x.ts) (record { root = n; game = j; nodes = y.es } ∷ []))
                (put-more x.trees pt (omega (arith, tree-length (reverse x.ts)))));
            rows =
                subst⁻¹ (λ (z : List Tree). Stored 0 0 0 (all_nodes z) before.nodes before.props before.vals t q w n' p' v') (reverse-cons (record { root = n; game = j; nodes = y.es }) x.ts)
                (subst⁻¹ (λ (z : List Node). Stored 0 0 0 z before.nodes before.props before.vals t q w n' p' v')
                (nodes-append (reverse x.ts) (record { root = n; game = j; nodes = y.es } ∷ []) ∙ ap (λ (z : List Node). all_nodes (reverse x.ts) ++ z) (append-nil y.es))
                (stored-both (all_nodes (reverse x.ts)) y.es x.rows y.stored));
            ready = subst (λ (z : ℕ). Between len u at' z n' p' v' (count - (k + 1))) sk (between_next plant-between y);
            games = subst (λ (z : List Tok). GoIf go (first_slices (count - (k + 1)) z)) y.rest plant-others;
          }

-- what a walk gave
module _ (len : Bool) (u : List ℕ) (from base p0 v0 : ℕ) (t₀ q₀ w₀ t q w : List ℕ) {x : Result (ℕ × ℕ × ℕ × ℕ) Reason} (y : WalkIs len u from base p0 v0 t₀ q₀ w₀ t q w x) where
  pub walk-tree-as : {at n p v : ℕ} → x ≡ Ok (at, n, p, v) → TreeIs len u from base p0 v0 t₀ q₀ w₀ t q w at n p v
  walk-tree-as e = subst (WalkIs len u from base p0 v0 t₀ q₀ w₀ t q w) e y

  pub walk-refused-as : {r : Reason} → x ≡ Err r → (k : ℕ) (ts : List Tree) → tree_of_walk len base k (walk_of len base (lex_at u from).toks) ts ≡ no_trees r
  walk-refused-as e = (subst (WalkIs len u from base p0 v0 t₀ q₀ w₀ t q w) e y).1

-- a game type that is known
pub go-type : (len : Bool) {K : Game} → K ≡ is 0 → Ok 0 ≡ type_of (leniently len K)
go-type len e = go len ∙ ap (λ (z : Game). type_of (leniently len z)) (sym e)
  where
    go : (len : Bool) → Ok 0 ≡ type_of (leniently len (is 0))
    go true = refl
    go false = refl
