-- The walk of a slice for its shape, one token a turn. Assumes nothing.
use Rattle.lists.proofs.Prelude.{◌≡◌, refl, sym, ap, ◌∙◌, subst, ℕ, suc, ◌+◌, ◌-◌, ◌*◌, ◌≤◌, ◌<◌, arith, add-one, Bool, true, false, false≢true, List, [], ◌∷◌, ◌++◌, reverse, reverse-cons, length, length-reverse}
use Rattle.lexer.specs.Token.{Tok, lex_at}
use Rattle.tables.specs.Numbers.{text_limit, depth_limit, none}
use Rattle.tables.specs.Record.{Node, all_props}
use Rattle.tables.specs.Rows.{parents}
use Rattle.parser.specs.Walk.{Walk, walks, walked}
use Rattle.parser.specs.LocalsSlice.{slice_from}
use Rattle.parser_step.specs.LocalsActs.{stack_of}
use Rattle.parser_tree.specs.LocalsTurns.{BehindIs}
use Rattle.parser_tree.proofs.Lines.{line_first}
use Rattle.parser_tree.proofs.Behind.{skipping-first, skipping-over}
use Rattle.salvage_form.specs.declared.root.RootRule.{RootRule}
use Rattle.why_blame.specs.Blame.{Blame, blame, is_stopped}
use Rattle.salvage_list.specs.Listed.{cut_of, walk_nodes}
use Rattle.salvage_list.specs.LocalsWalk.{nodes_from, cut_from}
use Rattle.salvage_list.proofs.Going.{Going, here}
use Rattle.salvage_shape.specs.LocalsShape.{leaf, Meets, shape_depth, brackets_of}
use Rattle.salvage_shape.specs.LocalsChain.{height_limit, no_chain, cells_of, fresh_of, close_all}
use Rattle.salvage_shape.specs.LocalsWalk.{ShapeReady, ShapeIs}
use Rattle.salvage_shape.specs.declared.Chain.{Chain}
use Rattle.salvage_shape.proofs.Shaping.{Shaped, shaped-first, shaped-depth, shaped-low, shaped-brackets}
use Rattle.salvage_shape.proofs.Latest.{meets-forward}
use Rattle.salvage_shape.proofs.Siblings.{brackets-few}
use Rattle.salvage_shape.proofs.Sums.{Summed, summed-first, summed-on, summed-all, listed-all}

-- ---- parents

pub parents-length : (ns : List Node) → length (parents ns) ≡ length ns
parents-length [] = refl
parents-length (n ∷ ns) = ap suc (parents-length ns)

parents-last : (ns : List Node) (n : Node) → parents (ns ++ (n ∷ [])) ≡ parents ns ++ (n.parent ∷ [])
parents-last [] n = refl
parents-last (m ∷ ns) n = ap (λ (z : List ℕ). m.parent ∷ z) (parents-last ns n)

parents-reverse : (ns : List Node) → parents (reverse ns) ≡ reverse (parents ns)
parents-reverse [] = refl
parents-reverse (n ∷ ns) =
    ap parents (reverse-cons n ns)
    ∙ parents-last (reverse ns) n
    ∙ ap (λ (z : List ℕ). z ++ (n.parent ∷ [])) (parents-reverse ns)
    ∙ sym (reverse-cons n.parent (parents ns))

-- ---- between two tokens

pub shaped-as : {base : ℕ} {ds : List ℕ} {cur : ℕ} {f : Bool} {c : Chain} {brackets : ℕ} {st st2 : List ℕ} {ms ms2 : List Bool} {es es2 : List Chain} → st ≡ st2 → ms ≡ ms2 → es ≡ es2
    → Shaped base ds cur f c st ms es brackets → Shaped base ds cur f c st2 ms2 es2 brackets
shaped-as {base} {ds} {cur} {f} {c} {brackets} {st} {st2} {ms} {ms2} {es} {es2} a b d x =
    subst (λ (z : List Chain). Shaped base ds cur f c st2 ms2 z brackets) d
    (subst (λ (z : List Bool). Shaped base ds cur f c st2 z es brackets) b (subst (λ (z : List ℕ). Shaped base ds cur f c z ms es brackets) a x))

-- the walk, and the shape so far
pub record Walking (u : List ℕ) (from base : ℕ) (a : List ℕ) (ma : List Bool) (ca : List ℕ) (at d cur n : ℕ) (g f : Bool) (brackets : ℕ) (c : Chain) (root : RootRule) (bytes listed : ℕ) : Type 0 where
  pub go : Going u from base a at d cur n g
  pub shape : Shaped base (parents go.ns) cur f c (stack_of a d) (fresh_of ma d) (cells_of ca d) brackets
  pub marked : length ma ≡ depth_limit
  pub kept : length ca ≡ depth_limit * 4
  pub sums : Summed u from base go.ns at root bytes listed

pub walking-first : {u : List ℕ} {from base : ℕ} (a : List ℕ) (ma : List Bool) (ca : List ℕ) → ShapeReady u from base → length a ≡ depth_limit → length ma ≡ depth_limit → length ca ≡ depth_limit * 4
    → Walking u from base a ma ca from 0 none base false false 0 no_chain (record { rule = 0; bad = false }) 0 0
unfolding stack_of fresh_of cells_of
walking-first {u} {from} {base} a ma ca x h i j =
    record {
      go = record {
        short = x.short;
        low = x.nodes;
        ns = [];
        pre = [];
        count = omega arith;
        array = h;
        deep = omega arith;
        few = omega arith;
        skip = skipping-first true u from 0 x.inside;
        blames = refl;
        walkeds = refl;
        shallow = x.shallow;
        line = line_first base;
        some = λ e. absurd (false≢true e);
      };
      shape = shaped-first base;
      marked = i;
      kept = j;
      sums = summed-first u from base;
    }

module _ {u : List ℕ} {from base : ℕ} {a : List ℕ} {ma : List Bool} {ca : List ℕ} {at d cur n : ℕ} {g f : Bool} {brackets : ℕ} {c : Chain} {root : RootRule} {bytes listed : ℕ}
    (x : Walking u from base a ma ca at d cur n g f brackets c root bytes listed) where
  abbrev ds : List ℕ
  ds = parents x.go.ns

  pub walking-few : (base + length ds < none) × (suc (length ds) ≤ height_limit) × (brackets + base ≤ n) × (base ≤ n) × (n ≤ text_limit + text_limit + text_limit)
  walking-few =
      let e = parents-length x.go.ns in
      let q = x.go.count in
      let w = x.go.few in
      let i = x.go.skip.inside in
      let s = x.go.short in
      let l = x.go.low in
      let b = x.shape.sum in
      let k = brackets-few ds in (omega (arith, e), omega (arith, e), omega (arith, e, b, k), omega arith, omega arith)

  few : base + length ds < none
  few = walking-few.0

  low : suc (length ds) ≤ height_limit
  low = walking-few.1

  pub walking-low : {h : ℕ} → h ≡ close_all f c (fresh_of ma d) (cells_of ca d) → h ≤ height_limit
  walking-low e = let l = shaped-low x.shape few low in let k = low in omega (arith, e, l, k)

  -- ---- where the walk ends

  module _ (en : nodes_from u from base ≡ reverse x.go.ns) {next : ℕ} (bh : BehindIs true u from 0 next) (on : at ≤ next) {h : ℕ} (eh : h ≡ close_all f c (fresh_of ma d) (cells_of ca d))
      {cuts : ℕ} (ec : (i : ℕ) → length (cut_of i (cut_from u from base)) ≡ cuts) where
    all : parents (nodes_from u from base) ≡ reverse ds
    all = ap parents en ∙ parents-reverse x.go.ns

    pub shape-over : ShapeIs u from base (record { next = next; nodes = n - base; brackets = brackets; depth = h + 1; bytes = bytes; listed = listed + cuts })
    shape-over =
        let q = x.go.count in
        let e : length (nodes_from u from base) ≡ length x.go.ns = ap length en ∙ length-reverse x.go.ns in
        let w = x.go.few in
        record {
          nodes = omega (arith, q, e);
          brackets = shaped-brackets x.shape few low ∙ ap brackets_of (sym all);
          depth = add-one h ∙ ap suc eh ∙ shaped-depth x.shape few low ∙ ap (shape_depth base) (sym all);
          behind = bh;
          meets = subst (Meets base (leaf none ∷ [])) (sym all) (meets-forward base ds x.shape.meets);
          node-bound = omega (arith, q, w, on);
          bytes = summed-all x.sums en;
          byte-bound = (summed-on x.sums on).bound;
          listed = λ i p. let l = listed-all x.sums en p in let k = ec i in omega (arith, l, k);
          prop-bound = let b = (summed-on x.sums on).props in let k : length (all_props (nodes_from u from base)) ≡ length (all_props (reverse x.go.ns)) = ap (λ (z : List Node). length (all_props z)) en in omega (arith, b, k);
        }

  -- ---- no token is left

  pub none_over : (lex_at u at).toks ≡ [] → {h : ℕ} → h ≡ close_all f c (fresh_of ma d) (cells_of ca d) → ShapeIs u from base (record { next = at; nodes = n - base; brackets = brackets; depth = h + 1; bytes = bytes; listed = listed })
  unfolding slice_from
  none_over z {h} eh =
      let k : slice_from d (lex_at u at).toks ≡ [] = ap (slice_from d) z in
      subst (λ (l : ℕ). ShapeIs u from base (record { next = at; nodes = n - base; brackets = brackets; depth = h + 1; bytes = bytes; listed = l })) (omega arith)
      (shape-over (ap walk_nodes (x.go.walkeds ∙ ap (walked true base (here x.go)) k)) (skipping-over x.go.skip (ap (λ (t : List Tok). t ++ []) z)) (omega arith) eh
      (λ i. ap (λ (b : Blame Walk). length (cut_of i b)) (x.go.blames ∙ ap (blame (walks true base) is_stopped (here x.go) x.go.pre) k)))
