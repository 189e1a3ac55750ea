-- What `walk_tree` tells: beyond the limits, within them, and where the reader asks for a slice that is not too deep and has no fault ahead. Assumes nothing.
use Rattle.lists.proofs.Prelude.{ℕ, ◌+◌, ◌<◌, ◌≡◌, refl, sym, ap, ◌∙◌, subst, subst⁻¹, Bool, true, false, List, [], ◌∷◌, ◌++◌, append-nil, reverse, arith, length, length-reverse, leb-true, le-leb}
use Rattle.lists.proofs.Tests.{and_both}
use Rattle.lexer.specs.Token.{Tok, lex_at}
use Rattle.tables.specs.Numbers.{none}
use Rattle.tables.specs.Record.{Node, Tree, all_props, all_vals}
use Rattle.tables.specs.declared.Reason.{Reason}
use Rattle.tables.specs.declared.Reason.TheVariants.{NoRoom}
use Rattle.parser.specs.Walk.{Walk, walk, halted, stopped, walked}
use Rattle.parser.specs.LocalsSlice.{slice_from}
use Rattle.parser.specs.Read.{trees_so_far, no_trees, tree_of_nodes, tree_of_walk}
use Rattle.parser_tree.specs.LocalsTree.{open_token, token_tail, met_in, Run, nodes_after, run_of, place_behind, Held, Bases, Left, tree_with, end_left, run_left, slice_left, in_reach, tree_left}
use Rattle.parser_tree.specs.LocalsWalks.{walk_of, Ready, TreeIs, WalkIs, Reach, SliceAt, SliceAfter, LeftIs}
use Rattle.parser_tree.proofs.Laid.{laid-stored}
use Rattle.parser_tree.proofs.Bounded.{run-walked, run-nodes, Mild, mild-walked}
use Rattle.std.specs.Prelude.{Result, Err}

-- ---- the limits

module _ (u : List ℕ) (from base p0 v0 : ℕ) where
  abbrev bases : Bases
  bases = record { nodes = base; props = p0; vals = v0 }

  pub reached : in_reach (length u) from bases ≡ true → Reach u from base p0 v0
  reached h =
      let a = and_both _ _ h in
      let b = and_both _ _ a.0 in
      let c = and_both _ _ b.0 in
      let d = and_both _ _ c.0 in
      record { short = leb-true _ _ d.0; inside = leb-true _ _ d.1; nodes = leb-true _ _ c.1; props = leb-true _ _ b.1; vals = leb-true _ _ a.1 }

  pub reaches : Reach u from base p0 v0 → in_reach (length u) from bases ≡ true
  reaches x = rw (le-leb _ _ x.short, le-leb _ _ x.inside, le-leb _ _ x.nodes, le-leb _ _ x.props, le-leb _ _ x.vals) refl

  module _ (len : Bool) (t₀ q₀ w₀ : List ℕ) where
    abbrev before : Held
    before = record { nodes = t₀; props = q₀; vals = w₀ }

    -- beyond them
    pub left-beyond : in_reach (length u) from bases ≡ false → LeftIs (tree_left len u from bases before) len u from base p0 v0 t₀ q₀ w₀ (Err NoRoom)
    left-beyond h = rw h (record { answer = refl; held = refl; next = tt })

    -- within them
    pub left-within : in_reach (length u) from bases ≡ true → {t q w : List ℕ} {r : Result (ℕ × ℕ × ℕ × ℕ) Reason} → LeftIs (slice_left len u from bases before) len u from base p0 v0 t q w r → LeftIs (tree_left len u from bases before) len u from base p0 v0 t q w r
    left-within h x = rw h x

    left-slice : in_reach (length u) from bases ≡ true → {t q w : List ℕ} {r : Result (ℕ × ℕ × ℕ × ℕ) Reason} → LeftIs (tree_left len u from bases before) len u from base p0 v0 t q w r → LeftIs (slice_left len u from bases before) len u from base p0 v0 t q w r
    left-slice h x = rw h at x

-- ---- where the reader is ready

module _ {len : Bool} {u : List ℕ} {from base p0 v0 : ℕ} (y : Ready len u from base p0 v0) where
  ready-reach : Reach u from base p0 v0
  ready-reach = record { short = y.short; inside = y.inside; nodes = y.nodes; props = y.props; vals = y.vals }

  ready-met : met_in len u (lex_at u from) ≡ (lex_at u from).toks
  ready-met = ap (λ (z : List Tok). (lex_at u from).toks ++ z) (go len refl) ∙ append-nil (lex_at u from).toks
    where
      go : (l : Bool) → len ≡ l → token_tail l u (lex_at u from).end ≡ []
      go true e = refl
      go false e = ap (open_token u) (y.faultless e)

  ready-walk : (run_of len base (lex_at u from).toks).walk ≡ walk_of len base (lex_at u from).toks
  unfolding run_of walk_of
  ready-walk = run-walked len base (slice_from 0 (lex_at u from).toks) (record { nodes = []; walk = walk none [] false [] }) y.shallow

  ready-nodes : nodes_after (run_of len base (lex_at u from).toks).nodes (run_of len base (lex_at u from).toks).walk ≡ (run_of len base (lex_at u from).toks).nodes
  unfolding run_of
  ready-nodes = run-nodes len base (slice_from 0 (lex_at u from).toks) (record { nodes = []; walk = walk none [] false [] }) refl

  ready-mild : len ≡ true → Mild (walk_of len base (lex_at u from).toks)
  unfolding walk_of
  ready-mild l = subst⁻¹ (λ (z : Bool). Mild (walked z base (walk none [] false []) (slice_from 0 (lex_at u from).toks))) l (mild-walked base (slice_from 0 (lex_at u from).toks) (walk none [] false []) tt)

  module _ (t₀ q₀ w₀ t q w : List ℕ) where
    abbrev b₀ : Bases
    b₀ = record { nodes = base; props = p0; vals = v0 }

    abbrev m₀ : Held
    m₀ = record { nodes = t₀; props = q₀; vals = w₀ }

    abbrev Out : Result (ℕ × ℕ × ℕ × ℕ) Reason → Type 0
    Out r = WalkIs len u from base p0 v0 t₀ q₀ w₀ t q w r

    -- a tree of the nodes es
    told-tree : (es : List Node) (o : ℕ)
        → ((k : ℕ) (ts : List Tree) → tree_of_walk len base k (walk_of len base (lex_at u from).toks) ts ≡ trees_so_far (base + length es) (record { root = base; game = k; nodes = es } ∷ ts))
        → 0 < length es → {r : Result (ℕ × ℕ × ℕ × ℕ) Reason} → record { answer = r; held = record { nodes = t; props = q; vals = w } } ≡ tree_with b₀ m₀ o es → SliceAfter len u from base p0 v0 r → Out r
    told-tree es o f l {r} e n =
        subst⁻¹ Out (ap (λ (z : Left). z.answer) e)
        (give (subst (SliceAfter len u from base p0 v0) (ap (λ (z : Left). z.answer) e) n))
      where
        give : SliceAt len u from base p0 v0 o (base + length es) (p0 + length (all_props es)) (v0 + length (all_vals (all_props es)))
            → TreeIs len u from base p0 v0 t₀ q₀ w₀ t q w o (base + length es) (p0 + length (all_props es)) (v0 + length (all_vals (all_props es)))
        give x =
            record {
              es = es;
              tree = f;
              stored = laid-stored (record {
                nodes = refl;
                props = refl;
                vals = refl;
                tnodes = ap (λ (z : Left). z.held.nodes) e;
                tprops = ap (λ (z : Left). z.held.props) e;
                tvals = ap (λ (z : Left). z.held.vals) e;
              });
              more = omega arith;
              rest = x.rest;
              ends = x.ends y.faultless;
              on = x.on;
              inside = x.inside;
              node-bound = x.node-bound;
              prop-bound = x.prop-bound;
              val-bound = x.val-bound;
            }

    -- no tree
    told-no : {s : Reason} → len ≡ false → ((k : ℕ) (ts : List Tree) → tree_of_walk len base k (walk_of len base (lex_at u from).toks) ts ≡ no_trees s) → {x : Result (ℕ × ℕ × ℕ × ℕ) Reason} → x ≡ Err s → Out x
    told-no l f e = subst⁻¹ Out e (l, f)

    module _ (r : Result (ℕ × ℕ × ℕ × ℕ) Reason) (n : SliceAfter len u from base p0 v0 r) (o : ℕ) where
      abbrev Is : Left → Type 0
      Is x = record { answer = r; held = record { nodes = t; props = q; vals = w } } ≡ x

      -- the end of a slice
      told-end : (l : Bool) → len ≡ l → (ms : List Node) → ((k : ℕ) (ts : List Tree) → tree_of_walk len base k (walk_of len base (lex_at u from).toks) ts ≡ tree_of_nodes l base k ms ts) → Is (end_left l b₀ m₀ o ms) → Out r
      told-end l h (m ∷ ms) f e =
          told-tree (reverse (m ∷ ms)) o
          (λ k ts. f k ts ∙ ap (λ (z : ℕ). trees_so_far (base + z) (record { root = base; game = k; nodes = reverse (m ∷ ms) } ∷ ts)) (sym (length-reverse (m ∷ ms))))
          (let z = length-reverse (m ∷ ms) in omega arith) e n
      told-end true h [] f e =
          told-tree (record { parent = none; props = [] } ∷ []) o
          (λ k ts. f k ts ∙ ap (λ (z : ℕ). trees_so_far z (record { root = base; game = k; nodes = record { parent = none; props = [] } ∷ [] } ∷ ts)) (omega arith))
          (omega arith) e n
      told-end false h [] f e = told-no h f (ap (λ (z : Left). z.answer) e)

      told-walk : (x : Walk) → walk_of len base (lex_at u from).toks ≡ x → (ns : List Node) → nodes_after ns x ≡ ns → Is (run_left len b₀ m₀ o ns x) → Out r
      told-walk (walk cur st g ms) h ns k e = told-end len refl ms (λ i ts. ap (λ (z : Walk). tree_of_walk len base i z ts) h) (subst⁻¹ (λ (z : List Node). Is (end_left len b₀ m₀ o z)) k e)
      told-walk (halted ms) h ns k e = told-end len refl ms (λ i ts. ap (λ (z : Walk). tree_of_walk len base i z ts) h) (subst⁻¹ (λ (z : List Node). Is (end_left len b₀ m₀ o z)) k e)
      told-walk (stopped s) h ns k e = told-no (strict len refl) (λ i ts. ap (λ (z : Walk). tree_of_walk len base i z ts) h) (ap (λ (z : Left). z.answer) e)
        where
          strict : (l : Bool) → len ≡ l → len ≡ false
          strict false e = e
          strict true e = absurd (subst Mild h (ready-mild e))

    -- the slice's tree, as the reader asks for it
    pub told : {r : Result (ℕ × ℕ × ℕ × ℕ) Reason} → LeftIs (tree_left len u from b₀ m₀) len u from base p0 v0 t q w r → WalkIs len u from base p0 v0 t₀ q₀ w₀ t q w r
    unfolding slice_left
    told {r} x =
        let z = left-slice u from base p0 v0 len t₀ q₀ w₀ (reaches u from base p0 v0 ready-reach) x in
        let R : Run = run_of len base (lex_at u from).toks in
        let e : record { answer = r; held = record { nodes = t; props = q; vals = w } } ≡ run_left len b₀ m₀ (place_behind from (slice_from 0 (met_in len u (lex_at u from)))) R.nodes R.walk =
        ap (λ (a : Result (ℕ × ℕ × ℕ × ℕ) Reason). record { answer = a; held = record { nodes = t; props = q; vals = w } }) z.answer
        ∙ ap (λ (m : Held). record { answer = (slice_left len u from b₀ m₀).answer; held = m }) z.held
        ∙ ap (λ (ts : List Tok). run_left len b₀ m₀ (place_behind from (slice_from 0 (met_in len u (lex_at u from)))) (run_of len base ts).nodes (run_of len base ts).walk) ready-met in
        told-walk r z.next (place_behind from (slice_from 0 (met_in len u (lex_at u from)))) R.walk (sym ready-walk) R.nodes ready-nodes e
