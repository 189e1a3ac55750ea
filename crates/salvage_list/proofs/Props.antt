-- A turn of the walk for the entries at a node, at a property, and where no token is left. Assumes nothing.
use Rattle.lists.proofs.Prelude.{ℕ, suc, ◌+◌, ◌≤◌, ◌<◌, ◌≡◌, refl, sym, ap, ◌∙◌, subst, subst⁻¹, Bool, true, false, ◌&&◌, List, [], ◌∷◌, ◌++◌, reverse, arith, length, eqb, eq-eqb, ne_eqb}
use Rattle.lexer.specs.Token.{Prop, Tok, node, prop, Lexed, lexed, lex_at}
use Rattle.lexer.specs.Step.{prop_at}
use Rattle.tables.specs.Record.{Node, all_props}
use Rattle.parser.specs.Game.{props, game_props}
use Rattle.parser.specs.Walk.{Walk, walk, halted, walks, walked, adds, gated}
use Rattle.parser.specs.LocalsSlice.{slice_from, Shallow}
use Rattle.parser_step.specs.LocalsActs.{stack_of}
use Rattle.parser_game.proofs.Gather.{props-slice}
use Rattle.parser_tree.specs.LocalsTurns.{BehindIs}
use Rattle.parser_tree.proofs.Lines.{Line, line-prop, line-node}
use Rattle.parser_tree.proofs.Behind.{skipping-node, skipping-prop, skipping-over, skipping-behind}
use Rattle.why_blame.specs.Blame.{blame, is_stopped}
use Rattle.salvage_mend.specs.Mend.{gms_among, gms_bad, root_game}
use Rattle.salvage_mend.specs.Changes.{prop_change}
use Rattle.salvage_list.specs.Listed.{cut_of, walk_nodes}
use Rattle.salvage_list.specs.LocalsPuts.{EntriesPut}
use Rattle.salvage_list.specs.LocalsWalk.{StoodIs}
use Rattle.salvage_list.proofs.Puts.{puts-as, puts-more, prop-few}
use Rattle.salvage_list.proofs.Rooted.{with_root, bad_for, with-node, with-prop, props-node, props-prop, first-bad}
use Rattle.salvage_list.proofs.Going.{Going, Put, Standing, root_bad, here, blames-on, walkeds-on, stops-here, stopped-nodes, stands}

module _ {u : List ℕ} {from base : ℕ} {a : List ℕ} {at d cur n : ℕ} {g : Bool} (x : Going u from base a at d cur n g) where
  -- ---- a node

  module _ {i : ℕ} (lo : at ≤ i) (hi : i < length u) (q : lex_at u at ≡ lexed (node i ∷ []) (lex_at u (i + 1))) where
    pub node-slice : slice_from d (lex_at u at).toks ≡ node i ∷ slice_from d (lex_at u (i + 1)).toks
    unfolding slice_from
    node-slice = ap (λ (z : Lexed). slice_from d z.toks) q

    node-walk : {c : ℕ} → c ≡ n → walks true base (here x) (node i) ≡ walk c (stack_of a d) true (record { parent = cur; props = [] } ∷ x.ns)
    node-walk ec = ap (λ (z : ℕ). walk z (stack_of a d) true (record { parent = cur; props = [] } ∷ x.ns)) (sym (ec ∙ x.count))

    pub going-node : {c : ℕ} → c ≡ n → Going u from base a (i + 1) d c (n + 1) true
    unfolding Shallow
    going-node {c} ec =
        let fe = x.few in
        let sh = x.short in
        let lw = x.low in
        let co = x.count in
        let w : walks true base (here x) (node i) ≡ walk c (stack_of a d) true (record { parent = cur; props = [] } ∷ x.ns) = node-walk ec in
        record {
          short = x.short;
          low = x.low;
          ns = record { parent = cur; props = [] } ∷ x.ns;
          pre = x.pre ++ (node i ∷ []);
          count = omega arith;
          array = x.array;
          deep = x.deep;
          few = omega arith;
          skip = skipping-node x.skip lo hi q;
          blames = blames-on x (node i) (slice_from d (lex_at u (i + 1)).toks) node-slice w refl;
          walkeds = walkeds-on x (node i) (slice_from d (lex_at u (i + 1)).toks) node-slice w;
          shallow = subst (Shallow d) node-slice x.shallow;
          line = subst⁻¹ (λ (z : ℕ). Line base (record { parent = cur; props = [] } ∷ x.ns) z (stack_of a d)) (ec ∙ co) (line-node (omega arith) x.line);
          some = λ z. omega arith;
        }

    -- the first node, by what follows it; any other is not bad
    node-bad : (ns : List Node) → x.ns ≡ ns → {b : Bool} → b ≡ (eqb n base && gms_bad (game_props (gms_among (props (lex_at u (i + 1)).toks)))) → b ≡ bad_for (root_bad u from base) (record { parent = cur; props = [] } ∷ ns)
    node-bad [] e h =
        let l : length x.ns ≡ 0 = ap length e in
        let co = x.count in
        h
        ∙ ap (λ (z : Bool). z && gms_bad (game_props (gms_among (props (lex_at u (i + 1)).toks)))) (eq-eqb n base (omega arith))
        ∙ ap (λ (z : List Prop). gms_bad (game_props (gms_among z))) (sym (props-slice d (lex_at u (i + 1)).toks))
        ∙ sym (first-bad base cur n (stack_of a d) (slice_from d (lex_at u (i + 1)).toks))
        ∙ sym (ap (λ (z : Walk). gms_bad (root_game (walk_nodes z)))
        (walkeds-on x (node i) (slice_from d (lex_at u (i + 1)).toks) node-slice (node-walk refl)
        ∙ ap (λ (z : List Node). walked true base (walk n (stack_of a d) true (record { parent = cur; props = [] } ∷ z)) (slice_from d (lex_at u (i + 1)).toks)) e))
    node-bad (m ∷ ns) e h =
        let l : length x.ns ≡ suc (length ns) = ap length e in
        let co = x.count in
        h ∙ ap (λ (z : Bool). z && gms_bad (game_props (gms_among (props (lex_at u (i + 1)).toks)))) (ne_eqb n base (λ z. omega arith))

    pub standing-node : {c : ℕ} → c ≡ n → {p0 e0 : ℕ} {t : List ℕ} {bad : Bool} {p e : ℕ} {t' : List ℕ} → Put u from base p0 e0 t x.ns at bad p e t'
        → {b : Bool} → b ≡ (eqb n base && gms_bad (game_props (gms_among (props (lex_at u (i + 1)).toks)))) → Standing u from base p0 e0 t a (i + 1) d c (n + 1) true b p e t'
    unfolding going-node
    standing-node ec {p0} y h =
        let pb = y.prop-bound in
        record {
          go = going-node ec;
          has = record {
            props = y.props ∙ ap (λ (z : List Prop). p0 + length z) (sym (props-node cur x.ns));
            puts = puts-as y.puts (sym (with-node cur (root_bad u from base) p0 x.ns));
            bads = node-bad x.ns refl h;
            prop-bound = omega arith;
            entry-bound = y.entry-bound;
            entries = y.entries;
          };
        }

  -- ---- a property

  module _ (i k e : ℕ) (q : lex_at u at ≡ lexed (prop (prop_at u i k) e ∷ []) (lex_at u e)) where
    pub prop-slice : slice_from d (lex_at u at).toks ≡ prop (prop_at u i k) e ∷ slice_from d (lex_at u e).toks
    unfolding slice_from
    prop-slice = ap (λ (z : Lexed). slice_from d z.toks) q

    module _ {p0 e0 : ℕ} {t : List ℕ} {bad : Bool} {p f : ℕ} {t' : List ℕ} (y : Put u from base p0 e0 t x.ns at bad p f t') where
      pub prop-stops : g ≡ false → i ≤ length u → {r : ℕ} → BehindIs true u at d r → StoodIs u from base p0 e0 t (record { next = r; nodes = n; properties = p; entries = f; cut = true; place = i }) t'
      unfolding prop_at
      prop-stops z hi b =
          let w : walks true base (here x) (prop (prop_at u i k) e) ≡ halted x.ns = ap (λ (c : Bool). gated true c (prop_at u i k) cur (stack_of a d) x.ns) z in
          stands x y (stopped-nodes x (prop (prop_at u i k) e) (slice_from d (lex_at u e).toks) prop-slice w)
          (stops-here x (prop (prop_at u i k) e) (slice_from d (lex_at u e).toks) prop-slice w) (skipping-behind x.skip b) b.on hi

      pub standing-prop : at < e → e ≤ length u → g ≡ true → {f' : ℕ} {t'' : List ℕ} → EntriesPut t' f (prop_change bad p (prop_at u i k)) f' t'' → Standing u from base p0 e0 t a e d cur n g bad (p + 1) f' t''
      unfolding Shallow
      standing-prop lo hi z {f'} {t''} s = go x.ns refl (x.some z)
        where
          go : (ns : List Node) → x.ns ≡ ns → 0 < length x.ns → Standing u from base p0 e0 t a e d cur n g bad (p + 1) f' t''
          go [] c l = absurd (let v : length x.ns ≡ 0 = ap length c in omega arith)
          go (m ∷ ms) c l =
              let fe = x.few in
              let pb = y.prop-bound in
              let eb = y.entry-bound in
              let pf = prop-few bad p (prop_at u i k) in
              let sn = s.next in
              let w : walks true base (here x) (prop (prop_at u i k) e) ≡ walk cur (stack_of a d) g (record { parent = m.parent; props = m.props ++ (prop_at u i k ∷ []) } ∷ ms) =
              ap (λ (b : Bool). gated true b (prop_at u i k) cur (stack_of a d) x.ns) z
              ∙ ap (adds true (prop_at u i k) cur (stack_of a d)) c
              ∙ ap (λ (b : Bool). walk cur (stack_of a d) b (record { parent = m.parent; props = m.props ++ (prop_at u i k ∷ []) } ∷ ms)) (sym z) in
              let ep : p ≡ p0 + length (all_props (reverse (m ∷ ms))) = y.props ∙ ap (λ (ns : List Node). p0 + length (all_props (reverse ns))) c in
              let pp = props-prop m (prop_at u i k) ms in
              let eb2 : bad ≡ bad_for (root_bad u from base) (m ∷ ms) = y.bads ∙ ap (bad_for (root_bad u from base)) c in
              record {
                go = record {
                  short = x.short;
                  low = x.low;
                  ns = record { parent = m.parent; props = m.props ++ (prop_at u i k ∷ []) } ∷ ms;
                  pre = x.pre ++ (prop (prop_at u i k) e ∷ []);
                  count = x.count ∙ ap (λ (v : List Node). base + length v) c;
                  array = x.array;
                  deep = x.deep;
                  few = omega arith;
                  skip = skipping-prop x.skip (omega arith) hi q;
                  blames = blames-on x (prop (prop_at u i k) e) (slice_from d (lex_at u e).toks) prop-slice w refl;
                  walkeds = walkeds-on x (prop (prop_at u i k) e) (slice_from d (lex_at u e).toks) prop-slice w;
                  shallow = subst (Shallow d) prop-slice x.shallow;
                  line = line-prop (m.props ++ (prop_at u i k ∷ [])) (subst (λ (v : List Node). Line base v cur (stack_of a d)) c x.line);
                  some = λ v. omega arith;
                };
                has = record {
                  props = omega arith;
                  puts = puts-as
                      (puts-more (puts-as y.puts (ap (λ (ns : List Node). with_root (root_bad u from base) p0 (reverse ns)) c)) s)
                      (ap (λ (b : Bool). with_root (root_bad u from base) p0 (reverse (m ∷ ms)) ++ prop_change b p (prop_at u i k)) eb2
                      ∙ ap (λ (j : ℕ). with_root (root_bad u from base) p0 (reverse (m ∷ ms)) ++ prop_change (bad_for (root_bad u from base) (m ∷ ms)) j (prop_at u i k)) ep
                      ∙ sym (with-prop m (prop_at u i k) (root_bad u from base) p0 ms));
                  bads = eb2 ∙ same-for ms;
                  prop-bound = omega arith;
                  entry-bound = omega arith;
                  entries = y.entries;
                };
              }
            where
              same-for : (v : List Node) → bad_for (root_bad u from base) (m ∷ v) ≡ bad_for (root_bad u from base) (record { parent = m.parent; props = m.props ++ (prop_at u i k ∷ []) } ∷ v)
              same-for [] = refl
              same-for (o ∷ v) = refl

  -- ---- no token is left

  pub none_left : (lex_at u at).toks ≡ [] → {p0 e0 : ℕ} {t : List ℕ} {bad : Bool} {p e : ℕ} {t' : List ℕ} → Put u from base p0 e0 t x.ns at bad p e t'
      → StoodIs u from base p0 e0 t (record { next = at; nodes = n; properties = p; entries = e; cut = false; place = 0 }) t'
  unfolding slice_from
  none_left h y =
      let k : slice_from d (lex_at u at).toks ≡ [] = ap (slice_from d) h in
      stands x y (ap walk_nodes (x.walkeds ∙ ap (walked true base (here x)) k)) (λ j. ap (cut_of j) (x.blames ∙ ap (blame (walks true base) is_stopped (here x) x.pre) k))
      (skipping-over x.skip (ap (λ (z : List Tok). z ++ []) h)) (omega arith) (omega arith)
