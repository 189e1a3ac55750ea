-- The lengths of the properties so far, one token a turn. Assumes nothing.
use Rattle.lists.proofs.Prelude.{◌≡◌, refl, sym, ap, ◌∙◌, ℕ, suc, ◌+◌, ◌*◌, ◌≤◌, ◌<◌, arith, Bool, true, false, List, [], ◌∷◌, ◌++◌, append-nil, reverse, reverse-cons, length, length-reverse, eqb, eq-eqb, ne_eqb}
use Rattle.lexer.specs.Token.{Prop, Tok, node, lexed, lex_at}
use Rattle.tables.specs.Record.{Node, all_props}
use Rattle.parser.specs.Game.{props}
use Rattle.parser.specs.Walk.{Walk, walk, walked}
use Rattle.parser.specs.LocalsSlice.{slice_from}
use Rattle.parser_step.specs.LocalsActs.{stack_of}
use Rattle.parser_game.proofs.Gather.{props-slice}
use Rattle.parser_tree.proofs.Flats.{props-append}
use Rattle.fit_rule.specs.Rule.{first_props}
use Rattle.salvage_form.specs.Measured.{length_limit}
use Rattle.salvage_form.specs.Rooted.{root_rule}
use Rattle.salvage_form.specs.declared.root.RootRule.{RootRule}
use Rattle.salvage_mend.specs.Changes.{prop_change, nodes_changes}
use Rattle.salvage_list.specs.Listed.{walk_nodes}
use Rattle.salvage_list.specs.LocalsWalk.{nodes_from}
use Rattle.salvage_list.proofs.Going.{Going, walkeds-on}
use Rattle.salvage_list.proofs.Props.{node-slice}
use Rattle.salvage_list.proofs.Puts.{prop-few}
use Rattle.salvage_list.proofs.Rooted.{end_nodes, root_props, root-open, nodes-end, props-node, props-prop}
use Rattle.salvage_shape.specs.LocalsSum.{kept_length, props_length, nodes_length, props_listed, nodes_listed, rule_after}
use Rattle.salvage_shape.proofs.Entries.{root_for, list_back, lists-append, list-reverse, nodes-listed}

-- ---- the properties of the first node are those that follow it

first-snoc : (ms : List Node) (n m : Node) (ns : List Node) → ms ≡ reverse (m ∷ ns) → first_props (ms ++ (n ∷ [])) ≡ first_props ms
first-snoc [] n m ns e = absurd (let l : 0 ≡ length (reverse (m ∷ ns)) = ap length e in omega (arith, length-reverse (m ∷ ns)))
first-snoc (x ∷ ms) n m ns e = refl

first_back : (ns : List Node) → first_props (reverse ns) ≡ root_props ns
first_back [] = refl
first_back (n ∷ []) = refl
first_back (n ∷ m ∷ ns) = ap first_props (reverse-cons n (m ∷ ns)) ∙ first-snoc (reverse (m ∷ ns)) n m ns refl ∙ first_back (m ∷ ns)

first-props : (base cur c : ℕ) (st : List ℕ) (ts : List Tok) → first_props (walk_nodes (walked true base (walk c st true (record { parent = cur; props = [] } ∷ [])) ts)) ≡ props ts
first-props base cur c st ts =
    let w : Walk = walked true base (walk c st true (record { parent = cur; props = [] } ∷ [])) ts in
    ap first_props (nodes-end w) ∙ first_back (end_nodes w) ∙ root-open base ts c st (record { parent = cur; props = [] })

-- ---- sums

pub lengths-append : (rule : ℕ) (bad : Bool) (xs ys : List Prop) → props_length rule bad (xs ++ ys) ≡ props_length rule bad xs + props_length rule bad ys
lengths-append rule bad [] ys = omega arith
lengths-append rule bad (x ∷ xs) ys = let h = lengths-append rule bad xs ys in omega (arith, h)

-- the lengths of the properties of these nodes, last first
abbrev pub sum_back : RootRule → List Node → ℕ
sum_back r [] = 0
sum_back r (n ∷ ns) = props_length (root_for r (n ∷ ns)).rule (root_for r (n ∷ ns)).bad n.props + sum_back r ns

nodes-snoc : (r : RootRule) (ms : List Node) (n m : Node) (ns : List Node) → ms ≡ reverse (m ∷ ns) → nodes_length r (ms ++ (n ∷ [])) ≡ props_length r.rule false n.props + nodes_length r ms
nodes-snoc r [] n m ns e = absurd (let l : 0 ≡ length (reverse (m ∷ ns)) = ap length e in omega (arith, length-reverse (m ∷ ns)))
nodes-snoc r (x ∷ ms) n m ns e =
    let a : props_length r.rule false (all_props (ms ++ (n ∷ []))) ≡ props_length r.rule false (all_props ms ++ n.props) =
    ap (props_length r.rule false) (props-append ms (n ∷ []) ∙ ap (λ (z : List Prop). all_props ms ++ z) (append-nil n.props)) in
    let b = lengths-append r.rule false (all_props ms) n.props in
    omega (arith, a, b)

sum-reverse : (r : RootRule) (ns : List Node) → sum_back r ns ≡ nodes_length r (reverse ns)
sum-reverse r [] = refl
sum-reverse r (n ∷ []) = refl
sum-reverse r (n ∷ m ∷ ns) =
    ap (λ (z : ℕ). props_length r.rule false n.props + z) (sum-reverse r (m ∷ ns))
    ∙ sym (ap (nodes_length r) (reverse-cons n (m ∷ ns)) ∙ nodes-snoc r (reverse (m ∷ ns)) n m ns refl)

-- ---- one token a turn

-- the rule of the mended tree of a slice
abbrev pub rule_from : List ℕ → (from base : ℕ) → RootRule
rule_from u from base = root_rule (first_props (nodes_from u from base))

-- ns: the nodes so far, last first; what holds of the last of them; the lengths of the properties so far, and their entries
pub record Summed (u : List ℕ) (from base : ℕ) (ns : List Node) (at : ℕ) (root : RootRule) (bytes listed : ℕ) : Type 0 where
  pub rules : root ≡ root_for (rule_from u from base) ns
  pub sum : bytes ≡ sum_back (rule_from u from base) ns
  pub bound : bytes + length_limit * from ≤ length_limit * at
  pub list : listed ≡ list_back (rule_from u from base) ns
  pub few : listed + from ≤ at
  pub props : length (all_props (reverse ns)) + from ≤ at

pub summed-first : (u : List ℕ) (from base : ℕ) → Summed u from base [] from (record { rule = 0; bad = false }) 0 0
summed-first u from base = record { rules = refl; sum = refl; bound = omega arith; list = refl; few = omega arith; props = omega arith }

module _ {u : List ℕ} {from base : ℕ} {ns : List Node} {at : ℕ} {root : RootRule} {bytes listed : ℕ} (x : Summed u from base ns at root bytes listed) where
  pub summed-on : {bt : ℕ} → at ≤ bt → Summed u from base ns bt root bytes listed
  summed-on h =
      let b = x.bound in
      let f = x.few in
      let p = x.props in
      record { rules = x.rules; sum = x.sum; bound = omega (arith, b, h); list = x.list; few = omega (arith, f, h); props = omega (arith, p, h) }

  pub summed-all : nodes_from u from base ≡ reverse ns → bytes ≡ nodes_length (rule_from u from base) (nodes_from u from base)
  summed-all e = x.sum ∙ sum-reverse (rule_from u from base) ns ∙ ap (nodes_length (rule_from u from base)) (sym e)

  pub listed-all : nodes_from u from base ≡ reverse ns → (k : ℕ) → listed ≡ length (nodes_changes k (nodes_from u from base))
  listed-all e k = x.list ∙ list-reverse (rule_from u from base) ns ∙ ap (nodes_listed (rule_from u from base)) (sym e) ∙ sym (nodes-listed k (nodes_from u from base))

-- a property joins the last node
module _ {u : List ℕ} {from base : ℕ} {m : Node} {ms : List Node} {at : ℕ} {root : RootRule} {bytes listed : ℕ} (x : Summed u from base (m ∷ ms) at root bytes listed) where
  rule-joined : (p : Prop) (vs : List Node) → root_for (rule_from u from base) (m ∷ vs) ≡ root_for (rule_from u from base) (record { parent = m.parent; props = m.props ++ (p ∷ []) } ∷ vs)
  rule-joined p [] = refl
  rule-joined p (v ∷ vs) = refl

  pub summed-prop : (p : Prop) {e k j : ℕ} → at < e → k ≡ kept_length root p → k ≤ length_limit → j ≡ length (prop_change root.bad 0 p)
      → Summed u from base (record { parent = m.parent; props = m.props ++ (p ∷ []) } ∷ ms) e root (bytes + k) (listed + j)
  summed-prop p {e} {k} {j} h q l z =
      let R : RootRule = root_for (rule_from u from base) (m ∷ ms) in
      let a = lengths-append R.rule R.bad m.props (p ∷ []) in
      let s = x.sum in
      let w : k ≡ kept_length R p = q ∙ ap (λ (z : RootRule). kept_length z p) x.rules in
      let y : sum_back (rule_from u from base) (record { parent = m.parent; props = m.props ++ (p ∷ []) } ∷ ms) ≡ props_length R.rule R.bad (m.props ++ (p ∷ [])) + sum_back (rule_from u from base) ms =
      ap (λ (z : RootRule). props_length z.rule z.bad (m.props ++ (p ∷ [])) + sum_back (rule_from u from base) ms) (sym (rule-joined p ms)) in
      let b = x.bound in
      let la = lists-append R.bad m.props (p ∷ []) in
      let ls = x.list in
      let lw : j ≡ length (prop_change R.bad 0 p) = z ∙ ap (λ (v : RootRule). length (prop_change v.bad 0 p)) x.rules in
      let ly : list_back (rule_from u from base) (record { parent = m.parent; props = m.props ++ (p ∷ []) } ∷ ms) ≡ props_listed R.bad (m.props ++ (p ∷ [])) + list_back (rule_from u from base) ms =
      ap (λ (v : RootRule). props_listed v.bad (m.props ++ (p ∷ [])) + list_back (rule_from u from base) ms) (sym (rule-joined p ms)) in
      let f = x.few in
      let pf = prop-few root.bad 0 p in
      let pb = x.props in
      let pp = props-prop m p ms in
      record {
        rules = x.rules ∙ rule-joined p ms;
        sum = omega (arith, a, s, w, y);
        bound = omega (arith, b, h, l);
        list = omega (arith, la, ls, lw, ly);
        few = omega (arith, f, h, z, pf);
        props = omega (arith, pb, pp, h);
      }

-- a node
module _ {u : List ℕ} {from base : ℕ} {a : List ℕ} {at d cur n : ℕ} {g : Bool} (x : Going u from base a at d cur n g) {i : ℕ} (lo : at ≤ i) (hi : i < length u)
    (q : lex_at u at ≡ lexed (node i ∷ []) (lex_at u (i + 1))) where
  rule-node : (ns : List Node) → x.ns ≡ ns → {root root2 : RootRule} → root ≡ root_for (rule_from u from base) ns
      → root2 ≡ rule_after (eqb n base) (root_rule (props (lex_at u (i + 1)).toks)) root → root2 ≡ root_for (rule_from u from base) (record { parent = cur; props = [] } ∷ ns)
  rule-node [] e {root} hr h =
      let l : length x.ns ≡ 0 = ap length e in
      let co = x.count in
      h
      ∙ ap (λ (z : Bool). rule_after z (root_rule (props (lex_at u (i + 1)).toks)) root) (eq-eqb n base (omega (arith, l, co)))
      ∙ ap root_rule (sym (props-slice d (lex_at u (i + 1)).toks))
      ∙ sym (ap root_rule (first-props base cur n (stack_of a d) (slice_from d (lex_at u (i + 1)).toks)))
      ∙ sym (ap (λ (z : Walk). root_rule (first_props (walk_nodes z)))
      (walkeds-on x (node i) (slice_from d (lex_at u (i + 1)).toks) (node-slice x lo hi q) (ap (λ (z : ℕ). walk z (stack_of a d) true (record { parent = cur; props = [] } ∷ x.ns)) (sym co))
      ∙ ap (λ (z : List Node). walked true base (walk n (stack_of a d) true (record { parent = cur; props = [] } ∷ z)) (slice_from d (lex_at u (i + 1)).toks)) e))
  rule-node (m ∷ ns) e {root} hr h =
      let l : length x.ns ≡ suc (length ns) = ap length e in
      let co = x.count in
      h
      ∙ ap (λ (z : Bool). rule_after z (root_rule (props (lex_at u (i + 1)).toks)) root) (ne_eqb n base (λ z. omega (arith, l, co, z)))
      ∙ ap (λ (z : RootRule). record { rule = z.rule; bad = false }) (hr ∙ rule-same ns)
    where
      rule-same : (vs : List Node) → root_for (rule_from u from base) (m ∷ vs) ≡ record { rule = (rule_from u from base).rule; bad = (root_for (rule_from u from base) (m ∷ vs)).bad }
      rule-same [] = refl
      rule-same (v ∷ vs) = refl

  pub summed-node : {root root2 : RootRule} {bytes listed : ℕ} → Summed u from base x.ns at root bytes listed → root2 ≡ rule_after (eqb n base) (root_rule (props (lex_at u (i + 1)).toks)) root
      → Summed u from base (record { parent = cur; props = [] } ∷ x.ns) (i + 1) root2 bytes listed
  summed-node y h =
      let b = y.bound in
      let s = y.sum in
      let l = y.list in
      let f = y.few in
      let pb = y.props in
      let pn : length (all_props (reverse (record { parent = cur; props = [] } ∷ x.ns))) ≡ length (all_props (reverse x.ns)) = ap length (props-node cur x.ns) in
      record {
        rules = rule-node x.ns refl y.rules h;
        sum = omega (arith, s);
        bound = omega (arith, b, lo);
        list = omega (arith, l);
        few = omega (arith, f, lo);
        props = omega (arith, pb, pn, lo);
      }
