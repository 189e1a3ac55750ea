-- What the walk gives back: a tree, its empty root, or a refusal. Assumes nothing.
use Rattle.lists.proofs.Prelude.{ℕ, ◌+◌, ◌*◌, ◌≤◌, ◌≡◌, refl, sym, ap, ◌∙◌, subst, subst⁻¹, Bool, true, false, List, [], ◌∷◌, reverse, arith, length, eqb, eqb-true, eqb-false}
use Rattle.lists.specs.Put.{PutWhole}
use Rattle.lexer.specs.Token.{lex_at}
use Rattle.lexer.specs.Step.{head_at}
use Rattle.lexer.specs.declared.Head.{Head}
use Rattle.lexer.specs.declared.Head.TheVariants.{Start, End, Node, Name, Refused, Done}
use Rattle.tables.specs.Numbers.{none, depth_limit}
use Rattle.tables.specs.Record.{Node as Noded, all_props, all_vals}
use Rattle.tables.specs.declared.Reason.{Reason}
use Rattle.tables.specs.declared.Reason.TheVariants.{UnexpectedEndOfData, TooDeep}
use Rattle.tables.specs.Columns.{node_stride}
use Rattle.parser.specs.Walk.{Walk, stopped, refuse}
use Rattle.parser.specs.LocalsSlice.{slice_from}
use Rattle.parser_tree.specs.LocalsTree.{met_in, Run, place_behind, Held, Bases, Left, left_with, tree_with, end_left, run_left, slice_left}
use Rattle.parser_tree.specs.LocalsWalks.{SliceAt, LeftIs}
use Rattle.parser_step.specs.LocalsActs.{stack_of, may_open}
use Rattle.parser_tree.specs.LocalsTurns.{StopAt, OverAt, BehindIs, RootBy, RootIs, StopIs}
use Rattle.parser_step.specs.declared.State.{State}
use Rattle.parser_tree.proofs.Laid.{Laid, laid-node}
use Rattle.parser_tree.proofs.Behind.{skipping-first, skipping-last, skipping-over, skipping-behind}
use Rattle.parser_tree.proofs.Meets.{head_meets, head-lies}
use Rattle.parser_tree.proofs.Walking.{Walking, count, Whole, onto}
use Rattle.parser_tree.proofs.Arms.{start-stops, start-deep, end-stops, end-last}
use Rattle.parser_tree.proofs.Adding.{property-stops}
use Rattle.parser_tree.proofs.Faults.{unclosed-over, broken-over, done-over}
use Rattle.std.specs.Prelude.{Result, Ok, Err}

empty : {A : Type 0} (l : List A) → length l ≡ 0 → l ≡ []
empty [] h = refl
empty (y ∷ l) h = absurd (omega arith)

-- the end of a slice with some nodes
end-some : (len : Bool) (b : Bases) (m : Held) (at : ℕ) (ns : List Noded) → (length ns ≡ 0 → ⊥) → end_left len b m at ns ≡ tree_with b m at (reverse ns)
end-some len b m at [] h = absurd (h refl)
end-some len b m at (n ∷ ns) h = refl

-- what the code answers, and what it leaves
abbrev Gives : Result (ℕ × ℕ × ℕ × ℕ) Reason → (t q w : List ℕ) → Left
Gives r t q w = record { answer = r; held = record { nodes = t; props = q; vals = w } }

abbrev bases_of : (base p0 v0 : ℕ) → Bases
bases_of base p0 v0 = record { nodes = base; props = p0; vals = v0 }

abbrev held_of : (t q w : List ℕ) → Held
held_of t q w = record { nodes = t; props = q; vals = w }

module _ {base p0 v0 : ℕ} {es : List Noded} {t₀ q₀ w₀ t q w : List ℕ} {n p v : ℕ} (x : Laid base p0 v0 es t₀ q₀ w₀ t q w n p v) where
  left_laid : (r : Result (ℕ × ℕ × ℕ × ℕ) Reason) → Gives r t q w ≡ left_with (bases_of base p0 v0) (held_of t₀ q₀ w₀) r es
  left_laid r =
      ap (λ (z : List ℕ). Gives r z q w) x.tnodes
      ∙ ap (λ (z : List ℕ). Gives r (left_with (bases_of base p0 v0) (held_of t₀ q₀ w₀) r es).held.nodes z w) x.tprops
      ∙ ap (λ (z : List ℕ). Gives r (left_with (bases_of base p0 v0) (held_of t₀ q₀ w₀) r es).held.nodes (left_with (bases_of base p0 v0) (held_of t₀ q₀ w₀) r es).held.props z) x.tvals

  left-tree : (at : ℕ) → Gives (Ok (at, n, p, v)) t q w ≡ tree_with (bases_of base p0 v0) (held_of t₀ q₀ w₀) at es
  left-tree at =
      ap (λ (z : ℕ). Gives (Ok (at, z, p, v)) t q w) x.nodes
      ∙ ap (λ (z : ℕ). Gives (Ok (at, base + length es, z, v)) t q w) x.props
      ∙ ap (λ (z : ℕ). Gives (Ok (at, base + length es, p0 + length (all_props es), z)) t q w) x.vals
      ∙ left_laid (Ok (at, base + length es, p0 + length (all_props es), v0 + length (all_vals (all_props es))))

module _ {len : Bool} {u : List ℕ} {from base p0 v0 : ℕ} {t₀ q₀ w₀ t q w a : List ℕ} {st : State} (x : Walking len u from base p0 v0 t₀ q₀ w₀ t q w a st) where
  -- the definition, by the run
  left-run : {z : Walk} → Whole x ≡ record { nodes = x.ns; walk = z } → slice_left len u from (bases_of base p0 v0) (held_of t₀ q₀ w₀) ≡ run_left len (bases_of base p0 v0) (held_of t₀ q₀ w₀) (place_behind from (slice_from 0 (met_in len u (lex_at u from)))) x.ns z
  unfolding slice_left
  left-run e = ap (λ (r : Run). run_left len (bases_of base p0 v0) (held_of t₀ q₀ w₀) (place_behind from (slice_from 0 (met_in len u (lex_at u from)))) r.nodes r.walk) e

  -- what is given
  abbrev pub Out : (t' : List ℕ) → Result (ℕ × ℕ × ℕ × ℕ) Reason → Type 0
  Out t' r = LeftIs (slice_left len u from (bases_of base p0 v0) (held_of t₀ q₀ w₀)) len u from base p0 v0 t' q w r

  gives-no : {r : Reason} → Gives (Err r) t q w ≡ slice_left len u from (bases_of base p0 v0) (held_of t₀ q₀ w₀) → Out t (Err r)
  gives-no e = record { answer = ap (λ (z : Left). z.answer) e; held = ap (λ (z : Left). z.held) e; next = tt }

  pub gives-refused : (r : Reason) → Whole x ≡ record { nodes = x.ns; walk = stopped r } → Out t (Err r)
  gives-refused r e = gives-no (left_laid x.stored (Err r) ∙ sym (left-run e))

  module _ (s : slice_left len u from (bases_of base p0 v0) (held_of t₀ q₀ w₀) ≡ end_left len (bases_of base p0 v0) (held_of t₀ q₀ w₀) (place_behind from (slice_from 0 (met_in len u (lex_at u from)))) x.ns) {o : ℕ} (b : BehindIs len u st.at st.depth o) where
    behind : BehindIs len u from 0 o
    behind = skipping-behind x.skip b

    next-at : {n : ℕ} → n + from ≤ base + o + 1 → SliceAt len u from base p0 v0 o n st.props st.vals
    next-at h =
        let r = behind in
        let bo = b.on in
        let li = x.prop-bound in
        let sm = x.val-bound in
        record { rest = r.rest; ends = r.ends; on = r.on; inside = r.inside; node-bound = h; prop-bound = omega arith; val-bound = omega arith }

    gives-tree : (st.nodes ≡ base → ⊥) → Out t (Ok (o, st.nodes, st.props, st.vals))
    gives-tree h =
        let c = count x in
        let e : Gives (Ok (o, st.nodes, st.props, st.vals)) t q w ≡ slice_left len u from (bases_of base p0 v0) (held_of t₀ q₀ w₀) =
        left-tree x.stored o ∙ sym (s ∙ end-some len (bases_of base p0 v0) (held_of t₀ q₀ w₀) (place_behind from (slice_from 0 (met_in len u (lex_at u from)))) x.ns (λ z. h (omega arith)) ∙ ap (λ (z : ℕ). tree_with (bases_of base p0 v0) (held_of t₀ q₀ w₀) z (reverse x.ns)) behind.place) in
        let bo = b.on in
        let fe = x.node-bound in
        record { answer = ap (λ (z : Left). z.answer) e; held = ap (λ (z : Left). z.held) e; next = next-at (omega arith) }

    module _ (h : st.nodes ≡ base) where
      none_yet : x.ns ≡ []
      none_yet = let c = count x in empty x.ns (omega arith)

      gives-root : len ≡ true → {t' : List ℕ} → PutWhole t (st.nodes * node_stride) (none ∷ none ∷ none ∷ st.props ∷ 0 ∷ 0 ∷ []) t' → Out t' (Ok (o, st.nodes + 1, st.props, st.vals))
      gives-root l {t'} p =
          let y = laid-node [] (subst (λ (z : List Noded). Laid base p0 v0 (reverse z) t₀ q₀ w₀ t q w st.nodes st.props st.vals) none_yet x.stored) none p in
          let e : Gives (Ok (o, st.nodes + 1, st.props, st.vals)) t' q w ≡ slice_left len u from (bases_of base p0 v0) (held_of t₀ q₀ w₀) =
          left-tree y o
          ∙ sym (s ∙ ap (λ (z : List Noded). end_left len (bases_of base p0 v0) (held_of t₀ q₀ w₀) (place_behind from (slice_from 0 (met_in len u (lex_at u from)))) z) none_yet ∙ ap (λ (z : Bool). end_left z (bases_of base p0 v0) (held_of t₀ q₀ w₀) (place_behind from (slice_from 0 (met_in len u (lex_at u from)))) []) l
          ∙ ap (λ (z : ℕ). tree_with (bases_of base p0 v0) (held_of t₀ q₀ w₀) z (record { parent = none; props = [] } ∷ [])) behind.place) in
          let bo = b.on in
          let fe = x.node-bound in
          record { answer = ap (λ (z : Left). z.answer) e; held = ap (λ (z : Left). z.held) e; next = next-at (omega arith) }

      gives_none : len ≡ false → Out t (Err UnexpectedEndOfData)
      gives_none l =
          gives-no
          (left_laid (subst (λ (z : List Noded). Laid base p0 v0 (reverse z) t₀ q₀ w₀ t q w st.nodes st.props st.vals) none_yet x.stored) (Err UnexpectedEndOfData)
          ∙ sym (s ∙ ap (λ (z : List Noded). end_left len (bases_of base p0 v0) (held_of t₀ q₀ w₀) (place_behind from (slice_from 0 (met_in len u (lex_at u from)))) z) none_yet ∙ ap (λ (z : Bool). end_left z (bases_of base p0 v0) (held_of t₀ q₀ w₀) (place_behind from (slice_from 0 (met_in len u (lex_at u from)))) []) l))

    gives-finished : (r : Result (ℕ × ℕ × ℕ × ℕ) Reason) (t' : List ℕ) → RootIs len base st o t r t' → Out t' r
    gives-finished r t' = go (eqb st.nodes base) len refl refl
      where
        go : (e l : Bool) → eqb st.nodes base ≡ e → len ≡ l → RootBy e l st o t r t' → Out t' r
        go false l he hl y = subst⁻¹ (Out t') y.0 (subst⁻¹ (λ (z : List ℕ). Out z (Ok (o, st.nodes, st.props, st.vals))) y.1 (gives-tree (eqb-false st.nodes base he)))
        go true true he hl y = subst⁻¹ (Out t') y.0 (gives-root (eqb-true st.nodes base he) hl y.1)
        go true false he hl y = subst⁻¹ (Out t') y.0 (subst⁻¹ (λ (z : List ℕ). Out z (Err UnexpectedEndOfData)) y.1 (gives_none (eqb-true st.nodes base he) hl))

  -- the tree stops
  gives-stop : (reason : Reason) → Whole x ≡ record { nodes = x.ns; walk = refuse len reason x.ns } → (r : Result (ℕ × ℕ × ℕ × ℕ) Reason) (t' : List ℕ) → StopIs len u base st reason t r t' → Out t' r
  gives-stop reason e r t' = go len refl
    where
      here : (l : Bool) → len ≡ l → Whole x ≡ record { nodes = x.ns; walk = refuse l reason x.ns }
      here l h = e ∙ ap (λ (z : Bool). record { nodes = x.ns; walk = refuse z reason x.ns }) h

      go : (l : Bool) → len ≡ l → StopIs l u base st reason t r t' → Out t' r
      go false h y = subst⁻¹ (Out t') y.0 (subst⁻¹ (λ (z : List ℕ). Out z (Err reason)) y.1 (gives-refused reason (here false h)))
      go true h y =
          gives-finished (left-run (here true h)) (subst⁻¹ (λ (z : Bool). BehindIs z u st.at st.depth y.0) h y.1) r t'
          (subst⁻¹ (λ (z : Bool). RootIs z base st y.0 t r t') h y.2)

  -- no token is left
  gives-over : met_in len u (lex_at u st.at) ≡ [] → (r : Result (ℕ × ℕ × ℕ × ℕ) Reason) (t' : List ℕ) → RootIs len base st st.at t r t' → Out t' r
  unfolding slice_from
  gives-over h r t' y = gives-finished (left-run (onto x h)) (skipping-over (skipping-first len u st.at st.depth x.skip.inside) h) r t' y

  -- the slice's last token
  gives-last : {i : ℕ} → head_at u st.at ≡ End i → st.depth ≡ 1 → (r : Result (ℕ × ℕ × ℕ × ℕ) Reason) (t' : List ℕ) → RootIs len base st (i + 1) t r t' → Out t' r
  gives-last g h r t' y =
      let b = head-lies u st.at g in
      gives-finished (left-run (end-last x g h)) (skipping-last (skipping-first len u st.at st.depth x.skip.inside) b.0 b.1 (head_meets u st.at g) (omega arith)) r t' y

  -- the next token stops the tree
  pub gives-stopped : (reason : Reason) → StopAt len u base st a reason (head_at u st.at) → (r : Result (ℕ × ℕ × ℕ × ℕ) Reason) (t' : List ℕ) → StopIs len u base st reason t r t' → Out t' r
  gives-stopped reason z = gives-stop reason (go (head_at u st.at) refl z)
    where
      W : Reason → Type 0
      W y = Whole x ≡ record { nodes = x.ns; walk = refuse len y x.ns }

      go : (h : Head) → head_at u st.at ≡ h → StopAt len u base st a reason h → W reason
      go (Start i) g z = subst⁻¹ W z.0 (start-stops x g refl z.1)
      go (End i) g z = subst⁻¹ W z.0 (end-stops x g z.1)
      go (Node i) g z = absurd z
      go (Name i k) g z = subst⁻¹ W z.0 (property-stops x i k g z.1 z.2)
      go (Refused f i) g z = absurd z
      go Done g z = absurd z

  -- the slice ends before o
  pub gives-ended : (o : ℕ) → OverAt len u st o (head_at u st.at) → (r : Result (ℕ × ℕ × ℕ × ℕ) Reason) (t' : List ℕ) → RootIs len base st o t r t' → Out t' r
  gives-ended o z r t' y = go (head_at u st.at) refl z
    where
      at : o ≡ st.at → met_in len u (lex_at u st.at) ≡ [] → Out t' r
      at e h = gives-over h r t' (subst (λ (z : ℕ). RootIs len base st z t r t') e y)

      go : (h : Head) → head_at u st.at ≡ h → OverAt len u st o h → Out t' r
      go (Start i) g z = absurd z
      go (End i) g z = gives-last g z.0 r t' (subst (λ (n : ℕ). RootIs len base st n t r t') z.1 y)
      go (Node i) g z = absurd z
      go (Name i k) g z = at z.1 (unclosed-over u st.at i k g len z.0)
      go (Refused f i) g z = at z (broken-over u st.at len g)
      go Done g z = at z (done-over u st.at len g)

  -- a start beyond the limit of depth
  pub gives-deep : {i : ℕ} → head_at u st.at ≡ Start i → may_open base st.nodes (stack_of a st.depth) ≡ true → st.depth ≡ depth_limit → LeftIs (slice_left len u from (bases_of base p0 v0) (held_of t₀ q₀ w₀)) len u from base p0 v0 t q w (Err TooDeep)
  gives-deep g m h = gives-refused TooDeep (start-deep x g refl m h)
