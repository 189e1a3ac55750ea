-- The walk over the tokens of a slice: what holds between two tokens, and a start, an end, a node. Assumes nothing.
use Rattle.lists.proofs.Prelude.{ℕ, suc, ◌+◌, ◌≤◌, ◌<◌, ◌≡◌, refl, ap, ◌∙◌, subst⁻¹, Bool, true, false, false≢true, List, [], ◌∷◌, reverse, reverse-cons, arith, length, length-append, length-reverse}
use Rattle.lexer.specs.Token.{Tok, start, end, node, prop, Lexed, lex_at}
use Rattle.tables.specs.Numbers.{depth_limit}
use Rattle.tables.specs.Record.{Node, all_props}
use Rattle.tables.specs.declared.Reason.{Reason}
use Rattle.parser.specs.Walk.{Walk, walk, stopped, refuse}
use Rattle.parser.specs.LocalsSlice.{slice_from}
use Rattle.parser_tree.specs.LocalsWalks.{Reach}
use Rattle.parser_tree.specs.LocalsTree.{met_in, Run, runs, run_of}
use Rattle.parser_step.specs.LocalsActs.{stack_of}
use Rattle.parser_tree.specs.LocalsTurns.{Small, first_state}
use Rattle.parser_step.specs.declared.State.{State}
use Rattle.parser_tree.proofs.Flats.{props-append}
use Rattle.parser_tree.proofs.Laid.{Laid, laid_none, laid-stored}
use Rattle.parser_tree.proofs.Lines.{Line, line_first}
use Rattle.parser_tree.proofs.Behind.{Skipping, skipping-first}

-- the nodes so far (last first), and the first property of the last of them
pub record Last (ns : List Node) (p0 first : ℕ) : Type 0 where
  pub top : Node
  pub below : List Node
  pub is : ns ≡ top ∷ below
  pub at : first ≡ p0 + length (all_props (reverse below))

-- the walk that a state stands for
abbrev pub held : State → (a : List ℕ) → List Node → Walk
held st a ns = walk st.cur (stack_of a st.depth) st.follows ns

-- with its nodes
abbrev pub held_run : State → (a : List ℕ) → List Node → Run
held_run st a ns = record { nodes = ns; walk = held st a ns }

-- ns are the nodes so far; the walk from the start is the walk from here
pub record Walking (len : Bool) (u : List ℕ) (from base p0 v0 : ℕ) (t₀ q₀ w₀ t q w a : List ℕ) (st : State) : Type 0 where
  pub ready : Reach u from base p0 v0
  pub ns : List Node
  pub array : length a ≡ depth_limit
  pub deep : st.depth ≤ depth_limit
  pub node-bound : st.nodes + from ≤ base + st.at
  pub prop-bound : st.props + from ≤ p0 + st.at
  pub val-bound : st.vals + from ≤ v0 + st.at
  pub stored : Laid base p0 v0 (reverse ns) t₀ q₀ w₀ t q w st.nodes st.props st.vals
  pub skip : Skipping len u from 0 st.at st.depth
  pub same : run_of len base (met_in len u (lex_at u from)) ≡ runs len base (held_run st a ns) (slice_from st.depth (met_in len u (lex_at u st.at)))
  pub last : st.follows ≡ true → Last ns p0 st.first
  pub line : Line base ns st.cur (stack_of a st.depth)

pub walking-first : {len : Bool} {u : List ℕ} {from base p0 v0 : ℕ} (t q w a : List ℕ) → Reach u from base p0 v0 → length a ≡ depth_limit
    → {y : State} → y ≡ first_state from base p0 v0 → Walking len u from base p0 v0 t q w t q w a y
unfolding stack_of run_of
walking-first {len} {u} {from} {base} {p0} {v0} t q w a x h e =
    subst⁻¹ (Walking len u from base p0 v0 t q w t q w a) e
    record {
      ready = x;
      ns = [];
      array = h;
      deep = omega arith;
      node-bound = omega arith;
      prop-bound = omega arith;
      val-bound = omega arith;
      stored = laid_none base p0 v0 t q w;
      skip = skipping-first len u from 0 x.inside;
      same = refl;
      last = λ e. absurd (false≢true e);
      line = line_first base;
    }

-- what is refused stays refused
pub refuse-stays : (len : Bool) (base : ℕ) (r : Reason) (ns : List Node) (ts : List Tok)
    → runs len base (record { nodes = ns; walk = refuse len r ns }) ts ≡ record { nodes = ns; walk = refuse len r ns }
refuse-stays len base r ns [] = refl
refuse-stays true base r ns (start o ∷ ts) = refuse-stays true base r ns ts
refuse-stays true base r ns (end o ∷ ts) = refuse-stays true base r ns ts
refuse-stays true base r ns (node o ∷ ts) = refuse-stays true base r ns ts
refuse-stays true base r ns (prop p e ∷ ts) = refuse-stays true base r ns ts
refuse-stays false base r ns (start o ∷ ts) = refuse-stays false base r ns ts
refuse-stays false base r ns (end o ∷ ts) = refuse-stays false base r ns ts
refuse-stays false base r ns (node o ∷ ts) = refuse-stays false base r ns ts
refuse-stays false base r ns (prop p e ∷ ts) = refuse-stays false base r ns ts

pub stop-stays : (len : Bool) (base : ℕ) (r : Reason) (ns : List Node) (ts : List Tok)
    → runs len base (record { nodes = ns; walk = stopped r }) ts ≡ record { nodes = ns; walk = stopped r }
stop-stays len base r ns [] = refl
stop-stays len base r ns (start o ∷ ts) = stop-stays len base r ns ts
stop-stays len base r ns (end o ∷ ts) = stop-stays len base r ns ts
stop-stays len base r ns (node o ∷ ts) = stop-stays len base r ns ts
stop-stays len base r ns (prop p e ∷ ts) = stop-stays len base r ns ts

module _ {len : Bool} {u : List ℕ} {from base p0 v0 : ℕ} {t₀ q₀ w₀ t q w a : List ℕ} {st : State} (x : Walking len u from base p0 v0 t₀ q₀ w₀ t q w a st) where
  pub count : st.nodes ≡ base + length x.ns
  count = x.stored.nodes ∙ ap (λ (z : ℕ). base + z) (length-reverse x.ns)

  -- the tables are as long as before
  pub walking-long : (length t ≡ length t₀) × (length q ≡ length q₀) × (length w ≡ length w₀)
  walking-long = let y = laid-stored x.stored in (y.tnodes.len, y.tprops.len, y.tvals.len)

  pub small-state : Small st
  small-state =
      let r = x.ready in
      let k = x.skip in
      let f = x.node-bound in
      let l = x.prop-bound in
      let s = x.val-bound in
      record { deep = x.deep; nodes = omega arith; props = omega arith; vals = omega arith }

  -- a node is there where a property may follow
  pub counted : st.follows ≡ true → (0 < st.nodes) × (st.first ≤ st.props)
  counted h =
      let y = x.last h in
      let co = count in
      let ln : length x.ns ≡ suc (length y.below) = ap length y.is in
      let rp = x.stored.props in
      let ya = y.at in
      let l : length (all_props (reverse x.ns)) ≡ length (all_props (reverse y.below)) + length (all_props (y.top ∷ [])) =
      ap length (ap all_props (ap reverse y.is ∙ reverse-cons y.top y.below) ∙ props-append (reverse y.below) (y.top ∷ []))
      ∙ length-append (all_props (reverse y.below)) (all_props (y.top ∷ [])) in
      (omega arith, omega arith)

  -- the whole run
  abbrev pub Whole : Run
  Whole = run_of len base (met_in len u (lex_at u from))

  -- the walk with the next tokens
  abbrev pub Ahead : List Tok → Run
  Ahead ts = runs len base (held_run st a x.ns) (slice_from st.depth ts)

  pub onto : {ts : List Tok} → met_in len u (lex_at u st.at) ≡ ts → Whole ≡ Ahead ts
  onto e = x.same ∙ ap Ahead e

  pub onto-lex : {l : Lexed} → lex_at u st.at ≡ l → Whole ≡ Ahead (met_in len u l)
  onto-lex e = onto (ap (met_in len u) e)
