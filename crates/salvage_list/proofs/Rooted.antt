-- The properties of the first node are those that directly follow it; and the entries of nodes, one more token. Assumes nothing.
use Rattle.lists.proofs.Prelude.{ℕ, suc, ◌+◌, ◌≡◌, refl, sym, ap, ◌∙◌, Bool, true, false, List, [], ◌∷◌, ◌++◌, append_assoc, append-nil, reverse, reverse-cons, arith, length, length-append, length-reverse, pick}
use Rattle.lexer.specs.Token.{Prop, Tok, start, end, node, prop}
use Rattle.tables.specs.Record.{Node, all_props}
use Rattle.parser.specs.Game.{game_props, props}
use Rattle.parser.specs.Walk.{Walk, walk, halted, stopped, children, walked}
use Rattle.parser_tree.proofs.Flats.{props-append}
use Rattle.salvage_mend.specs.Mend.{gms_among, root_game, gms_bad}
use Rattle.salvage_mend.specs.Changes.{Change, prop_change, props_changes, nodes_changes}
use Rattle.salvage_list.specs.Listed.{walk_nodes}

-- ---- the first node's properties

-- the nodes of a walk, last first
abbrev pub end_nodes : Walk → List Node
end_nodes (walk cur st g ns) = ns
end_nodes (halted ns) = ns
end_nodes (stopped r) = []

-- the properties of the first, which stands last
abbrev pub root_props : List Node → List Prop
root_props [] = []
root_props (n ∷ []) = n.props
root_props (n ∷ m ∷ ns) = root_props (m ∷ ns)

halted-end : (base : ℕ) (ns : List Node) (ts : List Tok) → end_nodes (walked true base (halted ns) ts) ≡ ns
halted-end base ns [] = refl
halted-end base ns (t ∷ ts) = halted-end base ns ts

module _ (base : ℕ) where
  abbrev final : Walk → List Tok → List Prop
  final w ts = root_props (end_nodes (walked true base w ts))

  root-halted : (ns : List Node) (ts : List Tok) → final (halted ns) ts ≡ root_props ns
  root-halted ns ts = ap root_props (halted-end base ns ts)

  -- a start, by whether it may be
  either : (ts : List Tok) (b : Bool) (w v : Walk) {ps : List Prop} → final w ts ≡ ps → final v ts ≡ ps → final (pick b w v) ts ≡ ps
  either ts true w v e f = e
  either ts false w v e f = f

  -- two nodes or more
  root-more : (ts : List Tok) (cur : ℕ) (st : List ℕ) (g : Bool) (n m : Node) (ns : List Node) → final (walk cur st g (n ∷ m ∷ ns)) ts ≡ root_props (m ∷ ns)
  root-more [] cur st g n m ns = refl
  root-more (start o ∷ ts) cur [] g n m ns = root-more ts cur (cur ∷ []) false n m ns
  root-more (start o ∷ ts) cur (y ∷ st) g n m ns = either ts (children y (n ∷ m ∷ ns)) (walk cur (cur ∷ y ∷ st) false (n ∷ m ∷ ns)) (halted (n ∷ m ∷ ns)) (root-more ts cur (cur ∷ y ∷ st) false n m ns) (root-halted (n ∷ m ∷ ns) ts)
  root-more (end o ∷ ts) cur [] g n m ns = root-halted (n ∷ m ∷ ns) ts
  root-more (end o ∷ ts) cur (y ∷ st) g n m ns = root-more ts y st false n m ns
  root-more (node o ∷ ts) cur st g n m ns = root-more ts (base + length (n ∷ m ∷ ns)) st true (record { parent = cur; props = [] }) n (m ∷ ns)
  root-more (prop p e ∷ ts) cur st true n m ns = root-more ts cur st true (record { parent = n.parent; props = n.props ++ (p ∷ []) }) m ns
  root-more (prop p e ∷ ts) cur st false n m ns = root-halted (n ∷ m ∷ ns) ts

  -- one, which no property joins any more
  root-shut : (ts : List Tok) (cur : ℕ) (st : List ℕ) (n : Node) → final (walk cur st false (n ∷ [])) ts ≡ n.props
  root-shut [] cur st n = refl
  root-shut (start o ∷ ts) cur [] n = root-shut ts cur (cur ∷ []) n
  root-shut (start o ∷ ts) cur (y ∷ st) n = either ts (children y (n ∷ [])) (walk cur (cur ∷ y ∷ st) false (n ∷ [])) (halted (n ∷ [])) (root-shut ts cur (cur ∷ y ∷ st) n) (root-halted (n ∷ []) ts)
  root-shut (end o ∷ ts) cur [] n = root-halted (n ∷ []) ts
  root-shut (end o ∷ ts) cur (y ∷ st) n = root-shut ts y st n
  root-shut (node o ∷ ts) cur st n = root-more ts (base + 1) st true (record { parent = cur; props = [] }) n []
  root-shut (prop p e ∷ ts) cur st n = root-halted (n ∷ []) ts

  -- one, which the properties that follow join
  pub root-open : (ts : List Tok) (cur : ℕ) (st : List ℕ) (n : Node) → final (walk cur st true (n ∷ [])) ts ≡ n.props ++ props ts
  root-open [] cur st n = sym (append-nil n.props)
  root-open (start o ∷ ts) cur [] n = root-shut ts cur (cur ∷ []) n ∙ sym (append-nil n.props)
  root-open (start o ∷ ts) cur (y ∷ st) n = either ts (children y (n ∷ [])) (walk cur (cur ∷ y ∷ st) false (n ∷ [])) (halted (n ∷ [])) (root-shut ts cur (cur ∷ y ∷ st) n) (root-halted (n ∷ []) ts) ∙ sym (append-nil n.props)
  root-open (end o ∷ ts) cur [] n = root-halted (n ∷ []) ts ∙ sym (append-nil n.props)
  root-open (end o ∷ ts) cur (y ∷ st) n = root-shut ts y st n ∙ sym (append-nil n.props)
  root-open (node o ∷ ts) cur st n = root-more ts (base + 1) st true (record { parent = cur; props = [] }) n [] ∙ sym (append-nil n.props)
  root-open (prop p e ∷ ts) cur st n = root-open ts cur st (record { parent = n.parent; props = n.props ++ (p ∷ []) }) ∙ append_assoc n.props (p ∷ []) (props ts)

pub nodes-end : (w : Walk) → walk_nodes w ≡ reverse (end_nodes w)
nodes-end (walk cur st g ns) = refl
nodes-end (halted ns) = refl
nodes-end (stopped r) = refl

game-snoc : (ms : List Node) (n m : Node) (ns : List Node) → ms ≡ reverse (m ∷ ns) → root_game (ms ++ (n ∷ [])) ≡ root_game ms
game-snoc [] n m ns e = absurd (let l : 0 ≡ length (reverse (m ∷ ns)) = ap length e in omega (arith, length-reverse (m ∷ ns)))
game-snoc (x ∷ ms) n m ns e = refl

root-game : (ns : List Node) → root_game (reverse ns) ≡ game_props (gms_among (root_props ns))
root-game [] = refl
root-game (n ∷ []) = refl
root-game (n ∷ m ∷ ns) = ap root_game (reverse-cons n (m ∷ ns)) ∙ game-snoc (reverse (m ∷ ns)) n m ns refl ∙ root-game (m ∷ ns)

-- at the first node it is known whether its GMs are removed
pub first-bad : (base cur c : ℕ) (st : List ℕ) (ts : List Tok) → gms_bad (root_game (walk_nodes (walked true base (walk c st true (record { parent = cur; props = [] } ∷ [])) ts))) ≡ gms_bad (game_props (gms_among (props ts)))
first-bad base cur c st ts =
    let w : Walk = walked true base (walk c st true (record { parent = cur; props = [] } ∷ [])) ts in
    ap (λ (z : List Node). gms_bad (root_game z)) (nodes-end w)
    ∙ ap gms_bad (root-game (end_nodes w))
    ∙ ap (λ (z : List Prop). gms_bad (game_props (gms_among z))) (root-open base ts c st (record { parent = cur; props = [] }))

-- ---- the entries of nodes

-- those of the nodes, the first of which is bad or not
abbrev pub with_root : (bad : Bool) (k : ℕ) → List Node → List Change
with_root bad k [] = []
with_root bad k (n ∷ ns) = props_changes bad k n.props ++ props_changes false (k + length n.props) (all_props ns)

-- the last of these nodes, last first, is bad
abbrev pub bad_for : Bool → List Node → Bool
bad_for b [] = false
bad_for b (n ∷ []) = b
bad_for b (n ∷ m ∷ ns) = false

pub with_root_lem : (k : ℕ) (ns : List Node) → with_root (gms_bad (root_game ns)) k ns ≡ nodes_changes k ns
with_root_lem k [] = refl
with_root_lem k (n ∷ ns) = refl

pub changes-append : (b : Bool) (k : ℕ) (xs ys : List Prop) → props_changes b k (xs ++ ys) ≡ props_changes b k xs ++ props_changes b (k + length xs) ys
changes-append b k [] ys = let e : k ≡ k + 0 = omega arith in ap (λ (j : ℕ). props_changes b j ys) e
changes-append b k (x ∷ xs) ys =
    let e : suc k + length xs ≡ k + suc (length xs) = omega arith in
    ap (λ (z : List Change). prop_change b k x ++ z) (changes-append b (suc k) xs ys ∙ ap (λ (j : ℕ). props_changes b (suc k) xs ++ props_changes b j ys) e)
    ∙ sym (append_assoc (prop_change b k x) (props_changes b (suc k) xs) (props_changes b (k + suc (length xs)) ys))

module _ (cur : ℕ) where
  abbrev bare : Node
  bare = record { parent = cur; props = [] }

  props-bare : (ms : List Node) → all_props (ms ++ (bare ∷ [])) ≡ all_props ms
  props-bare ms = props-append ms (bare ∷ []) ∙ append-nil (all_props ms)

  pub props-node : (ns : List Node) → all_props (reverse (bare ∷ ns)) ≡ all_props (reverse ns)
  props-node ns = ap all_props (reverse-cons bare ns) ∙ props-bare (reverse ns)

  with-bare : (b : Bool) (k : ℕ) (ms : List Node) → with_root b k (ms ++ (bare ∷ [])) ≡ with_root b k ms
  with-bare b k [] = refl
  with-bare b k (m ∷ ms) = ap (λ (z : List Prop). props_changes b k m.props ++ props_changes false (k + length m.props) z) (props-bare ms)

  pub with-node : (b : Bool) (k : ℕ) (ns : List Node) → with_root b k (reverse (bare ∷ ns)) ≡ with_root b k (reverse ns)
  with-node b k ns = ap (with_root b k) (reverse-cons bare ns) ∙ with-bare b k (reverse ns)

module _ (m : Node) (p : Prop) where
  abbrev joined : Node
  joined = record { parent = m.parent; props = m.props ++ (p ∷ []) }

  props-joined : (ms : List Node) → all_props (ms ++ (joined ∷ [])) ≡ all_props (ms ++ (m ∷ [])) ++ (p ∷ [])
  props-joined ms =
      props-append ms (joined ∷ [])
      ∙ ap (λ (z : List Prop). all_props ms ++ z) (append-nil (m.props ++ (p ∷ [])) ∙ ap (λ (z : List Prop). z ++ (p ∷ [])) (sym (append-nil m.props)))
      ∙ sym (append_assoc (all_props ms) (m.props ++ []) (p ∷ []))
      ∙ ap (λ (z : List Prop). z ++ (p ∷ [])) (sym (props-append ms (m ∷ [])))

  props-snoc : (ns : List Node) → all_props (reverse (joined ∷ ns)) ≡ all_props (reverse (m ∷ ns)) ++ (p ∷ [])
  props-snoc ns = ap all_props (reverse-cons joined ns) ∙ props-joined (reverse ns) ∙ ap (λ (z : List Node). all_props z ++ (p ∷ [])) (sym (reverse-cons m ns))

  pub props-prop : (ns : List Node) → length (all_props (reverse (joined ∷ ns))) ≡ length (all_props (reverse (m ∷ ns))) + 1
  props-prop ns = ap length (props-snoc ns) ∙ length-append (all_props (reverse (m ∷ ns))) (p ∷ [])

  one_more : (b : Bool) (k : ℕ) (ps : List Prop) → props_changes b k (ps ++ (p ∷ [])) ≡ props_changes b k ps ++ prop_change b (k + length ps) p
  one_more b k ps = changes-append b k ps (p ∷ []) ∙ ap (λ (z : List Change). props_changes b k ps ++ z) (append-nil (prop_change b (k + length ps) p))

  -- more than one node
  with-joined : (b : Bool) (k : ℕ) (x : Node) (ms : List Node)
      → with_root b k ((x ∷ ms) ++ (joined ∷ [])) ≡ with_root b k ((x ∷ ms) ++ (m ∷ [])) ++ prop_change false (k + length (all_props ((x ∷ ms) ++ (m ∷ [])))) p
  with-joined b k x ms =
      let qs : List Prop = all_props (ms ++ (m ∷ [])) in
      let l : length (x.props ++ qs) ≡ length x.props + length qs = length-append x.props qs in
      let j : k + length x.props + length qs ≡ k + length (x.props ++ qs) = omega arith in
      ap (λ (z : List Prop). props_changes b k x.props ++ props_changes false (k + length x.props) z) (props-joined ms)
      ∙ ap (λ (z : List Change). props_changes b k x.props ++ z) (one_more false (k + length x.props) qs)
      ∙ sym (append_assoc (props_changes b k x.props) (props_changes false (k + length x.props) qs) (prop_change false (k + length x.props + length qs) p))
      ∙ ap (λ (i : ℕ). (props_changes b k x.props ++ props_changes false (k + length x.props) qs) ++ prop_change false i p) j

  with-single : (b : Bool) (k : ℕ) → with_root b k (joined ∷ []) ≡ with_root b k (m ∷ []) ++ prop_change b (k + length (all_props (m ∷ []))) p
  with-single b k =
      append-nil (props_changes b k (m.props ++ (p ∷ [])))
      ∙ one_more b k m.props
      ∙ ap (λ (z : List Change). z ++ prop_change b (k + length m.props) p) (sym (append-nil (props_changes b k m.props)))
      ∙ ap (λ (z : List Prop). (props_changes b k m.props ++ []) ++ prop_change b (k + length z) p) (sym (append-nil m.props))

  many : (b : Bool) (k : ℕ) (ms : List Node) (x : Node) (ns : List Node) → ms ≡ reverse (x ∷ ns)
      → with_root b k (ms ++ (joined ∷ [])) ≡ with_root b k (ms ++ (m ∷ [])) ++ prop_change false (k + length (all_props (ms ++ (m ∷ [])))) p
  many b k [] x ns e = absurd (let l : 0 ≡ length (reverse (x ∷ ns)) = ap length e in omega (arith, length-reverse (x ∷ ns)))
  many b k (y ∷ ms) x ns e = with-joined b k y ms

  pub with-prop : (b : Bool) (k : ℕ) (ns : List Node) → with_root b k (reverse (joined ∷ ns)) ≡ with_root b k (reverse (m ∷ ns)) ++ prop_change (bad_for b (m ∷ ns)) (k + length (all_props (reverse (m ∷ ns)))) p
  with-prop b k [] = with-single b k
  with-prop b k (x ∷ ns) =
      ap (with_root b k) (reverse-cons joined (x ∷ ns))
      ∙ many b k (reverse (x ∷ ns)) x ns refl
      ∙ ap (λ (z : List Node). with_root b k z ++ prop_change false (k + length (all_props z)) p) (sym (reverse-cons m (x ∷ ns)))
