-- Down a way, one node after another. Assumes nothing.
use Rattle.lists.proofs.Prelude.{ℕ, zero, suc, ◌/◌, ◌≤◌, ◌<◌, Bool, true, false, true≢false, ◌≡◌, refl, sym, ap, ◌∙◌, subst, List, [], ◌∷◌, ◌++◌, map, map-append, length, replicate, length-replicate, get_or, arith}
use Rattle.tables.specs.Numbers.{none}
use Rattle.tables.specs.Columns.{node_stride, parent_at}
use Rattle.fit_nodes.specs.Nodes.{on_path}
use Rattle.fit_nodes.proofs.Path.{has-before, has-none, path-le}
use Rattle.fit_nodes.proofs.Rule.{rule-has}
use Rattle.parts_props.specs.Props.{Property}
use Rattle.board_groups.specs.Groups.{Settled}
use Rattle.board_play.specs.Steps.{Act, Steps, empty_pos}
use Rattle.board_acts.specs.Acts.{pos_of, KnownSettled}
use Rattle.board_acts.specs.declared.BoardState.{BoardState}
use Rattle.board_node.specs.Answer.{position_of, answer_of, NodeIs}
use Rattle.board_node.proofs.Unique.{node-exact}
use Rattle.board_path.specs.Way.{way_to}
use Rattle.board_path.specs.LocalsNext.{NextIs}
use Rattle.board_path.proofs.Nexts.{next_way}
use Rattle.board_path.proofs.Ways.{way-child, way-root, way-split}
use Rattle.board.specs.Answer.{way_right, way_acts, refused_board, shown_board}
use Rattle.board.specs.Locals.{start_state, WayWalk, WayAnswer, WayPlayed}
use Rattle.board.specs.declared.SgfBoard.{SgfBoard}
use Rattle.board.proofs.Next.{wrong-node, right-node}
use Rattle.board.proofs.Ways.{steps_then, right-one, acts-one, right-front}

none-at : (n p : ℕ) → get_or (replicate {A = ℕ} n 0) p 0 ≡ 0
none-at zero p = refl
none-at (suc n) zero = refl
none-at (suc n) (suc p) = none-at n p

-- nothing stands, so every stone has a liberty
empty-settled : (w h c : ℕ) → (c ≡ 0 → ⊥) → Settled w h (replicate 2704 0) c
empty-settled w h c some p s = absurd (some (sym s.is ∙ none-at 2704 p))

pub start-known : (w h : ℕ) → KnownSettled w h true (replicate 2704 0)
start-known w h e = (empty-settled w h 1 (λ z. omega arith), empty-settled w h 2 (λ z. omega arith))

module _ (w h : ℕ) (nd : List ℕ) (P : ℕ → List Property) (k : ℕ) where
  abbrev Walked : (at : ℕ) (b : List ℕ) (s : BoardState) → Type 0
  Walked at b s = WayPlayed w h nd P k at b s

  -- a way is wrong where a node on it is
  off-way : (at : ℕ) → on_path nd k at ≡ true → way_right w h (map P (way_to nd at)) ≡ false → way_right w h (map P (way_to nd k)) ≡ false
  off-way at o e =
      let b = way-split nd k k at (omega arith) o in
      ap (λ (z : List ℕ). way_right w h (map P z)) b.is
      ∙ (ap (way_right w h) (map-append P (way_to nd at) b.rest) ∙ right-front w h (map P (way_to nd at)) (map P b.rest) e)

  refused-way : {r : SgfBoard} → way_right w h (map P (way_to nd k)) ≡ false → r ≡ refused_board 23 → WayAnswer w h (map P (way_to nd k)) r
  refused-way e g = record { off = λ z. g; played = λ z. absurd (true≢false (sym z ∙ e)) }

  module _ (root : ℕ) (o : on_path nd k root ≡ true) (orphan : parent_at nd root ≡ none) {v : Bool} {b : List ℕ} {s₀ s : BoardState}
      (start : s₀ ≡ start_state) (given : NodeIs w h (P root) (position_of (replicate 2704 0) s₀) (answer_of v b s)) where
    f : NodeIs w h (P root) (position_of (replicate 2704 0) start_state) (answer_of v b s)
    f = subst (λ (z : BoardState). NodeIs w h (P root) (position_of (replicate 2704 0) z) (answer_of v b s)) start given

    root-way : way_to nd root ≡ root ∷ []
    root-way = way-root nd root (has-none nd root orphan)

    pub root-played : v ≡ false → Walked root b s
    root-played e =
        let x = node-exact w h (P root) (position_of (replicate 2704 0) start_state) (answer_of v b s) f e (length-replicate {A = ℕ} 2704 0) (start-known w h) in
        record {
          on = o;
          right = ap (λ (z : List ℕ). way_right w h (map P z)) root-way ∙ right-one w h [] (P root) true true refl (right-node f e);
          steps = subst (λ (z : List ℕ). Steps w h empty_pos (way_acts w h (map P z)) (pos_of b s)) (sym root-way)
              (subst (λ (z : List Act). Steps w h empty_pos z (pos_of b s)) (sym (acts-one w h [] (P root))) x.steps);
          long = x.long;
          known = x.known;
        }

    pub root-refused : {r : SgfBoard} → v ≡ true → r ≡ refused_board 23 → WayAnswer w h (map P (way_to nd k)) r
    root-refused e g =
        refused-way (off-way root o (ap (λ (z : List ℕ). way_right w h (map P z)) root-way ∙ right-one w h [] (P root) true false refl (wrong-node f e))) g

  module _ {n root at to : ℕ} {b : List ℕ} {s : BoardState} (walk : WayWalk nd root k n) (y : Walked at b s) (before : at < k) (move : NextIs nd at k to) where
    to-next : (parent_at nd to ≡ at) × (on_path nd k to ≡ true)
    to-next =
        let l = walk.ruled.most in
        let i = walk.inside in
        next_way (record { ruled = walk.ruled; rows = walk.rows; children = walk.children; siblings = walk.siblings }) at k walk.inside
        (λ z. omega arith) to y.on (λ z. omega arith) move

    -- the next node is a row behind `at` and not behind k
    pub next-rises : (at < to) × (to ≤ k) × (to < length nd / node_stride)
    next-rises =
        let x = to-next in
        let l = walk.ruled.most in
        let i = walk.inside in
        let r = walk.rows in
        let c = path-le nd k to x.1 in
        let q = (has-before nd to (rule-has walk.ruled to (omega arith) (λ z. let e = x.0 in omega arith))).0 in
        let e = x.0 in
        (omega arith, c, omega arith)

    to-way : way_to nd to ≡ way_to nd at ++ (to ∷ [])
    to-way =
        let x = to-next in
        let l = walk.ruled.most in
        let i = walk.inside in
        let c = path-le nd k to x.1 in
        way-child nd to (rule-has walk.ruled to (omega arith) (λ z. let e = x.0 in omega arith)) ∙ ap (λ (z : ℕ). way_to nd z ++ (to ∷ [])) x.0

    to-nodes : map P (way_to nd to) ≡ map P (way_to nd at) ++ (P to ∷ [])
    to-nodes = ap (map P) to-way ∙ map-append P (way_to nd at) (to ∷ [])

    module _ {v : Bool} {b' : List ℕ} {s' : BoardState} (f : NodeIs w h (P to) (position_of b s) (answer_of v b' s')) where
      pub next-walked : v ≡ false → Walked to b' s'
      next-walked e =
          let x = node-exact w h (P to) (position_of b s) (answer_of v b' s') f e y.long y.known in
          record {
            on = to-next.1;
            right = ap (way_right w h) to-nodes ∙ right-one w h (map P (way_to nd at)) (P to) true true y.right (right-node f e);
            steps = subst (λ (z : List (List Property)). Steps w h empty_pos (way_acts w h z) (pos_of b' s')) (sym to-nodes)
                (subst (λ (z : List Act). Steps w h empty_pos z (pos_of b' s')) (sym (acts-one w h (map P (way_to nd at)) (P to)))
                (steps_then y.steps x.steps));
            long = x.long;
            known = x.known;
          }

      pub next-stops : {r : SgfBoard} → v ≡ true → r ≡ refused_board 23 → WayAnswer w h (map P (way_to nd k)) r
      next-stops e g =
          refused-way (off-way to to-next.1 (ap (way_right w h) to-nodes ∙ right-one w h (map P (way_to nd at)) (P to) true false y.right (wrong-node f e))) g

  -- all nodes are played
  pub walked_all : {at : ℕ} {b : List ℕ} {s : BoardState} → Walked at b s → k ≤ at → WayAnswer w h (map P (way_to nd k)) (shown_board w h b s)
  walked_all {at} {b} {s} y l =
      let c = path-le nd k at y.on in
      let e : at ≡ k = omega arith in
      let right = subst (λ (z : ℕ). way_right w h (map P (way_to nd z)) ≡ true) e y.right in
      record {
        off = λ z. absurd (true≢false (sym right ∙ z));
        played = λ z. record {
          shows = record { number = refl; columns = refl; rows = refl; reserved = refl };
          acts = subst (λ (q : ℕ). Steps w h empty_pos (way_acts w h (map P (way_to nd q))) (pos_of b s)) e y.steps;
        };
      }
