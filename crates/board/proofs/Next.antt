-- One node more upon a board, case by case. Assumes nothing.
use Rattle.lists.proofs.Prelude.{ℕ, Bool, true, false, true≢false, ◌≡◌, refl, sym, ap, ap₂, ◌∙◌, subst, List, length}
use Rattle.tables.proofs.Cases.{either-bool}
use Rattle.tables.specs.Columns.{first_prop_at, prop_count_at}
use Rattle.parts_props.specs.Props.{Property, properties_at}
use Rattle.board_acts.specs.declared.BoardState.{BoardState}
use Rattle.board_node.specs.Node.{acts_of, right_node}
use Rattle.board_node.specs.Answer.{position_of, answer_of, NodeIs}
use Rattle.board_node.specs.declared.Position.{Position}
use Rattle.board_node.specs.declared.NodeAnswer.{NodeAnswer}
use Rattle.board_node.proofs.Unique.{node-exact}
use Rattle.board_play.specs.Steps.{Steps}
use Rattle.board.specs.Answer.{node_properties, refused_board, shown_board, unreserved, pos_in, NextBoardIs}
use Rattle.board.specs.declared.SgfBoard.{SgfBoard}

-- the position that a board is; it is not known to be settled
abbrev pub position_in : SgfBoard → Position
position_in b = position_of b.stones (record { black = b.black; white = b.white; settled = false })

module _ {w h : ℕ} {ps : List Property} {x : Position} {q : NodeAnswer} (f : NodeIs w h ps x q) where
  pub wrong-node : q.refused ≡ true → right_node w h ps ≡ false
  wrong-node e = either-bool (right_node w h ps) (λ y. absurd (true≢false (sym e ∙ f.right y))) (λ y. y)

  pub right-node : q.refused ≡ false → right_node w h ps ≡ true
  right-node e = either-bool (right_node w h ps) (λ y. y) (λ y. absurd (true≢false (sym (ap (λ (z : NodeAnswer). z.refused) (f.wrong y)) ∙ e)))

pub node-sides : {w h v g : ℕ} {ps : List Property} {x : Position} {q : NodeAnswer} → w ≡ v → h ≡ g → NodeIs w h ps x q → NodeIs v g ps x q
node-sides {w} {v = v} {g = g} {ps = ps} {x = x} {q = q} d e f =
    subst (λ (z : ℕ). NodeIs z g ps x q) d (subst (λ (z : ℕ). NodeIs w z ps x q) e f)

-- a node by its row
pub at-node : (w h : ℕ) (text nd pr vl : List ℕ) (k : ℕ) {first count : ℕ} {x : Position} {q : NodeAnswer} → first ≡ first_prop_at nd k → count ≡ prop_count_at nd k
    → NodeIs w h (properties_at text pr vl first count) x q → NodeIs w h (node_properties text nd pr vl k) x q
unfolding node_properties
at-node w h text nd pr vl k {x = x} {q = q} d e f =
    subst (λ (ps : List Property). NodeIs w h ps x q) (ap₂ (properties_at text pr vl) d e) f

module _ (ps : List Property) (b : SgfBoard) where
  pub next-none : (r : SgfBoard) → (b.number ≡ 0 → ⊥) → r ≡ unreserved b → NextBoardIs ps b r
  next-none r n e =
      record { no-board = λ z. e; refused = λ z. absurd (n z); shows = λ z. absurd (n z); acts = λ z. absurd (n z) }

  module _ (z : b.number ≡ 0) {v : Bool} {b' : List ℕ} {s' : BoardState} (f : NodeIs b.columns b.rows ps (position_in b) (answer_of v b' s')) where
    pub next-refused : {r : SgfBoard} → v ≡ true → r ≡ refused_board 23 → NextBoardIs ps b r
    next-refused e g =
        let k = wrong-node f e in
        record {
          no-board = λ n. absurd (n z);
          refused = λ y u. g;
          shows = λ y u. absurd (true≢false (sym u ∙ k));
          acts = λ y u. absurd (true≢false (sym u ∙ k));
        }

    pub next-played : v ≡ false → length b.stones ≡ 2704 → NextBoardIs ps b (shown_board b.columns b.rows b' s')
    next-played e long =
        let k = right-node f e in
        let s : Steps b.columns b.rows (pos_in b) (acts_of b.columns b.rows ps) (pos_in (shown_board b.columns b.rows b' s')) =
        (node-exact b.columns b.rows ps (position_in b) (answer_of v b' s') f e long (λ u. absurd (true≢false (sym u)))).steps in
        record {
          no-board = λ n. absurd (n z);
          refused = λ y u. absurd (true≢false (sym k ∙ u));
          shows = λ y u. record { number = refl; columns = refl; rows = refl; reserved = refl };
          acts = λ y u. s;
        }
