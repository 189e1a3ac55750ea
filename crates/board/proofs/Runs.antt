-- A node whose move is seen at once, played. Assumes nothing.
use Rattle.lists.proofs.Prelude.{ℕ, ap₂, Bool, true, false, ◌&&◌, true≢false, ◌≡◌, refl, sym, ap, ◌∙◌, subst, List, []}
use Rattle.tables.specs.Columns.{first_prop_at, prop_count_at}
use Rattle.parts_props.specs.Props.{Property, properties_at}
use Rattle.board_play.specs.Play.{playable}
use Rattle.board_play.specs.Steps.{Act, plays}
use Rattle.board_play.proofs.Playing.{playable-board}
use Rattle.board_acts.specs.Acts.{pos_of, StepsBy, done-by, next-by, BoardActIs}
use Rattle.board_acts.specs.declared.BoardState.{BoardState}
use Rattle.board_node.specs.Node.{right_acts, right_node}
use Rattle.board_node.specs.Answer.{position_of, answer_of, NodeIs}
use Rattle.board_node.specs.Seen.{MoveSeenIs}
use Rattle.board_node.specs.declared.MoveSeen.{MoveSeen}
use Rattle.board.specs.Answer.{node_properties}

module _ (w h : ℕ) {ps : List Property} {r : MoveSeen} (x : MoveSeenIs w h ps r) (n : r.colour ≡ 0 → ⊥) where
  seen-right : right_node w h ps ≡ true
  unfolding right_node
  seen-right = ap (right_acts w h []) (x.acts n) ∙ ap (λ (z : Bool). z && true) (playable-board w h r.colour r.place (x.can n))

  pub seen-node : {b b' : List ℕ} {s s' : BoardState} → s.settled ≡ true
      → BoardActIs (playable w h r.colour r.place && s.settled) w h (plays r.colour r.place) b s b' s'
      → NodeIs w h ps (position_of b s) (answer_of false b' s')
  seen-node {b} {b'} {s} {s'} g y =
      let can : playable w h r.colour r.place && s.settled ≡ true = rw (x.can n, g) in
      record {
        wrong = λ e. absurd (true≢false (sym seen-right ∙ e));
        right = λ e. refl;
        acts = λ e. subst (λ (z : List Act). StepsBy w h s.settled (pos_of b s) z s'.settled (pos_of b' s')) (sym (x.acts n)) (next-by (y.act can) done-by);
      }

-- the move of a node by its row
pub seen-row : (w h : ℕ) (text nd pr vl : List ℕ) (k : ℕ) {first count : ℕ} {r : MoveSeen} → first ≡ first_prop_at nd k → count ≡ prop_count_at nd k
    → MoveSeenIs w h (properties_at text pr vl first count) r → MoveSeenIs w h (node_properties text nd pr vl k) r
unfolding node_properties
seen-row w h text nd pr vl k {r = r} d e f = subst (λ (ps : List Property). MoveSeenIs w h ps r) (ap₂ (properties_at text pr vl) d e) f
