-- A node by its rows: setup and moves together are its acts. Assumes nothing.
use Rattle.lists.proofs.Prelude.{ℕ, ◌+◌, ◌-◌, Bool, true, false, true≢false, ◌≡◌, sym, ap, ◌∙◌, subst, List, ◌++◌, replicate, arith}
use Rattle.tables.specs.Each.{tabulate}
use Rattle.parts_props.specs.Props.{Property, rows_from, property_at, properties_at}
use Rattle.board_acts.specs.Acts.{pos_of, StepsBy}
use Rattle.board_node.specs.Node.{all_setups, all_moves, acts_of, right_node}
use Rattle.board_node.specs.Answer.{refused_node, NodeIs}
use Rattle.board_node.specs.LocalsTurn.{right_by}
use Rattle.board_node.specs.declared.Position.{Position}
use Rattle.board_node.specs.declared.NodeAnswer.{NodeAnswer}
use Rattle.board_node.proofs.Turning.{marks-none}

module _ (w h : ℕ) (text pr vl : List ℕ) (first count to : ℕ) (e : to ≡ first + rows_from pr first count) where
  -- the properties of the rows from `first` up to `to`
  abbrev pub rows_to : List Property
  rows_to = tabulate (property_at text pr vl) first (to - first)

  rows_are : rows_to ≡ properties_at text pr vl first count
  unfolding properties_at
  rows_are = let k : to - first ≡ rows_from pr first count = omega arith in ap (tabulate (property_at text pr vl) first) k

  node-right : (v : Bool) → right_by w h (replicate 2704 false) (all_setups rows_to ++ all_moves w h rows_to) ≡ v
      → right_node w h (properties_at text pr vl first count) ≡ v
  unfolding right_node
  node-right v f =
      sym (marks-none w h (acts_of w h (properties_at text pr vl first count)))
      ∙ (ap (λ (ps : List Property). right_by w h (replicate 2704 false) (acts_of w h ps)) (sym rows_are) ∙ f)

  module _ (x : Position) (r : NodeAnswer) where
    pub node-refused : right_by w h (replicate 2704 false) (all_setups rows_to ++ all_moves w h rows_to) ≡ false → r ≡ refused_node
        → NodeIs w h (properties_at text pr vl first count) x r
    node-refused f g =
        let k = node-right false f in
        record { wrong = λ z. g; right = λ z. absurd (true≢false (sym z ∙ k)); acts = λ z. absurd (true≢false (sym z ∙ k)) }

    pub node-played : right_by w h (replicate 2704 false) (all_setups rows_to ++ all_moves w h rows_to) ≡ true → r.refused ≡ false
        → StepsBy w h x.state.settled (pos_of x.stones x.state) (all_setups rows_to ++ all_moves w h rows_to) r.position.state.settled
        (pos_of r.position.stones r.position.state) → NodeIs w h (properties_at text pr vl first count) x r
    node-played f g y =
        let k = node-right true f in
        record {
          wrong = λ z. absurd (true≢false (sym k ∙ z));
          right = λ z. g;
          acts = λ z. subst (λ (ps : List Property). StepsBy w h x.state.settled (pos_of x.stones x.state) (acts_of w h ps) r.position.state.settled
              (pos_of r.position.stones r.position.state)) rows_are y;
        }
