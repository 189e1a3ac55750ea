-- No second answer; what a node's acts are on a board of which nothing false is known; stones conserved. Assumes nothing.
use Rattle.lists.proofs.Prelude.{ℕ, Bool, true, false, true≢false, ◌≡◌, refl, sym, ap, ap₂, ◌∙◌, List, length}
use Rattle.parts_props.specs.Props.{Property}
use Rattle.board_play.specs.Steps.{SumsRight}
use Rattle.board_play.proofs.Sums.{stones-conserved}
use Rattle.board_acts.specs.Acts.{pos_of, KnownSettled}
use Rattle.board_acts.specs.declared.BoardState.{BoardState}
use Rattle.board_acts.proofs.Exact.{ExactAll, steps-exact, steps-by-once}
use Rattle.board_acts.proofs.Unique.{pos-once}
use Rattle.board_node.specs.Node.{acts_of, right_node}
use Rattle.board_node.specs.Answer.{NodeIs}
use Rattle.board_node.specs.declared.Position.{Position}
use Rattle.board_node.specs.declared.NodeAnswer.{NodeAnswer}

module _ (w h : ℕ) (ps : List Property) (x : Position) where
  pub play-node-once : (r s : NodeAnswer) → NodeIs w h ps x r → NodeIs w h ps x s → r ≡ s
  play-node-once r s f g = go (right_node w h ps) refl
    where
      go : (t : Bool) → right_node w h ps ≡ t → r ≡ s
      go false e = f.wrong e ∙ sym (g.wrong e)
      go true e =
          let o = steps-by-once w h (f.acts e) (g.acts e) in
          let p = pos-once r.position.stones s.position.stones r.position.state s.position.state o.0 o.1 in
          let q : r.position ≡ s.position = ap₂ (λ (b : List ℕ) (t : BoardState). record { stones = b; state = t }) p.0 p.1 in
          ap₂ (λ (v : Bool) (z : Position). record { refused = v; position = z }) (f.right e ∙ sym (g.right e)) q

  module _ (r : NodeAnswer) (f : NodeIs w h ps x r) where
    -- a node that is not refused leads from its position by its acts to the one given
    pub node-exact : r.refused ≡ false → length x.stones ≡ 2704 → KnownSettled w h x.state.settled x.stones
        → ExactAll w h (pos_of x.stones x.state) (acts_of w h ps) r.position.state.settled (pos_of r.position.stones r.position.state)
    node-exact e long known = go (right_node w h ps) refl
      where
        go : (t : Bool) → right_node w h ps ≡ t
            → ExactAll w h (pos_of x.stones x.state) (acts_of w h ps) r.position.state.settled (pos_of r.position.stones r.position.state)
        go true k = steps-exact w h (f.acts k) long known
        go false k = absurd (true≢false (sym (ap (λ (z : NodeAnswer). z.refused) (f.wrong k)) ∙ e))

    pub node-conserved : r.refused ≡ false → KnownSettled w h x.state.settled x.stones → SumsRight (pos_of x.stones x.state)
        → SumsRight (pos_of r.position.stones r.position.state)
    node-conserved e known even = stones-conserved w h (node-exact e even.long known).steps even
