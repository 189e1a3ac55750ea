-- No second answer of the public functions; stones conserved. Assumes nothing.
use Rattle.lists.proofs.Prelude.{ℕ, true, ◌≡◌, sym, ap, ◌∙◌, List}
use Rattle.lists.proofs.Tests.{same_or}
use Rattle.tables.proofs.Cases.{either-bool}
use Rattle.tables.specs.Memory.{Memory}
use Rattle.parts_props.specs.Props.{Property}
use Rattle.board_play.specs.Steps.{Pos, SumsRight}
use Rattle.board_play.proofs.StepsOnce.{steps-once}
use Rattle.board_play.proofs.Sums.{stones-conserved, empty-balanced}
use Rattle.board_node.specs.Node.{right_node}
use Rattle.board.specs.Answer.{way_properties, said_size, columns_by, rows_by, board_number, pos_in, Shows, BoardIs, NextBoardIs}
use Rattle.board.specs.declared.SgfBoard.{SgfBoard}

-- a board by its parts
abbrev made : (n w h v : ℕ) → Pos → SgfBoard
made n w h v p =
    record {
      number = n;
      columns = w;
      rows = h;
      reserved = v;
      black = record { on = p.black.on; off = p.black.off };
      white = record { on = p.white.on; off = p.white.off };
      stones = p.stones;
    }

shown-once : (w h : ℕ) (r s : SgfBoard) → Shows w h r → Shows w h s → pos_in r ≡ pos_in s → r ≡ s
shown-once w h r s x y e =
    ap (λ (z : ℕ). made z r.columns r.rows r.reserved (pos_in r)) (x.number ∙ sym y.number)
    ∙ (ap (λ (z : ℕ). made s.number z r.rows r.reserved (pos_in r)) (x.columns ∙ sym y.columns)
    ∙ (ap (λ (z : ℕ). made s.number s.columns z r.reserved (pos_in r)) (x.rows ∙ sym y.rows)
    ∙ (ap (λ (z : ℕ). made s.number s.columns s.rows z (pos_in r)) (x.reserved ∙ sym y.reserved)
    ∙ ap (λ (z : Pos). made s.number s.columns s.rows s.reserved z) e)))

module _ (m : Memory) (k : ℕ) where
  pub board-once : (r s : SgfBoard) → BoardIs m k r → BoardIs m k s → r ≡ s
  board-once r s f g =
      same_or (board_number m k) 0
      (λ e.
      let x = f.played e in
      let y = g.played e in
      shown-once (columns_by (said_size (way_properties m k))) (rows_by (said_size (way_properties m k))) r s x.shows y.shows
      (steps-once (columns_by (said_size (way_properties m k))) (rows_by (said_size (way_properties m k))) x.acts y.acts))
      (λ e. f.refused e ∙ sym (g.refused e))

  -- put on is standing and taken off, for each colour
  pub board-conserved : (r : SgfBoard) → BoardIs m k r → board_number m k ≡ 0 → SumsRight (pos_in r)
  board-conserved r f e =
      stones-conserved (columns_by (said_size (way_properties m k))) (rows_by (said_size (way_properties m k))) (f.played e).acts empty-balanced

module _ (ps : List Property) (b : SgfBoard) where
  pub board-next-once : (r s : SgfBoard) → NextBoardIs ps b r → NextBoardIs ps b s → r ≡ s
  board-next-once r s f g =
      same_or b.number 0
      (λ e. either-bool (right_node b.columns b.rows ps)
      (λ y. shown-once b.columns b.rows r s (f.shows e y) (g.shows e y) (steps-once b.columns b.rows (f.acts e y) (g.acts e y)))
      (λ y. f.refused e y ∙ sym (g.refused e y)))
      (λ e. f.no-board e ∙ sym (g.no-board e))

  pub next-conserved : (r : SgfBoard) → NextBoardIs ps b r → b.number ≡ 0 → right_node b.columns b.rows ps ≡ true → SumsRight (pos_in b) → SumsRight (pos_in r)
  next-conserved r f e y x = stones-conserved b.columns b.rows (f.acts e y) x
