-- Demand 1 for sgf_board and sgf_board_next, over their contracts: each number exactly for its reason, and all else 0 where a board is refused. Assumes nothing.
use Rattle.lists.proofs.Prelude.{ℕ, ◌≡◌, sym, ap, ◌∙◌, subst, List}
use Rattle.lists.proofs.Tests.{same_or}
use Rattle.tables.proofs.Cases.{either-bool}
use Rattle.tables.specs.Memory.{Memory}
use Rattle.fit.specs.Fit.{Fit}
use Rattle.parts_props.specs.Props.{Property}
use Rattle.board_node.specs.Node.{right_node}
use Rattle.board.specs.Answer.{is_go_node, way_number, board_number, refused_board, BoardIs, NextBoardIs}
use Rattle.board.specs.declared.SgfBoard.{SgfBoard}
use Rattle.board_laws.specs.When as when
use Rattle.board_laws.specs.When.{size_wrong, all_right, BoardBecause, NextBecause, BoardExactly, NextExactly}

module _ (m : Memory) (k : ℕ) where
  -- the number that a reason has
  because-number : (n : ℕ) → BoardBecause m k n → board_number m k ≡ n
  unfolding board_number way_number
  because-number n (when.unfit f) = rw f
  because-number n (when.no-go-node f g) = rw (f, g)
  because-number n (when.wrong_size f g s) = rw (f, g, s)
  because-number n (when.off-board f g s a) = rw (f, g, s, a)
  because-number n (when.shown f g s a) = rw (f, g, s, a)

  -- a reason, with its number
  said : (n : ℕ) → BoardBecause m k n → BoardBecause m k (board_number m k)
  said n w = subst (BoardBecause m k) (sym (because-number n w)) w

  -- there is always one
  number-because : BoardBecause m k (board_number m k)
  number-because =
      either-bool (Fit m)
      (λ f. either-bool (is_go_node m k)
      (λ g. either-bool (size_wrong m k)
      (λ s. said 22 (when.wrong_size f g s))
      (λ s. either-bool (all_right m k) (λ a. said 0 (when.shown f g s a)) (λ a. said 23 (when.off-board f g s a))))
      (λ g. said 21 (when.no-go-node f g)))
      (λ f. said 19 (when.unfit f))

  module _ (r : SgfBoard) (s : BoardIs m k r) where
    -- the number given is the one that the definition says
    board-number : r.number ≡ board_number m k
    board-number = same_or (board_number m k) 0 (λ e. (s.played e).shows.number ∙ sym e) (λ e. ap (λ (z : SgfBoard). z.number) (s.refused e))

    -- sgf_board: each of 0, 19, 21, 22, 23 exactly for its reason, and no other number
    pub board-exactly : BoardExactly m k r.number
    board-exactly =
        record {
          only = subst (BoardBecause m k) (sym board-number) number-because;
          always = λ (n : ℕ) (w : BoardBecause m k n). board-number ∙ because-number n w;
        }

    -- refused: all else is 0
    pub board-zeros : (r.number ≡ 0 → ⊥) → r ≡ refused_board r.number
    board-zeros h =
        s.refused (λ e. h (board-number ∙ e)) ∙ ap refused_board (sym board-number)

module _ (ps : List Property) (b r : SgfBoard) (s : NextBoardIs ps b r) where
  -- the number that a reason has
  next-number : (n : ℕ) → NextBecause ps b n → r.number ≡ n
  next-number n (when.no-board h) = ap (λ (z : SgfBoard). z.number) (s.no-board h)
  next-number n (when.off-board e y) = ap (λ (z : SgfBoard). z.number) (s.refused e y)
  next-number n (when.shown e y) = (s.shows e y).number

  -- a reason, with its number
  told : (n : ℕ) → NextBecause ps b n → NextBecause ps b r.number
  told n w = subst (NextBecause ps b) (sym (next-number n w)) w

  -- sgf_board_next: each number exactly for its reason, and no other
  pub next-exactly : NextExactly ps b r.number
  next-exactly =
      record {
        only =
            same_or b.number 0
            (λ e. either-bool (right_node b.columns b.rows ps) (λ y. told 0 (when.shown e y)) (λ y. told 23 (when.off-board e y)))
            (λ e. told b.number (when.no-board e));
        always = next-number;
      }
