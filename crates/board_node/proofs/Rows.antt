-- The acts of places and of rows, one after another. Assumes nothing.
use Rattle.lists.proofs.Prelude.{ℕ, suc, ◌+◌, ◌-◌, ◌<◌, ◌≤◌, Bool, true, false, ◌≡◌, refl, sym, ap, ◌∙◌, List, [], ◌∷◌, ◌++◌, length, get_or, drop, drop_of_length-le, drop-cons, add-one, arith}
use Rattle.tables.specs.Each.{tabulate}
use Rattle.parts_props.specs.Props.{Property}
use Rattle.board_play.specs.Steps.{Act, sets}
use Rattle.board_node.specs.Node.{setup_colour, sets_from, setups_of, moves_of, all_setups, all_moves}
use Rattle.board_node.specs.LocalsTurn.{SetupsFrom}
use Rattle.board_node.proofs.Moves.{setups-none}

module _ (c : ℕ) (marks : List Bool) (p : ℕ) where
  pub sets_end : length marks ≤ p → sets_from c p (drop p marks) ≡ []
  unfolding sets_from
  sets_end h = rw (drop_of_length-le marks h)

  pub sets-pass : p < length marks → get_or marks p false ≡ false → sets_from c p (drop p marks) ≡ sets_from c (p + 1) (drop (p + 1) marks)
  unfolding sets_from
  sets-pass h e = rw (drop-cons marks p false h, e, add-one)

  pub sets-here : p < length marks → get_or marks p false ≡ true → sets_from c p (drop p marks) ≡ (sets c p ∷ []) ++ sets_from c (p + 1) (drop (p + 1) marks)
  unfolding sets_from
  sets-here h e = rw (drop-cons marks p false h, e, add-one)

module _ (f : ℕ → Property) (p to : ℕ) where
  rows_next : p < to → tabulate f p (to - p) ≡ f p ∷ tabulate f (p + 1) (to - (p + 1))
  unfolding tabulate
  rows_next l =
      let e : to - p ≡ suc (to - (p + 1)) = omega arith in
      let k : suc p ≡ p + 1 = omega arith in
      ap (tabulate f p) e ∙ ap (λ (n : ℕ). f p ∷ tabulate f n (to - (p + 1))) k

  rows_end : to ≤ p → tabulate f p (to - p) ≡ []
  unfolding tabulate
  rows_end l = let e : to - p ≡ 0 = omega arith in ap (tabulate f p) e

  pub setups-next : p < to → all_setups (tabulate f p (to - p)) ≡ setups_of (f p) ++ all_setups (tabulate f (p + 1) (to - (p + 1)))
  setups-next l = ap all_setups (rows_next l)

  pub setups-end : to ≤ p → all_setups (tabulate f p (to - p)) ≡ []
  setups-end l = ap all_setups (rows_end l)

  pub moves_next : (w h : ℕ) → p < to → all_moves w h (tabulate f p (to - p)) ≡ moves_of w h (f p) ++ all_moves w h (tabulate f (p + 1) (to - (p + 1)))
  moves_next w h l = ap (all_moves w h) (rows_next l)

  pub moves-end : (w h : ℕ) → to ≤ p → all_moves w h (tabulate f p (to - p)) ≡ []
  moves-end w h l = ap (all_moves w h) (rows_end l)

-- rows that set nothing are passed by
module _ (f : ℕ → Property) (first to : ℕ) where
  pub from_first : SetupsFrom f first to first
  from_first = record { behind = omega arith; same = refl }

  pub from_next : (p : ℕ) → SetupsFrom f first to p → p < to → 2 < setup_colour (f p).name → SetupsFrom f first to (p + 1)
  from_next p x l c =
      let b = x.behind in
      record {
        behind = omega arith;
        same = x.same ∙ (setups-next f p to l ∙ ap (λ (z : List Act). z ++ all_setups (tabulate f (p + 1) (to - (p + 1)))) (sym (setups-none 0 0 (f p) c)));
      }

  pub from_end : (p : ℕ) → SetupsFrom f first to p → to ≤ p → [] ≡ all_setups (tabulate f first (to - first))
  from_end p x l = sym (x.same ∙ setups-end f p to l)
