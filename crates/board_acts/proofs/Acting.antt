-- What setting, playing and counting say together is one act. Assumes nothing.
use Rattle.lists.proofs.Prelude.{ℕ, Bool, true, false, ◌≡◌, sym, ap, ◌∙◌, subst, List, set}
use Rattle.board_groups.specs.Board.{at}
use Rattle.board_play.specs.Play.{settable, playable, SetIs, Plays, PlaysNear}
use Rattle.board_play.specs.Steps.{sets, plays}
use Rattle.board_play.proofs.Playing.{settable-place}
use Rattle.board_acts.specs.Acts.{pos_of, set_counts, take_counts, StepBy, set-by, whole_by, near_by}
use Rattle.board_acts.specs.declared.BoardState.{BoardState}

module _ (w h c p : ℕ) (b b' : List ℕ) (stood : ℕ) (st r : BoardState) where
  pub set-acts : settable w h c p ≡ true → SetIs c p b b' stood → r ≡ set_counts c stood st
      → StepBy w h st.settled (pos_of b st) (sets c p) r.settled (pos_of b' r)
  set-acts on x e =
      let y = x.within (settable-place w h c p on) in
      subst (λ (z : BoardState). StepBy w h st.settled (pos_of b st) (sets c p) z.settled (pos_of b' z)) (sym e)
      (subst (λ (z : List ℕ). StepBy w h st.settled (pos_of b st) (sets c p) false (pos_of z (set_counts c stood st))) (sym y.1)
      (subst (λ (z : ℕ). StepBy w h st.settled (pos_of b st) (sets c p) false (pos_of (set b p c) (set_counts c z st))) (sym y.0) (set-by on)))

  module _ (n k : ℕ) (on : playable w h c p ≡ true) (e : stood ≡ at b p) (f : r ≡ take_counts c n k (set_counts c stood st)) where
    counted-so : {t : Bool} → st.settled ≡ t → StepBy w h t (pos_of b st) (plays c p) true (pos_of b' (take_counts c n k (set_counts c (at b p) st)))
        → StepBy w h st.settled (pos_of b st) (plays c p) r.settled (pos_of b' r)
    counted-so g x =
        subst (λ (z : BoardState). StepBy w h st.settled (pos_of b st) (plays c p) z.settled (pos_of b' z)) (sym f)
        (subst (λ (z : ℕ). StepBy w h st.settled (pos_of b st) (plays c p) true (pos_of b' (take_counts c n k (set_counts c z st)))) (sym e)
        (subst (λ (z : Bool). StepBy w h z (pos_of b st) (plays c p) true (pos_of b' (take_counts c n k (set_counts c (at b p) st)))) (sym g) x))

    pub whole-acts : st.settled ≡ false → Plays w h c p b b' n k → StepBy w h st.settled (pos_of b st) (plays c p) r.settled (pos_of b' r)
    whole-acts g x = counted-so g (whole_by on x.first x.second)

    pub near-acts-by : st.settled ≡ true → PlaysNear w h c p b b' n k → StepBy w h st.settled (pos_of b st) (plays c p) r.settled (pos_of b' r)
    near-acts-by g x = counted-so g (near_by on x.first x.second)

-- the same sums by equal numbers
pub counts-as : {r : BoardState} (st : BoardState) (c n k stood c' n' k' stood' : ℕ) → c' ≡ c → stood' ≡ stood → n' ≡ n → k' ≡ k
    → r ≡ take_counts c n k (set_counts c stood st) → r ≡ take_counts c' n' k' (set_counts c' stood' st)
counts-as st c n k stood c' n' k' stood' a b d e f =
    f
    ∙ (ap (λ (z : ℕ). take_counts z n k (set_counts z stood st)) (sym a)
    ∙ (ap (λ (z : ℕ). take_counts c' n k (set_counts c' z st)) (sym b)
    ∙ (ap (λ (z : ℕ). take_counts c' z k (set_counts c' stood' st)) (sym d) ∙ ap (λ (z : ℕ). take_counts c' n' z (set_counts c' stood' st)) (sym e))))
