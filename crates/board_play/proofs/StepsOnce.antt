-- No second position after acts. Assumes nothing.
use Rattle.lists.proofs.Prelude.{ℕ, ◌≡◌, refl, sym, ap, ◌∙◌, subst, List, set}
use Rattle.board_groups.specs.Groups.{Takes}
use Rattle.board_groups.proofs.Once.{takes-once, taken-once}
use Rattle.board_play.specs.Play.{other_of}
use Rattle.board_play.specs.Steps.{Pos, Act, sets, plays, played, Step, set-step, play-step, Steps, done, next}

module _ (w h : ℕ) where
  pub step-once : (s : Pos) (a : Act) (x y : Pos) → Step w h s a x → Step w h s a y → x ≡ y
  step-once s (sets c p) x y (set-step e) (set-step f) = refl
  step-once s (plays c p) x y (play-step {between = m} {b' = i} {n = n} {k = k} on t u) (play-step {between = m'} {b' = j} {n = n'} {k = k'} on' t' u') =
      let e : m ≡ m' = takes-once w h (other_of c) (set s.stones p c) m m' n n' t t' in
      let v : Takes w h c m' i k = subst (λ (z : List ℕ). Takes w h c z i k) e u in
      ap (λ (z : List ℕ). played c p z n k s) (takes-once w h c m' i j k k' v u')
      ∙ (ap (λ (z : ℕ). played c p j z k s) (taken-once w h (other_of c) (set s.stones p c) m m' n n' t t')
      ∙ ap (λ (z : ℕ). played c p j n' z s) (taken-once w h c m' i j k k' v u'))

  pub steps-once : {s : Pos} {rest : List Act} {x y : Pos} → Steps w h s rest x → Steps w h s rest y → x ≡ y
  steps-once done done = refl
  steps-once {y} (next {s = s} {s' = m} {a = a} {rest = rest} t ts) (next {s' = m'} t' ts') =
      steps-once ts (subst (λ (z : Pos). Steps w h z rest y) (sym (step-once s a m m' t t')) ts')
