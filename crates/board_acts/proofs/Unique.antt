-- No second answer of a public function: two boards and sums that meet its contract are equal. Assumes nothing.
use Rattle.lists.proofs.Prelude.{ℕ, Bool, true, false, ◌≡◌, refl, sym, ap, ap₂, ◌∙◌, List}
use Rattle.board_play.specs.Steps.{Sum, Pos, Act}
use Rattle.board_acts.specs.Acts.{pos_of, BoardActIs}
use Rattle.board_acts.specs.declared.Sums.{Sums}
use Rattle.board_acts.specs.declared.BoardState.{BoardState}
use Rattle.board_acts.proofs.Exact.{step-by-once}

sums-of : Sum → Sums
sums-of s = record { on = s.on; off = s.off }

-- equal positions and flags are equal boards and sums
pub pos-once : (b c : List ℕ) (s t : BoardState) → s.settled ≡ t.settled → pos_of b s ≡ pos_of c t → (b ≡ c) × (s ≡ t)
unfolding sums-of
pos-once b c s t e f = (ap (λ (p : Pos). p.stones) f, ap₂ (λ (p : Pos) (v : Bool). record { black = sums-of p.black; white = sums-of p.white; settled = v }) f e)

module _ (can : Bool) (w h : ℕ) (a : Act) (b : List ℕ) (s : BoardState) (x y : List ℕ) (m n : BoardState) where
  -- of set_act and play_act
  pub act-once : BoardActIs can w h a b s x m → BoardActIs can w h a b s y n → (x ≡ y) × (m ≡ n)
  act-once f g = go can refl
    where
      go : (t : Bool) → can ≡ t → (x ≡ y) × (m ≡ n)
      go true e = let o = step-by-once w h (f.act e) (g.act e) in pos-once x y m n o.0 o.1
      go false e = let i = f.not_done e in let j = g.not_done e in (i.0 ∙ sym j.0, i.1 ∙ sym j.1)
