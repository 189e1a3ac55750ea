-- Acts upon a board whose settledness is known or not: a move on a settled board looks for captures near itself alone.
use Rattle.std.specs.Prelude.{set, ◌≡◌, ◌∷◌}
use Rattle.lists.specs.Prelude.{ℕ, Bool, true, false, List, [], eqb, pick}
use Rattle.board_groups.specs.Groups.{Takes, TakesBeside, TakesGroup, Settled}
use Rattle.board_play.specs.Play.{other_of, settable, playable}
use Rattle.board_play.specs.Steps.{Pos, Act, sets, plays, one_if, sum_up_to, puts, played}
use Rattle.board_acts.specs.declared.BoardState.{BoardState}
use Rattle.board_acts.specs.declared.Sums.{Sums}

-- the position that stones and sums are
abbrev pub pos_of : List ℕ → BoardState → Pos
pos_of b s =
    record { stones = b; black = record { on = s.black.on; off = s.black.off }; white = record { on = s.white.on; off = s.white.off } }

-- the sums of colour x where c was set in place of `stood`
abbrev pub set_sums : (x c stood : ℕ) → Sums → Sums
set_sums x c stood s =
    record { on = sum_up_to s.on (pick (eqb stood c) 0 (one_if c x)); off = sum_up_to s.off (pick (eqb stood c) 0 (one_if stood x)) }

-- the sums of colour x where a stone of colour c took n stones and k of its own
abbrev pub take_sums : (x c n k : ℕ) → Sums → Sums
take_sums x c n k s = record { on = s.on; off = sum_up_to s.off (pick (eqb x c) k n) }

-- of both colours, where c was set
abbrev pub set_counts : (c stood : ℕ) → BoardState → BoardState
set_counts c stood s = record { black = set_sums 1 c stood s.black; white = set_sums 2 c stood s.white; settled = false }

-- of both colours, where a stone was played
abbrev pub take_counts : (c n k : ℕ) → BoardState → BoardState
take_counts c n k s = record { black = take_sums 1 c n k s.black; white = take_sums 2 c n k s.white; settled = true }

-- one act; the flags: whether the board was, and is, known to be settled
pub data StepBy (w h : ℕ) : Bool → Pos → Act → Bool → Pos → Type 0 where
  set-by : {t : Bool} {s : Pos} {c p : ℕ} → settable w h c p ≡ true → StepBy w h t s (sets c p) false (puts c p s)
  whole_by : {s : Pos} {c p : ℕ} {between b' : List ℕ} {n k : ℕ} → playable w h c p ≡ true
      → Takes w h (other_of c) (set s.stones p c) between n → Takes w h c between b' k → StepBy w h false s (plays c p) true (played c p b' n k s)
  near_by : {s : Pos} {c p : ℕ} {between b' : List ℕ} {n k : ℕ} → playable w h c p ≡ true
      → TakesBeside w h (other_of c) p (set s.stones p c) between n → TakesGroup w h c p between b' k
      → StepBy w h true s (plays c p) true (played c p b' n k s)

-- acts one after another
pub data StepsBy (w h : ℕ) : Bool → Pos → List Act → Bool → Pos → Type 0 where
  done-by : {t : Bool} {s : Pos} → StepsBy w h t s [] t s
  next-by : {t t' t'' : Bool} {s s' s'' : Pos} {a : Act} {rest : List Act} → StepBy w h t s a t' s' → StepsBy w h t' s' rest t'' s''
      → StepsBy w h t s (a ∷ rest) t'' s''

-- an act that cannot be done changes nothing; else it is done
pub record BoardActIs (can : Bool) (w h : ℕ) (a : Act) (b : List ℕ) (s : BoardState) (b' : List ℕ) (s' : BoardState) : Type 0 where
  pub not_done : can ≡ false → (b' ≡ b) × (s' ≡ s)
  pub act : can ≡ true → StepBy w h s.settled (pos_of b s) a s'.settled (pos_of b' s')

-- black and white stones have liberties, where the flag says so
abbrev pub KnownSettled : (w h : ℕ) → Bool → List ℕ → Type 0
KnownSettled w h t b = t ≡ true → Settled w h b 1 × Settled w h b 2
