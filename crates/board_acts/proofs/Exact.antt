-- Acts near the move are the acts, where the flag tells the truth; and no second answer. Assumes nothing.
use Rattle.lists.proofs.Prelude.{ℕ, Bool, true, true≢false, ◌≡◌, refl, sym, ap, ◌∙◌, subst, List, length, set, length-set, arith}
use Rattle.lists.proofs.Tests.{same_or}
use Rattle.board_groups.specs.Groups.{Takes, TakesOf, Joined, Touches, Settled}
use Rattle.board_groups.proofs.Once.{takes-once, taken-once, takes-of-once}
use Rattle.board_play.specs.Play.{Player, other_of, playable, Plays}
use Rattle.board_play.specs.Steps.{Pos, Act, played, Step, set-step, play-step, Steps, done, next}
use Rattle.board_play.proofs.Acts.{settled-plays, near-acts}
use Rattle.board_play.proofs.Playing.{playable-player, playable-board}
use Rattle.board_acts.specs.Acts.{StepBy, set-by, whole_by, near_by, StepsBy, done-by, next-by, KnownSettled}

-- for a player c, black and white are c and the other
module _ (w h : ℕ) (b : List ℕ) (c : ℕ) (player : Player c) where
  both-mine : Settled w h b 1 × Settled w h b 2 → Settled w h b c × Settled w h b (other_of c)
  both-mine x =
      same_or c 1
      (λ e. (subst (Settled w h b) (sym e) x.0, let o : 2 ≡ other_of c = omega arith in subst (Settled w h b) o x.1))
      (λ n.
      let m = player.most in
      let l = player.least in
      let e : 2 ≡ c = omega arith in
      let o : 1 ≡ other_of c = omega arith in
      (subst (Settled w h b) e x.1, subst (Settled w h b) o x.0))

  mine-both : Settled w h b c × Settled w h b (other_of c) → Settled w h b 1 × Settled w h b 2
  mine-both x =
      same_or c 1
      (λ e. (subst (Settled w h b) e x.0, let o : other_of c ≡ 2 = omega arith in subst (Settled w h b) o x.1))
      (λ n.
      let m = player.most in
      let l = player.least in
      let e : c ≡ 2 = omega arith in
      let o : other_of c ≡ 1 = omega arith in
      (subst (Settled w h b) o x.1, subst (Settled w h b) e x.0))

module _ (w h : ℕ) where
  -- what an act by the flag is: the act, with as many places, and a flag that tells the truth
  pub record Exact (s : Pos) (a : Act) (t' : Bool) (s' : Pos) : Type 0 where
    pub step : Step w h s a s'
    pub long : length s'.stones ≡ 2704
    pub known : KnownSettled w h t' s'.stones

  -- what acts by the flag are
  pub record ExactAll (s : Pos) (rest : List Act) (t' : Bool) (s' : Pos) : Type 0 where
    pub steps : Steps w h s rest s'
    pub long : length s'.stones ≡ 2704
    pub known : KnownSettled w h t' s'.stones

  whole : (c p : ℕ) (b b' : List ℕ) (n k : ℕ) → playable w h c p ≡ true → Plays w h c p b b' n k → KnownSettled w h true b'
  whole c p b b' n k on x e = mine-both w h b' c (playable-player w h c p on) (settled-plays w h c p b b' n k (playable-player w h c p on) x)

  pub step-exact : {t : Bool} {s : Pos} {a : Act} {t' : Bool} {s' : Pos} → StepBy w h t s a t' s' → length s.stones ≡ 2704
      → KnownSettled w h t s.stones → Exact s a t' s'
  step-exact (set-by {s = s} {c = c} {p = p} on) long known =
      record { step = set-step on; long = length-set s.stones p c ∙ long; known = λ e. absurd (true≢false (sym e)) }
  step-exact (whole_by {s = s} {c = c} {p = p} {between = m} {b' = b'} {n = n} {k = k} on x y) long known =
      record {
        step = play-step on x y;
        long = y.as_long ∙ (x.as_long ∙ (length-set s.stones p c ∙ long));
        known = whole c p s.stones b' n k on (record { between = m; first = x; second = y });
      }
  step-exact (near_by {s = s} {c = c} {p = p} {between = m} {b' = b'} {n = n} {k = k} on x y) long known =
      let player = playable-player w h c p on in
      let sides = both-mine w h s.stones c player (known refl) in
      let z : Plays w h c p s.stones b' n k =
      near-acts w h c p s.stones b' n k player (playable-board w h c p on) sides.0 sides.1 (record { between = m; first = x; second = y }) in
      record {
        step = play-step on z.first z.second;
        long = y.as_long ∙ (x.as_long ∙ (length-set s.stones p c ∙ long));
        known = whole c p s.stones b' n k on z;
      }

  pub steps-exact : {t : Bool} {s : Pos} {rest : List Act} {t' : Bool} {s' : Pos} → StepsBy w h t s rest t' s' → length s.stones ≡ 2704
      → KnownSettled w h t s.stones → ExactAll s rest t' s'
  steps-exact done-by long known = record { steps = done; long = long; known = known }
  steps-exact (next-by x xs) long known =
      let e = step-exact x long known in
      let r = steps-exact xs e.long e.known in
      record { steps = next e.step r.steps; long = r.long; known = r.known }

  pub step-by-once : {t : Bool} {s : Pos} {a : Act} {u v : Bool} {x y : Pos} → StepBy w h t s a u x → StepBy w h t s a v y → (u ≡ v) × (x ≡ y)
  step-by-once (set-by e) (set-by f) = (refl, refl)
  step-by-once (whole_by {s = s} {c = c} {p = p} {between = m} {b' = i} {n = n} {k = k} on t u) (whole_by {between = m'} {b' = j} {n = n'} {k = k'} on' t' u') =
      let e : m ≡ m' = takes-once w h (other_of c) (set s.stones p c) m m' n n' t t' in
      let v : Takes w h c m' i k = subst (λ (z : List ℕ). Takes w h c z i k) e u in (
        refl,
        ap (λ (z : List ℕ). played c p z n k s) (takes-once w h c m' i j k k' v u')
            ∙ (ap (λ (z : ℕ). played c p j z k s) (taken-once w h (other_of c) (set s.stones p c) m m' n n' t t')
            ∙ ap (λ (z : ℕ). played c p j n' z s) (taken-once w h c m' i j k k' v u')),
      )
  step-by-once (near_by {s = s} {c = c} {p = p} {between = m} {b' = i} {n = n} {k = k} on t u) (near_by {between = m'} {b' = j} {n = n'} {k = k'} on' t' u') =
      let e = takes-of-once (Touches w h (set s.stones p c) (other_of c) p) w h (other_of c) (set s.stones p c) m m' n n' t t' in
      let v : TakesOf (Joined w h m' c p) w h c m' i k = subst (λ (z : List ℕ). TakesOf (Joined w h z c p) w h c z i k) e.0 u in
      let o = takes-of-once (Joined w h m' c p) w h c m' i j k k' v u' in
      (refl, ap (λ (z : List ℕ). played c p z n k s) o.0 ∙ (ap (λ (z : ℕ). played c p j z k s) e.1 ∙ ap (λ (z : ℕ). played c p j n' z s) o.1))

  pub steps-by-once : {t : Bool} {s : Pos} {rest : List Act} {u v : Bool} {x y : Pos} → StepsBy w h t s rest u x → StepsBy w h t s rest v y → (u ≡ v) × (x ≡ y)
  steps-by-once done-by done-by = (refl, refl)
  steps-by-once {v} {y} (next-by {t' = m} {s' = q} {rest = rest} z zs) (next-by {t' = m'} {s' = q'} z' zs') =
      let e = step-by-once z z' in
      steps-by-once zs (subst (λ (k : Bool). StepsBy w h k q rest v y) (sym e.0) (subst (λ (k : Pos). StepsBy w h m' k rest v y) (sym e.1) zs'))
