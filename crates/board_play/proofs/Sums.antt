-- Stones conserved over acts one after another: put on is standing and taken off. Assumes nothing.
use Rattle.lists.proofs.Prelude.{◌⊎◌, inl, inr, ⊎_elim, true≢false, ℕ, zero, suc, ◌+◌, ◌<◌, Bool, true, false, ◌≡◌, refl, sym, ap, ◌∙◌, subst, List, [], ◌∷◌, replicate, length-replicate, length, length-set, set, eqb, pick, arith, eq-eqb, ne_eqb, eqb-true}
use Rattle.lists.proofs.Tests.{same_or}
use Rattle.board_groups.specs.Board.{at, standing}
use Rattle.board_groups.specs.Groups.{Takes}
use Rattle.board_groups.proofs.Count.{one, standing-set, standing-alike}
use Rattle.board_play.specs.Play.{Player, other_of, settable, playable, SetIs, Plays}
use Rattle.board_play.specs.Steps.{Sum, sum_most, sum_up_to, Pos, Act, sets, plays, one_if, sum_put, sum_off, puts, played, Step, set-step, play-step, Steps, done, next, empty_pos, Even, SumsRight, differing}
use Rattle.board_play.proofs.Playing.{playable-player, playable-place, settable-place}

-- taking stones of one colour leaves the number of another
takes-others : (w h o c : ℕ) (b b' : List ℕ) (n : ℕ) → (o ≡ c → ⊥) → (c ≡ 0 → ⊥) → Takes w h o b b' n → standing c b' ≡ standing c b
takes-others w h o c b b' n differ colour t =
    standing-alike c b b' t.as_long
    (λ p. ⊎_elim
    (λ y.
    let gone : eqb (at b' p) c ≡ false = ne_eqb (at b' p) c (λ e. colour (sym e ∙ y.1)) in
    let was : eqb (at b p) c ≡ false = ne_eqb (at b p) c (λ e. differ (sym y.0.stone.is ∙ e)) in
    gone ∙ sym was)
    (λ y. ap (λ (z : ℕ). eqb z c) y.1)
    (t.each p))

put-even : (x c p : ℕ) (b : List ℕ) (s : Sum) → p < length b → Even x b s → Even x (set b p c) (sum_put x c (at b p) s)
put-even x c p b s l e = go (eqb (at b p) c) refl
  where
    go : (t : Bool) → eqb (at b p) c ≡ t → sum_up_to s.on (pick t 0 (one_if c x)) < sum_most
        → sum_up_to s.on (pick t 0 (one_if c x)) ≡ standing x (set b p c) + sum_up_to s.off (pick t 0 (one_if (at b p) x))
    go true f m =
        let k : one (at b p) x ≡ one c x = ap (λ (z : ℕ). one z x) (eqb-true (at b p) c f) in
        let below : s.on < sum_most = omega arith in
        omega (arith, standing-set x c b p l, e below)
    go false f m = let below : s.on < sum_most = omega arith in omega (arith, standing-set x c b p l, e below)

take-even : (w h x c : ℕ) (b m b' : List ℕ) (n k : ℕ) (s : Sum) → Player x → Player c → Takes w h (other_of c) b m n → Takes w h c m b' k → Even x b s
    → Even x b' (sum_off x c n k s)
take-even w h x c b m b' n k s px pc t u ev below =
    let e = ev below in
    let lx = px.least in
    let mx = px.most in
    let lc = pc.least in
    let mc = pc.most in
    same_or x c
    (λ q.
    let z : pick {A = ℕ} (eqb x c) k n ≡ k = ap (λ (v : Bool). pick {A = ℕ} v k n) (eq-eqb x c q) in
    let i : standing c b ≡ k + standing c b' = omega (arith, takes-others w h (other_of c) c b m n (λ y. omega arith) (λ y. omega arith) t, u.many) in
    let j : standing x b ≡ k + standing x b' = subst (λ (y : ℕ). standing y b ≡ k + standing y b') (sym q) i in
    omega arith)
    (λ q.
    let z : pick {A = ℕ} (eqb x c) k n ≡ n = ap (λ (v : Bool). pick {A = ℕ} v k n) (ne_eqb x c q) in
    let o : x ≡ other_of c = omega arith in
    let i : standing (other_of c) b ≡ n + standing (other_of c) b' =
    omega (arith, takes-others w h c (other_of c) m b' k (λ y. omega arith) (λ y. omega arith) u, t.many) in
    let j : standing x b ≡ n + standing x b' = subst (λ (y : ℕ). standing y b ≡ n + standing y b') (sym o) i in
    omega arith)

black : Player 1
black = record { most = omega arith; least = omega arith }

white : Player 2
white = record { most = omega arith; least = omega arith }

module _ (w h : ℕ) where
  pub step-balanced : (s : Pos) (a : Act) (s' : Pos) → Step w h s a s' → SumsRight s → SumsRight s'
  step-balanced s (sets c p) s' (set-step on) x =
      let l : p < length s.stones = omega (arith, x.long, settable-place w h c p on) in
      record {
        long = length-set s.stones p c ∙ x.long;
        black-even = put-even 1 c p s.stones s.black l x.black-even;
        white-even = put-even 2 c p s.stones s.white l x.white-even;
      }
  step-balanced s (plays c p) s' (play-step {between = m} {b' = b'} {n = n} {k = k} on t u) x =
      let l : p < length s.stones = omega (arith, x.long, playable-place w h c p on) in
      let pc : Player c = playable-player w h c p on in
      record {
        long = u.as_long ∙ (t.as_long ∙ (length-set s.stones p c ∙ x.long));
        black-even =
            take-even w h 1 c (set s.stones p c) m b' n k (sum_put 1 c (at s.stones p) s.black) black pc t u
            (put-even 1 c p s.stones s.black l x.black-even);
        white-even =
            take-even w h 2 c (set s.stones p c) m b' n k (sum_put 2 c (at s.stones p) s.white) white pc t u
            (put-even 2 c p s.stones s.white l x.white-even);
      }

  pub stones-conserved : {s s' : Pos} {rest : List Act} → Steps w h s rest s' → SumsRight s → SumsRight s'
  stones-conserved done x = x
  stones-conserved (next {s = s} {s' = s'} {a = a} t ts) x = stones-conserved ts (step-balanced s a s' t x)

  -- what `play_stone` promises is one act, where the stone can be played
  pub plays-step : (s : Pos) (c p : ℕ) (b' : List ℕ) (n k : ℕ) → playable w h c p ≡ true → Plays w h c p s.stones b' n k
      → Step w h s (plays c p) (played c p b' n k s)
  plays-step s c p b' n k on x = play-step on x.first x.second

  -- and so is what `set_stone` promises, where that can be set
  pub sets-step : (s : Pos) (c p : ℕ) (b' : List ℕ) (stood : ℕ) → settable w h c p ≡ true → SetIs c p s.stones b' stood
      → (b' ≡ (puts c p s).stones) × (stood ≡ at s.stones p) × Step w h s (sets c p) (puts c p s)
  sets-step s c p b' stood on x = let y = x.within (settable-place w h c p on) in (y.1, y.0, set-step on)

none-stand : (x n : ℕ) → (x ≡ 0 → ⊥) → standing x (replicate n 0) ≡ 0
none-stand x zero f = refl
none-stand x (suc n) f = rw (ne_eqb 0 x (λ e. f (sym e))) (none-stand x n f)

pub empty-balanced : SumsRight empty_pos
empty-balanced =
    record {
      long = length-replicate {A = ℕ} 2704 0;
      black-even = λ m. sym (ap (λ (n : ℕ). n + 0) (none-stand 1 2704 (λ e. omega arith)));
      white-even = λ m. sym (ap (λ (n : ℕ). n + 0) (none-stand 2 2704 (λ e. omega arith)));
    }

-- the stones taken are as many as the places that changed
takes-change : (c : ℕ) (b b' : List ℕ) → (c ≡ 0 → ⊥) → length b' ≡ length b
    → ((p : ℕ) → ((at b p ≡ c) × (at b' p ≡ 0)) ⊎ (at b' p ≡ at b p)) → standing c b ≡ differing b b' + standing c b'
takes-change c [] [] some l f = refl
takes-change c [] (y ∷ b') some l f = absurd (omega arith)
takes-change c (x ∷ b) [] some l f = absurd (omega arith)
takes-change c (x ∷ b) (y ∷ b') some l f =
    let rest : standing c b ≡ differing b b' + standing c b' = takes-change c b b' some (omega arith) (λ p. f (suc p)) in
    ⊎_elim
    (λ (z : (x ≡ c) × (y ≡ 0)).
    let e : eqb x c ≡ true = eq-eqb x c z.0 in
    let g : eqb y c ≡ false = ne_eqb y c (λ k. some (sym k ∙ z.1)) in
    let d : eqb y x ≡ false = ne_eqb y x (λ k. some (sym z.0 ∙ (sym k ∙ z.1))) in
    rw (e, g, d) (omega arith))
    (λ (z : y ≡ x).
    let d : eqb y x ≡ true = eq-eqb y x z in
    rw d (go (eqb y c) (eqb x c) (ap (λ (k : ℕ). eqb k c) z) rest))
    (f 0)
  where
    go : (s t : Bool) → s ≡ t → standing c b ≡ differing b b' + standing c b'
        → pick t (suc (standing c b)) (standing c b) ≡ differing b b' + pick s (suc (standing c b')) (standing c b')
    go true true e r = omega arith
    go false false e r = r
    go true false e r = absurd (true≢false e)
    go false true e r = absurd (true≢false (sym e))

pub taken-counted : (w h c : ℕ) (b b' : List ℕ) (n : ℕ) → (c ≡ 0 → ⊥) → Takes w h c b b' n → n ≡ differing b b'
taken-counted w h c b b' n some t =
    omega
    (arith, t.many, takes-change c b b' some t.as_long (λ p. ⊎_elim (λ z. inl (z.0.stone.is, z.1)) (λ z. inr z.1) (t.each p)))
