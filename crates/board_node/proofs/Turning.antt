-- Steps of a node one after another. Assumes nothing.
use Rattle.lists.proofs.Prelude.{ℕ, zero, suc, ◌<◌, Bool, true, false, true≢false, ◌&&◌, not, ◌≡◌, refl, sym, ap, ap₂, ◌∙◌, subst, List, [], ◌∷◌, ◌++◌, append_assoc, append-nil, length, length-set, get_or, set, replicate, length-replicate, get_or-set_same, get_or-set_other, arith, lt-ltb, eq-eqb, ne_eqb}
use Rattle.lists.proofs.Tests.{same_or}
use Rattle.board_groups.specs.Board.{on_board}
use Rattle.board_groups.proofs.Beside.{board-on}
use Rattle.board_play.specs.Play.{Player, settable, playable}
use Rattle.board_play.specs.Steps.{Act, sets, plays}
use Rattle.board_acts.specs.Acts.{pos_of, StepBy, StepsBy, done-by, next-by}
use Rattle.board_acts.specs.declared.BoardState.{BoardState}
use Rattle.board_node.specs.Node.{among, right_acts}
use Rattle.board_node.specs.LocalsTurn.{right_by, LeadsOn, TurnIs}

module _ (w h : ℕ) where
  pub turn-none : (m : List Bool) (b : List ℕ) (s : BoardState) → TurnIs w h [] m b s m b s false
  turn-none m b s = record { stops = λ e. absurd (true≢false (sym e)); leads = λ e. record { on = λ tail. record { ok = refl; goes = λ u r x. x } } }

  pub turn-same : {mine next : List Act} {m : List Bool} {b : List ℕ} {s : BoardState} {m1 : List Bool} {b1 : List ℕ} {s1 : BoardState} {v : Bool} → mine ≡ next
      → TurnIs w h mine m b s m1 b1 s1 v → TurnIs w h next m b s m1 b1 s1 v
  turn-same {mine} {next} {m} {b} {s} {m1} {b1} {s1} {v} e x = subst (λ (k : List Act). TurnIs w h k m b s m1 b1 s1 v) e x

  pub leads-self : (all : List Act) (m : List Bool) (b : List ℕ) (s : BoardState) → LeadsOn w h all all m b s m b s
  leads-self all m b s = record { on = λ tail. record { ok = refl; goes = λ u r x. x } }

  opened : (left mine rest tail : List Act) → left ≡ mine ++ rest → left ++ tail ≡ mine ++ (rest ++ tail)
  opened left mine rest tail e = ap (λ (z : List Act). z ++ tail) e ∙ append_assoc mine rest tail

  module _ {all left mine : List Act} (rest : List Act) {m : List Bool} {b : List ℕ} {s : BoardState} {m1 : List Bool} {b1 : List ℕ} {s1 : BoardState} {m2 : List Bool} {b2 : List ℕ} {s2 : BoardState} {v : Bool} (e : left ≡ mine ++ rest) (x : LeadsOn w h all left m b s m1 b1 s1) (y : TurnIs w h mine m1 b1 s1 m2 b2 s2 v) where
    pub leads-then : v ≡ false → LeadsOn w h all rest m b s m2 b2 s2
    leads-then not-refused =
        record {
          on = λ tail.
              let f = x.on tail in
              let g = (y.leads not-refused).on (rest ++ tail) in
              let o = opened left mine rest tail e in
              record {
                ok = f.ok ∙ (ap (right_by w h m1) o ∙ g.ok);
                goes = λ u r z. f.goes u r (subst (λ (k : List Act). StepsBy w h s1.settled (pos_of b1 s1) k u r) (sym o) (g.goes u r z));
              };
        }

    pub leads-stop : v ≡ true → TurnIs w h all m b s m2 b2 s2 v
    leads-stop is-refused =
        record {
          stops = λ f tail. (x.on tail).ok ∙ (ap (right_by w h m1) (opened left mine rest tail e) ∙ y.stops is-refused (rest ++ tail));
          leads = λ f. absurd (true≢false (sym is-refused ∙ f));
        }

  pub leads-same : {all left next : List Act} {m : List Bool} {b : List ℕ} {s : BoardState} {m1 : List Bool} {b1 : List ℕ} {s1 : BoardState} → left ≡ next
      → LeadsOn w h all left m b s m1 b1 s1 → LeadsOn w h all next m b s m1 b1 s1
  leads-same {all} {left} {next} {m} {b} {s} {m1} {b1} {s1} e x = subst (λ (k : List Act). LeadsOn w h all k m b s m1 b1 s1) e x

  pub leads-end : {all left : List Act} {m : List Bool} {b : List ℕ} {s : BoardState} {m1 : List Bool} {b1 : List ℕ} {s1 : BoardState} → left ≡ []
      → LeadsOn w h all left m b s m1 b1 s1 → TurnIs w h all m b s m1 b1 s1 false
  leads-end {all} {left} {m} {b} {s} {m1} {b1} {s1} e x =
      record { stops = λ f. absurd (true≢false (sym f)); leads = λ f. subst (λ (k : List Act). LeadsOn w h all k m b s m1 b1 s1) e x }

  -- one act
  module _ (c p : ℕ) (m : List Bool) (b : List ℕ) (s : BoardState) (b' : List ℕ) (s' : BoardState) where
    pub set-off : on_board w h p ≡ false → TurnIs w h (sets c p ∷ []) m b s m b' s' true
    set-off off =
        record { stops = λ e tail. ap (λ (t : Bool). (t && not (get_or m p false)) && right_by w h (set m p true) tail) off; leads = λ e. absurd (true≢false e) }

    pub set_twice : on_board w h p ≡ true → get_or m p false ≡ true → TurnIs w h (sets c p ∷ []) m b s m b' s' true
    set_twice on seen =
        record {
          stops = λ e tail. ap₂ (λ (t u : Bool). (t && not u) && right_by w h (set m p true) tail) on seen;
          leads = λ e. absurd (true≢false e);
        }

    pub set-done : on_board w h p ≡ true → get_or m p false ≡ false → StepBy w h s.settled (pos_of b s) (sets c p) s'.settled (pos_of b' s')
        → TurnIs w h (sets c p ∷ []) m b s (set m p true) b' s' false
    set-done on seen x =
        record {
          stops = λ e. absurd (true≢false (sym e));
          leads = λ e.
              record {
                on = λ tail.
                    record { ok = ap₂ (λ (t u : Bool). (t && not u) && right_by w h (set m p true) tail) on seen; goes = λ u r y. next-by x y };
              };
        }

    pub play-off : on_board w h p ≡ false → TurnIs w h (plays c p ∷ []) m b s m b' s' true
    play-off off = record { stops = λ e tail. ap (λ (t : Bool). t && right_by w h m tail) off; leads = λ e. absurd (true≢false e) }

    pub play-done : on_board w h p ≡ true → StepBy w h s.settled (pos_of b s) (plays c p) s'.settled (pos_of b' s')
        → TurnIs w h (plays c p ∷ []) m b s m b' s' false
    play-done on x =
        record {
          stops = λ e. absurd (true≢false (sym e));
          leads = λ e. record { on = λ tail. record { ok = ap (λ (t : Bool). t && right_by w h m tail) on; goes = λ u r y. next-by x y } };
        }

  -- what can be set and played
  pub settable-made : (c p : ℕ) → c < 3 → on_board w h p ≡ true → settable w h c p ≡ true
  unfolding settable
  settable-made c p l on = rw (lt-ltb c 3 l, on)

  pub playable-made : (c p : ℕ) → Player c → on_board w h p ≡ true → playable w h c p ≡ true
  unfolding playable
  playable-made c p player on =
      same_or c 1 (λ e. rw (eq-eqb c 1 e, on))
      (λ n. let m = player.most in let l = player.least in let e : c ≡ 2 = omega arith in rw (ne_eqb c 1 n, eq-eqb c 2 e, on))

  -- marks stand at the places that were set
  record Seen (m : List Bool) (before : List ℕ) : Type 0 where
    pub long : length m ≡ 2704
    pub at : (q : ℕ) → get_or m q false ≡ among q before

  seen_more : (m : List Bool) (before : List ℕ) (p : ℕ) → p < 2704 → Seen m before → Seen (set m p true) (p ∷ before)
  seen_more m before p l x =
      record {
        long = length-set m p true ∙ x.long;
        at = λ q. same_or q p
            (λ e. let k : p < length m = omega (arith, x.long) in ap (λ (z : ℕ). get_or (set m p true) z false) e ∙ (get_or-set_same m p true false k ∙ sym (rw (eq-eqb q p e))))
            (λ n. get_or-set_other m p q true false n ∙ (x.at q ∙ sym (rw (ne_eqb q p n))));
      }

  by-marks : (acts : List Act) (m : List Bool) (before : List ℕ) → Seen m before → right_by w h m acts ≡ right_acts w h before acts
  by-marks [] m before x = refl
  by-marks (sets c p ∷ rest) m before x =
      let k : get_or m p false ≡ among p before = x.at p in go (on_board w h p) refl (by-marks rest (set m p true) (p ∷ before)) k
    where
      go : (t : Bool) → on_board w h p ≡ t → (Seen (set m p true) (p ∷ before) → right_by w h (set m p true) rest ≡ right_acts w h (p ∷ before) rest)
          → get_or m p false ≡ among p before
          → ((t && not (get_or m p false)) && right_by w h (set m p true) rest) ≡ ((t && not (among p before)) && right_acts w h (p ∷ before) rest)
      go true on f k = ap₂ (λ (u v : Bool). not u && v) k (f (seen_more m before p (board-on w h p on).place x))
      go false on f k = refl
  by-marks (plays c p ∷ rest) m before x = ap (λ (u : Bool). on_board w h p && u) (by-marks rest m before x)

  none-marked : (n q : ℕ) → get_or (replicate n false) q false ≡ false
  none-marked zero q = refl
  none-marked (suc n) zero = refl
  none-marked (suc n) (suc q) = none-marked n q

  pub marks-none : (acts : List Act) → right_by w h (replicate 2704 false) acts ≡ right_acts w h [] acts
  marks-none acts = by-marks acts (replicate 2704 false) [] (record { long = length-replicate {A = Bool} 2704 false; at = λ q. none-marked 2704 q })

  -- setup and moves together
  module _ {setups : List Act} (moves : List Act) {m : List Bool} {b : List ℕ} {s : BoardState} {m1 : List Bool} {b1 : List ℕ} {s1 : BoardState} {v : Bool} (x : TurnIs w h setups m b s m1 b1 s1 v) where
    pub both-stop : v ≡ true → right_by w h m (setups ++ moves) ≡ false
    both-stop e = x.stops e moves

    module _ {b2 : List ℕ} {s2 : BoardState} {u : Bool} (go_on : v ≡ false) (y : TurnIs w h moves m1 b1 s1 m1 b2 s2 u) where
      pub then-stop : u ≡ true → right_by w h m (setups ++ moves) ≡ false
      then-stop e = ((x.leads go_on).on moves).ok ∙ (ap (right_by w h m1) (sym (append-nil moves)) ∙ y.stops e [])

      pub both_right : u ≡ false → right_by w h m (setups ++ moves) ≡ true
      both_right ok = ((x.leads go_on).on moves).ok ∙ (ap (right_by w h m1) (sym (append-nil moves)) ∙ ((y.leads ok).on []).ok)

      pub both-steps : u ≡ false → StepsBy w h s.settled (pos_of b s) (setups ++ moves) s2.settled (pos_of b2 s2)
      both-steps ok =
          ((x.leads go_on).on moves).goes s2.settled (pos_of b2 s2)
          (subst (λ (k : List Act). StepsBy w h s1.settled (pos_of b1 s1) k s2.settled (pos_of b2 s2)) (append-nil moves)
          (((y.leads ok).on []).goes s2.settled (pos_of b2 s2) done-by))
