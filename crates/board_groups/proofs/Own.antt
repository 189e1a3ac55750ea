-- Of the mover's own groups on a settled board only the one of the move can have no liberty; what is settled stays so. Assumes nothing.
use Rattle.lists.proofs.Prelude.{ℕ, true, ◌⊎◌, inl, inr, ⊎_elim, ◌≡◌, sym, ◌∙◌, subst, List}
use Rattle.lists.proofs.Tests.{same_or}
use Rattle.board_groups.specs.Board.{at, beside}
use Rattle.board_groups.specs.Groups.{Stone, Joined, self, more, Liberty, Takes, TakesGroup, Settled}
use Rattle.board_groups.proofs.Others.{joined-sym}

-- taking stones of colour o keeps those of another colour and the empty points
module _ (w h o c : ℕ) (b b' : List ℕ) (n : ℕ) (differ : o ≡ c → ⊥) (t : Takes w h o b b' n) where
  keeps : {r : ℕ} → Stone w h b c r → Stone w h b' c r
  keeps {r} s = record { on = s.on; is = ⊎_elim (λ y. absurd (differ (sym y.0.stone.is ∙ s.is))) (λ y. y.1 ∙ s.is) (t.each r) }

  keeps-empty : {r : ℕ} → Stone w h b 0 r → Stone w h b' 0 r
  keeps-empty {r} s = record { on = s.on; is = ⊎_elim (λ y. y.1) (λ y. y.1 ∙ s.is) (t.each r) }

  stood : {r : ℕ} → (c ≡ 0 → ⊥) → Stone w h b' c r → Stone w h b c r
  stood {r} colour s = record { on = s.on; is = ⊎_elim (λ y. absurd (colour (sym s.is ∙ y.1))) (λ y. sym y.1 ∙ s.is) (t.each r) }

  keeps-joined : {q r : ℕ} → Joined w h b c q r → Joined w h b' c q r
  keeps-joined (self s) = self (keeps s)
  keeps-joined (more j e s) = more (keeps-joined j) e (keeps s)

  pub settled-stays : (c ≡ 0 → ⊥) → Settled w h b c → Settled w h b' c
  settled-stays colour set r s =
      let l = set r (stood colour s) in
      record { stone = l.stone; point = l.point; joined = keeps-joined l.joined; near = l.near; empty = keeps-empty l.empty }

module _ (w h c o p : ℕ) (b b1 b2 : List ℕ) (n : ℕ) (differ : o ≡ c → ⊥) (colour : c ≡ 0 → ⊥) (here : Stone w h b1 c p)
    (other : (r : ℕ) → (r ≡ p → ⊥) → at b1 r ≡ at b r) (set : Settled w h b c) (t : Takes w h o b1 b2 n) where
  put : {r : ℕ} → Stone w h b c r → Stone w h b1 c r
  put {r} s = record { on = s.on; is = same_or r p (λ e. subst (λ (z : ℕ). at b1 z ≡ c) (sym e) here.is) (λ e. other r e ∙ s.is) }

  put-joined : {q r : ℕ} → Joined w h b c q r → Joined w h b1 c q r
  put-joined (self s) = self (put s)
  put-joined (more j e s) = more (put-joined j) e (put s)

  -- a stone of the mover has a liberty, or is of the group of p
  own-or : (r : ℕ) → Stone w h b2 c r → Liberty w h b2 c r ⊎ Joined w h b2 c p r
  own-or r s = same_or r p
      (λ e. inr (subst (λ (z : ℕ). Joined w h b2 c p z) (sym e) (self (keeps w h o c b1 b2 n differ t here))))
      (λ e.
      let s1 = stood w h o c b1 b2 n differ t colour s in
      let l = set r (record { on = s.on; is = sym (other r e) ∙ s1.is }) in
      let j = keeps-joined w h o c b1 b2 n differ t (put-joined l.joined) in
      same_or l.point p
      (λ f. inr (joined-sym (more j (subst (λ (z : ℕ). beside l.stone z ≡ true) f l.near) (keeps w h o c b1 b2 n differ t here))))
      (λ f.
      inl
      (record {
        stone = l.stone;
        point = l.point;
        joined = j;
        near = l.near;
        empty = keeps-empty w h o c b1 b2 n differ t (record { on = l.empty.on; is = other l.point f ∙ l.empty.is });
      })))

  -- so what is taken of the group of p is all that is taken
  pub own-takes : (b3 : List ℕ) (k : ℕ) → TakesGroup w h c p b2 b3 k → Takes w h c b2 b3 k
  own-takes b3 k x =
      record {
        as_long = x.as_long;
        each = λ r. ⊎_elim (λ y. inl (y.0.0, y.1)) (λ y. inr ((λ s. ⊎_elim (λ l. l) y.0 (own-or r s)), y.1)) (x.each r);
        many = x.many;
      }
