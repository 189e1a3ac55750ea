-- One group of a colour after another: what is taken of them all. Assumes nothing.
use Rattle.lists.proofs.Prelude.{ℕ, ◌+◌, ◌⊎◌, inl, inr, ⊎_elim, ◌≡◌, refl, sym, ◌∙◌, List, arith}
use Rattle.board_groups.specs.Board.{at}
use Rattle.board_groups.specs.Groups.{Stone, Joined, self, more, Liberty, TakesOf, TakesGroup}
use Rattle.board_groups.proofs.Others.{joined-sym, liberty-shared}

pub takes-of-none : (Q : ℕ → Type 0) (w h c : ℕ) (b : List ℕ) → ((r : ℕ) → Q r → ⊥) → TakesOf Q w h c b b 0
takes-of-none Q w h c b f = record { as_long = refl; each = λ r. inr ((λ x. absurd (f r x)), refl); many = omega arith }

pub takes-of-as : (Q R : ℕ → Type 0) (w h c : ℕ) (b b' : List ℕ) (n : ℕ) → ((r : ℕ) → Q r → R r) → ((r : ℕ) → R r → Q r) → TakesOf Q w h c b b' n
    → TakesOf R w h c b b' n
takes-of-as Q R w h c b b' n f g x =
    record {
      as_long = x.as_long;
      each = λ r. ⊎_elim (λ y. inl ((y.0.0, f r y.0.1), y.1)) (λ y. inr ((λ z. y.0 (g r z)), y.1)) (x.each r);
      many = x.many;
    }

module _ (Q : ℕ → Type 0) (w h c : ℕ) (b b1 b2 : List ℕ) (n k s : ℕ) (colour : c ≡ 0 → ⊥) (closed : (r t : ℕ) → Q r → Joined w h b c r t → Q t)
    (x : TakesOf Q w h c b b1 n) (t : TakesGroup w h c s b1 b2 k) where
  stood : (r : ℕ) → Stone w h b1 c r → Stone w h b c r
  stood r z = record { on = z.on; is = ⊎_elim (λ y. absurd (colour (sym z.is ∙ y.1))) (λ y. sym y.1 ∙ z.is) (x.each r) }

  stood-joined : {u r : ℕ} → Joined w h b1 c u r → Joined w h b c u r
  stood-joined {u} (self z) = self (stood u z)
  stood-joined (more {r = r} j e z) = more (stood-joined j) e (stood r z)

  stays : (r : ℕ) → Liberty w h b c r → at b1 r ≡ at b r
  stays r l = ⊎_elim (λ y. absurd (y.0.0.none l)) (λ y. y.1) (x.each r)

  live-joined : {u r : ℕ} → Liberty w h b c u → Joined w h b c u r → Joined w h b1 c u r
  live-joined {u} l (self z) = self (record { on = z.on; is = stays u l ∙ z.is })
  live-joined l (more {r = r} j e z) = more (live-joined l j) e (record { on = z.on; is = stays r (liberty-shared (more j e z) l) ∙ z.is })

  live : (u : ℕ) → Liberty w h b c u → Liberty w h b1 c u
  live u l =
      record {
        stone = l.stone;
        point = l.point;
        joined = live-joined l l.joined;
        near = l.near;
        empty = record { on = l.empty.on; is = ⊎_elim (λ y. y.1) (λ y. y.1 ∙ l.empty.is) (x.each l.point) };
      }

  module _ (r : ℕ) (f : Q r → Liberty w h b c r) where
    kept : (u : ℕ) → Joined w h b c r u → at b1 u ≡ at b u
    kept u j = ⊎_elim (λ y. absurd (y.0.0.none (liberty-shared j (f (closed u r y.0.1 (joined-sym j)))))) (λ y. y.1) (x.each u)

    way : {u : ℕ} → Joined w h b c r u → Joined w h b1 c r u
    way (self z) = self (record { on = z.on; is = kept r (self z) ∙ z.is })
    way (more {r = u} j e z) = more (way j) e (record { on = z.on; is = kept u (more j e z) ∙ z.is })

    back : Liberty w h b1 c r → Liberty w h b c r
    back l = ⊎_elim
        (λ y. f (closed l.point r y.0.1 (joined-sym (more (stood-joined l.joined) l.near y.0.0.stone))))
        (λ y.
        record {
          stone = l.stone;
          point = l.point;
          joined = stood-joined l.joined;
          near = l.near;
          empty = record { on = l.empty.on; is = sym y.1 ∙ l.empty.is };
        })
        (x.each l.point)

  pub takes-of-more : TakesOf (λ r. Q r ⊎ Joined w h b c s r) w h c b b2 (n + k)
  takes-of-more =
      record {
        as_long = t.as_long ∙ x.as_long;
        each = λ r. ⊎_elim
            (λ y. inl ((y.0.0, inl y.0.1), ⊎_elim (λ z. z.1) (λ z. z.1 ∙ y.1) (t.each r)))
            (λ y. ⊎_elim
            (λ z. inl ((record { stone = stood r z.0.0.stone; none = λ l. z.0.0.none (live r l) }, inr (stood-joined z.0.1)), z.1))
            (λ z. inr ((λ q. ⊎_elim y.0 (λ j. back r y.0 (z.0 (joined-sym (way r y.0 (joined-sym j))))) q), z.1 ∙ y.1))
            (t.each r))
            (x.each r);
        many = omega (arith, x.many, t.many);
      }
