-- Taking off one dead group changes no other group of its colour. Assumes nothing.
use Rattle.lists.proofs.Prelude.{ℕ, ◌≡◌, sym, ◌∙◌, List}
use Rattle.lists.proofs.Tests.{same_or}
use Rattle.board_groups.specs.Board.{at}
use Rattle.board_groups.specs.Groups.{Stone, Joined, self, more, Liberty, Dead}
use Rattle.board_groups.proofs.Beside.{beside-sym}

module _ {w h : ℕ} {b : List ℕ} {c : ℕ} where
  pub joined-last : {p q : ℕ} → Joined w h b c p q → Stone w h b c q
  joined-last (self s) = s
  joined-last (more j n s) = s

  pub joined-trans : {p q r : ℕ} → Joined w h b c p q → Joined w h b c q r → Joined w h b c p r
  joined-trans j (self s) = j
  joined-trans j (more k n s) = more (joined-trans j k) n s

  pub joined-sym : {p q : ℕ} → Joined w h b c p q → Joined w h b c q p
  joined-sym (self s) = self s
  joined-sym (more {q = m} {r = r} j n s) = joined-trans (more (self s) (beside-sym m r n) (joined-last j)) (joined-sym j)

  -- a stone of a group with a liberty has that liberty
  pub liberty-shared : {p q : ℕ} → Joined w h b c p q → Liberty w h b c p → Liberty w h b c q
  liberty-shared j l = record { stone = l.stone; point = l.point; joined = joined-trans (joined-sym j) l.joined; near = l.near; empty = l.empty }

-- b' is b without the group of p
pub record Without (w h c p : ℕ) (b b' : List ℕ) : Type 0 where
  pub gone : (q : ℕ) → Joined w h b c p q → at b' q ≡ 0
  pub kept : (q : ℕ) → (Joined w h b c p q → ⊥) → at b' q ≡ at b q

module _ (w h c p : ℕ) (b b' : List ℕ) (colour : c ≡ 0 → ⊥) (t : Without w h c p b b') (q : ℕ) (apart : Joined w h b c p q → ⊥) where
  -- a stone of the colour that still stands stood before
  stood : (r : ℕ) → Stone w h b' c r → Stone w h b c r
  stood r s = record { on = s.on; is = sym (t.kept r (λ j. colour (sym s.is ∙ t.gone r j))) ∙ s.is }

  before : (r : ℕ) → Joined w h b' c q r → Joined w h b c q r
  before r (self s) = self (stood q s)
  before r (more {q = m} j n s) = more (before m j) n (stood r s)

  stands : (r : ℕ) → Joined w h b c q r → Stone w h b c r → Stone w h b' c r
  stands r j s = record { on = s.on; is = t.kept r (λ k. apart (joined-trans k (joined-sym j))) ∙ s.is }

  after : (r : ℕ) → Joined w h b c q r → Joined w h b' c q r
  after r (self s) = self (stands q (self s) s)
  after r (more {q = m} j n s) = more (after m j) n (stands r (more j n s) s)

  pub dead-still : Dead w h b c q → Dead w h b' c q
  dead-still d =
      record {
        stone = stands q (self d.stone) d.stone;
        none = λ l.
            let j = before l.stone l.joined in
            same_or (at b l.point) 0
            (λ e. d.none (record { stone = l.stone; point = l.point; joined = j; near = l.near; empty = record { on = l.empty.on; is = e } }))
            (λ e. e (sym (t.kept l.point (λ k. apart (joined-trans k (joined-sym (more j l.near (joined-last k)))))) ∙ l.empty.is));
      }

  pub free-still : Liberty w h b c q → Liberty w h b' c q
  free-still l =
      let j = after l.stone l.joined in
      let n : at b' l.point ≡ 0 = t.kept l.point (λ k. colour (sym (joined-last k).is ∙ l.empty.is)) ∙ l.empty.is in
      record { stone = l.stone; point = l.point; joined = j; near = l.near; empty = record { on = l.empty.on; is = n } }
