-- From the flood's marks to what is taken. Assumes nothing.
use Rattle.lists.proofs.Prelude.{ℕ, ◌<◌, ◌≤◌, Bool, true, false, inl, inr, ⊎_elim, ◌≡◌, refl, sym, ◌∙◌, subst, List, get_or, leb, leb-true, leb-false, arith}
use Rattle.board_groups.specs.Groups.{Stone, Joined, self, Liberty, Dead, Takes, TakesGroup}
use Rattle.board_groups.proofs.Beside.{board-on}
use Rattle.board_groups.proofs.Others.{joined-last, joined-sym, liberty-shared}
use Rattle.board_take.specs.LocalsSides.{Free}
use Rattle.board_take.specs.LocalsFlood.{Marked, Found, Queued, Went, Here, Seed, Unmarked, Coloured, Reached, Grown, Lives, Swept}

pub not-above : (r : ℕ) → (2704 < r → ⊥) → r ≤ 2704
not-above r f = lt-or (leb r 2704) refl
  where
    lt-or : (t : Bool) → leb r 2704 ≡ t → r ≤ 2704
    lt-or true e = leb-true r 2704 e
    lt-or false e = absurd (f (leb-false r 2704 e))

-- the marks are the stones with a liberty, and the others go
module _ (w h c : ℕ) (b : List ℕ) {m₀ m₁ : List Bool} {q₀ q₁ : List ℕ} {k : ℕ} (start : Queued m₀ q₀ 0) (s : Went (Seed w h b c 2704) m₀ q₀ 0 m₁ q₁ k) where
  seeded : (p : ℕ) → Marked m₁ p → Seed w h b c 2704 p
  seeded p y = ⊎_elim (λ z. absurd (none (start.found p z))) (λ z. z) (s.new p y)
    where
      none : Found q₀ 0 p → ⊥
      none f = let l = f.below in omega arith

  pub seeded-stone : (p : ℕ) → Marked m₁ p → Stone w h b c p
  seeded-stone p y = (seeded p y).1

  reached-free : (p : ℕ) → Reached w h b c m₁ p → Liberty w h b c p
  reached-free p r =
      let f = (seeded r.seed r.marked).2 in
      record { stone = r.seed; point = f.point; joined = joined-sym r.joined; near = f.near; empty = f.empty }

  free-reached : (p : ℕ) → Liberty w h b c p → Reached w h b c m₁ p
  free-reached p l =
      let x = joined-last l.joined in
      let y : Marked m₁ l.stone =
      s.done l.stone ((board-on w h l.stone x.on).place, x, record { point = l.point; near = l.near; empty = l.empty }) in
      record { seed = l.stone; marked = y; joined = joined-sym l.joined }

  pub takes_all : {stop : Bool} {m₂ : List Bool} {q₂ : List ℕ} {r n : ℕ} {b' : List ℕ} → Grown w h b c stop m₁ m₂ q₂ r → Swept (Unmarked w h b c m₂) c b b' n
      → Takes w h c b b' n
  takes_all {m₂} g t =
      record {
        as_long = t.as_long;
        each = λ p. ⊎_elim
            (λ x. inl (record { stone = x.0.0; none = λ l. x.0.1 (g.whole p (free-reached p l)) }, x.1))
            (λ x. inr ((λ z. decided (get_or m₂ p false) refl (λ y. reached-free p (g.sound p y)) (λ y. absurd (x.0 (z, λ u. y u)))), x.1))
            (t.each p);
        many = t.many;
      }
    where
      decided : {p : ℕ} (v : Bool) → get_or m₂ p false ≡ v → (Marked m₂ p → Liberty w h b c p) → ((Marked m₂ p → ⊥) → Liberty w h b c p) → Liberty w h b c p
      decided {p} true e f z = f e
      decided {p} false e f z = z (λ u. let i : ◌≡◌ {A = Bool} true false = sym u ∙ e in let o : ◌≡◌ {A = ℕ} 0 1 = cc in omega arith)

-- one group
module _ (w h c p : ℕ) (b : List ℕ) where
  -- nothing goes, since p is no stone or has a liberty
  pub takes-nothing : (Stone w h b c p → Liberty w h b c p) → TakesGroup w h c p b b 0
  takes-nothing f = record { as_long = refl; each = λ q. inr ((λ j. liberty-shared j (f (joined-last (joined-sym j)))), refl); many = omega arith }

  pub free-lives : Free w h b p → Stone w h b c p → Liberty w h b c p
  free-lives f s = record { stone = p; point = f.point; joined = self s; near = f.near; empty = f.empty }

  module _ {m₀ m₁ : List Bool} {q₀ q₁ : List ℕ} {k : ℕ} (start : Queued m₀ q₀ 0) (stone : Stone w h b c p)
      (s : Went (Here b c p) m₀ q₀ 0 m₁ q₁ k) where
    only : (r : ℕ) → Marked m₁ r → r ≡ p
    only r y = ⊎_elim (λ z. absurd (none (start.found r z))) (λ z. z.0) (s.new r y)
      where
        none : Found q₀ 0 r → ⊥
        none f = let l = f.below in omega arith

    pub seed-stone : (r : ℕ) → Marked m₁ r → Stone w h b c r
    seed-stone r y = subst (λ (z : ℕ). Stone w h b c z) (sym (only r y)) stone

    reached-joined : (r : ℕ) → Reached w h b c m₁ r → Joined w h b c p r
    reached-joined r x = subst (λ (z : ℕ). Joined w h b c z r) (only x.seed x.marked) x.joined

    joined-reached : (r : ℕ) → Joined w h b c p r → Reached w h b c m₁ r
    joined-reached r j = record { seed = p; marked = s.done p (refl, (board-on w h p stone.on).place, stone.is); joined = j }

    -- the queue's places hold the colour
    pub grown-coloured : {m₂ : List Bool} {q₂ : List ℕ} {r : ℕ} → Grown w h b c true m₁ m₂ q₂ r → Coloured b q₂ r c
    grown-coloured {q₂} g = λ k l.
        let x = joined-last (g.sound (get_or q₂ k 0) (g.held.listed k l)).joined in
        ((board-on w h (get_or q₂ k 0) x.on).place, x.is)

    pub lives-on : Lives w h b c m₁ → Liberty w h b c p
    lives-on l =
        record { stone = l.stone; point = l.free.point; joined = reached-joined l.stone l.reached; near = l.free.near; empty = l.free.empty }

    pub takes-group : {m₂ : List Bool} {q₂ : List ℕ} {r n : ℕ} {b' : List ℕ} → Grown w h b c true m₁ m₂ q₂ r → Swept (Found q₂ r) c b b' n
        → TakesGroup w h c p b b' n
    takes-group {m₂} g t =
        record {
          as_long = t.as_long;
          each = λ q. ⊎_elim
              (λ x.
              let j = reached-joined q (g.sound q (subst (λ (z : ℕ). Marked m₂ z) x.0.is (g.held.listed x.0.place x.0.below))) in
              inl ((record { stone = joined-last j; none = λ l. dead.none (liberty-shared (joined-sym j) l) }, j), x.1))
              (λ x. inr ((λ j. absurd (x.0 (g.held.found q (g.whole q (joined-reached q j))))), x.1))
              (t.each q);
          many = t.many;
        }
      where
        dead : Dead w h b c p
        dead =
            record {
              stone = stone;
              none = λ l. g.none refl l.stone (g.whole l.stone (joined-reached l.stone l.joined)) (record { point = l.point; near = l.near; empty = l.empty });
            }
