-- No second board after stones are taken, and what is left has liberties. Assumes nothing.
use Rattle.lists.proofs.Prelude.{ℕ, inl, inr, ◌≡◌, refl, sym, ap, ◌∙◌, List, ext_get_or, arith}
use Rattle.board_groups.specs.Board.{at, standing}
use Rattle.board_groups.specs.Groups.{Stone, Joined, self, more, Liberty, TakesAt, Takes, TakesOfAt, TakesOf}
use Rattle.board_groups.proofs.Others.{liberty-shared}

module _ (w h c : ℕ) (b x y : List ℕ) (m n : ℕ) (f : Takes w h c b x m) (g : Takes w h c b y n) where
  same_at : (p : ℕ) → at x p ≡ at y p
  same_at p = go (f.each p) (g.each p)
    where
      go : TakesAt w h c b x p → TakesAt w h c b y p → at x p ≡ at y p
      go (inl d) (inl e) = d.1 ∙ sym e.1
      go (inl d) (inr e) = absurd (d.0.none (e.0 d.0.stone))
      go (inr d) (inl e) = absurd (e.0.none (d.0 e.0.stone))
      go (inr d) (inr e) = d.1 ∙ sym e.1

  pub takes-once : x ≡ y
  takes-once = ext_get_or 0 x y (f.as_long ∙ sym g.as_long) (λ i l. same_at i)

  pub taken-once : m ≡ n
  taken-once = omega (arith, f.many, g.many, ap (standing c) takes-once)

module _ (Q : ℕ → Type 0) (w h c : ℕ) (b x y : List ℕ) (m n : ℕ) (f : TakesOf Q w h c b x m) (g : TakesOf Q w h c b y n) where
  same_place : (p : ℕ) → at x p ≡ at y p
  same_place p = go (f.each p) (g.each p)
    where
      go : TakesOfAt Q w h c b x p → TakesOfAt Q w h c b y p → at x p ≡ at y p
      go (inl d) (inl e) = d.1 ∙ sym e.1
      go (inl d) (inr e) = absurd (d.0.0.none (e.0 d.0.1))
      go (inr d) (inl e) = absurd (e.0.0.none (d.0 e.0.1))
      go (inr d) (inr e) = d.1 ∙ sym e.1

  pub takes-of-once : (x ≡ y) × (m ≡ n)
  takes-of-once =
      let s : x ≡ y = ext_get_or 0 x y (f.as_long ∙ sym g.as_long) (λ i l. same_place i) in
      (s, omega (arith, f.many, g.many, ap (standing c) s))

-- after it every stone of the colour has a liberty
module _ (w h c : ℕ) (b b' : List ℕ) (n : ℕ) (colour : c ≡ 0 → ⊥) (t : Takes w h c b b' n) where
  stays : (q : ℕ) → Liberty w h b c q → at b' q ≡ at b q
  stays q l = go (t.each q)
    where
      go : TakesAt w h c b b' q → at b' q ≡ at b q
      go (inl d) = absurd (d.0.none l)
      go (inr d) = d.1

  after : (q r : ℕ) → Liberty w h b c q → Joined w h b c q r → Joined w h b' c q r
  after q r l (self s) = self (record { on = s.on; is = stays q l ∙ s.is })
  after q r l (more {q = m} j n s) = more (after q m l j) n (record { on = s.on; is = stays r (liberty-shared (more j n s) l) ∙ s.is })

  still-empty : (e : ℕ) → Stone w h b 0 e → Stone w h b' 0 e
  still-empty e s = record { on = s.on; is = go (t.each e) }
    where
      go : TakesAt w h c b b' e → at b' e ≡ 0
      go (inl d) = d.1
      go (inr d) = d.1 ∙ s.is

  pub takes-free : (q : ℕ) → Stone w h b' c q → Liberty w h b' c q
  takes-free q s = go (t.each q)
    where
      go : TakesAt w h c b b' q → Liberty w h b' c q
      go (inl d) = absurd (colour (sym s.is ∙ d.1))
      go (inr d) =
          let l = d.0 (record { on = s.on; is = sym d.1 ∙ s.is }) in
          record { stone = l.stone; point = l.point; joined = after q l.stone l l.joined; near = l.near; empty = still-empty l.point l.empty }

  -- taking again takes nothing
  pub takes-again : (b'' : List ℕ) (m : ℕ) → Takes w h c b' b'' m → (b'' ≡ b') × (m ≡ 0)
  takes-again b'' m x =
      let none : Takes w h c b' b' 0 = record { as_long = refl; each = λ q. inr (takes-free q, refl); many = omega arith } in
      (takes-once w h c b' b'' b' m 0 x none, taken-once w h c b' b'' b' m 0 x none)
