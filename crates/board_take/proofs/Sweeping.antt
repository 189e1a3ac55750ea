-- Stones taken off one by one. Assumes nothing.
use Rattle.lists.proofs.Prelude.{ℕ, ◌+◌, ◌<◌, ◌≤◌, Bool, true, false, true≢false, not, ◌&&◌, ◌⊎◌, inl, inr, ⊎_elim, ◌≡◌, refl, sym, ap, ◌∙◌, subst, List, length, take, length-take-le, get_or, get_or-take, set, eqb, arith, eqb-true, eq-eqb, not-true, length-set, get_or-set_same, get_or-set_other}
use Rattle.lists.proofs.Tests.{and_both, same_or}
use Rattle.board_groups.specs.Board.{at, on_board}
use Rattle.board_groups.proofs.Beside.{board-on}
use Rattle.board_groups.proofs.Count.{at-below, standing-off}
use Rattle.board_take.specs.LocalsSides.{stands_at}
use Rattle.board_take.specs.LocalsFlood.{Found, Unmarked, Coloured, Swept}

pub swept_none : (P : ℕ → Type 0) (c : ℕ) (b : List ℕ) → ((r : ℕ) → P r → ⊥) → Swept P c b b 0
swept_none P c b f = record { as_long = refl; each = λ r. inr (f r, refl); many = omega arith }

module _ {P : ℕ → Type 0} {c : ℕ} {b₀ b : List ℕ} {n : ℕ} (x : Swept P c b₀ b n) where
  pub swept_as : (Q : ℕ → Type 0) → ((r : ℕ) → P r → Q r) → ((r : ℕ) → Q r → P r) → Swept Q c b₀ b n
  swept_as Q f g =
      record {
        as_long = x.as_long;
        each = λ r. ⊎_elim (λ y. inl (f r y.0, y.1)) (λ y. inr ((λ z. y.0 (g r z)), y.1)) (x.each r);
        many = x.many;
      }

  pub swept-take : (Q : ℕ → Type 0) (p : ℕ) → (c ≡ 0 → ⊥) → at b p ≡ c → ((r : ℕ) → Q r → P r ⊎ (r ≡ p)) → ((r : ℕ) → P r → Q r) → Q p
      → Swept Q c b₀ (set b p 0) (n + 1)
  swept-take Q p o e f g here =
      let l : p < length b = at-below b p (λ z. o (sym e ∙ z)) in
      record {
        as_long = length-set b p 0 ∙ x.as_long;
        each = λ r. same_or r p
            (λ s. inl (subst (λ (z : ℕ). Q z) (sym s) here, ap (λ (z : ℕ). at (set b p 0) z) s ∙ get_or-set_same b p 0 0 l))
            (λ s. ⊎_elim
            (λ y. inl (g r y.0, get_or-set_other b p r 0 0 s ∙ y.1))
            (λ y. inr ((λ z. ⊎_elim (λ u. y.0 u) (λ u. s u) (f r z)), get_or-set_other b p r 0 0 s ∙ y.1))
            (x.each r));
        many = omega (arith, x.many, standing-off c b p l e o);
      }

  -- a place that is not among the taken ones is as it was
  pub swept-as-was : (r : ℕ) → (P r → ⊥) → at b r ≡ at b₀ r
  swept-as-was r f = ⊎_elim (λ y. absurd (f y.0)) (λ y. y.1) (x.each r)

module _ (w h c : ℕ) (b₀ b : List ℕ) (m : List Bool) (n i : ℕ) (x : Swept (λ p. (p < i) × Unmarked w h b₀ c m p) c b₀ b n) where
  same_here : at b i ≡ at b₀ i
  same_here = swept-as-was x i (λ y. let l = y.0 in omega arith)

  pub sweep-go : (c ≡ 0 → ⊥) → stands_at w h b c i && not (get_or m i false) ≡ true
      → Swept (λ p. (p < i + 1) × Unmarked w h b₀ c m p) c b₀ (set b i 0) (n + 1)
  unfolding stands_at
  sweep-go o e =
      let y = and_both (on_board w h i && eqb (at b i) c) (not (get_or m i false)) e in
      let z = and_both (on_board w h i) (eqb (at b i) c) y.0 in
      let is : at b i ≡ c = eqb-true (at b i) c z.1 in
      let off : get_or m i false ≡ false = not-true (get_or m i false) y.1 in
      swept-take x (λ p. (p < i + 1) × Unmarked w h b₀ c m p) i o is
      (λ r u. same_or r i (λ s. inr s) (λ s. let k = u.0 in inl (omega arith, u.1)))
      (λ r u. let k = u.0 in (omega arith, u.1))
      (omega arith, (record { on = z.0; is = sym same_here ∙ is }, λ u. true≢false (sym u ∙ off)))

  pub sweep-stay : stands_at w h b c i && not (get_or m i false) ≡ false → Swept (λ p. (p < i + 1) × Unmarked w h b₀ c m p) c b₀ b n
  unfolding stands_at
  sweep-stay e =
      swept_as x (λ p. (p < i + 1) × Unmarked w h b₀ c m p)
      (λ r u. let k = u.0 in (omega arith, u.1))
      (λ r u. same_or r i
      (λ s. absurd (never (subst (λ (z : ℕ). Unmarked w h b₀ c m z) s u.1)))
      (λ s. let k = u.0 in (omega arith, u.1)))
    where
      never : Unmarked w h b₀ c m i → ⊥
      never u = decided (get_or m i false) refl
        where
          decided : (v : Bool) → get_or m i false ≡ v → ⊥
          decided true f = u.1 f
          decided false f = true≢false (sym (rw (u.0.on, eq-eqb (at b i) c (same_here ∙ u.0.is), f)) ∙ e)

  pub sweep-end : 2704 ≤ i → Swept (Unmarked w h b₀ c m) c b₀ b n
  sweep-end l =
      swept_as x (Unmarked w h b₀ c m) (λ r u. u.1) (λ r u. let k = (board-on w h r u.0.on).place in (omega arith, u))

module _ (c : ℕ) (b₀ b q : List ℕ) (n i : ℕ) (x : Swept (Found q i) c b₀ b n) where
  later : (r : ℕ) → Found q i r → Found q (i + 1) r
  later r f = let l = f.below in record { place = f.place; below = omega arith; is = f.is }

  split : (r : ℕ) → Found q (i + 1) r → Found q i r ⊎ (r ≡ get_or q i 0)
  split r f = same_or f.place i
      (λ s. inr (sym f.is ∙ ap (λ (z : ℕ). get_or q z 0) s))
      (λ s. let l = f.below in inl (record { place = f.place; below = omega arith; is = f.is }))

  pub clear-go : (c ≡ 0 → ⊥) → at b (get_or q i 0) ≡ c → Swept (Found q (i + 1)) c b₀ (set b (get_or q i 0) 0) (n + 1)
  clear-go o e = swept-take x (Found q (i + 1)) (get_or q i 0) o e split later (record { place = i; below = omega arith; is = refl })

  pub clear-stay : at b₀ (get_or q i 0) ≡ c → (at b (get_or q i 0) ≡ c → ⊥) → Swept (Found q (i + 1)) c b₀ b n
  clear-stay e f =
      swept_as x (Found q (i + 1)) later
      (λ r u. ⊎_elim (λ z. z) (λ z. subst (λ (k : ℕ). Found q i k) (sym z) gone) (split r u))
    where
      gone : Found q i (get_or q i 0)
      gone = ⊎_elim (λ y. y.0) (λ y. absurd (f (y.1 ∙ e))) (x.each (get_or q i 0))

-- the first n numbers of a queue, by themselves
module _ (q : List ℕ) (n : ℕ) (l : n ≤ length q) where
  pub part-length : length (take n q) ≡ n
  part-length = length-take-le n q l

  pub part-coloured : (b : List ℕ) (c : ℕ) → Coloured b q n c → Coloured b (take n q) (length (take n q)) c
  part-coloured b c x k i =
      let j : k < n = omega (arith, part-length) in
      subst (λ (z : ℕ). (z < 2704) × (at b z ≡ c)) (sym (get_or-take n q k 0 j)) (x k j)

  pub part-found : (k : ℕ) → k < length (take n q) → {r : ℕ} → get_or (take n q) k 0 ≡ r → Found q n r
  part-found k i e =
      let j : k < n = omega (arith, part-length) in
      record { place = k; below = j; is = sym (get_or-take n q k 0 j) ∙ e }

  pub part-swept : {c : ℕ} {b b' : List ℕ} {m : ℕ} → Swept (Found (take n q) (length (take n q))) c b b' m → Swept (Found q n) c b b' m
  part-swept x =
      swept_as x (Found q n)
      (λ r f. part-found f.place f.below f.is)
      (λ r f.
      let j = f.below in
      record { place = f.place; below = omega (arith, part-length); is = get_or-take n q f.place 0 j ∙ f.is })
