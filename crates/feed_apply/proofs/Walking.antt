-- One correction after another, as the walk takes them. Assumes nothing.
use Rattle.lists.proofs.Prelude.{ℕ, zero, suc, ◌+◌, ◌-◌, ◌≤◌, ◌<◌, ◌≡◌, refl, sym, ap, ◌∙◌, subst, arith, Bool, true, false, List, length, leb, ltb, ltb-false, pick}
use Rattle.feed_numerals.specs.Numeral.{numeral_at}
use Rattle.feed.specs.Feed.{Listing, sized, with_number, entry_at, entries_from, listing}
use Rattle.feed.specs.Find.{found_in}
use Rattle.feed.proofs.Entries.{found_none, found_here, found-later, listed-end, listed-fault, listed-one, listing-fault, listing-count}
use Rattle.feed.specs.LocalsNext.{Lies}
use Rattle.feed_apply.specs.LocalsAlong.{Uncorrected, Ahead, Stands}
use Rattle.feed_apply.specs.declared.along.Along.{Along}
use Rattle.std.specs.Prelude.{Option, Some, None}

module _ (w : List ℕ) where
  -- ---- a correction's number is not below the least one, and its bytes stand behind its place

  abbrev pub Rises : (low p : ℕ) → Option (ℕ × ℕ × ℕ) → Type 0
  Rises low p (Some (v, a, e)) = (low ≤ v) × (p ≤ a)
  Rises low p None = Unit {0}

  sized-rises : (low p v q : ℕ) → low ≤ v → p ≤ q → (r : Option (ℕ × ℕ)) → Rises low p (sized w v q r)
  sized-rises low p v q h k None = tt
  sized-rises low p v q h k (Some (l, m)) = go (leb (q + m + l) (length w))
    where
      go : (b : Bool) → Rises low p (pick b (Some (v, q + m, q + m + l)) None)
      go true = (h, omega arith)
      go false = tt

  numbered-rises : (low p : ℕ) (r : Option (ℕ × ℕ)) → Rises low p (with_number w low p r)
  numbered-rises low p None = tt
  numbered-rises low p (Some (v, n)) = go (ltb v low) refl
    where
      go : (b : Bool) → ltb v low ≡ b → Rises low p (pick b None (sized w v (p + n) (numeral_at w (p + n))))
      go true h = tt
      go false h = sized-rises low p v (p + n) (ltb-false v low h) (omega arith) (numeral_at w (p + n))

  pub next-rises : (low p : ℕ) → Rises low p (entry_at w low p)
  unfolding entry_at
  next-rises low p = numbered-rises low p (numeral_at w p)

  -- ---- values below the least number are not among the corrections

  unlisted : (c low p j : ℕ) → j < low → found_in (entries_from w c low p).entries j ≡ None
  unlisted zero low p j h = ap (λ (x : Listing). found_in x.entries j) (listed-end w zero low p refl) ∙ found_none j
  unlisted (suc c) low p j h = go (entry_at w low p) refl (next-rises low p) (λ l q. unlisted c l q j)
    where
      go : (x : Option (ℕ × ℕ × ℕ)) → entry_at w low p ≡ x → Rises low p x → ((l q : ℕ) → j < l → found_in (entries_from w c l q).entries j ≡ None)
          → found_in (entries_from w (suc c) low p).entries j ≡ None
      go None e r f = ap (λ (y : Listing). found_in y.entries j) (listed-fault w (suc c) low p (omega arith) e) ∙ found_none j
      go (Some (v, a, z)) e r f =
          let q : suc c - 1 ≡ c = omega arith in
          ap (λ (y : Listing). found_in y.entries j) (listed-one w (suc c) low p v a z (omega arith) e)
          ∙ found-later v a z j (entries_from w (suc c - 1) (v + 1) z).entries (λ i. absurd (omega (arith, r.0)))
          ∙ ap (λ (i : ℕ). found_in (entries_from w i (v + 1) z).entries j) q
          ∙ f (v + 1) z (omega (arith, r.0))

  -- ---- the start

  pub ahead-broken : (n : ℕ) → numeral_at w 0 ≡ None → Ahead w n 0 0 0
  ahead-broken n e j l h =
      ap (λ (x : Listing). found_in x.entries j) (listing-fault w e) ∙ sym (ap (λ (x : Listing). found_in x.entries j) (listed-end w 0 0 0 refl))

  pub ahead-count : (n c size : ℕ) → numeral_at w 0 ≡ Some (c, size) → Ahead w n c 0 size
  ahead-count n c size e j l h = ap (λ (x : Listing). found_in x.entries j) (listing-count w c size e)

  -- ---- one more

  module _ (n left low at : ℕ) (a : Ahead w n left low at) where
    pub ahead-end : left ≡ 0 → Uncorrected w low n
    ahead-end e j l h = a j l h ∙ ap (λ (x : Listing). found_in x.entries j) (listed-end w left low at e) ∙ found_none j

    module _ (more : left ≡ 0 → ⊥) where
      some : 0 < left
      some = go left more
        where
          go : (i : ℕ) → (i ≡ 0 → ⊥) → 0 < i
          go zero h = absurd (h refl)
          go (suc i) h = omega arith

      pub ahead-fault : entry_at w low at ≡ None → Uncorrected w low n
      ahead-fault e j l h = a j l h ∙ ap (λ (x : Listing). found_in x.entries j) (listed-fault w left low at some e) ∙ found_none j

      module _ (v b e : ℕ) (one : entry_at w low at ≡ Some (v, b, e)) where
        later : (j : ℕ) → low ≤ j → j < n → (v ≡ j → ⊥) → found_in (listing w).entries j ≡ found_in (entries_from w (left - 1) (v + 1) e).entries j
        later j l h d =
            a j l h
            ∙ ap (λ (x : Listing). found_in x.entries j) (listed-one w left low at v b e some one)
            ∙ found-later v b e j (entries_from w (left - 1) (v + 1) e).entries d

        pub ahead-skip : (i : ℕ) → i ≤ v → i ≤ n → Uncorrected w low i
        ahead-skip i g k j l h = later j l (omega arith) (λ z. absurd (omega arith)) ∙ unlisted (left - 1) (v + 1) e j (omega arith)

        pub ahead-here : low ≤ v → v < n → found_in (listing w).entries v ≡ Some (b, e)
        ahead-here l h =
            a v l h
            ∙ ap (λ (x : Listing). found_in x.entries v) (listed-one w left low at v b e some one)
            ∙ found_here v b e v (entries_from w (left - 1) (v + 1) e).entries refl

        pub ahead-next : low ≤ v → Ahead w n (left - 1) (v + 1) e
        ahead-next g j l h = later j (omega arith) h (λ z. absurd (omega arith))

  -- ---- what is answered

  abbrev pub Sought : (n low grown shrunk : ℕ) → Along → Type 0
  Sought n low g s r = Stands w n r × Uncorrected w low r.due × (low ≤ r.due) × (r.grown ≡ g) × (r.shrunk ≡ s)

  module _ (n low at g s : ℕ) (bound : low ≤ n) (inside : at ≤ length w) (paid : g ≤ at) where
    pub sought-none : Uncorrected w low n → Sought n low g s (record { left = 0; due = n; from = at; to = at; grown = g; shrunk = s })
    sought-none u =
        (record { bound = omega arith; here = λ l. absurd (omega arith); ahead = λ l. absurd (omega arith); order = omega arith; inside = inside; paid = paid }, u, bound, refl, refl)

    pub sought-one : (left v b e limit : ℕ) → Ahead w n left low at → (left ≡ 0 → ⊥) → entry_at w low at ≡ Some (v, b, e) → Lies w low limit (Some (v, b, e)) → v < n
        → Sought n low g s (record { left = left - 1; due = v; from = b; to = e; grown = g; shrunk = s })
    sought-one left v b e limit a m one lies h =
        let r : Rises low at (Some (v, b, e)) = subst (Rises low at) one (next-rises low at) in (
          record {
            bound = omega arith;
            here = λ _. ahead-here n left low at a m v b e one lies.0 h;
            ahead = λ _. ahead-next n left low at a m v b e one lies.0;
            order = lies.2;
            inside = lies.3;
            paid = omega (arith, r.1);
          },
          ahead-skip n left low at a m v b e one v (omega arith) (omega arith),
          lies.0,
          refl,
          refl,
        )
