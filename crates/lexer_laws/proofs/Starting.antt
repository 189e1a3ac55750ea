-- A value from its start on: facts of every value that could start, how far it is read, and where it closes. Assumes nothing.
use Rattle.lists.proofs.Prelude.{◌≡◌, refl, ap, ◌∙◌, ◌⊎◌, inl, inr, ℕ, suc, ◌+◌, ◌≤◌, ◌<◌, ◌-◌, arith, Bool, true, false, List, [], ◌∷◌, ◌++◌, eqb, length, get_or, length-append, eqb-true}
use Rattle.lists.specs.All.{All}
use Rattle.lists.proofs.All.{all_append}
use Rattle.text_utf8.proofs.Steps.{place, place_is}
use Rattle.lexer.specs.Token.{Val, Prop, St, between, value, emits, state_after, finish}
use Rattle.lexer.specs.Closed.{closed_from}
use Rattle.lexer_laws.proofs.Invariant.{EachAt, Invariant, Keeps, keep_run}

-- every value of a property
abbrev pub Each : (List ℕ → Val → Type 0) → Prop → Type 0
Each P p = All (P p.name) p.vals

-- ---- a fact of each value, from a fact of every value that could start at a place after o and end before E

module _ (P : List ℕ → Val → Type 0) (E : ℕ) where
  abbrev pub From : ℕ → ℕ → Type 0
  From o b = (o < E) × ((w : List ℕ) (v e : ℕ) (r : List ℕ) → o < v → v ≤ e → e < E → P w (record { from = v; to = e; raw = r }))

  -- the value that is being read, wherever it may end
  abbrev pub Later : ℕ → List ℕ → ℕ → Type 0
  Later o w v = (e : ℕ) (r : List ℕ) → o ≤ e → e < E → P w (record { from = v; to = e; raw = r })

  pub each-value : Invariant From (λ o s w. Unit {0}) (λ o s i w vs esc v r. All (P w) vs × Later o w v) (Each P)
  each-value =
      record {
        starting = λ a. tt;
        naming = λ a n. tt;
        opening = λ {o} {b} {s} {w} a e n. (tt, λ x r l m. a.1 w (suc o) x r (omega arith) l m);
        escaped = λ {o} a h. (h.0, λ e r l m. h.1 e r (omega arith) m);
        valuing = λ {o} a n h. (h.0, λ e r l m. h.1 e r (omega arith) m);
        closing = λ {o} {b} {s} {i} {v} {w} {r} {vs} a e h. all_append (P w) vs (_ ∷ []) h.0 (h.1 o r (omega arith) a.0, tt);
        reopening = λ {o} {b} {p} a e h. (h, λ x r l m. a.1 p.name (suc o) x r (omega arith) l m);
      }

  pub each_from : (o : ℕ) (bs : List ℕ) → place o bs ≤ E → ((w : List ℕ) (v e : ℕ) (r : List ℕ) → o < v → v ≤ e → e < E → P w (record { from = v; to = e; raw = r })) → EachAt From o bs
  each_from o [] h k = tt
  each_from o (b ∷ bs) h k =
      ((omega (arith, place_is (suc o) bs), k), each_from (suc o) bs h (λ w v e r l. k w v e r (omega arith)))

-- ---- how far a value is read, and after which byte it starts

-- the last of the bytes, or c
abbrev pub last : ℕ → List ℕ → ℕ
last c [] = c
last c (b ∷ bs) = last b bs

pub last-is : (c : ℕ) (bs : List ℕ) → get_or (c ∷ bs) (length bs) 0 ≡ last c bs
last-is c [] = refl
last-is c (b ∷ bs) = last-is b bs

-- B: the byte before a place
module _ (B : ℕ → ℕ) where
  abbrev pub Shape : (o : ℕ) → Bool → ℕ → List ℕ → Type 0
  Shape o esc v r = (v + length r ≡ o) × (length r ≡ 0 → (esc ≡ false) × (B o ≡ 0x5b))

  longer : (o b v : ℕ) (esc esc' : Bool) (r : List ℕ) → Shape o esc v r → Shape (suc o) esc' v (r ++ (b ∷ []))
  longer o b v esc esc' r h = (omega (arith, h.0, length-append r (b ∷ [])), λ z. absurd (omega (arith, length-append r (b ∷ []))))

  pub shaped : Invariant (λ o b. B (suc o) ≡ b) (λ o s w. Unit {0}) (λ o s i w vs esc v r. Shape o esc v r) (λ p. Unit {0})
  shaped =
      record {
        starting = λ a. tt;
        naming = λ a n. tt;
        opening = λ a e n. (omega arith, λ z. (refl, a ∙ e));
        escaped = λ {o} {b} {s} {i} {v} {w} {r} a h. longer o b v true false r h;
        valuing = λ {o} {b} {s} {i} {v} {w} {r} a n h. longer o b v false (eqb b 0x5c) r h;
        closing = λ a e h. tt;
        reopening = λ a e h. (omega arith, λ z. (refl, a ∙ e));
      }

  each-before : (z o : ℕ) (bs : List ℕ) → ((k : ℕ) → B (o + k) ≡ get_or (z ∷ bs) k 0) → EachAt (λ j b. B (suc j) ≡ b) o bs
  each-before z o [] h = tt
  each-before z o (b ∷ bs) h =
      let e : suc o ≡ o + 1 = omega arith in
      (ap B e ∙ h 1, each-before b (suc o) bs (λ k. let f : suc o + k ≡ o + suc k = omega arith in ap B f ∙ h (suc k)))

-- of the state after the bytes from f on
pub shape-run : (f : ℕ) (pre : List ℕ) → Keeps (shaped (λ (j : ℕ). get_or (0 ∷ pre) (j - f) 0)) (place f pre) (state_after between f pre)
shape-run f pre =
    let B : ℕ → ℕ = λ (j : ℕ). get_or (0 ∷ pre) (j - f) 0 in
    (keep_run (shaped B) between f pre (each-before B 0 f pre (λ k. let e : f + k - f ≡ k = omega arith in ap (λ (j : ℕ). get_or (0 ∷ pre) j 0) e)) tt).1

-- ---- the rest of a value: it is never closed, or closed at the first unescaped `]`

abbrev pub Never : St → ℕ → List ℕ → Type 0
Never st o bs = (emits st o bs ≡ []) × ((l : ℕ) → (finish (state_after st o bs) l).toks ≡ [])

abbrev pub Closed : Bool → List ℕ → Type 0
Closed esc bs = (body post : List ℕ) × (bs ≡ body ++ (0x5d ∷ post)) × (closed_from esc body ≡ true)

closed-cons : (esc esc' : Bool) (b : ℕ) (bs : List ℕ) → ((body : List ℕ) → closed_from esc' body ≡ true → closed_from esc (b ∷ body) ≡ true) → Closed esc' bs → Closed esc (b ∷ bs)
closed-cons esc esc' b bs k c = (b ∷ c.0, c.1, ap (λ (z : List ℕ). b ∷ z) c.2, k c.0 c.3)

pub scan : (s i : ℕ) (w : List ℕ) (vs : List Val) (v o : ℕ) (esc : Bool) (r bs : List ℕ) → Never (value s i w vs esc v r) o bs ⊎ Closed esc bs
scan s i w vs v o esc r [] = inl (refl, λ l. refl)
scan s i w vs v o true r (b ∷ bs) =
    elim (scan s i w vs v (suc o) false (r ++ (b ∷ [])) bs) [ inl n ↦ inl n | inr c ↦ inr (closed-cons true false b bs (λ body k. k) c) ]
scan s i w vs v o false r (b ∷ bs) = go (eqb b 0x5d) refl (scan s i w vs v (suc o) (eqb b 0x5c) (r ++ (b ∷ [])) bs)
  where
    go : (c : Bool) → eqb b 0x5d ≡ c → Never (value s i w vs (eqb b 0x5c) v (r ++ (b ∷ []))) (suc o) bs ⊎ Closed (eqb b 0x5c) bs
        → Never (value s i w vs false v r) o (b ∷ bs) ⊎ Closed false (b ∷ bs)
    go true e k = inr ([], bs, ap (λ (z : ℕ). z ∷ bs) (eqb-true b 0x5d e), refl)
    go false e (inl n) = inl (rw e n)
    go false e (inr c) = inr (closed-cons false (eqb b 0x5c) b bs (λ body k. rw e k) c)
