-- The token machine over joined texts, and over a closed text within a value. Assumes nothing.
use Rattle.lists.proofs.Prelude.{◌≡◌, refl, sym, ap, ◌∙◌, ℕ, suc, Bool, true, false, not, ◌&&◌, false≢true, List, [], ◌∷◌, ◌++◌, append_assoc, append-nil, eqb}
use Rattle.text_utf8.proofs.Steps.{place}
use Rattle.lexer.specs.Token.{Val, Prop, Tok, St, value, after, values, step, emits, state_after}
use Rattle.lexer.specs.Closed.{closed_from}

pub ends-append : (st : St) (o : ℕ) (xs ys : List ℕ) → state_after st o (xs ++ ys) ≡ state_after (state_after st o xs) (place o xs) ys
ends-append st o [] ys = refl
ends-append st o (b ∷ xs) ys = ends-append (step st o b).next (suc o) xs ys

pub emits-append : (st : St) (o : ℕ) (xs ys : List ℕ) → emits st o (xs ++ ys) ≡ emits st o xs ++ emits (state_after st o xs) (place o xs) ys
emits-append st o [] ys = refl
emits-append st o (b ∷ xs) ys =
    ap (λ (r : List Tok). (step st o b).toks ++ r) (emits-append (step st o b).next (suc o) xs ys)
    ∙ sym (append_assoc (step st o b).toks (emits (step st o b).next (suc o) xs) (emits (state_after st o (b ∷ xs)) (place o (b ∷ xs)) ys))

-- a closed text within a value: nothing comes out, and the state is as before, with the text's bytes
pub closed-ends : (s i : ℕ) (w : List ℕ) (vs : List Val) (v o : ℕ) (esc : Bool) (r bs : List ℕ) → closed_from esc bs ≡ true
    → (emits (value s i w vs esc v r) o bs ≡ []) × (state_after (value s i w vs esc v r) o bs ≡ value s i w vs false v (r ++ bs))
closed-ends s i w vs v o true r [] h = absurd (false≢true h)
closed-ends s i w vs v o false r [] h = (refl, ap (λ (z : List ℕ). value s i w vs false v z) (sym (append-nil r)))
closed-ends s i w vs v o true r (b ∷ bs) h =
    let k = closed-ends s i w vs v (suc o) false (r ++ (b ∷ [])) bs h in
    (k.0, k.1 ∙ ap (λ (z : List ℕ). value s i w vs false v z) (append_assoc r (b ∷ []) bs))
closed-ends s i w vs v o false r (b ∷ bs) h =
    (elim (eqb b 0x5d) as (λ (c : Bool). (not c && closed_from (eqb b 0x5c) bs) ≡ true
    → (emits (values false c (eqb b 0x5c) s i w vs v r o b) (suc o) bs ≡ [])
    × (state_after (values false c (eqb b 0x5c) s i w vs v r o b) (suc o) bs ≡ value s i w vs false v (r ++ (b ∷ bs)))) [
      | true ↦ λ e. absurd (false≢true e)
      | false ↦ λ e.
          let k = closed-ends s i w vs v (suc o) (eqb b 0x5c) (r ++ (b ∷ [])) bs e in
          (k.0, k.1 ∙ ap (λ (z : List ℕ). value s i w vs false v z) (append_assoc r (b ∷ []) bs))
    ]) h

-- the property with one value more
abbrev pub grown : (s i : ℕ) → List ℕ → List Val → (v e : ℕ) → List ℕ → Prop
grown s i w vs v e r = record { from = s; to = i; name = w; vals = vs ++ (record { from = v; to = e; raw = r } ∷ []) }

-- over the rest of a value, and its `]`
pub over-value : (s i : ℕ) (w : List ℕ) (vs : List Val) (v : ℕ) (r body post : List ℕ) (o : ℕ) → closed_from false body ≡ true
    → (emits (value s i w vs false v r) o (body ++ (0x5d ∷ post)) ≡ emits (after (grown s i w vs v (place o body) (r ++ body))) (suc (place o body)) post)
    × (state_after (value s i w vs false v r) o (body ++ (0x5d ∷ post)) ≡ state_after (after (grown s i w vs v (place o body) (r ++ body))) (suc (place o body)) post)
over-value s i w vs v r body post o c =
    let k = closed-ends s i w vs v o false r body c in
    (rw (emits-append, k.0, k.1), rw (ends-append, k.1))
