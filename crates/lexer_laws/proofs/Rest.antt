-- The scans and the machine: what the machine gives from within an identifier, from within a value and in white space is what the scan finds. Assumes nothing.
use Rattle.lists.proofs.Prelude.{ℕ, suc, ◌+◌, ◌≤◌, ◌<◌, ◌≡◌, refl, sym, ap, ◌∙◌, Bool, true, false, false≢true, List, [], ◌∷◌, ◌++◌, append_assoc, arith, add-one, length, drop, get_or, length-drop, drop_of_length-le, get_or-eq_default, slice, drop-cons, eqb, leb, ne_eqb, pick}
use Rattle.lists.proofs.Places.{at_place, slice_snoc}
use Rattle.lexer.specs.Token.{Val, Prop, Tok, St, between, ident, value, after, fault, Out, silent, property_state, begins, values, afters, step, emits, state_after, finish, Lexed, lexed, broken}
use Rattle.lexer_scan.specs.Scan.{space, skip_from, skip_at, ident_from}
use Rattle.lexer_close.specs.Close.{close_from}
use Rattle.lexer.specs.declared.Fault.{Fault}
use Rattle.lexer.specs.declared.Fault.TheVariants.{MissingPropertyIdentifier, UnexpectedEndOfPropertyIdentifier, UnexpectedEndOfPropertyValue}
use Rattle.lexer_scan.specs.declared.Ident.{Ident}
use Rattle.lexer_scan.specs.declared.Ident.TheVariants.{Opens, Missing, Foreign}
use Rattle.std.specs.Prelude.{Option, Some, None}

-- what the machine still gives
abbrev pub rest : St → (o l : ℕ) → List ℕ → Lexed
rest st o l bs = lexed (emits st o bs) (finish (state_after st o bs) l)

rest-step : (st : St) (o l b : ℕ) (bs : List ℕ) → rest st o l (b ∷ bs) ≡ lexed (step st o b).toks (rest (step st o b).next (suc o) l bs)
rest-step st o l b bs =
    ap (λ (z : List Tok). record { toks = z; end = (finish (state_after st o (b ∷ bs)) l).end })
    (append_assoc (step st o b).toks (emits (step st o b).next (suc o) bs) (finish (state_after st o (b ∷ bs)) l).toks)

fault-rest : (f : Fault) (s i l : ℕ) (bs : List ℕ) → rest (fault f s) i l bs ≡ record { toks = []; end = broken f s }
fault-rest f s i l [] = refl
fault-rest f s i l (b ∷ bs) = fault-rest f s (suc i) l bs

space-not : (k b : ℕ) → space k ≡ false → space b ≡ true → eqb b k ≡ false
space-not k b h q = ne_eqb b k (λ e. false≢true (sym h ∙ ap space (sym e) ∙ q))

module _ (u : List ℕ) where
  -- what it still gives from a place of the text on
  abbrev pub rest_at : St → ℕ → Lexed
  rest_at st i = rest st i (length u) (drop i u)

  pub step-at : (st : St) (i : ℕ) → i < length u → rest_at st i ≡ lexed (step st i (get_or u i 0)).toks (rest_at (step st i (get_or u i 0)).next (suc i))
  step-at st i h = ap (rest st i (length u)) (drop-cons u i 0 h) ∙ rest-step st i (length u) (get_or u i 0) (drop (suc i) u)

  pub end-at : (st : St) (i : ℕ) → length u ≤ i → rest_at st i ≡ finish st (length u)
  end-at st i h = ap (rest st i (length u)) (drop_of_length-le u h)

  -- ---- an identifier

  abbrev pub ident_on : ℕ → Ident → Lexed
  ident_on s (Opens k) = rest_at (value s k (slice s k u) [] false (suc k) []) (suc k)
  ident_on s Missing = record { toks = []; end = broken MissingPropertyIdentifier s }
  ident_on s Foreign = record { toks = []; end = broken UnexpectedEndOfPropertyIdentifier s }

  pub ident-rest : (bs : List ℕ) (i s : ℕ) → drop i u ≡ bs → s ≤ i → rest (ident s (slice s i u)) i (length u) bs ≡ ident_on s (ident_from i bs)
  unfolding ident_from
  ident-rest [] i s d h = refl
  ident-rest (b ∷ bs) i s d h = go (eqb b 0x5b) (leb 0x80 b) (ident-rest bs (suc i) s (at_place i u b bs d).2 (omega arith))
    where
      go : (c1 c2 : Bool) → rest (ident s (slice s (suc i) u)) (suc i) (length u) bs ≡ ident_on s (ident_from (suc i) bs)
          → rest (property_state c1 c2 s (slice s i u) i b) (suc i) (length u) bs ≡ ident_on s (pick c1 (Opens i) (pick c2 Foreign (ident_from (i + 1) bs)))
      go true c2 ih = ap (rest (value s i (slice s i u) [] false (suc i) []) (suc i) (length u)) (sym (at_place i u b bs d).2)
      go false true ih = fault-rest UnexpectedEndOfPropertyIdentifier s (suc i) (length u) bs
      go false false ih =
          ap (λ (z : List ℕ). rest (ident s z) (suc i) (length u) bs) (sym (slice_snoc s i u b bs h d))
          ∙ ih ∙ ap (λ (z : ℕ). ident_on s (ident_from z bs)) (sym (add-one i))

  -- ---- a value

  module _ (s k : ℕ) (w : List ℕ) where
    abbrev pub made : List Val → Prop
    made vs = record { from = s; to = k; name = w; vals = vs }

    abbrev pub close_on : List Val → ℕ → Option ℕ → Lexed
    close_on vs v (Some j) = rest_at (after (made (vs ++ (record { from = v; to = j; raw = slice v j u } ∷ [])))) (suc j)
    close_on vs v None = record { toks = []; end = broken UnexpectedEndOfPropertyValue s }

    pub value-rest : (bs : List ℕ) (e : Bool) (i : ℕ) (vs : List Val) (v : ℕ) → drop i u ≡ bs → v ≤ i
        → rest (value s k w vs e v (slice v i u)) i (length u) bs ≡ close_on vs v (close_from e i bs)
    unfolding close_from
    value-rest [] e i vs v d h = refl
    value-rest (b ∷ bs) true i vs v d h =
        ap (λ (z : List ℕ). rest (value s k w vs false v z) (suc i) (length u) bs) (sym (slice_snoc v i u b bs h d))
        ∙ value-rest bs false (suc i) vs v (at_place i u b bs d).2 (omega arith)
        ∙ ap (λ (z : ℕ). close_on vs v (close_from false z bs)) (sym (add-one i))
    value-rest (b ∷ bs) false i vs v d h = go (eqb b 0x5d) (value-rest bs (eqb b 0x5c) (suc i) vs v (at_place i u b bs d).2 (omega arith))
      where
        go : (c : Bool) → rest (value s k w vs (eqb b 0x5c) v (slice v (suc i) u)) (suc i) (length u) bs ≡ close_on vs v (close_from (eqb b 0x5c) (suc i) bs)
            → rest (values false c (eqb b 0x5c) s k w vs v (slice v i u) i b) (suc i) (length u) bs ≡ close_on vs v (pick c (Some i) (close_from (eqb b 0x5c) (i + 1) bs))
        go true ih = ap (rest (after (made (vs ++ (record { from = v; to = i; raw = slice v i u } ∷ [])))) (suc i) (length u)) (sym (at_place i u b bs d).2)
        go false ih =
            ap (λ (z : List ℕ). rest (value s k w vs (eqb b 0x5c) v z) (suc i) (length u) bs) (sym (slice_snoc v i u b bs h d))
            ∙ ih ∙ ap (λ (z : ℕ). close_on vs v (close_from (eqb b 0x5c) z bs)) (sym (add-one i))

  -- ---- white space, where it changes nothing

  pub skip-rest : (st : St) → ((o b : ℕ) → space b ≡ true → step st o b ≡ silent st) → (bs : List ℕ) (i : ℕ) → drop i u ≡ bs
      → rest st i (length u) bs ≡ rest_at st (skip_from i bs)
  unfolding skip_from
  skip-rest st k [] i d = ap (rest st i (length u)) (sym d)
  skip-rest st k (b ∷ bs) i d = go (space b) refl (skip-rest st k bs (suc i) (at_place i u b bs d).2)
    where
      go : (c : Bool) → space b ≡ c → rest st (suc i) (length u) bs ≡ rest_at st (skip_from (suc i) bs) → rest st i (length u) (b ∷ bs) ≡ rest_at st (pick c (skip_from (i + 1) bs) i)
      go true q ih =
          ap (λ (z : Out). lexed (z.toks ++ emits z.next (suc i) bs) (finish (state_after z.next (suc i) bs) (length u))) (k i b q)
          ∙ ih ∙ ap (λ (z : ℕ). rest_at st (skip_from z bs)) (sym (add-one i))
      go false q ih = ap (rest st i (length u)) (sym d)

pub between-skips : (o b : ℕ) → space b ≡ true → step between o b ≡ silent between
unfolding space
between-skips o b q =
    let a = space-not 0x28 b refl q in
    let d = space-not 0x29 b refl q in
    let e = space-not 0x3b b refl q in
    rw (a, d, e) (ap (λ (z : Bool). begins false false false z o b) q)

pub after-skips : (p : Prop) (o b : ℕ) → space b ≡ true → step (after p) o b ≡ silent (after p)
after-skips p o b q = ap (λ (z : Bool). afters z (eqb b 0x5b) p (begins (eqb b 0x28) (eqb b 0x29) (eqb b 0x3b) (space b) o b) o) q

no-space-past : space 0 ≡ false
unfolding space
no-space-past = refl

skip-stop-from : (u bs : List ℕ) (i : ℕ) → drop i u ≡ bs → space (get_or u (skip_from i bs) 0) ≡ false
unfolding skip_from
skip-stop-from u [] i d = let l : length u ≤ i = omega (arith, length-drop i u, ap length d) in ap space (get_or-eq_default u 0 l) ∙ no-space-past
skip-stop-from u (b ∷ bs) i d = go (space b) refl (skip-stop-from u bs (suc i) (at_place i u b bs d).2)
  where
    go : (c : Bool) → space b ≡ c → space (get_or u (skip_from (suc i) bs) 0) ≡ false → space (get_or u (pick c (skip_from (i + 1) bs) i) 0) ≡ false
    go true q ih = ap (λ (z : ℕ). space (get_or u (skip_from z bs) 0)) (add-one i) ∙ ih
    go false q ih = ap space (at_place i u b bs d).1 ∙ q

-- the skip stops at what is no white space
pub skip-stops : (u : List ℕ) (i : ℕ) → space (get_or u (skip_at u i) 0) ≡ false
skip-stops u i = skip-stop-from u (drop i u) i refl
