-- Places moved: bytes at places that are moved evenly give the same tokens, with their places moved. Assumes nothing.
use Rattle.lists.proofs.Prelude.{◌≡◌, refl, sym, ap, ◌∙◌, ℕ, suc, ◌≤◌, ◌<◌, arith, Bool, true, false, List, [], ◌∷◌, ◌++◌, map, map-append, leb, eqb}
use Rattle.text_utf8.proofs.Steps.{place, place_is}
use Rattle.lexer.specs.Token.{Val, Prop, Tok, St, between, ident, value, after, fault, Out, silent, property_state, begins, values, afters, step, emits, state_after, finish, Lexed, End, done, broken}
use Rattle.lexer_scan.specs.Scan.{space}
use Rattle.lexer.specs.Move.{move_val, move_prop, move_tok}

module _ (f g : ℕ → ℕ) (h : ℕ → List ℕ → List ℕ) where
  -- a state moved
  abbrev pub move_st : St → St
  move_st between = between
  move_st (ident s w) = ident (f s) w
  move_st (value s i w vs esc v r) = value (f s) (g i) w (map (move_val f g h) vs) esc (f v) r
  move_st (after p) = after (move_prop f g h p)
  move_st (fault n s) = fault n (f s)

  abbrev pub move_out : Out → Out
  move_out t = record { toks = map (move_tok f g h) t.toks; next = move_st t.next }

  -- at the place j all are moved alike, and the bytes of a value that starts there stay
  pub record Even (j : ℕ) : Type 0 where
    pub at-end : g j ≡ f j
    pub at_next : f (suc j) ≡ suc (f j)
    pub stays : (r : List ℕ) → h j r ≡ r

  -- the value that is being read keeps its bytes
  abbrev pub Calm : St → Type 0
  Calm between = Unit {0}
  Calm (ident s w) = Unit {0}
  Calm (value s i w vs esc v r) = (r' : List ℕ) → h v r' ≡ r'
  Calm (after p) = Unit {0}
  Calm (fault n s) = Unit {0}

  move-starts : (c high : Bool) (s : ℕ) (w : List ℕ) (o b : ℕ) → Even o → property_state c high (f s) w (f o) b ≡ move_st (property_state c high s w o b)
  move-starts true high s w o b e = rw (e.at-end, e.at_next)
  move-starts false true s w o b e = refl
  move-starts false false s w o b e = refl

  move-begins : (c1 c2 c3 c4 : Bool) (o b : ℕ) → Even o → begins c1 c2 c3 c4 (f o) b ≡ move_out (begins c1 c2 c3 c4 o b)
  move-begins true c2 c3 c4 o b e = refl
  move-begins false true c3 c4 o b e = refl
  move-begins false false true c4 o b e = refl
  move-begins false false false true o b e = refl
  move-begins false false false false o b e = ap silent (move-starts (eqb b 0x5b) (leb 0x80 b) o [] o b e)

  move-values : (esc c x : Bool) (s i : ℕ) (w : List ℕ) (vs : List Val) (v : ℕ) (r : List ℕ) (o b : ℕ) → Even o → ((r' : List ℕ) → h v r' ≡ r')
      → values esc c x (f s) (g i) w (map (move_val f g h) vs) (f v) r (f o) b ≡ move_st (values esc c x s i w vs v r o b)
  move-values true c x s i w vs v r o b e k = refl
  move-values false true x s i w vs v r o b e k = rw (map-append, e.at-end, k r)
  move-values false false x s i w vs v r o b e k = refl

  move-afters : (c1 c2 : Bool) (p : Prop) (t t' : Out) (o : ℕ) → Even o → t' ≡ move_out t
      → afters c1 c2 (move_prop f g h p) t' (f o) ≡ move_out (afters c1 c2 p t o)
  move-afters true c2 p t t' o e q = refl
  move-afters false true p t t' o e q = rw e.at_next
  move-afters false false p t t' o e q = rw (q, e.at-end)

  move_step : (st : St) (o b : ℕ) → Even o → Calm st → step (move_st st) (f o) b ≡ move_out (step st o b)
  move_step between o b e k = move-begins (eqb b 0x28) (eqb b 0x29) (eqb b 0x3b) (space b) o b e
  move_step (ident s w) o b e k = ap silent (move-starts (eqb b 0x5b) (leb 0x80 b) s w o b e)
  move_step (value s i w vs esc v r) o b e k = ap silent (move-values esc (eqb b 0x5d) (eqb b 0x5c) s i w vs v r o b e k)
  move_step (after p) o b e k = move-afters (space b) (eqb b 0x5b) p (step between o b) (step between (f o) b) o e (move-begins (eqb b 0x28) (eqb b 0x29) (eqb b 0x3b) (space b) o b e)
  move_step (fault n s) o b e k = refl

  calm-starts : (c high : Bool) (s : ℕ) (w : List ℕ) (o b : ℕ) → ((r : List ℕ) → h (suc o) r ≡ r) → Calm (property_state c high s w o b)
  calm-starts true high s w o b k = k
  calm-starts false true s w o b k = tt
  calm-starts false false s w o b k = tt

  calm-begins : (c1 c2 c3 c4 : Bool) (o b : ℕ) → ((r : List ℕ) → h (suc o) r ≡ r) → Calm (begins c1 c2 c3 c4 o b).next
  calm-begins true c2 c3 c4 o b k = tt
  calm-begins false true c3 c4 o b k = tt
  calm-begins false false true c4 o b k = tt
  calm-begins false false false true o b k = tt
  calm-begins false false false false o b k = calm-starts (eqb b 0x5b) (leb 0x80 b) o [] o b k

  calm-values : (esc c x : Bool) (s i : ℕ) (w : List ℕ) (vs : List Val) (v : ℕ) (r : List ℕ) (o b : ℕ) → ((r' : List ℕ) → h v r' ≡ r')
      → Calm (values esc c x s i w vs v r o b)
  calm-values true c x s i w vs v r o b k = k
  calm-values false true x s i w vs v r o b k = tt
  calm-values false false x s i w vs v r o b k = k

  calm-afters : (c1 c2 : Bool) (p : Prop) (t : Out) (o : ℕ) → ((r : List ℕ) → h (suc o) r ≡ r) → Calm t.next → Calm (afters c1 c2 p t o).next
  calm-afters true c2 p t o k l = tt
  calm-afters false true p t o k l = k
  calm-afters false false p t o k l = l

  calm-step : (st : St) (o b : ℕ) → ((r : List ℕ) → h (suc o) r ≡ r) → Calm st → Calm (step st o b).next
  calm-step between o b k l = calm-begins (eqb b 0x28) (eqb b 0x29) (eqb b 0x3b) (space b) o b k
  calm-step (ident s w) o b k l = calm-starts (eqb b 0x5b) (leb 0x80 b) s w o b k
  calm-step (value s i w vs esc v r) o b k l = calm-values esc (eqb b 0x5d) (eqb b 0x5c) s i w vs v r o b l
  calm-step (after p) o b k l =
      calm-afters (space b) (eqb b 0x5b) p (step between o b) o k (calm-begins (eqb b 0x28) (eqb b 0x29) (eqb b 0x3b) (space b) o b k)
  calm-step (fault n s) o b k l = tt

  -- the locality law: bytes at places that are moved evenly give the same tokens, with their places moved
  pub move-run : (st : St) (o : ℕ) (bs : List ℕ) → ((j : ℕ) → o ≤ j → j < place o bs → Even j) → (o < place o bs → Calm st)
      → (emits (move_st st) (f o) bs ≡ map (move_tok f g h) (emits st o bs)) × (state_after (move_st st) (f o) bs ≡ move_st (state_after st o bs))
  move-run st o [] ev cm = (refl, refl)
  move-run st o (b ∷ bs) ev cm =
      let lt : o < place (suc o) bs = omega (arith, place_is (suc o) bs) in
      let e : Even o = ev o (omega arith) lt in
      let s : step (move_st st) (f o) b ≡ move_out (step st o b) = move_step st o b e (cm lt) in
      let k = move-run (step st o b).next (suc o) bs (λ j a l. ev j (omega arith) l)
      (λ l. calm-step st o b (λ r. (ev (suc o) (omega arith) l).stays r) (cm lt)) in
      rw (s, ← e.at_next) (
        ap (λ (z : List Tok). map (move_tok f g h) (step st o b).toks ++ z) k.0
            ∙ sym (map-append (move_tok f g h) (step st o b).toks (emits (step st o b).next (suc o) bs)),
        k.1,
      )

-- how the tokens end, moved
abbrev pub move_end : (f : ℕ → ℕ) → End → End
move_end f done = done
move_end f (broken x s) = broken x (f s)

-- all of it moved
abbrev pub move_lexed : (f g : ℕ → ℕ) (h : ℕ → List ℕ → List ℕ) → Lexed → Lexed
move_lexed f g h x = record { toks = map (move_tok f g h) x.toks; end = move_end f x.end }

pub move-finish : (f g : ℕ → ℕ) (h : ℕ → List ℕ → List ℕ) (st : St) (l : ℕ) → finish (move_st f g h st) (g l) ≡ move_lexed f g h (finish st l)
move-finish f g h between l = refl
move-finish f g h (ident s w) l = refl
move-finish f g h (value s i w vs esc v r) l = refl
move-finish f g h (after p) l = refl
move-finish f g h (fault x s) l = refl
