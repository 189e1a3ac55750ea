-- The spans of a text's property tokens lie one after another, and identifiers are plain. Assumes nothing.
use Rattle.lists.proofs.Prelude.{◌≡◌, refl, ℕ, suc, ◌+◌, ◌≤◌, ◌<◌, arith, Bool, true, false, not, ◌&&◌, List, [], ◌∷◌, ◌++◌, leb, ltb, eqb, length, leb-false, lt-ltb}
use Rattle.lists.specs.All.{All}
use Rattle.lists.proofs.All.{all_append}
use Rattle.lists.proofs.Tests.{and_both}
use Rattle.text_utf8.proofs.Steps.{place}
use Rattle.lexer.specs.Token.{Val, Prop, Tok, St, between, ident, value, after, fault, Out, property_state, begins, values, afters, step, emits, state_after, finish, lex_from}
use Rattle.lexer_scan.specs.Scan.{space}
use Rattle.lexer_laws.proofs.Invariant.{OfTok}
use Rattle.fit_spans.specs.Spans.{span, plain_name}
use Rattle.reader_laws.proofs.Climbs.{spans_of_values, spans_of_prop, spans_of, props_of, values-append, spans-append, props-append, Climb, climb-append, climb-up}

abbrev pub Plain : Prop → Type 0
Plain p = plain_name p.name ≡ true

plain_more : (w : List ℕ) (b : ℕ) → leb 0x80 b ≡ false → eqb b 0x5b ≡ false → plain_name w ≡ true → plain_name (w ++ (b ∷ [])) ≡ true
unfolding plain_name
plain_more [] b h e p = rw (lt-ltb b 0x80 (leb-false 0x80 b h), e)
plain_more (x ∷ xs) b h e p =
    let q = and_both (ltb x 0x80) (not (eqb x 0x5b) && plain_name xs) p in
    let r = and_both (not (eqb x 0x5b)) (plain_name xs) q.1 in
    rw (q.0, r.0) (plain_more xs b h e r.1)

-- of a text of `used` bytes
module _ (used : ℕ) where
  -- m: where the next span may start; o: the place of the next byte
  abbrev Good : (m o : ℕ) → St → Type 0
  Good m o between = m ≤ o
  Good m o (ident s w) = (m ≤ s) × (s ≤ o) × (plain_name w ≡ true)
  Good m o (value s i w vs esc v r) = Climb used m v (span s i ∷ spans_of_values vs) × (v ≤ o) × (plain_name w ≡ true)
  Good m o (after p) = Climb used m o (spans_of_prop p) × Plain p
  Good m o (fault f s) = Unit {0}

  -- tokens from m on, and the state that they leave at o
  abbrev Gives : (m o : ℕ) → List Tok → St → Type 0
  Gives m o ts st = (n : ℕ) × Climb used m n (spans_of (props_of ts)) × All (OfTok Plain) ts × Good n o st

  good-starts : (c high : Bool) (m s : ℕ) (w : List ℕ) (o b : ℕ) → eqb b 0x5b ≡ c → leb 0x80 b ≡ high → o < used → m ≤ s → s ≤ o → plain_name w ≡ true → Good m (suc o) (property_state c high s w o b)
  good-starts true high m s w o b e h l a z p = ((a, z, omega arith, omega arith), omega arith, p)
  good-starts false true m s w o b e h l a z p = tt
  good-starts false false m s w o b e h l a z p = (a, omega arith, plain_more w b h e p)

  good-begins : (c1 c2 c3 c4 : Bool) (m o b : ℕ) → o < used → m ≤ o → Gives m (suc o) (begins c1 c2 c3 c4 o b).toks (begins c1 c2 c3 c4 o b).next
  unfolding plain_name
  good-begins true c2 c3 c4 m o b l h = (m, omega arith, (tt, tt), omega arith)
  good-begins false true c3 c4 m o b l h = (m, omega arith, (tt, tt), omega arith)
  good-begins false false true c4 m o b l h = (m, omega arith, (tt, tt), omega arith)
  good-begins false false false true m o b l h = (m, omega arith, tt, omega arith)
  good-begins false false false false m o b l h = (m, omega arith, tt, good-starts (eqb b 0x5b) (leb 0x80 b) m o [] o b refl refl l h (omega arith) refl)

  -- one value more
  climb-value : (m s i v o : ℕ) (vs : List Val) (r : List ℕ) → o < used → v ≤ o → Climb used m v (span s i ∷ spans_of_values vs)
      → Climb used m (suc o) (span s i ∷ spans_of_values (vs ++ (record { from = v; to = o; raw = r } ∷ [])))
  climb-value m s i v o vs r l z h = (
    h.0,
    h.1,
    h.2,
    rw (values-append vs (record { from = v; to = o; raw = r } ∷ []))
        (climb-append used (suc i) v (suc o) (spans_of_values vs) (span v o ∷ []) h.3 (omega arith, z, omega arith, omega arith)),
  )

  good-values : (esc c x : Bool) (m s i : ℕ) (w : List ℕ) (vs : List Val) (v : ℕ) (r : List ℕ) (o b : ℕ) → o < used
      → Good m o (value s i w vs esc v r) → Good m (suc o) (values esc c x s i w vs v r o b)
  good-values true c x m s i w vs v r o b l h = (h.0, omega (arith, h.1), h.2)
  good-values false true x m s i w vs v r o b l h = (climb-value m s i v o vs r l h.1 h.0, h.2)
  good-values false false x m s i w vs v r o b l h = (h.0, omega (arith, h.1), h.2)

  good-afters : (c1 c2 : Bool) (m : ℕ) (p : Prop) (t : Out) (o : ℕ) → Good m o (after p) → Gives o (suc o) t.toks t.next
      → Gives m (suc o) (afters c1 c2 p t o).toks (afters c1 c2 p t o).next
  good-afters true c2 m p t o h n = (m, omega arith, tt, (climb-up used m o (suc o) (spans_of_prop p) (omega arith) h.0, h.1))
  good-afters false true m p t o h n = (m, omega arith, tt, (climb-up used m o (suc o) (spans_of_prop p) (omega arith) h.0, omega arith, h.1))
  good-afters false false m p t o h (n, a, b, c) = (n, climb-append used m o n (spans_of_prop p) (spans_of (props_of t.toks)) h.0 a, (h.1, b), c)

  good-step : (m : ℕ) (st : St) (o b : ℕ) → o < used → Good m o st → Gives m (suc o) (step st o b).toks (step st o b).next
  good-step m between o b l h = good-begins (eqb b 0x28) (eqb b 0x29) (eqb b 0x3b) (space b) m o b l h
  good-step m (ident s w) o b l h = (m, omega arith, tt, good-starts (eqb b 0x5b) (leb 0x80 b) m s w o b refl refl l h.0 h.1 h.2)
  good-step m (value s i w vs esc v r) o b l h = (m, omega arith, tt, good-values esc (eqb b 0x5d) (eqb b 0x5c) m s i w vs v r o b l h)
  good-step m (after p) o b l h =
      good-afters (space b) (eqb b 0x5b) m p (step between o b) o h (good-begins (eqb b 0x28) (eqb b 0x29) (eqb b 0x3b) (space b) o o b l (omega arith))
  good-step m (fault f s) o b l h = (m, omega arith, tt, tt)

  -- tokens behind tokens
  gives_more : (m n o : ℕ) (xs ys : List Tok) (st : St) → Climb used m n (spans_of (props_of xs)) → All (OfTok Plain) xs → Gives n o ys st → Gives m o (xs ++ ys) st
  gives_more m n o xs ys st h a (k, b, c, d) =
      (k, rw (props-append xs ys, spans-append (props_of xs) (props_of ys)) (climb-append used m n k (spans_of (props_of xs)) (spans_of (props_of ys)) h b), all_append (OfTok Plain) xs ys a c, d)

  good-run : (m : ℕ) (st : St) (o : ℕ) (bs : List ℕ) → o + length bs ≤ used → Good m o st → Gives m (place o bs) (emits st o bs) (state_after st o bs)
  good-run m st o [] l h = (m, omega arith, tt, h)
  good-run m st o (b ∷ bs) l h =
      let s = good-step m st o b (omega arith) h in
      gives_more m s.0 (place (suc o) bs) (step st o b).toks (emits (step st o b).next (suc o) bs) (state_after (step st o b).next (suc o) bs) s.1 s.2
      (good-run s.0 (step st o b).next (suc o) bs (omega arith) s.3)

  -- of all tokens: their spans, and their identifiers
  abbrev pub Ascend : ℕ → List Tok → Type 0
  Ascend m ts = (n : ℕ) × Climb used m n (spans_of (props_of ts)) × All (OfTok Plain) ts

  good-finish : (m : ℕ) (st : St) (o l : ℕ) → Good m o st → Ascend m (finish st l).toks
  good-finish m between o l h = (m, omega arith, tt)
  good-finish m (ident s w) o l h = (m, omega arith, tt)
  good-finish m (value s i w vs esc v r) o l h = (m, omega arith, tt)
  good-finish m (after p) o l h = (o, climb-append used m o o (spans_of_prop p) [] h.0 (omega arith), (h.1, tt))
  good-finish m (fault f s) o l h = (m, omega arith, tt)

  pub tokens-ascend : (f l : ℕ) (bs : List ℕ) → f + length bs ≤ used → Ascend 0 (lex_from f l bs).toks
  tokens-ascend f l bs h =
      let r = good-run 0 between f bs h (omega arith) in
      let e = good-finish r.0 (state_after between f bs) (place f bs) l r.3 in
      let xs : List Tok = emits between f bs in
      let ys : List Tok = (finish (state_after between f bs) l).toks in
      (e.0, rw (props-append xs ys, spans-append (props_of xs) (props_of ys)) (climb-append used 0 r.0 e.0 (spans_of (props_of xs)) (spans_of (props_of ys)) r.1 e.1), all_append (OfTok Plain) xs ys r.2 e.2)
