-- What holds of the machine's states all along, and so of every property that comes out: one law for any such fact. Assumes nothing.
use Rattle.lists.proofs.Prelude.{◌≡◌, refl, ℕ, suc, Bool, true, false, List, [], ◌∷◌, ◌++◌, leb, eqb, eqb-true, eqb-false}
use Rattle.lists.specs.All.{All}
use Rattle.lists.proofs.All.{all_append}
use Rattle.text_utf8.proofs.Steps.{place}
use Rattle.lexer.specs.Token.{Val, Prop, Tok, start, end, node, prop, St, between, ident, value, after, fault, Out, property_state, begins, values, afters, step, emits, state_after, finish}
use Rattle.lexer_scan.specs.Scan.{space}

-- a fact of the property that a token is
abbrev pub OfTok : (Prop → Type 0) → Tok → Type 0
OfTok P (start o) = Unit {0}
OfTok P (end o) = Unit {0}
OfTok P (node o) = Unit {0}
OfTok P (prop p e) = P p

-- a fact of each byte at its place
abbrev pub EachAt : (ℕ → ℕ → Type 0) → ℕ → List ℕ → Type 0
EachAt A o [] = Unit {0}
EachAt A o (b ∷ bs) = A o b × EachAt A (suc o) bs

-- what is kept from byte to byte: in an identifier, in a value, of a property; where a byte b at o is known to be At o b
pub record Invariant (At : ℕ → ℕ → Type 0) (Naming : (o s : ℕ) → List ℕ → Type 0) (Valuing : (o s i : ℕ) → List ℕ → List Val → Bool → ℕ → List ℕ → Type 0) (Made : Prop → Type 0) : Type 0 where
  pub starting : {o b : ℕ} → At o b → Naming o o []
  pub naming : {o b s : ℕ} {w : List ℕ} → At o b → Naming o s w → Naming (suc o) s (w ++ (b ∷ []))
  pub opening : {o b s : ℕ} {w : List ℕ} → At o b → b ≡ 0x5b → Naming o s w → Valuing (suc o) s o w [] false (suc o) []
  pub escaped : {o b s i v : ℕ} {w r : List ℕ} {vs : List Val} → At o b → Valuing o s i w vs true v r → Valuing (suc o) s i w vs false v (r ++ (b ∷ []))
  pub valuing : {o b s i v : ℕ} {w r : List ℕ} {vs : List Val} → At o b → (b ≡ 0x5d → ⊥) → Valuing o s i w vs false v r → Valuing (suc o) s i w vs (eqb b 0x5c) v (r ++ (b ∷ []))
  pub closing : {o b s i v : ℕ} {w r : List ℕ} {vs : List Val} → At o b → b ≡ 0x5d → Valuing o s i w vs false v r
      → Made (record { from = s; to = i; name = w; vals = vs ++ (record { from = v; to = o; raw = r } ∷ []) })
  pub reopening : {o b : ℕ} {p : Prop} → At o b → b ≡ 0x5b → Made p → Valuing (suc o) p.from p.to p.name p.vals false (suc o) []

module _ {At : ℕ → ℕ → Type 0} {Naming : (o s : ℕ) → List ℕ → Type 0} {Valuing : (o s i : ℕ) → List ℕ → List Val → Bool → ℕ → List ℕ → Type 0} {Made : Prop → Type 0}
    (inv : Invariant At Naming Valuing Made) where
  abbrev pub Keeps : ℕ → St → Type 0
  Keeps o between = Unit {0}
  Keeps o (ident s w) = Naming o s w
  Keeps o (value s i w vs esc v r) = Valuing o s i w vs esc v r
  Keeps o (after p) = Made p
  Keeps o (fault f s) = Unit {0}

  abbrev Both : ℕ → Out → Type 0
  Both o t = All (OfTok Made) t.toks × Keeps o t.next

  keep-starts : (c high : Bool) (s : ℕ) (w : List ℕ) (o b : ℕ) → At o b → eqb b 0x5b ≡ c → Naming o s w → Keeps (suc o) (property_state c high s w o b)
  keep-starts true high s w o b a e n = inv.opening a (eqb-true b 0x5b e) n
  keep-starts false true s w o b a e n = tt
  keep-starts false false s w o b a e n = inv.naming a n

  keep-begins : (c1 c2 c3 c4 : Bool) (o b : ℕ) → At o b → Both (suc o) (begins c1 c2 c3 c4 o b)
  keep-begins true c2 c3 c4 o b a = ((tt, tt), tt)
  keep-begins false true c3 c4 o b a = ((tt, tt), tt)
  keep-begins false false true c4 o b a = ((tt, tt), tt)
  keep-begins false false false true o b a = (tt, tt)
  keep-begins false false false false o b a = (tt, keep-starts (eqb b 0x5b) (leb 0x80 b) o [] o b a refl (inv.starting a))

  keep-values : (esc c : Bool) (s i : ℕ) (w : List ℕ) (vs : List Val) (v : ℕ) (r : List ℕ) (o b : ℕ) → At o b → eqb b 0x5d ≡ c
      → Valuing o s i w vs esc v r → Keeps (suc o) (values esc c (eqb b 0x5c) s i w vs v r o b)
  keep-values true c s i w vs v r o b a e h = inv.escaped a h
  keep-values false true s i w vs v r o b a e h = inv.closing a (eqb-true b 0x5d e) h
  keep-values false false s i w vs v r o b a e h = inv.valuing a (eqb-false b 0x5d e) h

  keep-afters : (c1 c2 : Bool) (p : Prop) (t : Out) (o b : ℕ) → At o b → eqb b 0x5b ≡ c2 → Made p → Both (suc o) t → Both (suc o) (afters c1 c2 p t o)
  keep-afters true c2 p t o b a e h n = (tt, h)
  keep-afters false true p t o b a e h n = (tt, inv.reopening a (eqb-true b 0x5b e) h)
  keep-afters false false p t o b a e h n = ((h, n.0), n.1)

  keep-step : (st : St) (o b : ℕ) → At o b → Keeps o st → Both (suc o) (step st o b)
  keep-step between o b a h = keep-begins (eqb b 0x28) (eqb b 0x29) (eqb b 0x3b) (space b) o b a
  keep-step (ident s w) o b a h = (tt, keep-starts (eqb b 0x5b) (leb 0x80 b) s w o b a refl h)
  keep-step (value s i w vs esc v r) o b a h = (tt, keep-values esc (eqb b 0x5d) s i w vs v r o b a refl h)
  keep-step (after p) o b a h = keep-afters (space b) (eqb b 0x5b) p (step between o b) o b a refl h (keep-begins (eqb b 0x28) (eqb b 0x29) (eqb b 0x3b) (space b) o b a)
  keep-step (fault f s) o b a h = (tt, tt)

  pub keep_run : (st : St) (o : ℕ) (bs : List ℕ) → EachAt At o bs → Keeps o st → All (OfTok Made) (emits st o bs) × Keeps (place o bs) (state_after st o bs)
  keep_run st o [] a h = (tt, h)
  keep_run st o (b ∷ bs) a h =
      let s = keep-step st o b a.0 h in
      let r = keep_run (step st o b).next (suc o) bs a.1 s.1 in
      (all_append (OfTok Made) (step st o b).toks (emits (step st o b).next (suc o) bs) s.0 r.0, r.1)

  pub keep-finish : (st : St) (o l : ℕ) → Keeps o st → All (OfTok Made) (finish st l).toks
  keep-finish between o l h = tt
  keep-finish (ident s w) o l h = tt
  keep-finish (value s i w vs esc v r) o l h = tt
  keep-finish (after p) o l h = (h, tt)
  keep-finish (fault f s) o l h = tt

  -- from a state on, to the end of the text at l
  pub keep-rest : (st : St) (o l : ℕ) (bs : List ℕ) → EachAt At o bs → Keeps o st → All (OfTok Made) (emits st o bs ++ (finish (state_after st o bs) l).toks)
  keep-rest st o l bs a h =
      let r = keep_run st o bs a h in
      all_append (OfTok Made) (emits st o bs) (finish (state_after st o bs) l).toks r.0 (keep-finish (state_after st o bs) (place o bs) l r.1)
