-- Where a value of the tokens stands in the text: the state before it, and what it is. Assumes nothing.
use Rattle.lists.proofs.Prelude.{◌≡◌, refl, sym, ap, ◌∙◌, ◌⊎◌, inl, inr, ℕ, suc, ◌-◌, arith, true, false, List, [], ◌∷◌, ◌++◌, append_assoc, length, get_or}
use native.Mathlib.Decide.{ℕ_discrete}
use Rattle.lists.specs.All.{All}
use Rattle.lists.proofs.All.{all_append, all_map}
use Rattle.text_utf8.proofs.Steps.{place, place_is}
use Rattle.lexer.specs.Token.{Val, Prop, Tok, start, end, node, prop, St, between, ident, value, after, fault, emits, state_after, finish, lex_from}
use Rattle.lexer.specs.Closed.{closed_from}
use Rattle.lexer_laws.proofs.Starting.{Each, each-value, each_from, last, last-is, shaped, shape-run, Never, Closed, scan}
use Rattle.lexer_laws.proofs.Machine.{ends-append, emits-append, grown, over-value}
use Rattle.lexer_laws.proofs.Invariant.{OfTok, Keeps, keep_run, keep-rest}

-- ---- a value that starts at the end of `pre`

abbrev pub NotAt : ℕ → List ℕ → Val → Type 0
NotAt q n v = v.from ≡ q → ⊥

-- a value that starts at q ends at e, in a property of the name w
abbrev pub Only : ℕ → ℕ → List ℕ → List ℕ → Val → Type 0
Only q e w n v = v.from ≡ q → (v.to ≡ e) × (n ≡ w)

-- a fact of each value of a token
abbrev pub OfVals : (List ℕ → Val → Type 0) → Tok → Type 0
OfVals P = OfTok (Each P)

pub vals-map : (P Q : List ℕ → Val → Type 0) → ((n : List ℕ) (v : Val) → P n v → Q n v) → (t : Tok) → OfVals P t → OfVals Q t
vals-map P Q f (start o) h = tt
vals-map P Q f (end o) h = tt
vals-map P Q f (node o) h = tt
vals-map P Q f (prop p e) h = all_map (P p.name) (Q p.name) (λ v. f p.name v) p.vals h

-- the value that starts at the end of `pre`: the state there, the byte before it, what it is, and that no other starts there
pub record Inside (f : ℕ) (pre rest : List ℕ) (ts : List Tok) : Type 0 where
  pub s : ℕ
  pub i : ℕ
  pub w : List ℕ
  pub vs : List Val
  pub body : List ℕ
  pub post : List ℕ
  pub state : state_after between f pre ≡ value s i w vs false (place f pre) []
  pub before : last 0 pre ≡ 0x5b
  pub rest-is : rest ≡ body ++ (0x5d ∷ post)
  pub closed : closed_from false body ≡ true
  pub only : All (OfVals (Only (place f pre) (place (place f pre) body) w)) ts

empty : (r : List ℕ) → length r ≡ 0 → r ≡ []
empty [] h = refl
empty (x ∷ xs) h = absurd (omega arith)

module _ (f l : ℕ) (pre rest : List ℕ) where
  abbrev q : ℕ
  q = place f pre

  abbrev ts : List Tok
  ts = (lex_from f l (pre ++ rest)).toks

  abbrev from-q : St → List Tok
  from-q X = emits X q rest ++ (finish (state_after X q rest) l).toks

  parts : (X : St) → state_after between f pre ≡ X → ts ≡ emits between f pre ++ from-q X
  parts X e = rw (emits-append, ends-append, e, append_assoc)

  pre-free : All (OfVals (NotAt q)) (emits between f pre) × Keeps (each-value (NotAt q) q) q (state_after between f pre)
  pre-free = keep_run (each-value (NotAt q) q) between f pre (each_from (NotAt q) q f pre (omega arith) (λ w v e r a b c z. omega arith)) tt

  -- no value starts at q
  elsewhere : (X : St) → state_after between f pre ≡ X → Keeps (each-value (NotAt q) (place q rest)) q X → All (OfVals (NotAt q)) ts
  elsewhere X e h =
      rw (parts X e)
      (all_append (OfVals (NotAt q)) (emits between f pre) (from-q X) pre-free.0
      (keep-rest (each-value (NotAt q) (place q rest)) X q l rest (each_from (NotAt q) (place q rest) q rest (omega arith) (λ w v e r a b c z. omega arith)) h))

  found : (s i : ℕ) (w : List ℕ) (vs : List Val) → state_after between f pre ≡ value s i w vs false q [] → All (NotAt q w) vs → last 0 pre ≡ 0x5b
      → All (OfVals (NotAt q)) ts ⊎ Inside f pre rest ts
  found s i w vs e h z = go (scan s i w vs q q false [] rest)
    where
      go : Never (value s i w vs false q []) q rest ⊎ Closed false rest → All (OfVals (NotAt q)) ts ⊎ Inside f pre rest ts
      go (inl n) =
          inl (rw (parts (value s i w vs false q []) e)
          (all_append (OfVals (NotAt q)) (emits between f pre) (from-q (value s i w vs false q [])) pre-free.0 (rw (n.0, n.1 l) tt)))
      go (inr c) =
          let P : List ℕ → Val → Type 0 = Only q (place q c.0) w in
          let k = over-value s i w vs q [] c.0 c.1 q c.3 in
          let p : Prop = grown s i w vs q (place q c.0) c.0 in
          let o : ℕ = suc (place q c.0) in
          let m = keep-rest (each-value P (place o c.1)) (after p) o l c.1
          (each_from P (place o c.1) o c.1 (omega arith) (λ n v e r a b d y. absurd (omega (arith, place_is q c.0))))
          (all_append (P w) vs (_ ∷ []) (all_map (NotAt q w) (P w) (λ v x y. absurd (x y)) vs h) ((λ y. (refl, refl)), tt)) in
          inr (record {
            s = s;
            i = i;
            w = w;
            vs = vs;
            body = c.0;
            post = c.1;
            state = e;
            before = z;
            rest-is = c.2;
            closed = c.3;
            only = rw (parts (value s i w vs false q []) e)
                (all_append (OfVals P) (emits between f pre) (from-q (value s i w vs false q []))
                (all_map (OfVals (NotAt q)) (OfVals P) (vals-map (NotAt q) P (λ n v x y. absurd (x y))) (emits between f pre) pre-free.0)
                (rw (c.2, k.0, k.1) m));
          })

  -- no value of the tokens starts at the end of `pre`, or it is the one that the state there says
  pub inside : All (OfVals (NotAt q)) ts ⊎ Inside f pre rest ts
  inside = go (state_after between f pre) refl pre-free.1 (shape-run f pre)
    where
      go : (X : St) → state_after between f pre ≡ X → Keeps (each-value (NotAt q) q) q X → Keeps (shaped (λ (j : ℕ). get_or (0 ∷ pre) (j - f) 0)) q X → All (OfVals (NotAt q)) ts ⊎ Inside f pre rest ts
      go between e h z = inl (elsewhere between e tt)
      go (ident s w) e h z = inl (elsewhere (ident s w) e tt)
      go (value s i w vs esc v r) e h z = elim (ℕ_discrete v q) [
        | yes y ↦ (
            let lz : length r ≡ 0 = omega (arith, z.0) in
            let rz : r ≡ [] = empty r lz in
            let ez : esc ≡ false = (z.1 lz).0 in
            let t : state_after between f pre ≡ value s i w vs false q [] = cc in
            let k : place f pre - f ≡ length pre = omega (arith, place_is f pre) in
            found s i w vs t h.0 (sym (last-is 0 pre) ∙ ap (λ (j : ℕ). get_or (0 ∷ pre) j 0) (sym k) ∙ (z.1 lz).1))
        | no n ↦ inl (elsewhere (value s i w vs esc v r) e (h.0, λ _ _ _ _. n))
      ]
      go (after p) e h z = inl (elsewhere (after p) e h)
      go (fault n s) e h z = inl (elsewhere (fault n s) e tt)
