-- The slice that is left, one token a turn: its tokens, those behind it, and how deep it goes. Assumes nothing.
use Rattle.lists.proofs.Prelude.{ℕ, zero, suc, ◌+◌, ◌-◌, ◌≤◌, ◌<◌, ◌≡◌, refl, sym, ap, ◌∙◌, subst⁻¹, Bool, false, List, [], ◌∷◌, ◌++◌, arith, add-one, length, drop-length}
use Rattle.lexer.specs.Token.{Prop, Tok, start, end, node, prop, done, broken, Lexed, lexed, lex_from, lex_at}
use Rattle.lexer.specs.declared.Fault.{Fault}
use Rattle.parser_tree.specs.LocalsTree.{open_token, token_tail, met_in, place_behind}
use Rattle.parser.specs.LocalsSlice.{slice_from, rest_from, Shallow}
use Rattle.parser_tree.specs.LocalsTurns.{BehindIs}

-- ---- an end

pub slice-last : (d i : ℕ) (ts : List Tok) → d ≤ 1 → slice_from d (end i ∷ ts) ≡ end i ∷ []
unfolding slice_from
slice-last zero i ts h = refl
slice-last (suc zero) i ts h = refl
slice-last (suc (suc d)) i ts h = absurd (omega arith)

pub slice-end : (d i : ℕ) (ts : List Tok) → 1 < d → slice_from d (end i ∷ ts) ≡ end i ∷ slice_from (d - 1) ts
unfolding slice_from
slice-end zero i ts h = absurd (omega arith)
slice-end (suc zero) i ts h = absurd (omega arith)
slice-end (suc (suc d)) i ts h = let e : suc (suc d) - 1 ≡ suc d = omega arith in ap (λ (z : ℕ). end i ∷ slice_from z ts) (sym e)

rest-last : (d i : ℕ) (ts : List Tok) → d ≤ 1 → rest_from d (end i ∷ ts) ≡ ts
unfolding rest_from
rest-last zero i ts h = refl
rest-last (suc zero) i ts h = refl
rest-last (suc (suc d)) i ts h = absurd (omega arith)

rest_end : (d i : ℕ) (ts : List Tok) → 1 < d → rest_from d (end i ∷ ts) ≡ rest_from (d - 1) ts
unfolding rest_from
rest_end zero i ts h = absurd (omega arith)
rest_end (suc zero) i ts h = absurd (omega arith)
rest_end (suc (suc d)) i ts h = let e : suc (suc d) - 1 ≡ suc d = omega arith in ap (λ (z : ℕ). rest_from z ts) (sym e)

pub shallow-end : (d i : ℕ) (ts : List Tok) → 1 < d → Shallow d (end i ∷ ts) → Shallow (d - 1) ts
unfolding Shallow
shallow-end zero i ts h s = absurd (omega arith)
shallow-end (suc d) i ts h s = let e : suc d - 1 ≡ d = omega arith in subst⁻¹ (λ (z : ℕ). Shallow z ts) e s

-- ---- what is met

-- at the end of the text nothing is
pub lex-end : (u : List ℕ) → lex_at u (length u) ≡ record { toks = []; end = done }
unfolding lex_at
lex-end u = ap (lex_from (length u) (length u)) (drop-length u)

pub nothing-met : (len : Bool) (u : List ℕ) (l : Lexed) → met_in len u l ≡ [] → l.toks ≡ []
nothing-met len u l h = go l.toks h
  where
    go : (ts : List Tok) → ts ++ token_tail len u l.end ≡ [] → ts ≡ []
    go [] h = refl
    go (t ∷ ts) h = absurd (let z : length (t ∷ (ts ++ token_tail len u l.end)) ≡ 0 = ap length h in omega arith)

-- ---- those behind the slice, seen from `from` with d open and from `at` with e open

pub record Skipping (len : Bool) (u : List ℕ) (from d at e : ℕ) : Type 0 where
  pub place : place_behind from (slice_from d (met_in len u (lex_at u from))) ≡ place_behind at (slice_from e (met_in len u (lex_at u at)))
  pub rest : rest_from d (lex_at u from).toks ≡ rest_from e (lex_at u at).toks
  pub ends : (len ≡ false → (lex_at u from).end ≡ done) → (lex_at u at).end ≡ (lex_at u from).end
  pub on : from ≤ at
  pub inside : at ≤ length u
  pub deep : e + from ≤ d + at

pub skipping-first : (len : Bool) (u : List ℕ) (from d : ℕ) → from ≤ length u → Skipping len u from d from d
skipping-first len u from d h = record { place = refl; rest = refl; ends = λ f. refl; on = omega arith; inside = h; deep = omega arith }

module _ {len : Bool} {u : List ℕ} {from d at e : ℕ} (x : Skipping len u from d at e) where
  -- the place, by what is met next
  place-onto : {l : Lexed} → lex_at u at ≡ l → place_behind from (slice_from d (met_in len u (lex_at u from))) ≡ place_behind at (slice_from e (met_in len u l))
  place-onto q = x.place ∙ ap (λ (z : Lexed). place_behind at (slice_from e (met_in len u z))) q

  module _ {i : ℕ} (a : at ≤ i) (b : i < length u) where
    pub skipping-start : lex_at u at ≡ lexed (start i ∷ []) (lex_at u (i + 1)) → Skipping len u from d (i + 1) (e + 1)
    unfolding rest_from slice_from place_behind
    skipping-start q =
        let o = x.on in
        let p = x.deep in
        record {
          place = place-onto q ∙ ap (λ (z : ℕ). place_behind (i + 1) (slice_from z (met_in len u (lex_at u (i + 1))))) (sym (add-one e));
          rest = x.rest ∙ ap (λ (z : Lexed). rest_from e z.toks) q ∙ ap (λ (z : ℕ). rest_from z (lex_at u (i + 1)).toks) (sym (add-one e));
          ends = λ f. sym (ap (λ (z : Lexed). z.end) q) ∙ x.ends f;
          on = omega arith;
          inside = omega arith;
          deep = omega arith;
        }

    pub skipping-end : lex_at u at ≡ lexed (end i ∷ []) (lex_at u (i + 1)) → 1 < e → Skipping len u from d (i + 1) (e - 1)
    unfolding place_behind
    skipping-end q h =
        let o = x.on in
        let p = x.deep in
        record {
          place = place-onto q ∙ ap (place_behind at) (slice-end e i (met_in len u (lex_at u (i + 1))) h);
          rest = x.rest ∙ ap (λ (z : Lexed). rest_from e z.toks) q ∙ rest_end e i (lex_at u (i + 1)).toks h;
          ends = λ f. sym (ap (λ (z : Lexed). z.end) q) ∙ x.ends f;
          on = omega arith;
          inside = omega arith;
          deep = omega arith;
        }

    pub skipping-last : lex_at u at ≡ lexed (end i ∷ []) (lex_at u (i + 1)) → e ≤ 1 → BehindIs len u from d (i + 1)
    unfolding place_behind
    skipping-last q h =
        let o = x.on in
        record {
          place = place-onto q ∙ ap (place_behind at) (slice-last e i (met_in len u (lex_at u (i + 1))) h);
          rest = x.rest ∙ ap (λ (z : Lexed). rest_from e z.toks) q ∙ rest-last e i (lex_at u (i + 1)).toks h;
          ends = λ f. sym (ap (λ (z : Lexed). z.end) q) ∙ x.ends f;
          on = omega arith;
          inside = omega arith;
        }

    pub skipping-node : lex_at u at ≡ lexed (node i ∷ []) (lex_at u (i + 1)) → Skipping len u from d (i + 1) e
    unfolding rest_from slice_from place_behind
    skipping-node q =
        let o = x.on in
        let p = x.deep in
        record {
          place = place-onto q;
          rest = x.rest ∙ ap (λ (z : Lexed). rest_from e z.toks) q;
          ends = λ f. sym (ap (λ (z : Lexed). z.end) q) ∙ x.ends f;
          on = omega arith;
          inside = omega arith;
          deep = omega arith;
        }

  pub skipping-prop : {P : Prop} {o : ℕ} → at ≤ o → o ≤ length u → lex_at u at ≡ lexed (prop P o ∷ []) (lex_at u o) → Skipping len u from d o e
  unfolding rest_from slice_from place_behind
  skipping-prop {P} {o} a b q =
      let n = x.on in
      let p = x.deep in
      record {
        place = place-onto q;
        rest = x.rest ∙ ap (λ (z : Lexed). rest_from e z.toks) q;
        ends = λ f. sym (ap (λ (z : Lexed). z.end) q) ∙ x.ends f;
        on = omega arith;
        inside = b;
        deep = omega arith;
      }

  -- a property that strict reading takes up to the end of the text
  pub skipping-open : {P : Prop} {f : Fault} {s : ℕ} → len ≡ false → lex_at u at ≡ record { toks = []; end = broken f s } → open_token u (broken f s) ≡ prop P (length u) ∷ [] → Skipping len u from d (length u) e
  unfolding rest_from slice_from place_behind
  skipping-open {P} {f} {s} l q t =
      let i = x.inside in
      let o = x.on in
      let p = x.deep in
      let z = lex-end u in
      record {
        place =
            place-onto q
            ∙ ap (λ (b : Bool). place_behind at (slice_from e (token_tail b u (broken f s)))) l
            ∙ ap (λ (ts : List Tok). place_behind at (slice_from e ts)) t
            ∙ sym (ap (λ (y : Lexed). place_behind (length u) (slice_from e (met_in len u y))) z ∙ ap (λ (b : Bool). place_behind (length u) (slice_from e (token_tail b u done))) l);
        rest = x.rest ∙ ap (λ (y : Lexed). rest_from e y.toks) q ∙ sym (ap (λ (y : Lexed). rest_from e y.toks) z);
        ends = λ h. ap (λ (y : Lexed). y.end) z ∙ sym (h l);
        on = omega arith;
        inside = omega arith;
        deep = omega arith;
      }

  -- no token is left
  pub skipping-over : met_in len u (lex_at u at) ≡ [] → BehindIs len u from d at
  unfolding rest_from slice_from place_behind
  skipping-over q =
      let t = nothing-met len u (lex_at u at) q in
      record { place = x.place ∙ ap (λ (ts : List Tok). place_behind at (slice_from e ts)) q; rest = x.rest ∙ ap (rest_from e) t ∙ sym t; ends = x.ends; on = x.on; inside = x.inside }

  -- the rest was skipped
  pub skipping-behind : {r : ℕ} → BehindIs len u at e r → BehindIs len u from d r
  skipping-behind b =
      let o = x.on in
      let p = b.on in
      record {
        place = x.place ∙ b.place;
        rest = x.rest ∙ b.rest;
        ends = λ f. b.ends (λ l. x.ends f ∙ f l) ∙ x.ends f;
        on = omega arith;
        inside = b.inside;
      }
