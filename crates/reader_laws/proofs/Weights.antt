-- What tokens weigh, in bytes: no more than the text has. Assumes nothing.
use Rattle.lists.proofs.Prelude.{◌≡◌, ℕ, suc, ◌+◌, ◌*◌, ◌≤◌, ◌<◌, arith, Bool, true, false, List, [], ◌∷◌, ◌++◌, leb, eqb, length, length-append}
use Rattle.lists.specs.All.{All}
use Rattle.lexer.specs.Token.{Val, Prop, Tok, start, end, node, prop, St, between, ident, value, after, fault, Out, property_state, begins, values, afters, step, emits, state_after, finish, lex_from}
use Rattle.lexer_scan.specs.Scan.{space}
use Rattle.lexer_laws.proofs.Invariant.{OfTok}
use Rattle.lexer_laws.proofs.Proper.{HasProper}

-- its identifier, and two brackets for each value
abbrev pub prop_weight : Prop → ℕ
prop_weight p = length p.name + 2 * length p.vals

abbrev pub tok_weight : Tok → ℕ
tok_weight (start o) = 1
tok_weight (end o) = 1
tok_weight (node o) = 1
tok_weight (prop p e) = prop_weight p

abbrev pub weight : List Tok → ℕ
weight [] = 0
weight (t ∷ ts) = tok_weight t + weight ts

pub weight-append : (xs ys : List Tok) → weight (xs ++ ys) ≡ weight xs + weight ys
weight-append [] ys = omega arith
weight-append (x ∷ xs) ys = omega (arith, weight-append xs ys)

-- what the state holds of a token that is not complete
abbrev pending : St → ℕ
pending between = 0
pending (ident s w) = length w
pending (value s i w vs esc v r) = suc (length w + 2 * length vs)
pending (after p) = prop_weight p
pending (fault f s) = 0

abbrev Grows : ℕ → Out → Type 0
Grows n t = weight t.toks + pending t.next ≤ suc n

grow-starts : (c high : Bool) (s : ℕ) (w : List ℕ) (o b : ℕ) → pending (property_state c high s w o b) ≤ suc (length w)
grow-starts true high s w o b = omega arith
grow-starts false true s w o b = omega arith
grow-starts false false s w o b = omega (arith, length-append w (b ∷ []))

grow-begins : (c1 c2 c3 c4 : Bool) (o b : ℕ) → Grows 0 (begins c1 c2 c3 c4 o b)
grow-begins true c2 c3 c4 o b = omega arith
grow-begins false true c3 c4 o b = omega arith
grow-begins false false true c4 o b = omega arith
grow-begins false false false true o b = omega arith
grow-begins false false false false o b = let h = grow-starts (eqb b 0x5b) (leb 0x80 b) o [] o b in omega arith

grow-values : (esc c x : Bool) (s i : ℕ) (w : List ℕ) (vs : List Val) (v : ℕ) (r : List ℕ) (o b : ℕ)
    → pending (values esc c x s i w vs v r o b) ≤ suc (suc (length w + 2 * length vs))
grow-values true c x s i w vs v r o b = omega arith
grow-values false true x s i w vs v r o b = omega (arith, length-append vs (record { from = v; to = o; raw = r } ∷ []))
grow-values false false x s i w vs v r o b = omega arith

grow-afters : (c1 c2 : Bool) (p : Prop) (t : Out) (o : ℕ) → Grows 0 t → Grows (prop_weight p) (afters c1 c2 p t o)
grow-afters true c2 p t o h = omega arith
grow-afters false true p t o h = omega arith
grow-afters false false p t o h = omega arith

grow-step : (st : St) (o b : ℕ) → Grows (pending st) (step st o b)
grow-step between o b = grow-begins (eqb b 0x28) (eqb b 0x29) (eqb b 0x3b) (space b) o b
grow-step (ident s w) o b = let h = grow-starts (eqb b 0x5b) (leb 0x80 b) s w o b in omega arith
grow-step (value s i w vs esc v r) o b = let h = grow-values esc (eqb b 0x5d) (eqb b 0x5c) s i w vs v r o b in omega arith
grow-step (after p) o b = grow-afters (space b) (eqb b 0x5b) p (step between o b) o (grow-begins (eqb b 0x28) (eqb b 0x29) (eqb b 0x3b) (space b) o b)
grow-step (fault f s) o b = omega arith

grow-run : (st : St) (o : ℕ) (bs : List ℕ) → weight (emits st o bs) + pending (state_after st o bs) ≤ pending st + length bs
grow-run st o [] = omega arith
grow-run st o (b ∷ bs) =
    omega (arith, grow-step st o b, grow-run (step st o b).next (suc o) bs, weight-append (step st o b).toks (emits (step st o b).next (suc o) bs))

grow-finish : (st : St) (l : ℕ) → weight (finish st l).toks ≤ pending st
grow-finish between l = omega arith
grow-finish (ident s w) l = omega arith
grow-finish (value s i w vs esc v r) l = omega arith
grow-finish (after p) l = omega arith
grow-finish (fault f s) l = omega arith

pub tokens-weigh : (f l : ℕ) (bs : List ℕ) → weight (lex_from f l bs).toks ≤ length bs
tokens-weigh f l bs =
    omega (arith, grow-run between f bs, grow-finish (state_after between f bs) l, weight-append (emits between f bs) (finish (state_after between f bs) l).toks)

-- a token weighs something
tok-weighs : (t : Tok) → OfTok HasProper t → 0 < tok_weight t
tok-weighs (start o) h = omega arith
tok-weighs (end o) h = omega arith
tok-weighs (node o) h = omega arith
tok-weighs (prop p e) h = omega (arith, h.0)

pub fewer-tokens : (ts : List Tok) → All (OfTok HasProper) ts → length ts ≤ weight ts
fewer-tokens [] h = omega arith
fewer-tokens (t ∷ ts) h = omega (arith, tok-weighs t h.0, fewer-tokens ts h.1)
