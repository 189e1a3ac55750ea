-- A property token directly behind another has an identifier that is not empty. Assumes nothing.
use Rattle.lists.proofs.Prelude.{◌≡◌, refl, sym, ◌∙◌, ℕ, suc, ◌<◌, arith, Bool, true, false, true≢false, List, [], ◌∷◌, ◌++◌, append_assoc, leb, eqb, length, length-append}
use Rattle.lexer.specs.Token.{Val, Prop, Tok, start, end, node, prop, St, between, ident, value, after, fault, Out, property_state, begins, values, afters, step, emits, state_after, finish, lex_from}
use Rattle.lexer_scan.specs.Scan.{space}

-- b: there is a property directly before these tokens
abbrev pub Spaced : Bool → List Tok → Type 0
Spaced b [] = Unit {0}
Spaced b (start o ∷ ts) = Spaced false ts
Spaced b (end o ∷ ts) = Spaced false ts
Spaced b (node o ∷ ts) = Spaced false ts
Spaced b (prop p e ∷ ts) = (b ≡ true → 0 < length p.name) × (0 < length p.vals) × Spaced true ts

pub spaced-off : (b : Bool) (ts : List Tok) → Spaced b ts → Spaced false ts
spaced-off b [] h = tt
spaced-off b (start o ∷ ts) h = h
spaced-off b (end o ∷ ts) h = h
spaced-off b (node o ∷ ts) h = h
spaced-off b (prop p e ∷ ts) h = ((λ z. absurd (true≢false (sym z))), h.1, h.2)

-- b: the last token was a property
abbrev Fine : Bool → St → Type 0
Fine b between = b ≡ false
Fine b (ident s w) = 0 < length w
Fine b (value s i w vs esc v r) = b ≡ true → 0 < length w
Fine b (after p) = (b ≡ true → 0 < length p.name) × (0 < length p.vals)
Fine b (fault f s) = Unit {0}

-- what comes behind these tokens from a fine state is spaced, so all is
abbrev Gives : Bool → Out → Type 0
Gives b t = (c : Bool) × Fine c t.next × ((ts : List Tok) → Spaced c ts → Spaced b (t.toks ++ ts))

fine-starts : (c high b : Bool) (s : ℕ) (w : List ℕ) (o x : ℕ) → (c ≡ true → b ≡ true → 0 < length w) → Fine b (property_state c high s w o x)
fine-starts true high b s w o x h = h refl
fine-starts false true b s w o x h = tt
fine-starts false false b s w o x h = omega (arith, length-append w (x ∷ []))

off : (b : Bool) → (b ≡ true → ⊥) → b ≡ false
off true h = absurd (h refl)
off false h = refl

-- between tokens; directly behind a property neither white space nor `[` comes
give-begins : (c1 c2 c3 c4 b : Bool) (o x : ℕ) → (b ≡ true → c4 ≡ false) → (b ≡ true → eqb x 0x5b ≡ false) → Gives b (begins c1 c2 c3 c4 o x)
give-begins true c2 c3 c4 b o x w h = (false, refl, λ ts k. k)
give-begins false true c3 c4 b o x w h = (false, refl, λ ts k. k)
give-begins false false true c4 b o x w h = (false, refl, λ ts k. k)
give-begins false false false true b o x w h = (b, off b (λ z. true≢false (w z)), λ ts k. k)
give-begins false false false false b o x w h =
    (b, fine-starts (eqb x 0x5b) (leb 0x80 x) b o [] o x (λ c z. absurd (true≢false (sym c ∙ h z))), λ ts k. k)

fine-values : (esc c q b : Bool) (s i : ℕ) (w : List ℕ) (vs : List Val) (v : ℕ) (r : List ℕ) (o x : ℕ) → (b ≡ true → 0 < length w) → Fine b (values esc c q s i w vs v r o x)
fine-values true c q b s i w vs v r o x h = h
fine-values false true q b s i w vs v r o x h = (h, omega (arith, length-append vs (record { from = v; to = o; raw = r } ∷ [])))
fine-values false false q b s i w vs v r o x h = h

give-afters : (c1 c2 b : Bool) (p : Prop) (t : Out) (o : ℕ) → Fine b (after p) → (c1 ≡ false → c2 ≡ false → Gives true t) → Gives b (afters c1 c2 p t o)
give-afters true c2 b p t o h g = (b, h, λ ts k. k)
give-afters false true b p t o h g = (b, h.0, λ ts k. k)
give-afters false false b p t o h g = let r = g refl refl in (r.0, r.1, λ ts k. (h.0, h.1, r.2 ts k))

give-step : (b : Bool) (st : St) (o x : ℕ) → Fine b st → Gives b (step st o x)
give-step b between o x h =
    give-begins (eqb x 0x28) (eqb x 0x29) (eqb x 0x3b) (space x) b o x (λ z. absurd (true≢false (sym z ∙ h))) (λ z. absurd (true≢false (sym z ∙ h)))
give-step b (ident s w) o x h = (b, fine-starts (eqb x 0x5b) (leb 0x80 x) b s w o x (λ _ _. h), λ ts k. k)
give-step b (value s i w vs esc v r) o x h = (b, fine-values esc (eqb x 0x5d) (eqb x 0x5c) b s i w vs v r o x h, λ ts k. k)
give-step b (after p) o x h =
    give-afters (space x) (eqb x 0x5b) b p (step between o x) o h
    (λ e f. give-begins (eqb x 0x28) (eqb x 0x29) (eqb x 0x3b) (space x) true o x (λ _. e) (λ _. f))
give-step b (fault f s) o x h = (b, tt, λ ts k. k)

spaced-finish : (b : Bool) (st : St) (l : ℕ) → Fine b st → Spaced b (finish st l).toks
spaced-finish b between l h = tt
spaced-finish b (ident s w) l h = tt
spaced-finish b (value s i w vs esc v r) l h = tt
spaced-finish b (after p) l h = (h.0, h.1, tt)
spaced-finish b (fault f s) l h = tt

spaced-run : (b : Bool) (st : St) (o l : ℕ) (bs : List ℕ) → Fine b st → Spaced b (emits st o bs ++ (finish (state_after st o bs) l).toks)
spaced-run b st o l [] h = spaced-finish b st l h
spaced-run b st o l (x ∷ bs) h =
    let r = give-step b st o x h in
    let n : St = (step st o x).next in
    rw (append_assoc (step st o x).toks (emits n (suc o) bs) (finish (state_after n (suc o) bs) l).toks)
    (r.2 (emits n (suc o) bs ++ (finish (state_after n (suc o) bs) l).toks) (spaced-run r.0 n (suc o) l bs r.1))

pub tokens-spaced : (f l : ℕ) (bs : List ℕ) → Spaced false (lex_from f l bs).toks
tokens-spaced f l bs = spaced-run false between f l bs refl
