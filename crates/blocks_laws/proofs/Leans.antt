-- The token rules without contents follow the machine with them. Assumes nothing.
use Rattle.lists.proofs.Prelude.{◌≡◌, refl, ap, ℕ, suc, Bool, true, false, List, [], ◌∷◌, ◌++◌, leb, eqb}
use Rattle.lexer_scan.specs.Scan.{space}
use Rattle.lexer.specs.Token.{Val, Prop, Tok, St, Out, End, step, state_after}
use Rattle.lexer.specs.Token as machine
use Rattle.lexer.specs.declared.Fault.TheVariants.{UnexpectedEndOfPropertyIdentifier}
use Rattle.blocks_step.specs.Lean.{phase_of, machine_of, tokens_done, moved_of, moves}
use Rattle.blocks.specs.Room.{rows_at}
use Rattle.blocks_laws.specs.Reading.{row_of_token, token_rows}

-- ---- one byte

property-lean : (c high : Bool) (s : ℕ) (w v : List ℕ) (o b : ℕ) → phase_of (machine.property_state c high s w o b) ≡ phase_of (machine.property_state c high s v o b)
property-lean true high s w v o b = refl
property-lean false true s w v o b = refl
property-lean false false s w v o b = refl

values-lean : (e c x : Bool) (s i i' : ℕ) (w w' : List ℕ) (vs vs' : List Val) (v v' : ℕ) (r r' : List ℕ) (o b : ℕ)
    → phase_of (machine.values e c x s i w vs v r o b) ≡ phase_of (machine.values e c x s i' w' vs' v' r' o b)
values-lean true c x s i i' w w' vs vs' v v' r r' o b = refl
values-lean false true x s i i' w w' vs vs' v v' r r' o b = refl
values-lean false false true s i i' w w' vs vs' v v' r r' o b = refl
values-lean false false false s i i' w w' vs vs' v v' r r' o b = refl

done-lean : (p p' : Prop) (o : ℕ) (ts : List Tok) → p.from ≡ p'.from → tokens_done (machine.prop p o ∷ ts) ≡ tokens_done (machine.prop p' o ∷ ts)
done-lean p p' o [] h = rw h
done-lean p p' o (t ∷ ts) h = rw h

afters-lean : (c1 c2 : Bool) (p p' : Prop) (t : Out) (o : ℕ) → p.from ≡ p'.from → moved_of (machine.afters c1 c2 p t o) ≡ moved_of (machine.afters c1 c2 p' t o)
afters-lean true c2 p p' t o h = rw h
afters-lean false true p p' t o h = rw h
afters-lean false false p p' t o h = rw (done-lean p p' o t.toks h)

pub step-lean : (st : St) (o b : ℕ) → moved_of (step st o b) ≡ moves (phase_of st) o b
unfolding moves
step-lean machine.between o b = refl
step-lean (machine.ident s w) o b = rw (property-lean (eqb b 0x5b) (leb 0x80 b) s w [] o b)
step-lean (machine.value s i w vs true v r) o b = refl
step-lean (machine.value s i w vs false v r) o b = rw (values-lean false (eqb b 0x5d) (eqb b 0x5c) s i 0 w [] vs [] v 0 r [] o b)
step-lean (machine.after p) o b = afters-lean (space b) (eqb b 0x5b) p (record { from = p.from; to = 0; name = []; vals = [] }) (machine.begins (eqb b 0x28) (eqb b 0x29) (eqb b 0x3b) (space b) o b) o refl
step-lean (machine.fault f s) o b = refl

-- ---- the rows of the tokens

begins-rows : (c1 c2 c3 c4 : Bool) (o b : ℕ) → rows_at (tokens_done (machine.begins c1 c2 c3 c4 o b).toks) o ≡ token_rows (machine.begins c1 c2 c3 c4 o b).toks
begins-rows true c2 c3 c4 o b = refl
begins-rows false true c3 c4 o b = refl
begins-rows false false true c4 o b = refl
begins-rows false false false true o b = refl
begins-rows false false false false o b = refl

afters-rows : (c c' c1 c2 c3 c4 : Bool) (p : Prop) (o b : ℕ)
    → rows_at (tokens_done (machine.afters c c' p (machine.begins c1 c2 c3 c4 o b) o).toks) o ≡ token_rows (machine.afters c c' p (machine.begins c1 c2 c3 c4 o b) o).toks
afters-rows true c' c1 c2 c3 c4 p o b = refl
afters-rows false true c1 c2 c3 c4 p o b = refl
afters-rows false false true c2 c3 c4 p o b = refl
afters-rows false false false true c3 c4 p o b = refl
afters-rows false false false false true c4 p o b = refl
afters-rows false false false false false true p o b = refl
afters-rows false false false false false false p o b = refl

pub step-rows : (st : St) (o b : ℕ) → rows_at (tokens_done (step st o b).toks) o ≡ token_rows (step st o b).toks
step-rows machine.between o b = begins-rows (eqb b 0x28) (eqb b 0x29) (eqb b 0x3b) (space b) o b
step-rows (machine.ident s w) o b = refl
step-rows (machine.value s i w vs e v r) o b = refl
step-rows (machine.after p) o b = afters-rows (space b) (eqb b 0x5b) (eqb b 0x28) (eqb b 0x29) (eqb b 0x3b) (space b) p o b
step-rows (machine.fault f s) o b = refl

pub rows_append : (xs ys : List Tok) → token_rows (xs ++ ys) ≡ token_rows xs ++ token_rows ys
rows_append [] ys = refl
rows_append (x ∷ xs) ys = ap (λ (z : List (List ℕ)). row_of_token x ∷ z) (rows_append xs ys)

-- ---- the end: before it no other fault arises than an identifier that meets a byte beyond ASCII

abbrev pub Mild : St → Type 0
Mild machine.between = Unit {0}
Mild (machine.ident s w) = Unit {0}
Mild (machine.value s i w vs e v r) = Unit {0}
Mild (machine.after p) = Unit {0}
Mild (machine.fault f s) = f ≡ UnexpectedEndOfPropertyIdentifier

property-mild : (c high : Bool) (s : ℕ) (w : List ℕ) (o b : ℕ) → Mild (machine.property_state c high s w o b)
property-mild true high s w o b = tt
property-mild false true s w o b = refl
property-mild false false s w o b = tt

begins-mild : (c1 c2 c3 c4 : Bool) (o b : ℕ) → Mild (machine.begins c1 c2 c3 c4 o b).next
begins-mild true c2 c3 c4 o b = tt
begins-mild false true c3 c4 o b = tt
begins-mild false false true c4 o b = tt
begins-mild false false false true o b = tt
begins-mild false false false false o b = property-mild (eqb b 0x5b) (leb 0x80 b) o [] o b

values-mild : (e c x : Bool) (s i : ℕ) (w : List ℕ) (vs : List Val) (v : ℕ) (r : List ℕ) (o b : ℕ) → Mild (machine.values e c x s i w vs v r o b)
values-mild true c x s i w vs v r o b = tt
values-mild false true x s i w vs v r o b = tt
values-mild false false x s i w vs v r o b = tt

afters-mild : (c1 c2 : Bool) (p : Prop) (t : Out) (o : ℕ) → Mild t.next → Mild (machine.afters c1 c2 p t o).next
afters-mild true c2 p t o h = tt
afters-mild false true p t o h = tt
afters-mild false false p t o h = h

step-mild : (st : St) (o b : ℕ) → Mild st → Mild (step st o b).next
step-mild machine.between o b h = begins-mild (eqb b 0x28) (eqb b 0x29) (eqb b 0x3b) (space b) o b
step-mild (machine.ident s w) o b h = property-mild (eqb b 0x5b) (leb 0x80 b) s w o b
step-mild (machine.value s i w vs e v r) o b h = values-mild e (eqb b 0x5d) (eqb b 0x5c) s i w vs v r o b
step-mild (machine.after p) o b h = afters-mild (space b) (eqb b 0x5b) p (machine.begins (eqb b 0x28) (eqb b 0x29) (eqb b 0x3b) (space b) o b) o (begins-mild (eqb b 0x28) (eqb b 0x29) (eqb b 0x3b) (space b) o b)
step-mild (machine.fault f s) o b h = h

pub after-mild : (st : St) (o : ℕ) (xs : List ℕ) → Mild st → Mild (state_after st o xs)
after-mild st o [] h = h
after-mild st o (b ∷ xs) h = after-mild (step st o b).next (suc o) xs (step-mild st o b h)

pub finish-lean : (st : St) (o : ℕ) → Mild st
    → (token_rows (machine.finish st o).toks ≡ token_rows (machine.finish (machine_of (phase_of st)) o).toks) × ((machine.finish st o).end ≡ (machine.finish (machine_of (phase_of st)) o).end)
finish-lean machine.between o h = (refl, refl)
finish-lean (machine.ident s w) o h = (refl, refl)
finish-lean (machine.value s i w vs true v r) o h = (refl, refl)
finish-lean (machine.value s i w vs false v r) o h = (refl, refl)
finish-lean (machine.after p) o h = (refl, refl)
finish-lean (machine.fault f s) o h = (refl, rw h)
