-- In a slice no prefix has more ends than starts. Assumes nothing.
use Rattle.lists.proofs.Prelude.{ℕ, zero, suc, List, [], ◌∷◌, arith}
use Rattle.lists.specs.All.{All}
use Rattle.lexer.specs.Token.{Prop, Tok, start, end, node, prop}
use Rattle.parser.specs.Balance.{Covered}
use Rattle.reader_exactly.specs.Slicing.{onto, slices_from}

-- of slices, the first of which is at depth d
abbrev Firm : ℕ → List (List Tok) → Type 0
Firm d [] = Unit {0}
Firm d (s ∷ ss) = Covered d s × All (Covered 0) ss

firm-zero : (ss : List (List Tok)) → Firm 0 ss → All (Covered 0) ss
firm-zero [] h = tt
firm-zero (s ∷ ss) h = h

firm-on : (t : Tok) (d e : ℕ) → ((s : List Tok) → Covered e s → Covered d (t ∷ s)) → (ss : List (List Tok)) → Firm e ss → Firm d (onto t ss)
firm-on t d e f [] h = tt
firm-on t d e f (s ∷ ss) h = (f s h.0, h.1)

on-start : (o d : ℕ) (s : List Tok) → Covered (suc d) s → Covered d (start o ∷ s)
on-start o d s h zero = omega arith
on-start o d s h (suc k) = omega (arith, h k)

on-end : (o d : ℕ) (s : List Tok) → Covered d s → Covered (suc d) (end o ∷ s)
on-end o d s h zero = omega arith
on-end o d s h (suc k) = omega (arith, h k)

on-node : (o d : ℕ) (s : List Tok) → Covered d s → Covered d (node o ∷ s)
on-node o d s h zero = omega arith
on-node o d s h (suc k) = h k

on-prop : (p : Prop) (e d : ℕ) (s : List Tok) → Covered d s → Covered d (prop p e ∷ s)
on-prop p e d s h zero = omega arith
on-prop p e d s h (suc k) = h k

on_none : (d : ℕ) → Covered d []
on_none d zero = omega arith
on_none d (suc k) = omega arith

firm : (ts : List Tok) (d : ℕ) → Firm d (slices_from d ts)
unfolding slices_from
firm [] zero = tt
firm [] (suc d) = (on_none (suc d), tt)
firm (start o ∷ ts) d = firm-on (start o) d (suc d) (on-start o d) (slices_from (suc d) ts) (firm ts (suc d))
firm (end o ∷ ts) zero = tt
firm (end o ∷ ts) (suc zero) = (on-end o 0 [] (on_none 0), firm-zero (slices_from 0 ts) (firm ts 0))
firm (end o ∷ ts) (suc (suc d)) = firm-on (end o) (suc (suc d)) (suc d) (on-end o (suc d)) (slices_from (suc d) ts) (firm ts (suc d))
firm (node o ∷ ts) d = firm-on (node o) d d (on-node o d) (slices_from d ts) (firm ts d)
firm (prop p e ∷ ts) d = firm-on (prop p e) d d (on-prop p e d) (slices_from d ts) (firm ts d)

pub slices-covered : (ts : List Tok) → All (Covered 0) (slices_from 0 ts)
slices-covered ts = firm-zero (slices_from 0 ts) (firm ts 0)
