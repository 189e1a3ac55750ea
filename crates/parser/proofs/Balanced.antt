-- Strict splitting accepts exactly when no prefix of the tokens has more ends than starts, starts and ends are equal in number, and an end exists. Assumes nothing.
use Rattle.lists.proofs.Prelude.{ℕ, zero, suc, ◌+◌, ◌≤◌, ◌<◌, max, ◌≡◌, refl, subst, Bool, true, false, List, [], ◌∷◌, reverse, arith, ltb, length, pick}
use Rattle.lexer.specs.Token.{Tok, start, end, node, prop}
use Rattle.tables.specs.Numbers.{depth_limit, number_of}
use Rattle.tables.specs.declared.Reason.{Reason}
use Rattle.tables.specs.declared.Reason.TheVariants.{UnexpectedGameTreeEnd, TooDeep}
use Rattle.parser.specs.Balance.{starts, ends, Covered, Balanced}
use Rattle.parser.specs.Split.{Splitting, splitting, over, wrong, split, Slices, no, slices, sliced, split_by_gametree}

-- splitting accepts, though the slices may then be too deep (9)
abbrev pub Accepts : Slices → Type 0
Accepts (slices ss) = Unit {0}
Accepts (no r) = number_of r ≡ 9

-- ---- what splitting comes to: e ends and s starts behind, from the depth d and l slices on

abbrev pub Comes : (e s d l : ℕ) → Splitting → Type 0
Comes e s d l (splitting d' m cur ss) = (d' + e ≡ d + s) × (l ≤ length ss) × (length ss ≤ l + e) × (d' ≡ 0 → 0 < d + s → 0 < length ss)
Comes e s d l (over m ss) = ⊥
Comes e s d l (wrong r) = ⊥

come-start : (e s d l : ℕ) (x : Splitting) → Comes e s (suc d) l x → Comes e (suc s) d l x
come-start e s d l (splitting d' m cur ss) (a, b, c, h) = (omega (arith, a), b, c, λ z p. h z (omega arith))
come-start e s d l (over m ss) h = h
come-start e s d l (wrong r) h = h

come-slice : (e s l : ℕ) (x : Splitting) → Comes e s 0 (suc l) x → Comes (suc e) s 1 l x
come-slice e s l (splitting d' m cur ss) (a, b, c, h) = (omega (arith, a), omega (arith, b), omega (arith, c), λ z p. omega (arith, b))
come-slice e s l (over m ss) h = h
come-slice e s l (wrong r) h = h

come-end : (e s d l : ℕ) (x : Splitting) → Comes e s (suc d) l x → Comes (suc e) s (suc (suc d)) l x
come-end e s d l (splitting d' m cur ss) (a, b, c, h) = (omega (arith, a), b, omega (arith, c), λ z p. h z (omega arith))
come-end e s d l (over m ss) h = h
come-end e s d l (wrong r) h = h

pub comes : (ts : List Tok) (d m : ℕ) (cur : List Tok) (ss : List (List Tok)) → Covered d ts → Comes (ends ts) (starts ts) d (length ss) (split false (splitting d m cur ss) ts)
comes [] d m cur ss h = (omega arith, omega arith, omega arith, λ z p. absurd (omega (arith, z, p)))
comes (start o ∷ ts) d m cur ss h = come-start (ends ts) (starts ts) d (length ss) (split false (splitting (suc d) (max m (suc d)) (start o ∷ cur) ss) ts)
    (comes ts (suc d) (max m (suc d)) (start o ∷ cur) ss (λ k. omega (arith, h (suc k))))
comes (end o ∷ ts) zero m cur ss h = absurd (omega (arith, h 1))
comes (end o ∷ ts) (suc zero) m cur ss h = come-slice (ends ts) (starts ts) (length ss) (split false (splitting 0 m [] (reverse (end o ∷ cur) ∷ ss)) ts)
    (comes ts 0 m [] (reverse (end o ∷ cur) ∷ ss) (λ k. omega (arith, h (suc k))))
comes (end o ∷ ts) (suc (suc d)) m cur ss h = come-end (ends ts) (starts ts) d (length ss) (split false (splitting (suc d) m (end o ∷ cur) ss) ts)
    (comes ts (suc d) m (end o ∷ cur) ss (λ k. omega (arith, h (suc k))))
comes (node o ∷ ts) d m cur ss h = comes ts d m (node o ∷ cur) ss (λ k. h (suc k))
comes (prop p e ∷ ts) d m cur ss h = comes ts d m (prop p e ∷ cur) ss (λ k. h (suc k))

-- ---- accepted

deep-accepts : (b : Bool) (ss : List (List Tok)) → Accepts (pick b (no TooDeep) (slices ss))
deep-accepts true ss = refl
deep-accepts false ss = tt

accepts : (e s : ℕ) (x : Splitting) → Comes e s 0 0 x → s ≡ e → 0 < e → Accepts (sliced false x)
accepts e s (splitting zero m cur []) (a, b, c, h) q p = absurd (omega (arith, h refl (omega (arith, q, p))))
accepts e s (splitting zero m cur (c ∷ cs)) h q p = deep-accepts (ltb depth_limit m) _
accepts e s (splitting (suc d) m cur ss) (a, b, c, h) q p = absurd (omega (arith, a, q))
accepts e s (over m _) h q p = elim h [ ]
accepts e s (wrong _) h q p = elim h [ ]

pub balanced-accepted : (ts : List Tok) → Balanced ts → Accepts (split_by_gametree false ts)
balanced-accepted ts b = accepts (ends ts) (starts ts) (split false (splitting 0 0 [] []) ts) (comes ts 0 0 [] [] b.covered) b.equal b.some

-- ---- and only so

stays-wrong : (r : Reason) (ts : List Tok) → split false (wrong r) ts ≡ wrong r
stays-wrong r [] = refl
stays-wrong r (t ∷ ts) = stays-wrong r ts

not-six : (ts : List Tok) → Accepts (sliced false (split false (wrong UnexpectedGameTreeEnd) ts)) → ⊥
not-six ts h = let n : number_of UnexpectedGameTreeEnd ≡ 9 = subst (λ (x : Splitting). Accepts (sliced false x)) (stays-wrong UnexpectedGameTreeEnd ts) h in omega (arith, n)

covers : (ts : List Tok) (d m : ℕ) (cur : List Tok) (ss : List (List Tok)) → Accepts (sliced false (split false (splitting d m cur ss) ts)) → Covered d ts
covers ts d m cur ss h zero = omega arith
covers [] d m cur ss h (suc k) = omega arith
covers (start o ∷ ts) d m cur ss h (suc k) = omega (arith, covers ts (suc d) _ _ ss h k)
covers (end o ∷ ts) zero m cur ss h (suc k) = absurd (not-six ts h)
covers (end o ∷ ts) (suc zero) m cur ss h (suc k) = omega (arith, covers ts 0 _ _ _ h k)
covers (end o ∷ ts) (suc (suc d)) m cur ss h (suc k) = omega (arith, covers ts (suc d) _ _ ss h k)
covers (node o ∷ ts) d m cur ss h (suc k) = covers ts d _ _ ss h k
covers (prop p e ∷ ts) d m cur ss h (suc k) = covers ts d _ _ ss h k

equals : (e s : ℕ) (x : Splitting) → Comes e s 0 0 x → Accepts (sliced false x) → (s ≡ e) × (0 < e)
equals e s (splitting zero m cur []) h a = absurd (omega (arith, a))
equals e s (splitting zero m cur (c ∷ cs)) (a, b, f, h) q = (omega (arith, a), omega (arith, f))
equals e s (splitting (suc d) m cur ss) h a = absurd (omega (arith, a))
equals e s (over m _) h a = elim h [ ]
equals e s (wrong _) h a = elim h [ ]

pub accepted-balanced : (ts : List Tok) → Accepts (split_by_gametree false ts) → Balanced ts
accepted-balanced ts a =
    let c = covers ts 0 0 [] [] a in
    let q = equals (ends ts) (starts ts) (split false (splitting 0 0 [] []) ts) (comes ts 0 0 [] [] c) a in
    record { covered = c; equal = q.0; some = q.1 }
