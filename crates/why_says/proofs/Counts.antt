-- What splitting has counted, and that every slice has a token. Assumes nothing.
use Rattle.lists.proofs.Prelude.{ℕ, zero, suc, ◌+◌, ◌≤◌, ◌<◌, max, ◌≡◌, refl, sym, subst, Bool, true, false, List, [], ◌∷◌, reverse, arith, length, take}
use Rattle.lists.specs.All.{All}
use Rattle.lexer.specs.Token.{Tok, start, end, node, prop}
use Rattle.tables.specs.declared.Reason.TheVariants.{UnexpectedGameTreeEnd}
use Rattle.parser.specs.Split.{Splitting, splitting, over, wrong, split}
use Rattle.parser.specs.Balance.{starts, ends, Covered}
use Rattle.parser.proofs.Surveys.{wrong_stays, over-stays}
use Rattle.reader_exactly.specs.Slicing.{onto, slices_from}

-- from depth d₀ and greatest depth m₀ on the tokens bring the depth to d and the greatest depth to m
pub record Counted (d₀ m₀ : ℕ) (xs : List Tok) (d m : ℕ) : Type 0 where
  pub count : d₀ + starts xs ≡ d + ends xs
  pub covered : Covered d₀ xs
  pub low : m₀ ≤ m
  pub high : d₀ ≤ m₀ → d ≤ m
  pub bound : d₀ ≤ m₀ → (k : ℕ) → d₀ + starts (take k xs) ≤ m + ends (take k xs)
  pub least : (b : ℕ) → m₀ ≤ b → ((k : ℕ) → d₀ + starts (take k xs) ≤ b + ends (take k xs)) → m ≤ b

counted_start : {d₀ m₀ d m : ℕ} {xs : List Tok} (o : ℕ) → Counted (suc d₀) (max m₀ (suc d₀)) xs d m → Counted d₀ m₀ (start o ∷ xs) d m
counted_start {d₀} {m₀} {d} {m} {xs} o c =
    let l = c.low in
    record { count = omega (arith, c.count); covered = cover; low = omega arith; high = λ h. c.high (omega arith); bound = below; least = λ b h g. c.least b (omega (arith, g 1)) (λ k. omega (arith, g (suc k))) }
  where
    cover : Covered d₀ (start o ∷ xs)
    cover zero = omega arith
    cover (suc k) = omega (arith, c.covered k)

    below : d₀ ≤ m₀ → (k : ℕ) → d₀ + starts (take k (start o ∷ xs)) ≤ m + ends (take k (start o ∷ xs))
    below h zero = let l = c.low in omega arith
    below h (suc k) = omega (arith, c.bound (omega arith) k)

counted-end : {d₀ m₀ d m : ℕ} {xs : List Tok} (o : ℕ) → Counted d₀ m₀ xs d m → Counted (suc d₀) m₀ (end o ∷ xs) d m
counted-end {d₀} {m₀} {d} {m} {xs} o c =
    record { count = omega (arith, c.count); covered = cover; low = c.low; high = λ h. c.high (omega arith); bound = below; least = λ b h g. c.least b h (λ k. omega (arith, g (suc k))) }
  where
    cover : Covered (suc d₀) (end o ∷ xs)
    cover zero = omega arith
    cover (suc k) = omega (arith, c.covered k)

    below : suc d₀ ≤ m₀ → (k : ℕ) → suc d₀ + starts (take k (end o ∷ xs)) ≤ m + ends (take k (end o ∷ xs))
    below h zero = let l = c.low in omega arith
    below h (suc k) = omega (arith, c.bound (omega arith) k)

-- a token that is neither
counted-on : {d₀ m₀ d m : ℕ} {xs : List Tok} (t : Tok) → ((ys : List Tok) → starts (t ∷ ys) ≡ starts ys) → ((ys : List Tok) → ends (t ∷ ys) ≡ ends ys)
    → Counted d₀ m₀ xs d m → Counted d₀ m₀ (t ∷ xs) d m
counted-on {d₀} {m₀} {d} {m} {xs} t s e c =
    record { count = omega (arith, c.count, s xs, e xs); covered = cover; low = c.low; high = c.high; bound = below; least = λ b h g. c.least b h (λ k. omega (arith, g (suc k), s (take k xs), e (take k xs))) }
  where
    cover : Covered d₀ (t ∷ xs)
    cover zero = omega arith
    cover (suc k) = omega (arith, c.covered k, s (take k xs), e (take k xs))

    below : d₀ ≤ m₀ → (k : ℕ) → d₀ + starts (take k (t ∷ xs)) ≤ m + ends (take k (t ∷ xs))
    below h zero = let l = c.low in omega arith
    below h (suc k) = omega (arith, c.bound h k, s (take k xs), e (take k xs))

counted_none : (d m : ℕ) → Counted d m [] d m
counted_none d m = record { count = refl; covered = cover; low = omega arith; high = λ h. h; bound = below; least = λ b h g. h }
  where
    cover : Covered d []
    cover zero = omega arith
    cover (suc k) = omega arith

    below : d ≤ m → (k : ℕ) → d + starts (take k []) ≤ m + ends (take k [])
    below h zero = omega arith
    below h (suc k) = omega arith

-- what it comes to, where it is neither over nor wrong; strict splitting is never over
abbrev pub Counts : Bool → ℕ → ℕ → List Tok → Splitting → Type 0
Counts len d₀ m₀ xs (splitting d m cur ss) = Counted d₀ m₀ xs d m
Counts len d₀ m₀ xs (over m ss) = (len ≡ true) × (m₀ ≤ m)
Counts len d₀ m₀ xs (wrong r) = len ≡ false

counts-map : (len : Bool) {d₀ m₀ d₁ m₁ : ℕ} {xs ys : List Tok} → m₁ ≤ m₀ → ((d m : ℕ) → Counted d₀ m₀ xs d m → Counted d₁ m₁ ys d m) → (x : Splitting) → Counts len d₀ m₀ xs x → Counts len d₁ m₁ ys x
counts-map len l f (splitting d m cur ss) c = f d m c
counts-map len l f (over m ss) c = (c.0, omega (arith, c.1))
counts-map len l f (wrong r) c = c

pub counts : (len : Bool) (xs : List Tok) (d m : ℕ) (cur : List Tok) (ss : List (List Tok)) → Counts len d m xs (split len (splitting d m cur ss) xs)
counts len [] d m cur ss = counted_none d m
counts len (start o ∷ xs) d m cur ss =
    counts-map len (omega arith) (λ _ _. counted_start o) (split len (splitting (suc d) (max m (suc d)) (start o ∷ cur) ss) xs) (counts len xs (suc d) (max m (suc d)) (start o ∷ cur) ss)
counts true (end o ∷ xs) zero m cur ss = subst (Counts true 0 m (end o ∷ xs)) (sym (over-stays true m ss xs)) (refl, omega arith)
counts false (end o ∷ xs) zero m cur ss = subst (Counts false 0 m (end o ∷ xs)) (sym (wrong_stays false UnexpectedGameTreeEnd xs)) refl
counts len (end o ∷ xs) (suc zero) m cur ss =
    counts-map len (omega arith) (λ _ _. counted-end o) (split len (splitting 0 m [] (reverse (end o ∷ cur) ∷ ss)) xs) (counts len xs 0 m [] (reverse (end o ∷ cur) ∷ ss))
counts len (end o ∷ xs) (suc (suc d)) m cur ss = counts-map len (omega arith) (λ _ _. counted-end o) (split len (splitting (suc d) m (end o ∷ cur) ss) xs) (counts len xs (suc d) m (end o ∷ cur) ss)
counts len (node o ∷ xs) d m cur ss =
    counts-map len (omega arith) (λ _ _. counted-on (node o) (λ ys. refl) (λ ys. refl)) (split len (splitting d m (node o ∷ cur) ss) xs) (counts len xs d m (node o ∷ cur) ss)
counts len (prop p e ∷ xs) d m cur ss =
    counts-map len (omega arith) (λ _ _. counted-on (prop p e) (λ ys. refl) (λ ys. refl)) (split len (splitting d m (prop p e ∷ cur) ss) xs) (counts len xs d m (prop p e ∷ cur) ss)

-- ---- where no end is beyond the starts, splitting goes on

abbrev pub Going : Splitting → Type 0
Going (splitting d m cur ss) = Unit {0}
Going (over m ss) = ⊥
Going (wrong r) = ⊥

pub going : (len : Bool) (xs : List Tok) (d m : ℕ) (cur : List Tok) (ss : List (List Tok)) → Covered d xs → Going (split len (splitting d m cur ss) xs)
going len [] d m cur ss h = tt
going len (start o ∷ xs) d m cur ss h = going len xs (suc d) (max m (suc d)) (start o ∷ cur) ss (λ k. omega (arith, h (suc k)))
going len (end o ∷ xs) zero m cur ss h = absurd (omega (arith, h 1))
going len (end o ∷ xs) (suc zero) m cur ss h = going len xs 0 m [] (reverse (end o ∷ cur) ∷ ss) (λ k. omega (arith, h (suc k)))
going len (end o ∷ xs) (suc (suc d)) m cur ss h = going len xs (suc d) m (end o ∷ cur) ss (λ k. omega (arith, h (suc k)))
going len (node o ∷ xs) d m cur ss h = going len xs d m (node o ∷ cur) ss (λ k. h (suc k))
going len (prop p e ∷ xs) d m cur ss h = going len xs d m (prop p e ∷ cur) ss (λ k. h (suc k))

-- where the depth was above 0 and no tree is open, there is a slice
abbrev pub Sliced : Splitting → Type 0
Sliced (splitting d m cur ss) = d ≡ 0 → 0 < m → 0 < length ss
Sliced (over m ss) = 0 < m → 0 < length ss
Sliced (wrong r) = Unit {0}

pub some-sliced : (len : Bool) (xs : List Tok) (x : Splitting) → Sliced x → Sliced (split len x xs)
some-sliced len [] x h = h
some-sliced len (start o ∷ xs) (splitting d m cur ss) h = some-sliced len xs (splitting (suc d) (max m (suc d)) (start o ∷ cur) ss) (λ z _. absurd (omega arith))
some-sliced true (end o ∷ xs) (splitting zero m cur ss) h = some-sliced true xs (over m ss) (h refl)
some-sliced false (end o ∷ xs) (splitting zero m cur ss) h = some-sliced false xs (wrong UnexpectedGameTreeEnd) tt
some-sliced len (end o ∷ xs) (splitting (suc zero) m cur ss) h = some-sliced len xs (splitting 0 m [] (reverse (end o ∷ cur) ∷ ss)) (λ z _. omega arith)
some-sliced len (end o ∷ xs) (splitting (suc (suc d)) m cur ss) h = some-sliced len xs (splitting (suc d) m (end o ∷ cur) ss) (λ z _. absurd (omega arith))
some-sliced len (node o ∷ xs) (splitting d m cur ss) h = some-sliced len xs (splitting d m (node o ∷ cur) ss) h
some-sliced len (prop p e ∷ xs) (splitting d m cur ss) h = some-sliced len xs (splitting d m (prop p e ∷ cur) ss) h
some-sliced len (t ∷ xs) (over m ss) h = some-sliced len xs (over m ss) h
some-sliced len (t ∷ xs) (wrong r) h = some-sliced len xs (wrong r) h

-- ---- every slice has a token

abbrev pub HasToken : List Tok → Type 0
HasToken [] = ⊥
HasToken (t ∷ ts) = Unit {0}

-- of slices, the first of which is at depth d
abbrev SomeFrom : ℕ → List (List Tok) → Type 0
SomeFrom d [] = Unit {0}
SomeFrom zero (s ∷ ss) = HasToken s × All HasToken ss
SomeFrom (suc d) (s ∷ ss) = All HasToken ss

some-rest : (d : ℕ) (s : List Tok) (ss : List (List Tok)) → SomeFrom d (s ∷ ss) → All HasToken ss
some-rest zero s ss h = h.1
some-rest (suc d) s ss h = h

some-on : (t : Tok) (d e : ℕ) (ss : List (List Tok)) → SomeFrom e ss → SomeFrom d (onto t ss)
some-on t d e [] h = tt
some-on t zero e (s ∷ ss) h = (tt, some-rest e s ss h)
some-on t (suc d) e (s ∷ ss) h = some-rest e s ss h

some-zero : (ss : List (List Tok)) → SomeFrom 0 ss → All HasToken ss
some-zero [] h = tt
some-zero (s ∷ ss) h = h

some-from : (ts : List Tok) (d : ℕ) → SomeFrom d (slices_from d ts)
unfolding slices_from
some-from [] zero = tt
some-from [] (suc d) = tt
some-from (start o ∷ ts) d = some-on (start o) d (suc d) (slices_from (suc d) ts) (some-from ts (suc d))
some-from (end o ∷ ts) zero = tt
some-from (end o ∷ ts) (suc zero) = some-zero (slices_from 0 ts) (some-from ts 0)
some-from (end o ∷ ts) (suc (suc d)) = some-on (end o) (suc (suc d)) (suc d) (slices_from (suc d) ts) (some-from ts (suc d))
some-from (node o ∷ ts) d = some-on (node o) d d (slices_from d ts) (some-from ts d)
some-from (prop p e ∷ ts) d = some-on (prop p e) d d (slices_from d ts) (some-from ts d)

pub slices-some : (ts : List Tok) → All HasToken (slices_from 0 ts)
slices-some ts = some-zero (slices_from 0 ts) (some-from ts 0)
