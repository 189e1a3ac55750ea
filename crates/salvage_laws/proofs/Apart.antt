-- Lists of changes without an entry in common: by kind and number. Assumes nothing.
use Rattle.lists.proofs.Prelude.{◌≡◌, subst⁻¹, ℕ, suc, ◌≤◌, ◌<◌, arith, List, [], ◌∷◌, ◌++◌}
use Rattle.lists.specs.All.{All}
use Rattle.lists.proofs.All.{all_append, all_map}
use Rattle.salvage_mend.specs.Changes.{Change, empty_root, unnamed, removed_gm, spelled_anew, cut_short, tail_dropped}

-- ---- lists without an entry in common, and without an entry twice

-- no entry of the one is one of the other
abbrev pub Apart : List Change → List Change → Type 0
Apart xs ys = All (λ x. All (λ y. x ≡ y → ⊥) ys) xs

-- no entry is there twice
abbrev pub Distinct : List Change → Type 0
Distinct [] = Unit {0}
Distinct (x ∷ xs) = All (λ y. x ≡ y → ⊥) xs × Distinct xs

pub distinct_append : (xs ys : List Change) → Distinct xs → Distinct ys → Apart xs ys → Distinct (xs ++ ys)
distinct_append [] ys a b h = b
distinct_append (x ∷ xs) ys a b h = (all_append (λ y. x ≡ y → ⊥) xs ys a.0 h.0, distinct_append xs ys a.1 b h.1)

pub apart-append : (xs ys zs : List Change) → Apart xs ys → Apart xs zs → Apart xs (ys ++ zs)
apart-append [] ys zs a b = tt
apart-append (x ∷ xs) ys zs a b = (all_append (λ y. x ≡ y → ⊥) ys zs a.0 b.0, apart-append xs ys zs a.1 b.1)

pub apart_by : (P Q : Change → Type 0) → ((c : Change) → P c → Q c → ⊥) → (xs ys : List Change) → All P xs → All Q ys → Apart xs ys
apart_by P Q f [] ys a b = tt
apart_by P Q f (x ∷ xs) ys a b = (all_map Q (λ y. x ≡ y → ⊥) (λ y q e. f x a.0 (subst⁻¹ Q e q)) ys b, apart_by P Q f xs ys a.1 b)

-- ---- whose entries they are

-- the tree's number and the properties' are from these on, or the tail
abbrev pub From : (i k : ℕ) → Change → Type 0
From i k (empty_root j) = i ≤ j
From i k (cut_short j o) = i ≤ j
From i k (unnamed j) = k ≤ j
From i k (removed_gm j) = k ≤ j
From i k (spelled_anew j) = k ≤ j
From i k (tail_dropped o) = ⊥

-- the empty root of this tree
abbrev pub Root : ℕ → Change → Type 0
Root i (empty_root j) = j ≡ i
Root i (cut_short j o) = ⊥
Root i (unnamed j) = ⊥
Root i (removed_gm j) = ⊥
Root i (spelled_anew j) = ⊥
Root i (tail_dropped o) = ⊥

-- the cut of this tree
abbrev pub Cut : ℕ → Change → Type 0
Cut i (empty_root j) = ⊥
Cut i (cut_short j o) = j ≡ i
Cut i (unnamed j) = ⊥
Cut i (removed_gm j) = ⊥
Cut i (spelled_anew j) = ⊥
Cut i (tail_dropped o) = ⊥

-- of a property of these numbers
abbrev pub Among : (k m : ℕ) → Change → Type 0
Among k m (empty_root j) = ⊥
Among k m (cut_short j o) = ⊥
Among k m (unnamed j) = (k ≤ j) × (j < m)
Among k m (removed_gm j) = (k ≤ j) × (j < m)
Among k m (spelled_anew j) = (k ≤ j) × (j < m)
Among k m (tail_dropped o) = ⊥

pub among-wider : (k m k' m' : ℕ) → k' ≤ k → m ≤ m' → (c : Change) → Among k m c → Among k' m' c
among-wider k m k' m' a b (unnamed j) h = (let x = h.0 in omega arith, let x = h.1 in omega arith)
among-wider k m k' m' a b (removed_gm j) h = (let x = h.0 in omega arith, let x = h.1 in omega arith)
among-wider k m k' m' a b (spelled_anew j) h = (let x = h.0 in omega arith, let x = h.1 in omega arith)
among-wider k m k' m' a b (empty_root j) h = absurd h
among-wider k m k' m' a b (cut_short j o) h = absurd h
among-wider k m k' m' a b (tail_dropped o) h = absurd h

pub among-apart : (k m n : ℕ) (c : Change) → Among k m c → Among m n c → ⊥
among-apart k m n (unnamed j) a b = let x = a.1 in let y = b.0 in omega arith
among-apart k m n (removed_gm j) a b = let x = a.1 in let y = b.0 in omega arith
among-apart k m n (spelled_anew j) a b = let x = a.1 in let y = b.0 in omega arith
among-apart k m n (empty_root j) a b = a
among-apart k m n (cut_short j o) a b = a
among-apart k m n (tail_dropped o) a b = a

pub from-root : (i k : ℕ) (c : Change) → Root i c → From i k c
from-root i k (empty_root j) h = omega arith
from-root i k (cut_short j o) h = absurd h
from-root i k (unnamed j) h = absurd h
from-root i k (removed_gm j) h = absurd h
from-root i k (spelled_anew j) h = absurd h
from-root i k (tail_dropped o) h = absurd h

pub from_cut : (i k : ℕ) (c : Change) → Cut i c → From i k c
from_cut i k (empty_root j) h = absurd h
from_cut i k (cut_short j o) h = omega arith
from_cut i k (unnamed j) h = absurd h
from_cut i k (removed_gm j) h = absurd h
from_cut i k (spelled_anew j) h = absurd h
from_cut i k (tail_dropped o) h = absurd h

pub from-among : (i k m : ℕ) (c : Change) → Among k m c → From i k c
from-among i k m (empty_root j) h = absurd h
from-among i k m (cut_short j o) h = absurd h
from-among i k m (unnamed j) h = h.0
from-among i k m (removed_gm j) h = h.0
from-among i k m (spelled_anew j) h = h.0
from-among i k m (tail_dropped o) h = absurd h

pub from-later : (i k m : ℕ) → k ≤ m → (c : Change) → From (suc i) m c → From i k c
from-later i k m l (empty_root j) h = omega arith
from-later i k m l (cut_short j o) h = omega arith
from-later i k m l (unnamed j) h = omega arith
from-later i k m l (removed_gm j) h = omega arith
from-later i k m l (spelled_anew j) h = omega arith
from-later i k m l (tail_dropped o) h = absurd h

pub root-from : (i k : ℕ) (c : Change) → Root i c → From (suc i) k c → ⊥
root-from i k (empty_root j) a b = omega arith
root-from i k (cut_short j o) a b = a
root-from i k (unnamed j) a b = a
root-from i k (removed_gm j) a b = a
root-from i k (spelled_anew j) a b = a
root-from i k (tail_dropped o) a b = a

pub cut-from : (i k : ℕ) (c : Change) → Cut i c → From (suc i) k c → ⊥
cut-from i k (empty_root j) a b = a
cut-from i k (cut_short j o) a b = omega arith
cut-from i k (unnamed j) a b = a
cut-from i k (removed_gm j) a b = a
cut-from i k (spelled_anew j) a b = a
cut-from i k (tail_dropped o) a b = a

pub among-from : (i k m : ℕ) (c : Change) → Among k m c → From i m c → ⊥
among-from i k m (empty_root j) a b = a
among-from i k m (cut_short j o) a b = a
among-from i k m (unnamed j) a b = let x = a.1 in omega arith
among-from i k m (removed_gm j) a b = let x = a.1 in omega arith
among-from i k m (spelled_anew j) a b = let x = a.1 in omega arith
among-from i k m (tail_dropped o) a b = a

pub root-among : (i k m : ℕ) (c : Change) → Root i c → Among k m c → ⊥
root-among i k m (empty_root j) a b = b
root-among i k m (cut_short j o) a b = a
root-among i k m (unnamed j) a b = a
root-among i k m (removed_gm j) a b = a
root-among i k m (spelled_anew j) a b = a
root-among i k m (tail_dropped o) a b = a

pub root-cut : (i : ℕ) (c : Change) → Root i c → Cut i c → ⊥
root-cut i (empty_root j) a b = b
root-cut i (cut_short j o) a b = a
root-cut i (unnamed j) a b = a
root-cut i (removed_gm j) a b = a
root-cut i (spelled_anew j) a b = a
root-cut i (tail_dropped o) a b = a

pub among-cut : (i k m : ℕ) (c : Change) → Among k m c → Cut i c → ⊥
among-cut i k m (empty_root j) a b = a
among-cut i k m (cut_short j o) a b = a
among-cut i k m (unnamed j) a b = b
among-cut i k m (removed_gm j) a b = b
among-cut i k m (spelled_anew j) a b = b
among-cut i k m (tail_dropped o) a b = a
