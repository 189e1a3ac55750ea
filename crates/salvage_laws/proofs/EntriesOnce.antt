-- No entry is listed twice. Assumes nothing.
use Rattle.lists.proofs.Prelude.{◌≡◌, refl, ap, subst, subst⁻¹, ℕ, zero, suc, ◌+◌, max, arith, Bool, true, false, ◌&&◌, List, [], ◌∷◌, ◌++◌, length, drop, leb, pick}
use Rattle.lists.specs.All.{All}
use Rattle.lists.proofs.All.{all_append, all_map}
use Rattle.lists.specs.Same.{same}
use Rattle.lexer.specs.Token.{Prop, Tok, End, done, broken}
use Rattle.values.specs.Read.{read_identifier}
use Rattle.tables.specs.Numbers.{none}
use Rattle.tables.specs.Record.{Node, Tree, all_props}
use Rattle.parser.specs.Walk.{Walk, walk, walks, walked}
use Rattle.parser.specs.Read.{accepted, read_lenient}
use Rattle.why_blame.specs.Blame.{Blame, nowhere, found, blame, is_stopped}
use Rattle.why_blame.specs.Cuts.{sliced_tokens}
use Rattle.salvage_mend.specs.Mend.{reads_gm}
use Rattle.salvage_mend.specs.Changes.{Change, empty_root, unnamed, removed_gm, spelled_anew, cut_short, tail_dropped, prop_change, nodes_changes}
use Rattle.salvage_list.specs.Listed.{cut_of, walk_nodes, root_of, trees_changes, tail_of, changes_of}
use Rattle.salvage_laws.specs.Entries.{Nth, Owned, owned_nodes}
use Rattle.salvage_laws.proofs.Says.{list-is}
use Rattle.salvage_laws.proofs.Owned.{owned_changes, owned-nodes, nodes-length}
use Rattle.salvage_laws.proofs.Entries.{L, SS}
use Rattle.salvage_laws.proofs.Apart.{Distinct, From, Root, Cut, Among, distinct_append, apart-append, apart_by, among-wider, among-apart, from-root, from_cut, from-among, from-later, root-from, cut-from, among-from, root-among, root-cut, among-cut}

-- ---- properties

prop-among : (b : Bool) (k : ℕ) (p : Prop) → All (Among k (suc k)) (prop_change b k p) × Distinct (prop_change b k p)
prop-among b k p = go (leb (length (read_identifier p.name)) 0) (b && reads_gm p) (same (read_identifier p.name) p.name)
  where
    go : (x y z : Bool) → All (Among k (suc k)) (pick x (unnamed k ∷ []) (pick y (removed_gm k ∷ []) (pick z [] (spelled_anew k ∷ []))))
        × Distinct (pick x (unnamed k ∷ []) (pick y (removed_gm k ∷ []) (pick z [] (spelled_anew k ∷ []))))
    go true y z = (((omega arith, omega arith), tt), (tt, tt))
    go false true z = (((omega arith, omega arith), tt), (tt, tt))
    go false false true = (tt, tt)
    go false false false = (((omega arith, omega arith), tt), (tt, tt))

owned-among : (k : ℕ) (os : List Owned) → All (Among k (k + length os)) (owned_changes k os) × Distinct (owned_changes k os)
owned-among k [] = (tt, tt)
owned-among k (o ∷ os) =
    let p = prop-among o.bad_root k o.property in
    let q = owned-among (suc k) os in
    let m : ℕ = k + length (o ∷ os) in
    let xs : List Change = prop_change o.bad_root k o.property in
    let ys : List Change = owned_changes (suc k) os in (
      all_append (Among k m) xs ys (all_map (Among k (suc k)) (Among k m) (among-wider k (suc k) k m (omega arith) (omega arith)) xs p.0)
          (all_map (Among (suc k) (suc k + length os)) (Among k m) (among-wider (suc k) (suc k + length os) k m (omega arith) (omega arith)) ys q.0),
      distinct_append xs ys p.1 q.1 (apart_by (Among k (suc k)) (Among (suc k) (suc k + length os)) (among-apart k (suc k) (suc k + length os)) xs ys p.0 q.0),
    )

nodes-among : (k : ℕ) (ns : List Node) → All (Among k (k + length (all_props ns))) (nodes_changes k ns) × Distinct (nodes_changes k ns)
nodes-among k ns =
    subst⁻¹ (λ (cs : List Change). All (Among k (k + length (all_props ns))) cs × Distinct cs) (owned-nodes k ns)
    (subst (λ (z : ℕ). All (Among k (k + z)) (owned_changes k (owned_nodes ns)) × Distinct (owned_changes k (owned_nodes ns))) (nodes-length ns) (owned-among k (owned_nodes ns)))

-- ---- trees

root-alone : (i : ℕ) (ns : List Node) → All (Root i) (root_of i ns) × Distinct (root_of i ns)
root-alone i [] = ((refl, tt), (tt, tt))
root-alone i (n ∷ ns) = (tt, tt)

cut-alone : (i : ℕ) (b : Blame Walk) → All (Cut i) (cut_of i b) × Distinct (cut_of i b)
cut-alone i nowhere = (tt, tt)
cut-alone i (found w pre t) = ((refl, tt), (tt, tt))

trees-once : (i base k : ℕ) (ss : List (List Tok)) → All (From i k) (trees_changes i base k ss) × Distinct (trees_changes i base k ss)
trees-once i base k [] = (tt, tt)
trees-once i base k (s ∷ ss) =
    let ns : List Node = walk_nodes (walked true base (walk none [] false []) s) in
    let m : ℕ = k + length (all_props ns) in
    let xs : List Change = root_of i ns in
    let ys : List Change = nodes_changes k ns in
    let zs : List Change = cut_of i (blame (walks true base) is_stopped (walk none [] false []) [] s) in
    let r : List Change = trees_changes (suc i) (base + max 1 (length ns)) m ss in
    let a = root-alone i ns in
    let b = nodes-among k ns in
    let d = cut-alone i (blame (walks true base) is_stopped (walk none [] false []) [] s) in
    let q = trees-once (suc i) (base + max 1 (length ns)) (k + length (all_props ns)) ss in (
      all_append (From i k) xs (ys ++ (zs ++ r)) (all_map (Root i) (From i k) (from-root i k) xs a.0)
          (all_append (From i k) ys (zs ++ r) (all_map (Among k m) (From i k) (from-among i k m) ys b.0)
          (all_append (From i k) zs r (all_map (Cut i) (From i k) (from_cut i k) zs d.0) (all_map (From (suc i) m) (From i k) (from-later i k m (omega arith)) r q.0))),
      distinct_append xs (ys ++ (zs ++ r)) a.1
          (distinct_append ys (zs ++ r) b.1 (distinct_append zs r d.1 q.1 (apart_by (Cut i) (From (suc i) m) (cut-from i m) zs r d.0 q.0))
          (apart-append ys zs r (apart_by (Among k m) (Cut i) (among-cut i k m) ys zs b.0 d.0) (apart_by (Among k m) (From (suc i) m) (among-from (suc i) k m) ys r b.0 q.0)))
          (apart-append xs ys (zs ++ r) (apart_by (Root i) (Among k m) (root-among i k m) xs ys a.0 b.0)
          (apart-append xs zs r (apart_by (Root i) (Cut i) (root-cut i) xs zs a.0 d.0) (apart_by (Root i) (From (suc i) m) (root-from i m) xs r a.0 q.0))),
    )

-- ---- of a text

abbrev Tail : Change → Type 0
Tail (tail_dropped o) = Unit {0}
Tail (empty_root j) = ⊥
Tail (cut_short j o) = ⊥
Tail (unnamed j) = ⊥
Tail (removed_gm j) = ⊥
Tail (spelled_anew j) = ⊥

tail-alone : (us : List Tok) (e : End) → All Tail (tail_of us e) × Distinct (tail_of us e)
tail-alone (u ∷ us) e = ((tt, tt), (tt, tt))
tail-alone [] (broken f s) = ((tt, tt), (tt, tt))
tail-alone [] done = (tt, tt)

from_tail : (c : Change) → From 0 0 c → Tail c → ⊥
from_tail (empty_root j) a b = b
from_tail (cut_short j o) a b = b
from_tail (unnamed j) a b = b
from_tail (removed_gm j) a b = b
from_tail (spelled_anew j) a b = b
from_tail (tail_dropped o) a b = a

all-nth : (P : Change → Type 0) (cs : List Change) (j : ℕ) (c : Change) → All P cs → Nth cs j c → P c
all-nth P [] j c a n = absurd n
all-nth P (x ∷ cs) zero c a n = subst P n a.0
all-nth P (x ∷ cs) (suc j) c a n = all-nth P cs j c a.1 n

distinct-nth : (cs : List Change) → Distinct cs → (i j : ℕ) (c : Change) → Nth cs i c → Nth cs j c → i ≡ j
distinct-nth [] d i j c a b = absurd a
distinct-nth (x ∷ cs) d zero zero c a b = refl
distinct-nth (x ∷ cs) d zero (suc j) c a b = absurd (all-nth (λ y. x ≡ y → ⊥) cs j c d.0 b a)
distinct-nth (x ∷ cs) d (suc i) zero c a b = absurd (all-nth (λ y. x ≡ y → ⊥) cs i c d.0 a b)
distinct-nth (x ∷ cs) d (suc i) (suc j) c a b = ap suc (distinct-nth cs d.1 i j c a b)

-- the same entry has the same number in the list
pub entries-once : (t : List ℕ) (ts : List Tree) → read_lenient t ≡ accepted ts → (i j : ℕ) (c : Change) → Nth (changes_of t) i c → Nth (changes_of t) j c → i ≡ j
entries-once t ts h =
    let xs : List Change = trees_changes 0 0 0 (SS t ts h) in
    let us : List Tok = drop (length (sliced_tokens (SS t ts h))) (L t ts h).toks in
    let ys : List Change = tail_of us (L t ts h).end in
    let a = trees-once 0 0 0 (SS t ts h) in
    let b = tail-alone us (L t ts h).end in
    distinct-nth (changes_of t) (subst⁻¹ Distinct (list-is t ts h) (distinct_append xs ys a.1 b.1 (apart_by (From 0 0) Tail from_tail xs ys a.0 b.0)))
