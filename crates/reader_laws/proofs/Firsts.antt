-- In each tree of an accepted reading the first node has no parent and every other one has. Assumes nothing.
use Rattle.lists.proofs.Prelude.{◌≡◌, refl, sym, ap, ℕ, zero, suc, ◌+◌, ◌≤◌, arith, false≢true, List, [], ◌∷◌, ◌++◌, reverse_aux, length, Bool, false}
use Rattle.lists.specs.All.{All}
use Rattle.lexer.specs.Token.{Prop, Tok, start, end, node, prop}
use Rattle.tables.specs.Numbers.{none}
use Rattle.tables.specs.Record.{Node, Tree}
use Rattle.parser.specs.LocalsSlice.{slice_from}
use Rattle.reader_laws.proofs.Grown.{walk_of, in_order}
use Rattle.lists.proofs.Tests.{never}
use Rattle.reader_laws.proofs.Accepted.{Reading}
use Rattle.reader_laws.proofs.Sizes.{each-tree}
use Rattle.reader_laws.proofs.Walks.{MayOpen, Kept, keep-walk}

-- ---- a slice ends where the depth comes to 0

abbrev Shuts : ℕ → List Tok → Type 0
Shuts d [] = Unit {0}
Shuts d (start o ∷ ts) = Shuts (suc d) ts
Shuts zero (end o ∷ ts) = ts ≡ []
Shuts (suc zero) (end o ∷ ts) = ts ≡ []
Shuts (suc (suc d)) (end o ∷ ts) = Shuts (suc d) ts
Shuts d (node o ∷ ts) = Shuts d ts
Shuts d (prop p e ∷ ts) = Shuts d ts

slice-shuts : (d : ℕ) (ts : List Tok) → Shuts d (slice_from d ts)
unfolding slice_from
slice-shuts d [] = tt
slice-shuts d (start o ∷ ts) = slice-shuts (suc d) ts
slice-shuts zero (end o ∷ ts) = refl
slice-shuts (suc zero) (end o ∷ ts) = refl
slice-shuts (suc (suc d)) (end o ∷ ts) = slice-shuts (suc d) ts
slice-shuts d (node o ∷ ts) = slice-shuts d ts
slice-shuts d (prop p e ∷ ts) = slice-shuts d ts

some-none : {X : Type 0} (t : Tok) (ts : List Tok) → t ∷ ts ≡ [] → X
some-none t ts e = never (ap (λ (z : List Tok). count z) (sym e))
  where
    count : List Tok → ℕ
    count [] = 0
    count (t ∷ ts) = 1

-- ---- of the walk

-- the nodes, last first: only the first of all has no parent
abbrev FirstOnly : List Node → Type 0
FirstOnly [] = Unit {0}
FirstOnly (n ∷ []) = n.parent ≡ none
FirstOnly (n ∷ m ∷ ns) = (n.parent ≡ none → ⊥) × FirstOnly (m ∷ ns)

-- only the last of the stack may be none
abbrev HasOpen : List ℕ → Type 0
HasOpen [] = Unit {0}
HasOpen (p ∷ []) = Unit {0}
HasOpen (p ∷ q ∷ st) = (p ≡ none → ⊥) × HasOpen (q ∷ st)

-- before the first node, and after it, where a token is to come
abbrev Before : List Tok → ℕ → List ℕ → Type 0
Before [] cur st = Unit {0}
Before (t ∷ ts) cur st = (cur ≡ none) × (length st ≤ 1) × Shuts (length st) (t ∷ ts)

abbrev After : List Tok → ℕ → List ℕ → Type 0
After [] cur st = Unit {0}
After (t ∷ ts) cur st = (cur ≡ none → ⊥) × HasOpen st × Shuts (length st) (t ∷ ts)

abbrev Stage : List Tok → ℕ → List ℕ → List Node → Type 0
Stage ts cur st [] = Before ts cur st
Stage ts cur st (n ∷ ns) = FirstOnly (n ∷ ns) × After ts cur st

before : (ts : List Tok) (cur : ℕ) (st : List ℕ) → cur ≡ none → length st ≤ 1 → Shuts (length st) ts → Before ts cur st
before [] cur st a b c = tt
before (t ∷ ts) cur st a b c = (a, b, c)

after : (ts : List Tok) (cur : ℕ) (st : List ℕ) → (cur ≡ none → ⊥) → HasOpen st → Shuts (length st) ts → After ts cur st
after [] cur st a b c = tt
after (t ∷ ts) cur st a b c = (a, b, c)

some-push : (cur : ℕ) (st : List ℕ) → (cur ≡ none → ⊥) → HasOpen st → HasOpen (cur ∷ st)
some-push cur [] a b = tt
some-push cur (p ∷ st) a b = (a, b)

stage-open : (o : ℕ) (ts : List Tok) (cur : ℕ) (st : List ℕ) (ns : List Node) → MayOpen st ns → Stage (start o ∷ ts) cur st ns → Stage ts cur (cur ∷ st) ns
stage-open o ts cur [] [] m h = before ts cur (cur ∷ []) h.0 (omega arith) h.2
stage-open o ts cur (p ∷ st) [] m h = absurd (false≢true m)
stage-open o ts cur st (n ∷ ns) m h = (h.0, after ts cur (cur ∷ st) h.1.0 (some-push cur st h.1.0 h.1.1) h.1.2)

stage-close : (o : ℕ) (ts : List Tok) (cur p : ℕ) (st : List ℕ) (ns : List Node) → Stage (end o ∷ ts) cur (p ∷ st) ns → Stage ts p st ns
stage-close o [] cur p st [] h = tt
stage-close o [] cur p st (n ∷ ns) h = (h.0, tt)
stage-close o (t ∷ ts) cur p [] [] h = some-none t ts h.2
stage-close o (t ∷ ts) cur p (q ∷ st) [] h = absurd (omega (arith, h.1))
stage-close o (t ∷ ts) cur p [] (n ∷ ns) h = some-none t ts h.1.2
stage-close o (t ∷ ts) cur p (q ∷ st) (n ∷ ns) h = (h.0, (h.1.1.0, h.1.1.1, h.1.2))

some-few : (st : List ℕ) → length st ≤ 1 → HasOpen st
some-few [] h = tt
some-few (p ∷ []) h = tt
some-few (p ∷ q ∷ st) h = absurd (omega arith)

stage-join : (o : ℕ) (ts : List Tok) (cur k : ℕ) (st : List ℕ) (ns : List Node) → (k ≡ none → ⊥) → Stage (node o ∷ ts) cur st ns
    → Stage ts k st (record { parent = cur; props = [] } ∷ ns)
stage-join o ts cur k st [] b h = (h.0, after ts k st b (some-few st h.1) h.2)
stage-join o ts cur k st (n ∷ ns) b h = ((h.1.0, h.0), after ts k st b h.1.1 h.1.2)

first-with : (ps : List Prop) (n : Node) (ns : List Node) → FirstOnly (n ∷ ns) → FirstOnly (record { parent = n.parent; props = ps } ∷ ns)
first-with ps n [] h = h
first-with ps n (m ∷ ns) h = h

stage-skip : (p : Prop) (e : ℕ) (ts : List Tok) (cur : ℕ) (st : List ℕ) (ns : List Node) → Stage (prop p e ∷ ts) cur st ns → Stage ts cur st ns
stage-skip p e ts cur st [] h = before ts cur st h.0 h.1 h.2
stage-skip p e ts cur st (n ∷ ns) h = (h.0, after ts cur st h.1.0 h.1.1 h.1.2)

stage-over : (ts : List Tok) (cur : ℕ) (st : List ℕ) (ns : List Node) → Stage ts cur st ns → FirstOnly ns
stage-over ts cur st [] h = tt
stage-over ts cur st (n ∷ ns) h = h.0

firsts : (base : ℕ) → Kept base (λ ts cur st g ns. (base + length ns + length ts ≤ none) × Stage ts cur st ns) FirstOnly
firsts base =
    record {
      opening = λ {o} {cur} {ts} {st} {g} {ns} m h. (omega (arith, h.0), stage-open o ts cur st ns m h.1);
      closing = λ {o} {cur} {p} {ts} {st} {g} {ns} h. (omega (arith, h.0), stage-close o ts cur p st ns h.1);
      joining = λ {o} {cur} {ts} {st} {g} {ns} h. (omega (arith, h.0), stage-join o ts cur (base + length ns) st ns (λ z. omega (arith, h.0)) h.1);
      adding = λ {cur} {e} {p} {ts} {st} {n} {ns} h.
          let s = stage-skip p e ts cur st (n ∷ ns) h.1 in
          (omega (arith, h.0), (first-with (n.props ++ (p ∷ [])) n ns s.0, s.1));
      over = λ {cur} {ts} {st} {g} {ns} h. stage-over ts cur st ns h.1;
      without = tt;
    }

-- ---- of the trees

-- the node has a parent
abbrev pub Child : Node → Type 0
Child n = n.parent ≡ none → ⊥

abbrev pub RootFirst : List Node → Type 0
RootFirst [] = ⊥
RootFirst (n ∷ ns) = (n.parent ≡ none) × All Child ns

in_order_lem : (n : Node) (ns acc : List Node) → FirstOnly (n ∷ ns) → All Child acc → RootFirst (reverse_aux (n ∷ ns) acc)
in_order_lem n [] acc h a = (h, a)
in_order_lem n (m ∷ ns) acc h a = in_order_lem m ns (n ∷ acc) h.1 (h.0, a)

root-first : (ns : List Node) → FirstOnly ns → RootFirst (in_order ns)
root-first [] h = (refl, tt)
root-first (n ∷ ns) h = in_order_lem n ns [] h tt

pub slice_first : (len : Bool) (base : ℕ) (us : List Tok) → base + length (slice_from 0 us) ≤ none → RootFirst (in_order (walk_of len base (slice_from 0 us)))
slice_first len base us h =
    root-first (walk_of len base (slice_from 0 us))
    (keep-walk (firsts base) len none [] false [] (slice_from 0 us) (omega arith, before (slice_from 0 us) none [] refl (omega arith) (slice-shuts 0 us)))

pub reading-first : {len : Bool} {t : List ℕ} {ts : List Tree} → Reading len t ts → All (λ x. RootFirst x.nodes) ts
reading-first {len} r = each-tree r (λ x. RootFirst x.nodes) (λ us x k e b. rw e (slice_first len x.root us b))
