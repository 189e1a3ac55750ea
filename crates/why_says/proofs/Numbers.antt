-- The node of an empty list is numbered as in the node table. Assumes nothing.
use Rattle.lists.proofs.Prelude.{ℕ, suc, ◌+◌, ◌≤◌, ◌<◌, ◌≡◌, refl, subst, true, false, ◌⊎◌, inl, inr, ⊎_elim, List, [], ◌∷◌, arith, length}
use Rattle.lists.proofs.Pick.{pick-elim}
use Rattle.lists.specs.All.{All}
use Rattle.lexer.specs.Token.{Tok, start, end, node, prop}
use Rattle.tables.specs.Numbers.{none}
use Rattle.parser.specs.Walk.{Walk, walk, halted, stopped, children, walks, walked}
use Rattle.reader_exactly.specs.Slicing.{slices_from}
use Rattle.reader_exactly.specs.When.{tokens_of, First, nodes}
use Rattle.why_blame.specs.declared.Fact.TheVariants.{EmptyList}
use Rattle.why.specs.Why.{explained}
use Rattle.why_says.specs.Says.{EmptyListAt, NumberedListAt}
use Rattle.why_says.proofs.Says.{why-says}
use Rattle.std.specs.Prelude.{Err}
use Rattle.tables.specs.Refusals.{refusal}

-- "none", or the number of one of n nodes
abbrev OfNodes : (n q : ℕ) → Type 0
OfNodes n q = (q ≡ none) ⊎ (q < n)

more-nodes : (n m : ℕ) → n ≤ m → (st : List ℕ) → All (OfNodes n) st → All (OfNodes m) st
more-nodes n m z [] h = tt
more-nodes n m z (q ∷ st) h = (⊎_elim (λ e. inl e) (λ l. inr (omega (arith, l, z))) h.0, more-nodes n m z st h.1)

-- how many nodes there are behind a token
abbrev made : Tok → ℕ → ℕ
made (start o) k = k
made (end o) k = k
made (node o) k = suc k
made (prop p e) k = k

module _ (base : ℕ) where
  -- k nodes are made, and the lists, current and on the stack, are of them or of those before
  abbrev Low : ℕ → Walk → Type 0
  Low k (walk cur st g ns) = (length ns ≡ k) × OfNodes (base + k) cur × All (OfNodes (base + k)) st
  Low k (halted ns) = Unit {0}
  Low k (stopped r) = Unit {0}

  low-on : (k : ℕ) (w : Walk) (t : Tok) → Low k w → Low (made t k) (walks false base w t)
  low-on k (walk cur [] g ns) (start o) (e, c, h) = (e, c, (c, h))
  low-on k (walk cur (y ∷ st) g ns) (start o) (e, c, h) = pick-elim (Low k) (children y ns) (λ _. (e, c, (c, h))) (λ _. tt)
  low-on k (walk cur [] g ns) (end o) h = tt
  low-on k (walk cur (y ∷ st) g ns) (end o) (e, c, h) = (e, h.0, h.1)
  low-on k (walk cur st g ns) (node o) (e, c, h) = (omega (arith, e), inr (omega (arith, e)), more-nodes (base + k) (base + suc k) (omega arith) st h)
  low-on k (walk cur st false ns) (prop p e) h = tt
  low-on k (walk cur st true []) (prop p e) h = tt
  low-on k (walk cur st true (n ∷ ns)) (prop p e) h = h
  low-on k (halted ns) t h = tt
  low-on k (stopped r) t h = tt

  nodes-on : (t : Tok) (ts : List Tok) (k m : ℕ) → nodes (t ∷ ts) + k ≡ m → nodes ts + made t k ≡ m
  nodes-on (start o) ts k m e = e
  nodes-on (end o) ts k m e = e
  nodes-on (node o) ts k m e = omega (arith, e)
  nodes-on (prop p x) ts k m e = e

  low : (k m : ℕ) (w : Walk) (ts : List Tok) → nodes ts + k ≡ m → Low k w → Low m (walked false base w ts)
  low k m w [] e h = let z : k ≡ m = omega (arith, e) in subst (λ (x : ℕ). Low x w) z h
  low k m w (t ∷ ts) e h = low (made t k) m (walks false base w t) ts (nodes-on t ts k m e) (low-on k w t h)

  empty-low : (s : List Tok) {q p : ℕ} → EmptyListAt q p base s → NumberedListAt q p base s
  empty-low s {q} (front, cur, st, g, ns, c, e) =
      let h = subst (Low (nodes front)) c.walked_to (low 0 (nodes front) (walk none [] false []) front (omega arith) (refl, inl refl, tt)) in
      ((front, cur, st, g, ns, c, e), h.2.0)

-- an explanation by an empty list: its node is "none", or stands before the start to blame and is numbered so
pub empty-numbered : (t : List ℕ) (q p : ℕ) → explained false t ≡ Err (refusal (EmptyList q) p) → First (NumberedListAt q p) (slices_from 0 (tokens_of t).toks)
empty-numbered t q p e =
    let x = why-says t false (EmptyList q) p e in
    record {
      before = x.before;
      slice = x.slice;
      after = x.after;
      are = x.are;
      nodes = x.nodes;
      trees = x.trees;
      trees-are = x.trees-are;
      holds = empty-low x.nodes x.slice x.holds;
    }
