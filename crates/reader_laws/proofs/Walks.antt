-- What holds of the walk over a slice all along, and so of its nodes at the end: one law for any such fact. Assumes nothing.
use Rattle.lists.proofs.Prelude.{◌≡◌, refl, ℕ, ◌+◌, Bool, true, false, List, [], ◌∷◌, ◌++◌, length, pick}
use Rattle.lexer.specs.Token.{Prop, Tok, start, end, node, prop}
use Rattle.tables.specs.Record.{Node}
use Rattle.tables.specs.declared.Reason.{Reason}
use Rattle.tables.specs.declared.Reason.TheVariants.{UnexpectedGameTreeStart, UnexpectedGameTreeEnd, UnexpectedProperty}
use Rattle.parser.specs.Walk.{Walk, walk, halted, stopped, children, refuse, opens, closes, adds, gated, walks, walked}
use Rattle.reader_laws.proofs.Grown.{nodes_of}

-- a start may come: there is no list on top of the stack, or it is not empty
abbrev pub MayOpen : List ℕ → List Node → Type 0
MayOpen [] ns = Unit {0}
MayOpen (p ∷ st) ns = children p ns ≡ true

-- I: of the tokens to come, the current node, the stack, whether a property may follow, the nodes so far (last first); D: of the nodes at the end
pub record Kept (base : ℕ) (I : List Tok → ℕ → List ℕ → Bool → List Node → Type 0) (D : List Node → Type 0) : Type 0 where
  pub opening : {o cur : ℕ} {ts : List Tok} {st : List ℕ} {g : Bool} {ns : List Node} → MayOpen st ns → I (start o ∷ ts) cur st g ns → I ts cur (cur ∷ st) false ns
  pub closing : {o cur p : ℕ} {ts : List Tok} {st : List ℕ} {g : Bool} {ns : List Node} → I (end o ∷ ts) cur (p ∷ st) g ns → I ts p st false ns
  pub joining : {o cur : ℕ} {ts : List Tok} {st : List ℕ} {g : Bool} {ns : List Node} → I (node o ∷ ts) cur st g ns
      → I ts (base + length ns) st true (record { parent = cur; props = [] } ∷ ns)
  pub adding : {cur e : ℕ} {p : Prop} {ts : List Tok} {st : List ℕ} {n : Node} {ns : List Node} → I (prop p e ∷ ts) cur st true (n ∷ ns)
      → I ts cur st true (record { parent = n.parent; props = n.props ++ (p ∷ []) } ∷ ns)
  pub over : {cur : ℕ} {ts : List Tok} {st : List ℕ} {g : Bool} {ns : List Node} → I ts cur st g ns → D ns
  pub without : D []

module _ {base : ℕ} {I : List Tok → ℕ → List ℕ → Bool → List Node → Type 0} {D : List Node → Type 0} (kept : Kept base I D) where
  abbrev Holds : List Tok → Walk → Type 0
  Holds ts (walk cur st g ns) = I ts cur st g ns
  Holds ts (halted ns) = D ns
  Holds ts (stopped r) = Unit {0}

  hold-refuse : (len : Bool) (r : Reason) (ts : List Tok) (ns : List Node) → D ns → Holds ts (refuse len r ns)
  hold-refuse true r ts ns h = h
  hold-refuse false r ts ns h = tt

  hold-opens : (len : Bool) (o : ℕ) (ts : List Tok) (cur : ℕ) (st : List ℕ) (g : Bool) (ns : List Node) → I (start o ∷ ts) cur st g ns → Holds ts (opens len cur st ns)
  hold-opens len o ts cur [] g ns h = kept.opening tt h
  hold-opens len o ts cur (p ∷ st) g ns h = go (children p ns) refl
    where
      go : (b : Bool) → children p ns ≡ b → Holds ts (pick b (walk cur (cur ∷ p ∷ st) false ns) (refuse len UnexpectedGameTreeStart ns))
      go true e = kept.opening e h
      go false e = hold-refuse len UnexpectedGameTreeStart ts ns (kept.over h)

  hold-closes : (len : Bool) (o : ℕ) (ts : List Tok) (cur : ℕ) (st : List ℕ) (g : Bool) (ns : List Node) → I (end o ∷ ts) cur st g ns → Holds ts (closes len cur st ns)
  hold-closes len o ts cur [] g ns h = hold-refuse len UnexpectedGameTreeEnd ts ns (kept.over h)
  hold-closes len o ts cur (p ∷ st) g ns h = kept.closing h

  hold-adds : (len : Bool) (p : Prop) (e : ℕ) (ts : List Tok) (cur : ℕ) (st : List ℕ) (ns : List Node) → I (prop p e ∷ ts) cur st true ns → Holds ts (adds len p cur st ns)
  hold-adds len p e ts cur st [] h = hold-refuse len UnexpectedProperty ts [] kept.without
  hold-adds len p e ts cur st (n ∷ ns) h = kept.adding h

  hold-gated : (len g : Bool) (p : Prop) (e : ℕ) (ts : List Tok) (cur : ℕ) (st : List ℕ) (ns : List Node) → I (prop p e ∷ ts) cur st g ns → Holds ts (gated len g p cur st ns)
  hold-gated len false p e ts cur st ns h = hold-refuse len UnexpectedProperty ts ns (kept.over h)
  hold-gated len true p e ts cur st ns h = hold-adds len p e ts cur st ns h

  hold-walks : (len : Bool) (w : Walk) (t : Tok) (ts : List Tok) → Holds (t ∷ ts) w → Holds ts (walks len base w t)
  hold-walks len (walk cur st g ns) (start o) ts h = hold-opens len o ts cur st g ns h
  hold-walks len (walk cur st g ns) (end o) ts h = hold-closes len o ts cur st g ns h
  hold-walks len (walk cur st g ns) (node o) ts h = kept.joining h
  hold-walks len (walk cur st g ns) (prop p e) ts h = hold-gated len g p e ts cur st ns h
  hold-walks len (halted ns) t ts h = h
  hold-walks len (stopped r) t ts h = tt

  hold-walked : (len : Bool) (w : Walk) (ts : List Tok) → Holds ts w → Holds [] (walked len base w ts)
  hold-walked len w [] h = h
  hold-walked len w (t ∷ ts) h = hold-walked len (walks len base w t) ts (hold-walks len w t ts h)

  held : (w : Walk) → Holds [] w → D (nodes_of w)
  held (walk cur st g ns) h = kept.over h
  held (halted ns) h = h
  held (stopped r) h = kept.without

  pub keep-walk : (len : Bool) (cur : ℕ) (st : List ℕ) (g : Bool) (ns : List Node) (ts : List Tok) → I ts cur st g ns → D (nodes_of (walked len base (walk cur st g ns) ts))
  keep-walk len cur st g ns ts h = held (walked len base (walk cur st g ns) ts) (hold-walked len (walk cur st g ns) ts h)
