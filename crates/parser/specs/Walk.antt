-- The tree of a slice: a fold over its tokens.
use Rattle.std.specs.Prelude.{◌+◌, ◌||◌, ◌∷◌, ◌++◌}
use Rattle.lists.specs.Prelude.{ℕ, Bool, true, false, List, [], length, eqb, pick}
use Rattle.lexer.specs.Token.{Prop, Tok, start, end, node, prop}
use Rattle.tables.specs.Record.{Node}
use Rattle.tables.specs.declared.Reason.{Reason}
use Rattle.tables.specs.declared.Reason.TheVariants.{UnexpectedGameTreeEnd, UnexpectedGameTreeStart, UnexpectedProperty}

-- the node whose child list is current, the stack of such, whether a property may follow, the nodes so far (last first); the tree stops here; or refused
pub data Walk : Type 0 where
  walk : (cur : ℕ) → List ℕ → Bool → List Node → Walk
  halted : List Node → Walk
  stopped : Reason → Walk

-- the child list of p is not empty (SCOPE 89)
abbrev pub children : ℕ → List Node → Bool
children p [] = false
children p (n ∷ ns) = eqb n.parent p || children p ns

-- lenient stops the tree, strict refuses (SCOPE 92)
abbrev pub refuse : Bool → Reason → List Node → Walk
refuse true r ns = halted ns
refuse false r ns = stopped r

-- a start pushes the current list; it is refused when the list on top of the stack is empty (SCOPE 41, 88, 89)
abbrev pub opens : Bool → ℕ → List ℕ → List Node → Walk
opens len cur [] ns = walk cur (cur ∷ []) false ns
opens len cur (p ∷ st) ns = pick (children p ns) (walk cur (cur ∷ p ∷ st) false ns) (refuse len UnexpectedGameTreeStart ns)

-- an end pops it; splitting has matched it with a start, so the first case does not arise (SCOPE 88)
abbrev pub closes : Bool → ℕ → List ℕ → List Node → Walk
closes len cur [] ns = refuse len UnexpectedGameTreeEnd ns
closes len cur (p ∷ st) ns = walk p st false ns

-- a property joins the last node; where one may follow there is a node, so the first case does not arise
abbrev pub adds : Bool → Prop → (cur : ℕ) → List ℕ → List Node → Walk
adds len p cur st [] = refuse len UnexpectedProperty []
adds len p cur st (n ∷ ns) = walk cur st true (record { parent = n.parent; props = n.props ++ (p ∷ []) } ∷ ns)

-- a property, by whether one may follow: refused where it is not directly after a node or its properties (SCOPE 42, 90, 94)
abbrev pub gated : Bool → Bool → Prop → (cur : ℕ) → List ℕ → List Node → Walk
gated len false p cur st ns = refuse len UnexpectedProperty ns
gated len true p cur st ns = adds len p cur st ns

-- one token; base: the number of the tree's first node. A node joins the current list and its own child list becomes current (SCOPE 88)
abbrev pub walks : Bool → (base : ℕ) → Walk → Tok → Walk
walks len base (walk cur st g ns) (start o) = opens len cur st ns
walks len base (walk cur st g ns) (end o) = closes len cur st ns
walks len base (walk cur st g ns) (node o) = walk (base + length ns) st true (record { parent = cur; props = [] } ∷ ns)
walks len base (walk cur st g ns) (prop p e) = gated len g p cur st ns
walks len base (halted ns) t = halted ns
walks len base (stopped r) t = stopped r

-- all tokens of the slice (SCOPE 60)
abbrev pub walked : Bool → (base : ℕ) → Walk → List Tok → Walk
walked len base w [] = w
walked len base w (t ∷ ts) = walked len base (walks len base w t) ts
