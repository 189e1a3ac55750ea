-- Where a mode of the census stands for a state of the walk of a tree. Assumes nothing.
use Rattle.lists.proofs.Prelude.{ℕ, zero, suc, ◌++◌, ◌≡◌, refl, sym, ap, ◌∙◌, Bool, true, false, ◌||◌, or-true, ◌⊎◌, inl, inr, List, [], ◌∷◌, eqb, eq-eqb}
use Rattle.lists.specs.All.{All}
use Rattle.lexer.specs.Token.{Prop}
use Rattle.tables.specs.Record.{Node}
use Rattle.parser.specs.Game.{Game, is, no_game, game_vals}
use Rattle.parser.specs.Walk.{walk, children, opens}
use Rattle.parser_census.specs.LocalsCensus.{on_start, on_end, on_last, on_node, on_kind, on_prop}
use Rattle.parser_census.specs.declared.Mode.{Mode}
use Rattle.parser_census.specs.declared.Mode.TheVariants.{Outside, First, Root, Typed, Node as node-mode, Opened, Bare, Full, Odd}

-- each list on the stack has a node
abbrev pub Filled : List ℕ → List Node → Type 0
Filled st ns = All (λ (y : ℕ). children y ns ≡ true) st

-- the list on top is the current one, the others have a node
abbrev pub OnTop : ℕ → List ℕ → List Node → Type 0
OnTop cur [] ns = ⊥
OnTop cur (y ∷ st) ns = (y ≡ cur) × Filled st ns

-- of the state of a walk in a tree that has a node
abbrev pub Holds : Mode → (cur : ℕ) → List ℕ → Bool → List Node → Type 0
Holds Outside cur st g ns = ⊥
Holds First cur st g ns = ⊥
Holds Root cur st g ns = (g ≡ true) × Filled st ns
Holds Typed cur st g ns = (g ≡ true) × Filled st ns
Holds node-mode cur st g ns = (g ≡ true) × Filled st ns
Holds Opened cur st g ns = OnTop cur st ns
Holds Bare cur st g ns = Filled st ns
Holds Full cur st g ns = (children cur ns ≡ true) × Filled st ns
Holds Odd cur st g ns = ⊥

filled_more : (x : Node) (st : List ℕ) (ns : List Node) → Filled st ns → Filled st (x ∷ ns)
filled_more x [] ns h = tt
filled_more x (y ∷ st) ns h = (ap (λ (z : Bool). eqb x.parent y || z) h.0 ∙ or-true (eqb x.parent y), filled_more x st ns h.1)

-- ---- a node

module _ (cur : ℕ) (ns : List Node) where
  abbrev new : Node
  new = record { parent = cur; props = [] }

  on-top : (st : List ℕ) → OnTop cur st ns → Filled st (new ∷ ns)
  on-top [] h = absurd h
  on-top (y ∷ st) h = (ap (λ (z : Bool). z || children y ns) (eq-eqb cur y (sym h.0)), filled_more new st ns h.1)

  pub holds-node : (m : Mode) (st : List ℕ) (g : Bool) (c : ℕ) → Holds m cur st g ns → Holds (on_node m) c st true (new ∷ ns)
  holds-node Outside st g c h = absurd h
  holds-node First st g c h = absurd h
  holds-node Root st g c h = (refl, filled_more new st ns h.1)
  holds-node Typed st g c h = (refl, filled_more new st ns h.1)
  holds-node node-mode st g c h = (refl, filled_more new st ns h.1)
  holds-node Opened st g c h = (refl, on-top st h)
  holds-node Bare st g c h = (refl, filled_more new st ns h)
  holds-node Full st g c h = (refl, filled_more new st ns h.1)
  holds-node Odd st g c h = absurd h

-- ---- a start: the state behind it, or the mode is odd

module _ (len : Bool) (cur : ℕ) (ns : List Node) where
  opens-filled : (st : List ℕ) → Filled st ns → opens len cur st ns ≡ walk cur (cur ∷ st) false ns
  opens-filled [] h = refl
  opens-filled (y ∷ st) h = rw h.0

  abbrev Started : Mode → List ℕ → Type 0
  Started m st = (on_start m ≡ Odd) ⊎ ((opens len cur st ns ≡ walk cur (cur ∷ st) false ns) × Holds (on_start m) cur (cur ∷ st) false ns)

  pub holds-start : (m : Mode) (st : List ℕ) (g : Bool) → Holds m cur st g ns → Started m st
  holds-start Outside st g h = absurd h
  holds-start First st g h = absurd h
  holds-start Root st g h = inr (opens-filled st h.1, (refl, h.1))
  holds-start Typed st g h = inr (opens-filled st h.1, (refl, h.1))
  holds-start node-mode st g h = inr (opens-filled st h.1, (refl, h.1))
  holds-start Opened st g h = inl refl
  holds-start Bare st g h = inr (opens-filled st h, (refl, h))
  holds-start Full st g h = inr (opens-filled st h.1, (h.0, h))
  holds-start Odd st g h = absurd h

-- ---- an end that leaves a tree open

pub holds-end : (m : Mode) (cur y : ℕ) (st : List ℕ) (g : Bool) (ns : List Node) → Holds m cur (y ∷ st) g ns → Holds (on_end m) y st false ns
holds-end Outside cur y st g ns h = absurd h
holds-end First cur y st g ns h = absurd h
holds-end Root cur y st g ns h = (h.1.0, h.1.1)
holds-end Typed cur y st g ns h = (h.1.0, h.1.1)
holds-end node-mode cur y st g ns h = (h.1.0, h.1.1)
holds-end Opened cur y st g ns h = h.1
holds-end Bare cur y st g ns h = (h.0, h.1)
holds-end Full cur y st g ns h = (h.1.0, h.1.1)
holds-end Odd cur y st g ns h = absurd h

-- ---- the end of a slice, and a property

-- the modes in a tree end it
pub last-outside : (m : Mode) (cur : ℕ) (st : List ℕ) (g : Bool) (ns : List Node) → Holds m cur st g ns → on_last m ≡ Outside
last-outside Outside cur st g ns h = absurd h
last-outside First cur st g ns h = absurd h
last-outside Root cur st g ns h = refl
last-outside Typed cur st g ns h = refl
last-outside node-mode cur st g ns h = refl
last-outside Opened cur st g ns h = refl
last-outside Bare cur st g ns h = refl
last-outside Full cur st g ns h = refl
last-outside Odd cur st g ns h = absurd h

-- behind a node, or its properties
pub holds_prop : (m : Mode) (c : Bool) (q : Prop) (cur : ℕ) (st : List ℕ) (g : Bool) (x : Node) (ns : List Node) → Holds m cur st g (x ∷ ns)
    → (on_prop m c q.vals ≡ Odd) ⊎ ((g ≡ true) × Holds (on_prop m c q.vals) cur st true (record { parent = x.parent; props = x.props ++ (q ∷ []) } ∷ ns))
holds_prop Outside c q cur st g x ns h = absurd h
holds_prop First c q cur st g x ns h = absurd h
holds_prop Root true q cur st g x ns h = go (game_vals q.vals)
  where
    go : (k : Game) → (on_kind k ≡ Odd) ⊎ ((g ≡ true) × Holds (on_kind k) cur st true (record { parent = x.parent; props = x.props ++ (q ∷ []) } ∷ ns))
    go (is zero) = inr (h.0, (refl, h.1))
    go (is (suc k)) = inl refl
    go (no_game r) = inl refl
holds_prop Root false q cur st g x ns h = inr (h.0, (refl, h.1))
holds_prop Typed true q cur st g x ns h = inl refl
holds_prop Typed false q cur st g x ns h = inr (h.0, (refl, h.1))
holds_prop node-mode c q cur st g x ns h = inr (h.0, (refl, h.1))
holds_prop Opened c q cur st g x ns h = inl refl
holds_prop Bare c q cur st g x ns h = inl refl
holds_prop Full c q cur st g x ns h = inl refl
holds_prop Odd c q cur st g x ns h = absurd h
