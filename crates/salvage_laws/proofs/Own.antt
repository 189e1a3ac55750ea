-- A record with nothing to mend is its own mended record; so is one that differs from it in places alone. Assumes nothing.
use Rattle.lists.proofs.Prelude.{◌≡◌, refl, sym, ap, ap₂, ◌∙◌, subst, ℕ, ◌+◌, arith, Bool, true, false, not, List, [], ◌∷◌, map, length, leb, lt-leb, pick}
use Rattle.lists.specs.All.{All}
use Rattle.lists.specs.Same.{same}
use Rattle.lexer.specs.Token.{Prop, Val}
use Rattle.values.specs.Read.{read_identifier}
use Rattle.parser.specs.Game.{Game, is, GM, game_props, props_named}
use Rattle.tables.specs.Record.{Node, Tree}
use Rattle.serialize_laws.specs.Back.{some, Named, placeless_prop, placeless_node, placeless_tree}
use Rattle.serialize_laws.proofs.Regrow.{SoundNodes, SoundTrees}
use Rattle.serialize_laws.proofs.Written.{PlainNode, PlainTree}
use Rattle.serialize_laws.proofs.WrittenProps.{Plain, letters-same}
use Rattle.salvage_mend.specs.Mend.{reads_gm, gms_among, root_game, kept_game, gms_bad, prop_stays, respelled, mend_props, mend_node, mend_nodes, mend_tree}

-- identifiers are uppercase letters, and the game type is the one that the root's GMs give
abbrev pub OwnNode : Node → Type 0
OwnNode n = All Named n.props

abbrev pub OwnTree : Tree → Type 0
OwnTree t = (root_game t.nodes ≡ is t.game) × All OwnNode t.nodes

-- ---- such a record is its own mended record

pub there-some : (w : List ℕ) → some w ≡ true → not (leb (length w) 0) ≡ true
there-some [] h = h
there-some (b ∷ bs) h = rw (lt-leb (length (b ∷ bs)) 0 (omega arith))

module _ (p : Prop) (n : Named p) where
  pub read-own : read_identifier p.name ≡ p.name
  read-own = letters-same p.name n.1

  own-stays : prop_stays false p ≡ true
  own-stays = rw (read-own, there-some p.name n.0)

  own-respelled : respelled p ≡ p
  own-respelled = ap (λ (w : List ℕ). record { from = p.from; to = p.to; name = w; vals = p.vals }) read-own

own-props : (ps : List Prop) → All Named ps → mend_props false ps ≡ ps
own-props [] h = refl
own-props (p ∷ ps) h =
    ap (λ (b : Bool). pick b (respelled p ∷ mend_props false ps) (mend_props false ps)) (own-stays p h.0)
    ∙ ap₂ (λ (q : Prop) (qs : List Prop). q ∷ qs) (own-respelled p h.0) (own-props ps h.1)

own-nodes : (ns : List Node) → All OwnNode ns → map (mend_node false) ns ≡ ns
own-nodes [] h = refl
own-nodes (n ∷ ns) h =
    ap₂ (λ (ps : List Prop) (ms : List Node). record { parent = n.parent; props = ps } ∷ ms) (own-props n.props h.0) (own-nodes ns h.1)

own-all : (ns : List Node) → All OwnNode ns → mend_nodes false ns ≡ ns
own-all [] h = refl
own-all (n ∷ ns) h = own-nodes (n ∷ ns) h

own-tree : (t : Tree) → OwnTree t → mend_tree t ≡ t
own-tree t h =
    ap (λ (g : Game). record { root = t.root; game = kept_game g; nodes = mend_nodes (gms_bad g) t.nodes }) h.0
    ∙ ap (λ (ns : List Node). record { root = t.root; game = t.game; nodes = ns }) (own-all t.nodes h.1)

pub own-mended : (ts : List Tree) → All OwnTree ts → map mend_tree ts ≡ ts
own-mended [] h = refl
own-mended (t ∷ ts) h = ap₂ (λ (u : Tree) (us : List Tree). u ∷ us) (own-tree t h.0) (own-mended ts h.1)

-- ---- trees that can be written and read back are such

gms-own : (ps : List Prop) → All Named ps → gms_among ps ≡ props_named GM ps
gms-own [] h = refl
gms-own (p ∷ ps) h =
    ap₂ (λ (w : List ℕ) (qs : List Prop). pick (same w GM) (p ∷ qs) qs) (read-own p h.0) (gms-own ps h.1)

plain-named : (ps : List Prop) → All Plain ps → All Named ps
plain-named [] h = tt
plain-named (p ∷ ps) h = ((h.0.named, h.0.upper-case), plain-named ps h.1)

plain-own : (ns : List Node) → All PlainNode ns → All OwnNode ns
plain-own [] h = tt
plain-own (n ∷ ns) h = (plain-named n.props h.0, plain-own ns h.1)

sound-game : (r k : ℕ) (ns : List Node) → SoundNodes r k ns → All OwnNode ns → root_game ns ≡ is k
sound-game r k [] s o = absurd s
sound-game r k (n ∷ ns) s o = ap game_props (gms-own n.props o.0) ∙ s.1.game-is

pub sound-own : (base : ℕ) (ts : List Tree) → SoundTrees base ts → All PlainTree ts → All OwnTree ts
sound-own base [] s p = tt
sound-own base (t ∷ ts) s p =
    let o : All OwnNode t.nodes = plain-own t.nodes p.0 in
    ((sound-game base t.game t.nodes s.1 o, o), sound-own (base + length t.nodes) ts s.2 p.1)

-- ---- places aside

game-aside : (ps : List Prop) → game_props (map placeless_prop ps) ≡ game_props ps
game-aside [] = refl
game-aside (p ∷ []) = one p.vals
  where
    one : (vs : List Val) → game_props (placeless_prop (record { from = 0; to = 0; name = []; vals = vs }) ∷ []) ≡ game_props (record { from = 0; to = 0; name = []; vals = vs } ∷ [])
    one [] = refl
    one (v ∷ []) = refl
    one (v ∷ u ∷ vs) = refl
game-aside (p ∷ q ∷ ps) = refl

gms-aside : (ps : List Prop) → gms_among (map placeless_prop ps) ≡ map placeless_prop (gms_among ps)
gms-aside [] = refl
gms-aside (p ∷ ps) = go (reads_gm p) (gms-aside ps)
  where
    go : (b : Bool) → gms_among (map placeless_prop ps) ≡ map placeless_prop (gms_among ps)
        → pick b (placeless_prop p ∷ gms_among (map placeless_prop ps)) (gms_among (map placeless_prop ps)) ≡ map placeless_prop (pick b (p ∷ gms_among ps) (gms_among ps))
    go true e = ap (λ (z : List Prop). placeless_prop p ∷ z) e
    go false e = e

root-aside : (ns : List Node) → root_game (map placeless_node ns) ≡ root_game ns
root-aside [] = refl
root-aside (n ∷ ns) = ap game_props (gms-aside n.props) ∙ game-aside (gms_among n.props)

named-aside : (ps : List Prop) → All Named (map placeless_prop ps) → All Named ps
named-aside [] h = tt
named-aside (p ∷ ps) h = (h.0, named-aside ps h.1)

aside-named : (ps : List Prop) → All Named ps → All Named (map placeless_prop ps)
aside-named [] h = tt
aside-named (p ∷ ps) h = (h.0, aside-named ps h.1)

nodes-aside : (ns : List Node) → All OwnNode (map placeless_node ns) → All OwnNode ns
nodes-aside [] h = tt
nodes-aside (n ∷ ns) h = (named-aside n.props h.0, nodes-aside ns h.1)

aside-nodes : (ns : List Node) → All OwnNode ns → All OwnNode (map placeless_node ns)
aside-nodes [] h = tt
aside-nodes (n ∷ ns) h = (aside-named n.props h.0, aside-nodes ns h.1)

trees-aside : (ts : List Tree) → All OwnTree (map placeless_tree ts) → All OwnTree ts
trees-aside [] h = tt
trees-aside (t ∷ ts) h = ((sym (root-aside t.nodes) ∙ h.0.0, nodes-aside t.nodes h.0.1), trees-aside ts h.1)

aside-trees : (ts : List Tree) → All OwnTree ts → All OwnTree (map placeless_tree ts)
aside-trees [] h = tt
aside-trees (t ∷ ts) h = ((root-aside t.nodes ∙ h.0.0, aside-nodes t.nodes h.0.1), aside-trees ts h.1)

-- trees that are the same but for places
pub own-aside : (us vs : List Tree) → map placeless_tree us ≡ map placeless_tree vs → All OwnTree vs → All OwnTree us
own-aside us vs e h = trees-aside us (subst (λ (z : List Tree). All OwnTree z) (sym e) (aside-trees vs h))
