-- Trees that can be written and read back can be so with their values in normal form. Assumes nothing.
use Rattle.lists.proofs.Prelude.{◌≡◌, refl, sym, ap, ◌∙◌, subst, ℕ, suc, ◌+◌, ◌≤◌, ◌<◌, List, [], ◌∷◌, map, length, length-map}
use Rattle.lexer.specs.Token.{Prop}
use Rattle.lists.specs.All.{All}
use Rattle.serialize_laws.proofs.FormProps.{form-plain, form-valid, form-games}
use Rattle.serialize_laws.proofs.ReadBack.{Form}
use Rattle.serialize_laws.proofs.Inked.{ValidNode, ValidProp, ValidTree}
use Rattle.serialize_laws.proofs.Resplit.{Few}
use Rattle.serialize_laws.proofs.Regrow.{SoundNodes, SoundTrees}
use Rattle.serialize_laws.proofs.WrittenProps.{Plain}
use Rattle.serialize_laws.proofs.Written.{PlainNode, PlainTree}
use Rattle.fit_rule.specs.Rule.{rule_of}
use Rattle.serialize.proofs.Branches.{opening, Good}
use Rattle.serialize.specs.Form.{form_prop, form_node, form_tree}
use Rattle.serialize.specs.LocalsWrite.{Open, bracketed, path_left}
use Rattle.tables.specs.Numbers.{none}
use Rattle.tables.specs.Record.{Node, Tree}
use Rattle.tables.specs.Rows.{parents}

plain_map : (k : ℕ) (ps : List Prop) → All Plain ps → All Plain (map (form_prop k) ps)
plain_map k [] h = tt
plain_map k (p ∷ ps) h = (form-plain k p h.0, plain_map k ps h.1)

valid-map : (k : ℕ) (ps : List Prop) → All ValidProp ps → All ValidProp (map (form_prop k) ps)
valid-map k [] v = tt
valid-map k (p ∷ ps) v = (form-valid k p v.0, valid-map k ps v.1)

plain-nodes : (k : ℕ) (ns : List Node) → All PlainNode ns → All PlainNode (map (form_node k) ns)
plain-nodes k [] h = tt
plain-nodes k (n ∷ ns) h = (plain_map k n.props h.0, plain-nodes k ns h.1)

valid-nodes : (k : ℕ) (ns : List Node) → All ValidNode ns → All ValidNode (map (form_node k) ns)
valid-nodes k [] v = tt
valid-nodes k (n ∷ ns) v = (valid-map k n.props v.0, valid-nodes k ns v.1)

parents-same : (k : ℕ) (ns : List Node) → parents (map (form_node k) ns) ≡ parents ns
parents-same k [] = refl
parents-same k (n ∷ ns) = ap (λ (z : List ℕ). n.parent ∷ z) (parents-same k ns)

good-map : (k : ℕ) (ps : List ℕ) (j : ℕ) (path : List Open) (ns : List Node) → Good ps j path ns → Good ps j path (map (form_node k) ns)
good-map k ps j path [] h = tt
good-map k ps j path (n ∷ ns) h = (h.0, good-map k ps (suc j) (opening ps j n.parent ∷ path_left n.parent path) ns h.1)

sound-map : (r g k : ℕ) (ns : List Node) → SoundNodes r g ns → SoundNodes r g (map (form_node k) ns)
sound-map r g k [] h = h
sound-map r g k (n ∷ ns) h = (
  h.0,
  record {
    plain = (plain_map k n.props h.1.plain.0, plain-nodes k ns h.1.plain.1);
    single = ap (λ (z : List ℕ). bracketed (none ∷ z) none) (parents-same k ns) ∙ h.1.single;
    good = subst (λ (z : List ℕ). Good (none ∷ z) (suc r) (opening (none ∷ z) r none ∷ []) (map (form_node k) ns)) (sym (parents-same k ns))
        (good-map k (none ∷ parents ns) (suc r) (opening (none ∷ parents ns) r none ∷ []) ns h.1.good);
    few = subst (λ (z : ℕ). suc r + z ≤ none) (sym (length-map ns (form_node k))) h.1.few;
    game-is = form-games k n.props ∙ h.1.game-is;
  },
)

sound-trees : (base : ℕ) (ts : List Tree) → SoundTrees base ts → SoundTrees base (map form_tree ts)
sound-trees base [] h = tt
sound-trees base (t ∷ ts) h = (
  h.0,
  sound-map base t.game (rule_of t) t.nodes h.1,
  subst (λ (z : ℕ). SoundTrees (base + z) (map form_tree ts)) (sym (length-map t.nodes (form_node (rule_of t)))) (sound-trees (base + length t.nodes) ts h.2),
)

plain-trees : (ts : List Tree) → All PlainTree ts → All PlainTree (map form_tree ts)
plain-trees [] h = tt
plain-trees (t ∷ ts) h = (plain-nodes (rule_of t) t.nodes h.0, plain-trees ts h.1)

valid-trees : (ts : List Tree) → All ValidTree ts → All ValidTree (map form_tree ts)
valid-trees [] v = tt
valid-trees (t ∷ ts) v = (valid-nodes (rule_of t) t.nodes v.0, valid-trees ts v.1)

few-trees : (ts : List Tree) → Few ts → Few (map form_tree ts)
few-trees [] h = tt
few-trees (t ∷ ts) h = (subst (λ (z : ℕ). t.root + z ≤ none) (sym (length-map t.nodes (form_node (rule_of t)))) h.0, few-trees ts h.1)

pub normal-form : (ts : List Tree) → Form ts → Form (map form_tree ts)
normal-form ts w =
    record {
      some = subst (λ (z : ℕ). 0 < z) (sym (length-map ts form_tree)) w.some;
      plain = plain-trees ts w.plain;
      valid = valid-trees ts w.valid;
      sound = sound-trees 0 ts w.sound;
      few = few-trees ts w.few;
    }
