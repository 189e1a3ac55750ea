-- The walk: names, rules, properties and nodes. Assumes nothing.
use Rattle.lists.proofs.Prelude.{ℕ, suc, ◌+◌, ◌^◌, ◌≤◌, ◌<◌, ◌-◌, Bool, true, false, ◌&&◌, List, [], ◌∷◌, ◌++◌, ◌≡◌, refl, sym, ap, ap₂, ◌∙◌, subst, arith, leb, ltb, length, get_or, take, drop, eq-eqb, ne_eqb, lt-ltb, and-false, pick}
use Rattle.values.specs.Read.{read_identifier}
use Rattle.store_bytes.specs.LocalsWrote.{Wrote}
use Rattle.store_bytes.proofs.Written.{wrote-more}
use Rattle.tables.specs.Numbers.{none}
use Rattle.go.specs.Normal.{normal}
use Rattle.parts.specs.Rows.{values_at}
use Rattle.go_shape.proofs.Identifiers.{letter-past, letter-here}
use Rattle.tables.specs.Columns.{parent_at, first_prop_at, prop_count_at, name_from_at, name_to_at, first_val_at, val_count_at}
use Rattle.tables.proofs.Each.{each_at, each_all}
use Rattle.fit_spans.proofs.Lists.{part_slice}
use Rattle.fit_nodes.proofs.Rule.{rule-at, rule-before}
use Rattle.fit_nodes.specs.Nodes.{parent_right}
use Rattle.fit_nodes.specs.Locals.{Ruled}
use Rattle.serialize.specs.Locals.{Placed, Above, NodesHeld}
use Rattle.serialize.specs.LocalsWalk.{texts, roots_below, rule_told, read_name_at, values_text, prop_text, is_kept, kept_text, bad_at, props_text, start_text, ends_before, node_by, node_text, links_text, has_name}
use Rattle.salvage_rows.specs.LocalsGM.{bad_in}
use Rattle.serialize_values.specs.LocalsForm.{raws_text}
use Rattle.serialize_values.proofs.Writing.{writing-first, writing-is, writing-next, writing-last}
use Rattle.tables.specs.LocalsNames.{NameHeld}
use Rattle.serialize.proofs.Rules.{told_writes}

-- the rule of the parents holds of fewer nodes too
ruled-up : {nd : List ℕ} {n : ℕ} → Ruled nd n → (k : ℕ) → k ≤ n → Ruled nd k
ruled-up {nd} {n} x k h =
    let m = x.most in
    record { most = omega arith; rule = each_all (parent_right nd) k (λ i l. each_at (parent_right nd) n i x.rule (omega arith)) }

-- ---- names

module _ (s : List ℕ) (i : ℕ) where
  pub named_end : length s ≤ i → read_identifier (drop i s) ≡ read_identifier s → false ≡ ltb 0 (length (read_identifier s))
  named_end h e = ap (λ (z : List ℕ). ltb 0 (length z)) (sym (letter-past s i h) ∙ e)

  pub named_here : i < length s → (leb 0x41 (get_or s i 0) && leb (get_or s i 0) 0x5a) ≡ true → read_identifier (drop i s) ≡ read_identifier s → true ≡ ltb 0 (length (read_identifier s))
  named_here h t e =
      let r : List ℕ = read_identifier (drop (i + 1) s) in
      sym (lt-ltb 0 (suc (length r)) (omega arith)) ∙ ap (λ (z : List ℕ). ltb 0 (length z)) (sym (letter-here s i h t) ∙ e)

-- a part of the text that was asked is the name
pub name-part : (t pr : List ℕ) (p : ℕ) {a e : ℕ} → a ≡ name_from_at pr p → e ≡ name_to_at pr p → read_identifier (take (e - a) (drop a t)) ≡ read_name_at t pr p
name-part t pr p {a} {e} q r = ap read_identifier (part_slice a e t) ∙ ap₂ (λ (x y : ℕ). read_identifier (drop x (take y t))) q r

pub name-tested : (t pr : List ℕ) (p : ℕ) {a e : ℕ} {b : Bool} → a ≡ name_from_at pr p → e ≡ name_to_at pr p → b ≡ ltb 0 (length (read_identifier (take (e - a) (drop a t)))) → b ≡ has_name t pr p
name-tested t pr p q r h = h ∙ ap (λ (z : List ℕ). ltb 0 (length z)) (name-part t pr p q r)

-- ---- a property

module _ (t pr vl : List ℕ) (rule p : ℕ) {a e first count : ℕ} (ea : a ≡ name_from_at pr p) (ee : e ≡ name_to_at pr p) (ef : first ≡ first_val_at pr p) (ec : count ≡ val_count_at pr p) where
  values-are : raws_text (normal rule (read_identifier (take (e - a) (drop a t))) (values_at t vl first count)) ≡ values_text t pr vl rule p
  unfolding values_text
  values-are =
      ap₂ (λ (n : List ℕ) (vs : List (List ℕ)). raws_text (normal rule n vs)) (name-part t pr p ea ee) (ap₂ (values_at t vl) ef ec)

  pub property-wrote : {o : List ℕ} {at : ℕ} {o1 : List ℕ} {r1 : ℕ} {o2 : List ℕ} {r2 : ℕ} → length o < 2 ^ 64 → at < 2 ^ 64
      → Wrote (read_identifier (take (e - a) (drop a t))) o at o1 r1
      → Wrote (raws_text (normal rule (read_identifier (take (e - a) (drop a t))) (values_at t vl first count))) o1 r1 o2 r2 → Wrote (prop_text t pr vl rule p) o at o2 r2
  unfolding prop_text
  property-wrote s b x y =
      writing-last y (writing-next x (writing-is (sym (ap₂ (λ (u v : List ℕ). u ++ v) (name-part t pr p ea ee) values-are)) (writing-first (prop_text t pr vl rule p) _ _ s b)))

-- whether it is written
module _ (mends bad : Bool) (t pr vl : List ℕ) (rule p : ℕ) {a e : ℕ} (ea : a ≡ name_from_at pr p) (ee : e ≡ name_to_at pr p) {b : Bool}
    (h : b ≡ is_kept mends bad (read_identifier (take (e - a) (drop a t)))) where
  kept-is : b ≡ is_kept mends bad (read_name_at t pr p)
  kept-is = h ∙ ap (is_kept mends bad) (name-part t pr p ea ee)

  pub kept_here : b ≡ true → prop_text t pr vl rule p ≡ kept_text mends bad t pr vl rule p
  unfolding kept_text
  kept_here k = ap (λ (z : Bool). pick z (prop_text t pr vl rule p) []) (sym k ∙ kept-is)

  pub kept-not : b ≡ false → [] ≡ kept_text mends bad t pr vl rule p
  unfolding kept_text
  kept-not k = ap (λ (z : Bool). pick z (prop_text t pr vl rule p) []) (sym k ∙ kept-is)

-- a root whose GMs are removed
module _ (mends : Bool) (t nd pr vl : List ℕ) (k : ℕ) where
  pub bad-never : mends ≡ false → false ≡ bad_at mends t nd pr vl k
  unfolding bad_at
  bad-never h = rw h

  pub bad-below : (parent_at nd k ≡ none → ⊥) → false ≡ bad_at mends t nd pr vl k
  unfolding bad_at
  bad-below h = rw (ne_eqb (parent_at nd k) none h, and-false)

  pub bad-root : mends ≡ true → parent_at nd k ≡ none → {f n : ℕ} {b : Bool} → f ≡ first_prop_at nd k → n ≡ prop_count_at nd k
      → b ≡ bad_in t pr vl f n → b ≡ bad_at mends t nd pr vl k
  unfolding bad_at
  bad-root m h ef en e = rw (m, eq-eqb (parent_at nd k) none h, ← ef, ← en) e

pub properties-are : (mends : Bool) (t nd pr vl : List ℕ) (rule k : ℕ) {bad : Bool} {first count : ℕ} → bad ≡ bad_at mends t nd pr vl k → first ≡ first_prop_at nd k
    → count ≡ prop_count_at nd k → texts (λ i. kept_text mends bad t pr vl rule (first + i)) count ≡ props_text mends t nd pr vl rule k
unfolding props_text
properties-are mends t nd pr vl rule k {bad} {first} {count} eb ef ec =
    ap (λ (b : Bool). texts (λ i. kept_text mends b t pr vl rule (first + i)) count) eb
    ∙ ap₂ (λ (f c : ℕ). texts (λ i. kept_text mends (bad_at mends t nd pr vl k) t pr vl rule (f + i)) c) ef ec

-- ---- a node

module _ {t nd pr : List ℕ} {k : ℕ} (x : NodesHeld t nd pr (suc k)) where
  pub node-placed : Placed nd k
  node-placed =
      let r = x.lent in
      record { row = omega arith; above = λ w. (let b = rule-before x.ruled k (omega arith) w in omega arith) }

  pub node-above : Above nd k (parent_at nd k)
  node-above =
      let r = x.lent in
      record {
        lent = omega arith;
        ruled = ruled-up x.ruled k (omega arith);
        above = λ s z. (rule-at x.ruled k (omega arith) z).1;
      }

  pub node-property : {first count : ℕ} → first ≡ first_prop_at nd k → count ≡ prop_count_at nd k → (i : ℕ) → i < count → NameHeld t pr (first + i)
  node-property {first = first} ef ec i l = let z : first + i ≡ first_prop_at nd k + i = omega arith in subst (λ (q : ℕ). NameHeld t pr q) (sym z) (x.props k (omega arith) i (omega arith))

pub nodes-up : {t nd pr : List ℕ} {n : ℕ} → NodesHeld t nd pr n → (k : ℕ) → k < n → NodesHeld t nd pr (suc k)
nodes-up x k h =
    let r = x.lent in
    record {
      lent = omega arith;
      ruled = ruled-up x.ruled (suc k) (omega arith);
      props = λ j l. x.props j (omega arith);
    }

pub nodes-above : {t nd pr : List ℕ} {n : ℕ} → NodesHeld t nd pr n → Above nd n none
nodes-above x = record { lent = x.lent; ruled = x.ruled; above = λ s z. absurd (z refl) }

pub node-wrote : (mends : Bool) (t nd pr vl : List ℕ) (rule k : ℕ) {o : List ℕ} {at : ℕ} {o1 : List ℕ} {r1 : ℕ} {o2 : List ℕ} {r2 : ℕ} {o3 : List ℕ} {r3 : ℕ} {o4 : List ℕ} {r4 : ℕ} → length o < 2 ^ 64 → at < 2 ^ 64
    → Wrote (ends_before nd k (parent_at nd k)) o at o1 r1 → Wrote (start_text nd k) o1 r1 o2 r2 → Wrote (0x3b ∷ []) o2 r2 o3 r3 → Wrote (props_text mends t nd pr vl rule k) o3 r3 o4 r4
    → Wrote (node_by mends t nd pr vl rule k) o at o4 r4
unfolding node_by
node-wrote mends t nd pr vl rule k s l a b c d = writing-last d (writing-next c (writing-next b (writing-next a (writing-first (node_by mends t nd pr vl rule k) _ _ s l))))

-- its rule is that of its tree
pub node-ruled : (b mends : Bool) (t tr nd pr vl : List ℕ) (k : ℕ) {rule : ℕ} → (b ≡ false → node_by mends t nd pr vl 0 k ≡ node_by mends t nd pr vl 2 k)
    → rule ≡ rule_told b mends t tr nd pr vl (roots_below nd (suc k) - 1) → node_by mends t nd pr vl rule k ≡ node_text mends t tr nd pr vl k
node-ruled b mends t tr nd pr vl k calm h =
    ap (λ (z : ℕ). node_by mends t nd pr vl z k) h ∙ told_writes mends t tr nd pr vl (roots_below nd (suc k) - 1) b (λ z. node_by mends t nd pr vl z k) calm

pub linked-wrote : (mends : Bool) (t tr nd pr vl : List ℕ) (n : ℕ) {o : List ℕ} {at : ℕ} {o1 : List ℕ} {r1 : ℕ} {o2 : List ℕ} {r2 : ℕ} → length o < 2 ^ 64
    → Wrote (texts (node_text mends t tr nd pr vl) n) o at o1 r1 → Wrote (ends_before nd n none) o1 r1 o2 r2 → Wrote (links_text mends t tr nd pr vl n) o at o2 r2
unfolding links_text
linked-wrote mends t tr nd pr vl n s a b = wrote-more s a b
