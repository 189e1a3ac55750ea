-- The properties of a node, as the record is written and as the walk writes them. Assumes nothing.
use Rattle.lists.proofs.Prelude.{ℕ, zero, suc, ◌+◌, ◌/◌, ◌≤◌, ◌<◌, Bool, true, false, List, [], ◌∷◌, ◌++◌, map, append_assoc, ◌≡◌, refl, sym, ap, ap₂, ◌∙◌, arith, length, take, drop, pick}
use Rattle.lexer.specs.Token.{Val, Prop}
use Rattle.values.specs.Read.{read_identifier}
use Rattle.go.specs.Normal.{normal}
use Rattle.parts.specs.Rows.{values_at}
use Rattle.parts.proofs.Valued.{values-none, values-more}
use Rattle.fit.proofs.Parts.{map-tabulate, tabulate-part}
use Rattle.fit.proofs.RecordRows.{vals_in, props_in, raws-at}
use Rattle.tables.specs.Columns.{first_prop_at, prop_count_at, first_val_at, val_count_at}
use Rattle.tables.specs.Each.{tabulate}
use Rattle.fit.specs.Record.{node_row, prop_row, prop_of, node_of, raw_of, raws_of}
use Rattle.salvage_mend.specs.Mend.{prop_stays, respelled, mend_props}
use Rattle.salvage_rows.proofs.Again.{read-own}
use Rattle.serialize.specs.Form.{placeless_val, form_prop, form_node}
use Rattle.serialize.specs.LocalsWalk.{read_name_at, values_text, prop_text, kept_text, bad_at, props_text}
use Rattle.serialize_values.specs.LocalsForm.{raws_text}
use Rattle.serialize.specs.Branch.{write_props, vals_text}
use Rattle.serialize.proofs.Joined.{joined, texts-from}

boxed-boxes : (vs : List (List ℕ)) → vals_text (map placeless_val vs) ≡ raws_text vs
unfolding raws_text
boxed-boxes [] = refl
boxed-boxes (v ∷ vs) = ap (λ (z : List ℕ). 0x5b ∷ (v ++ (0x5d ∷ z))) (boxed-boxes vs)

write-joined : (p : ℕ → Prop) (f : ℕ → List ℕ) (m a : ℕ) → ((i : ℕ) → a ≤ i → i < a + m → read_identifier (p i).name ++ vals_text (p i).vals ≡ f i) → write_props (tabulate p a m) ≡ joined f a m
unfolding tabulate joined
write-joined p f zero a h = refl
write-joined p f (suc m) a h =
    sym (append_assoc (read_identifier (p a).name) (vals_text (p a).vals) (write_props (tabulate p (suc a) m)))
    ∙ ap₂ (λ (y z : List ℕ). y ++ z) (h a (omega arith) (omega arith)) (write-joined p f m (suc a) (λ i l u. h i (omega arith) (omega arith)))

-- a mended property: left out, or under its read identifier
prop-mended : (rule : ℕ) (q : Prop) (b : Bool) {w : List ℕ} (rest : List Prop) {j : List ℕ} → read_identifier q.name ++ vals_text (form_prop rule q).vals ≡ w
    → write_props (map (form_prop rule) rest) ≡ j → write_props (map (form_prop rule) (pick b (respelled q ∷ rest) rest)) ≡ pick b w [] ++ j
prop-mended rule q true rest e r =
    ap (λ (z : List ℕ). z ++ (vals_text (map placeless_val (normal rule z (raws_of q))) ++ write_props (map (form_prop rule) rest))) (read-own q.name)
    ∙ sym (append_assoc (read_identifier q.name) (vals_text (form_prop rule q).vals) (write_props (map (form_prop rule) rest)))
    ∙ ap₂ (λ (y z : List ℕ). y ++ z) e r
prop-mended rule q false rest e r = r

mended-joined : (rule : ℕ) (bad : Bool) (p : ℕ → Prop) (f : ℕ → List ℕ) (m a : ℕ)
    → ((i : ℕ) → a ≤ i → i < a + m → read_identifier (p i).name ++ vals_text (form_prop rule (p i)).vals ≡ f i)
    → write_props (map (form_prop rule) (mend_props bad (tabulate p a m))) ≡ joined (λ i. pick (prop_stays bad (p i)) (f i) []) a m
unfolding tabulate joined
mended-joined rule bad p f zero a h = refl
mended-joined rule bad p f (suc m) a h =
    prop-mended rule (p a) (prop_stays bad (p a)) (mend_props bad (tabulate p (suc a) m)) (h a (omega arith) (omega arith))
    (mended-joined rule bad p f m (suc a) (λ i l u. h i (omega arith) (omega arith)))

module _ (t vl : List ℕ) (nv : ℕ) (lent : nv ≤ length vl / 2) where
  abbrev vals : List Val
  vals = vals_in t vl nv

  module _ (pr : List ℕ) (np : ℕ) (inside : (p : ℕ) → p < np → first_val_at pr p + val_count_at pr p ≤ nv) where
    prop-text : (rule p : ℕ) → p < np
        → read_name_at t pr p ++ vals_text (form_prop rule (prop_of t vals (prop_row pr p))).vals ≡ prop_text t pr vl rule p
    unfolding prop_text values_text
    prop-text rule p h =
        ap (λ (z : List ℕ). read_name_at t pr p ++ z)
        (boxed-boxes (normal rule (read_name_at t pr p) (map raw_of (take (val_count_at pr p) (drop (first_val_at pr p) vals))))
        ∙ ap (λ (z : List (List ℕ)). raws_text (normal rule (read_name_at t pr p) z)) (raws-at t vl nv (values_at t vl) (values-none t vl) (λ a m l. values-more t vl a m (omega arith)) (first_val_at pr p) (val_count_at pr p) (inside p h)))

    pub node-text : (nd : List ℕ) (rule k : ℕ) → first_prop_at nd k + prop_count_at nd k ≤ np
        → write_props (form_node rule (node_of (props_in t pr vl np nv) (node_row nd k))).props ≡ props_text false t nd pr vl rule k
    unfolding props_text kept_text
    node-text nd rule k h =
        ap (λ (z : List Prop). write_props (map (form_prop rule) (take (prop_count_at nd k) (drop (first_prop_at nd k) z)))) (map-tabulate (prop_row pr) (prop_of t vals) 0 np)
        ∙ ap (λ (z : List Prop). write_props (map (form_prop rule) z)) (tabulate-part (λ p. prop_of t vals (prop_row pr p)) (first_prop_at nd k) (prop_count_at nd k) np h)
        ∙ ap write_props (map-tabulate (λ p. prop_of t vals (prop_row pr p)) (form_prop rule) (first_prop_at nd k) (prop_count_at nd k))
        ∙ write-joined (λ p. form_prop rule (prop_of t vals (prop_row pr p))) (prop_text t pr vl rule) (prop_count_at nd k) (first_prop_at nd k) (λ i l u. prop-text rule i (omega arith))
        ∙ sym (texts-from (prop_text t pr vl rule) (first_prop_at nd k) (prop_count_at nd k))

    pub node-mended : (nd : List ℕ) (rule k : ℕ) → first_prop_at nd k + prop_count_at nd k ≤ np
        → write_props (map (form_prop rule) (mend_props (bad_at true t nd pr vl k) (node_of (props_in t pr vl np nv) (node_row nd k)).props)) ≡ props_text true t nd pr vl rule k
    unfolding props_text kept_text
    node-mended nd rule k h =
        let bad : Bool = bad_at true t nd pr vl k in
        let write : List Prop → List ℕ = λ z. write_props (map (form_prop rule) (mend_props bad z)) in
        ap (λ (z : List Prop). write (take (prop_count_at nd k) (drop (first_prop_at nd k) z))) (map-tabulate (prop_row pr) (prop_of t vals) 0 np)
        ∙ ap write (tabulate-part (λ p. prop_of t vals (prop_row pr p)) (first_prop_at nd k) (prop_count_at nd k) np h)
        ∙ mended-joined rule bad (λ p. prop_of t vals (prop_row pr p)) (prop_text t pr vl rule) (prop_count_at nd k) (first_prop_at nd k) (λ i l u. prop-text rule i (omega arith))
        ∙ sym (texts-from (kept_text true bad t pr vl rule) (first_prop_at nd k) (prop_count_at nd k))
