-- Entries put one behind another, and the entry of one property. Assumes nothing.
use Rattle.lists.proofs.Prelude.{ℕ, ◌+◌, ◌*◌, ◌≤◌, ◌≡◌, refl, sym, ap, ◌∙◌, subst, subst⁻¹, Bool, true, false, ◌&&◌, List, [], ◌∷◌, ◌++◌, append_assoc, append-nil, arith, length, length-append, leb, lt-leb, pick}
use Rattle.lists.specs.Same.{same}
use Rattle.lists.specs.Put.{PutIs, PutWhole}
use Rattle.lists.proofs.Put.{put-none, put-more}
use Rattle.values.specs.Read.{read_identifier}
use Rattle.lexer.specs.Token.{Prop}
use Rattle.parser.specs.Game.{GM}
use Rattle.salvage_mend.specs.Changes.{Change, empty_root, unnamed, removed_gm, spelled_anew, cut_short, tail_dropped, prop_change}
use Rattle.salvage_list.specs.ListRows.{change_row, change_rows}
use Rattle.salvage_list.specs.LocalsPuts.{EntriesPut, entry_kind, root_if, cut_if}

row-three : (c : Change) → length (change_row c) ≡ 3
row-three (cut_short i o) = refl
row-three (empty_root i) = refl
row-three (unnamed k) = refl
row-three (spelled_anew k) = refl
row-three (removed_gm k) = refl
row-three (tail_dropped o) = refl

pub rows-length : (cs : List Change) → length (change_rows cs) ≡ length cs * 3
rows-length [] = refl
rows-length (c ∷ cs) = let l = length-append (change_row c) (change_rows cs) in let a = row-three c in let b = rows-length cs in omega arith

pub rows_append : (xs ys : List Change) → change_rows (xs ++ ys) ≡ change_rows xs ++ change_rows ys
rows_append [] ys = refl
rows_append (c ∷ xs) ys = ap (λ (z : List ℕ). change_row c ++ z) (rows_append xs ys) ∙ sym (append_assoc (change_row c) (change_rows xs) (change_rows ys))

pub puts_none : (t : List ℕ) (e : ℕ) → EntriesPut t e [] e t
puts_none t e = record { next = omega arith; put = put-none t (e * 3) }

pub puts-more : {t t1 t2 : List ℕ} {e m r : ℕ} {xs ys : List Change} → EntriesPut t e xs m t1 → EntriesPut t1 m ys r t2 → EntriesPut t e (xs ++ ys) r t2
puts-more {t} {t1} {t2} {e} {m} {r} {xs} {ys} p q =
    let a = p.next in
    let b = q.next in
    let c = length-append xs ys in
    let l = rows-length xs in
    record {
      next = omega arith;
      put = subst⁻¹ (λ (z : List ℕ). PutIs t (e * 3) z t2) (rows_append xs ys) (put-more p.put q.put (omega arith));
    }

-- one entry
pub puts_one : {t t' : List ℕ} {e r k i o : ℕ} (c : Change) → r ≡ e + 1 → PutWhole t (e * 3) (k ∷ i ∷ o ∷ []) t' → change_row c ≡ k ∷ i ∷ o ∷ [] → EntriesPut t e (c ∷ []) r t'
puts_one {t} {t'} {e} c h p q = record { next = h; put = subst⁻¹ (λ (z : List ℕ). PutIs t (e * 3) z t') (append-nil (change_row c) ∙ q) p.is }

-- the same entries under another name
pub puts-as : {t t' : List ℕ} {e r : ℕ} {xs ys : List Change} → EntriesPut t e xs r t' → xs ≡ ys → EntriesPut t e ys r t'
puts-as {t} {t'} {e} {r} p h = subst (λ (z : List Change). EntriesPut t e z r t') h p

-- ---- the entry of a property

pub none-same : (w : List ℕ) → leb (length w) 0 ≡ same w []
none-same [] = refl
none-same (b ∷ w) = lt-leb (length (b ∷ w)) 0 (omega arith)

abbrev Entry : ℕ → ℕ → List Change → Type 0
Entry kind p cs = (kind ≡ 0 → cs ≡ []) × ((kind ≡ 0 → ⊥) → (c : Change) × (cs ≡ c ∷ []) × (change_row c ≡ kind ∷ p ∷ 0 ∷ []))

entry-by : (p : ℕ) (a b c : Bool) → Entry (pick a 2 (pick b 4 (pick c 0 3))) p (pick a (unnamed p ∷ []) (pick b (removed_gm p ∷ []) (pick c [] (spelled_anew p ∷ []))))
entry-by p true b c = ((λ e. absurd (omega arith)), (λ n. (unnamed p, refl, refl)))
entry-by p false true c = ((λ e. absurd (omega arith)), (λ n. (removed_gm p, refl, refl)))
entry-by p false false true = ((λ e. refl), (λ n. absurd (n refl)))
entry-by p false false false = ((λ e. absurd (omega arith)), (λ n. (spelled_anew p, refl, refl)))

pub entry-of : (bad : Bool) (p : ℕ) (x : Prop) → Entry (entry_kind bad x.name) p (prop_change bad p x)
entry-of bad p x =
    subst⁻¹ (λ (a : Bool). Entry (entry_kind bad x.name) p (pick a (unnamed p ∷ []) (pick (bad && same (read_identifier x.name) GM) (removed_gm p ∷ []) (pick (same (read_identifier x.name) x.name) [] (spelled_anew p ∷ [])))))
    (none-same (read_identifier x.name))
    (entry-by p (same (read_identifier x.name) []) (bad && same (read_identifier x.name) GM) (same (read_identifier x.name) x.name))

pub prop-none : {t : List ℕ} {e : ℕ} (bad : Bool) (p : ℕ) (x : Prop) {kind : ℕ} → kind ≡ entry_kind bad x.name → kind ≡ 0 → EntriesPut t e (prop_change bad p x) e t
prop-none {t} {e} bad p x q z = puts-as (puts_none t e) (sym ((entry-of bad p x).0 (sym q ∙ z)))

pub prop-one : {t t' : List ℕ} {e r : ℕ} (bad : Bool) (p : ℕ) (x : Prop) {kind : ℕ} → kind ≡ entry_kind bad x.name → (kind ≡ 0 → ⊥)
    → (r ≡ e + 1) × PutWhole t (e * 3) (kind ∷ p ∷ 0 ∷ []) t' → EntriesPut t e (prop_change bad p x) r t'
prop-one bad p x {kind} q n h =
    let y = (entry-of bad p x).1 (λ z. n (q ∙ z)) in
    puts-as (puts_one y.0 h.0 h.1 (y.2 ∙ ap (λ (k : ℕ). k ∷ p ∷ 0 ∷ []) (sym q))) (sym y.1)

-- ---- an empty root, a cut

module _ {t t' : List ℕ} {e r : ℕ} {b : Bool} (i o : ℕ) where
  pub root-one : b ≡ true → (r ≡ e + 1) × PutWhole t (e * 3) (1 ∷ i ∷ 0 ∷ []) t' → EntriesPut t e (root_if b i) r t'
  root-one h p = puts-as (puts_one (empty_root i) p.0 p.1 refl) (ap (λ (z : Bool). root_if z i) (sym h))

  pub cut-one : b ≡ true → (r ≡ e + 1) × PutWhole t (e * 3) (0 ∷ i ∷ o ∷ []) t' → EntriesPut t e (cut_if b i o) r t'
  cut-one h p = puts-as (puts_one (cut_short i o) p.0 p.1 refl) (ap (λ (z : Bool). cut_if z i o) (sym h))

pub root_none : (t : List ℕ) (e : ℕ) {b : Bool} (i : ℕ) → b ≡ false → EntriesPut t e (root_if b i) e t
root_none t e i h = puts-as (puts_none t e) (ap (λ (z : Bool). root_if z i) (sym h))

pub cut-none : (t : List ℕ) (e : ℕ) {b : Bool} (i o : ℕ) → b ≡ false → EntriesPut t e (cut_if b i o) e t
cut-none t e i o h = puts-as (puts_none t e) (ap (λ (z : Bool). cut_if z i o) (sym h))

-- ---- at most one entry of a property

pub prop-few : (bad : Bool) (k : ℕ) (p : Prop) → length (prop_change bad k p) ≤ 1
prop-few bad k p = go (leb (length (read_identifier p.name)) 0) (bad && same (read_identifier p.name) GM) (same (read_identifier p.name) p.name)
  where
    go : (a b c : Bool) → length (pick a (unnamed k ∷ []) (pick b (removed_gm k ∷ []) (pick c [] (spelled_anew k ∷ [])))) ≤ 1
    go true b c = omega arith
    go false true c = omega arith
    go false false true = omega arith
    go false false false = omega arith

-- ---- the kind of the entry of a property, test by test

module _ (bad : Bool) (w : List ℕ) {a : Bool} (ea : a ≡ same (read_identifier w) []) where
  kind-by : {x : Bool} → a ≡ x → pick x 2 (pick (bad && same (read_identifier w) GM) 4 (pick (same (read_identifier w) w) 0 3)) ≡ entry_kind bad w
  kind-by h = ap (λ (z : Bool). pick z 2 (pick (bad && same (read_identifier w) GM) 4 (pick (same (read_identifier w) w) 0 3))) (sym h ∙ ea)

  pub kind-two : a ≡ true → 2 ≡ entry_kind bad w
  kind-two h = kind-by h

  module _ (ha : a ≡ false) {b : Bool} (eb : b ≡ same (read_identifier w) GM) where
    kind-gm : {x : Bool} → (bad && b) ≡ x → pick x 4 (pick (same (read_identifier w) w) 0 3) ≡ entry_kind bad w
    kind-gm h = ap (λ (z : Bool). pick z 4 (pick (same (read_identifier w) w) 0 3)) (sym h ∙ ap (λ (z : Bool). bad && z) eb) ∙ kind-by ha

    pub kind-four : (bad && b) ≡ true → 4 ≡ entry_kind bad w
    kind-four h = kind-gm h

    module _ (hb : (bad && b) ≡ false) {c : Bool} (ec : c ≡ same (read_identifier w) w) where
      pub kind-none : c ≡ true → 0 ≡ entry_kind bad w
      kind-none h = ap (λ (z : Bool). pick z 0 3) (sym h ∙ ec) ∙ kind-gm hb

      pub kind-three : c ≡ false → 3 ≡ entry_kind bad w
      kind-three h = ap (λ (z : Bool). pick z 0 3) (sym h ∙ ec) ∙ kind-gm hb
