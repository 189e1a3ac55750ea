-- The edit of value number k of an accepted text, read again. Assumes nothing.
use Rattle.lists.proofs.Prelude.{◌≡◌, refl, sym, ap, ap₂, ◌∙◌, subst, ℕ, zero, suc, ◌+◌, ◌-◌, ◌≤◌, ◌<◌, arith, Bool, true, false, List, [], ◌∷◌, ◌++◌, map, append_assoc, List-as-Memᴰ, memᴰ-head, memᴰ-tail, ltb, length, take, drop, get_or, length-append, length-drop, length-take, take-append-drop, get_or-append, length-take-le, take-take, get_or-append-add, ltb-true, ltb-false, pick}
use Rattle.lists.specs.Same.{same}
use Rattle.text_utf8.specs.Text.{Ink, blank, whole, utfs}
use Rattle.text_utf8.proofs.Steps.{place, place_is}
use Rattle.lexer.specs.Token.{Val, Prop, lex_from}
use Rattle.lexer.specs.Closed.{closed}
use Rattle.lexer.specs.Move.{starts_at, ends_at, new_raw}
use Rattle.tables.specs.Numbers.{text_limit}
use Rattle.tables.specs.Record.{Tree, all_nodes, all_props, all_vals}
use Rattle.tables.specs.Move.{move_tree}
use Rattle.parser.specs.Game.{GM}
use Rattle.parser.specs.Read.{accepted, read_strict}
use Rattle.edit_laws.proofs.Accepted.{Accepted, accepted-is, on-trees, Between, all-between}
use Rattle.edit_laws.proofs.Reread.{edit-reads}

abbrev pub no_val : Val
no_val = record { from = 0; to = 0; raw = [] }

-- the identifier of the property that has value k
abbrev pub owner_of : List Prop → ℕ → List ℕ
owner_of [] k = []
owner_of (p ∷ ps) k = let r = owner_of ps (k - length p.vals) in pick (ltb k (length p.vals)) p.name r

-- value k of the trees
abbrev pub value_of : List Tree → ℕ → Val
value_of ts k = get_or (all_vals (all_props (all_nodes ts))) k no_val

-- the new bytes in its place
abbrev pub new_text : List ℕ → Val → List ℕ → List ℕ
new_text t v new = take v.from t ++ (new ++ drop v.to t)

-- the trees with their places moved
abbrev pub new_trees : List Tree → Val → List ℕ → List Tree
new_trees ts v new = map (move_tree (starts_at v.from v.to (length new)) (ends_at v.from v.to (length new)) (new_raw v.from new)) ts

mem-get_d : (vs : List Val) (k : ℕ) → k < length vs → List-as-Memᴰ (get_or vs k no_val) vs
mem-get_d [] k h = absurd (omega arith)
mem-get_d (v ∷ vs) zero h = memᴰ-head refl
mem-get_d (v ∷ vs) (suc k) h = memᴰ-tail (mem-get_d vs k (omega arith))

pub record Owned (ps : List Prop) (k : ℕ) : Type 0 where
  pub p : Prop
  pub mp : List-as-Memᴰ p ps
  pub mv : List-as-Memᴰ (get_or (all_vals ps) k no_val) p.vals
  pub name : p.name ≡ owner_of ps k

pub owned : (ps : List Prop) (k : ℕ) → k < length (all_vals ps) → Owned ps k
owned [] k h = absurd (omega arith)
owned (q ∷ qs) k h = go (ltb k (length q.vals)) refl (owned qs (k - length q.vals))
  where
    go : (b : Bool) → ltb k (length q.vals) ≡ b → (k - length q.vals < length (all_vals qs) → Owned qs (k - length q.vals)) → Owned (q ∷ qs) k
    go true e f =
        let l = ltb-true k (length q.vals) e in
        record {
          p = q;
          mp = memᴰ-head refl;
          mv = subst (λ (v : Val). List-as-Memᴰ v q.vals) (sym (get_or-append q.vals (all_vals qs) no_val k l)) (mem-get_d q.vals k l);
          name = rw e;
        }
    go false e f =
        let l = ltb-false k (length q.vals) e in
        let o = f (omega (arith, length-append q.vals (all_vals qs))) in
        let i : length q.vals + (k - length q.vals) ≡ k = omega arith in
        record {
          p = o.p;
          mp = memᴰ-tail o.mp;
          mv = subst (λ (v : Val). List-as-Memᴰ v o.p.vals)
              (sym (ap (λ (z : ℕ). get_or (q.vals ++ all_vals qs) z no_val) (sym i) ∙ get_or-append-add q.vals (all_vals qs) (k - length q.vals) no_val)) o.mv;
          name = o.name ∙ rw e;
        }

-- the text, cut at two places
pub cut-text : (a b : ℕ) (t : List ℕ) → a ≤ b → take a t ++ (drop a (take b t) ++ drop b t) ≡ t
cut-text a b t l =
    sym (append_assoc (take a t) (drop a (take b t)) (drop b t))
    ∙ ap (λ (z : List ℕ). z ++ drop a (take b t) ++ drop b t) (sym (take-take a b t l))
    ∙ ap (λ (z : List ℕ). z ++ drop b t) (take-append-drop a (take b t))
    ∙ take-append-drop b t

pub inside-text : (t : List ℕ) (ts : List Tree) (p : Prop) (v : Val) → Accepted t ts → List-as-Memᴰ p (all_props (all_nodes ts)) → List-as-Memᴰ v p.vals
    → (v.from ≤ v.to) × (v.to ≤ length t)
unfolding Between
inside-text t ts p v A mp mv =
    let bs : List ℕ = drop A.f0 (take A.l t) in
    let b = on-trees (Between A.f0 (place A.f0 bs)) (lex_from A.f0 A.l bs).toks ts p v A.trees (all-between A.f0 A.l bs) mp mv in
    (b.1, omega (arith, b.0, b.1, b.2, place_is A.f0 bs, length-drop A.f0 (take A.l t), length-take A.l t))

at_places : (t new : List ℕ) (ts : List Tree) (p : Prop) (v : Val) → read_strict t ≡ accepted ts
    → List-as-Memᴰ p (all_props (all_nodes ts)) → List-as-Memᴰ v p.vals → same p.name GM ≡ false
    → closed new ≡ true → (kn : Ink) → utfs (whole blank) 0 new ≡ whole kn → length (new_text t v new) ≤ text_limit
    → (v.from ≤ v.to) × (v.to ≤ length t)
    → read_strict (new_text t v new)
    ≡ accepted (new_trees ts v new)
at_places t new ts p v h mp mv hg cn kn hn fits b =
    let pre : List ℕ = take v.from t in
    let old : List ℕ = drop v.from (take v.to t) in
    let post : List ℕ = drop v.to t in
    let lp : length pre ≡ v.from = length-take-le v.from t (omega (arith, b.0, b.1)) in
    let lo : length pre + length old ≡ v.to =
    omega (arith, b.0, lp, length-drop v.from (take v.to t), length-take-le v.to t b.1) in
    let r = edit-reads pre old new post ts p v (ap (read_strict) (cut-text v.from v.to t b.0) ∙ h) mp mv (sym lp) (sym lo) hg cn kn hn fits in
    r ∙ ap₂ (λ (x y : ℕ). accepted (map (move_tree (starts_at x y (length new)) (ends_at x y (length new)) (new_raw x new)) ts)) lp lo

-- the edit of value k
pub edit-number : (t new : List ℕ) (ts : List Tree) (k : ℕ) → read_strict t ≡ accepted ts
    → k < length (all_vals (all_props (all_nodes ts))) → same (owner_of (all_props (all_nodes ts)) k) GM ≡ false
    → closed new ≡ true → (kn : Ink) → utfs (whole blank) 0 new ≡ whole kn
    → length (new_text t (value_of ts k) new) ≤ text_limit → read_strict (new_text t (value_of ts k) new) ≡ accepted (new_trees ts (value_of ts k) new)
edit-number t new ts k h lk hg cn kn hn fits =
    let o = owned (all_props (all_nodes ts)) k lk in
    let v : Val = get_or (all_vals (all_props (all_nodes ts))) k no_val in
    at_places t new ts o.p v h o.mp o.mv (ap (λ (z : List ℕ). same z GM) o.name ∙ hg) cn kn hn fits
    (inside-text t ts o.p v (accepted-is t ts h) o.mp o.mv)
