-- What the nodes, properties and values of a slice weigh: no more than its tokens. Assumes nothing.
use Rattle.lists.proofs.Prelude.{◌≡◌, refl, ap, ◌∙◌, ℕ, suc, ◌+◌, ◌*◌, ◌≤◌, ◌<◌, arith, Bool, true, false, List, [], ◌∷◌, ◌++◌, append-nil, length, length-append}
use Rattle.lexer.specs.Token.{Prop, Tok}
use Rattle.tables.specs.Numbers.{none}
use Rattle.tables.specs.Record.{Node, all_vals}
use Rattle.parser_tree.proofs.Flats.{vals-append}
use Rattle.reader_laws.proofs.Bracketing.{inner}
use Rattle.reader_laws.proofs.Grown.{walk_of}
use Rattle.reader_laws.proofs.Spaced.{Spaced}
use Rattle.reader_laws.proofs.Thinned.{props_back}
use Rattle.reader_laws.proofs.Walks.{Kept, keep-walk}
use Rattle.reader_laws.proofs.Weights.{prop_weight}

-- how many values properties have
abbrev pub values_in : List Prop → ℕ
values_in ps = length (all_vals ps)

pub values-in : (xs ys : List Prop) → values_in (xs ++ ys) ≡ values_in xs + values_in ys
values-in xs ys = ap length (vals-append xs ys) ∙ length-append (all_vals xs) (all_vals ys)

-- with one property more
values_one : (xs ys : List Prop) (p : Prop) → values_in (xs ++ (ys ++ (p ∷ []))) ≡ values_in (xs ++ ys) + length p.vals
values_one xs ys p = omega (arith, values-in xs (ys ++ (p ∷ [])), values-in ys (p ∷ []), values-in xs ys, length-append p.vals [])

length-one : (xs ys : List Prop) (p : Prop) → length (xs ++ (ys ++ (p ∷ []))) ≡ suc (length (xs ++ ys))
length-one xs ys p = omega (arith, length-append xs (ys ++ (p ∷ [])), length-append ys (p ∷ []), length-append xs ys)

-- ---- values and nodes

valued : (base n : ℕ) → Kept base (λ ts cur st g ns. 2 * values_in (props_back ns) + length ns + inner ts ≤ n) (λ ns. 2 * values_in (props_back ns) + length ns ≤ n)
valued base n =
    record {
      opening = λ m h. h;
      closing = λ h. h;
      joining = λ {o} {cur} {ts} {st} {g} {ns} h. rw (append-nil (props_back ns)) (omega arith);
      adding = λ {cur} {e} {p} {ts} {st} {n = d} {ns} h. omega (arith, h, values_one (props_back ns) d.props p);
      over = λ h. omega arith;
      without = omega arith;
    }

-- ---- properties

-- of the last node's properties: the first has the byte of its node, each further one its identifier's
abbrev Spare : Bool → List Prop → Bool → (x n : ℕ) → Type 0
Spare true [] b x n = suc x ≤ n
Spare true (p ∷ ps) b x n = (b ≡ true) × (x ≤ n)
Spare false ps b x n = x ≤ n

spare-out : (g : Bool) (ps : List Prop) (b : Bool) (x n : ℕ) → Spare g ps b x n → x ≤ n
spare-out true [] b x n h = omega arith
spare-out true (p ∷ ps) b x n h = h.1
spare-out false ps b x n h = h

spare-add : (ps : List Prop) (p : Prop) (b : Bool) (x y n : ℕ) → Spare true ps b x n → (b ≡ true → 0 < length p.name) → 0 < length p.vals → y + prop_weight p ≡ x + 3
    → Spare true (ps ++ (p ∷ [])) true y n
spare-add [] p b x y n h w v e = (refl, omega arith)
spare-add (q ∷ ps) p b x y n h w v e = (refl, omega (arith, h.1, w h.0))

abbrev last_props : List Node → List Prop
last_props [] = []
last_props (n ∷ ns) = n.props

propertied : (base n : ℕ) → Kept base (λ ts cur st g ns. (b : Bool) × Spaced b ts × Spare g (last_props ns) b (3 * length (props_back ns) + inner ts) n) (λ ns. 3 * length (props_back ns) ≤ n)
propertied base n =
    record {
      opening = λ {o} {cur} {ts} {st} {g} {ns} m h. (false, h.1, spare-out g (last_props ns) h.0 (3 * length (props_back ns) + inner ts) n h.2);
      closing = λ {o} {cur} {p} {ts} {st} {g} {ns} h. (false, h.1, spare-out g (last_props ns) h.0 (3 * length (props_back ns) + inner ts) n h.2);
      joining = λ {o} {cur} {ts} {st} {g} {ns} h.
          let a = spare-out g (last_props ns) h.0 (3 * length (props_back ns) + suc (inner ts)) n h.2 in
          (false, h.1, rw (append-nil (props_back ns)) (omega arith));
      adding = λ {cur} {e} {p} {ts} {st} {n = d} {ns} h. (
        true,
        h.1.2,
        spare-add d.props p h.0 (3 * length (props_back (d ∷ ns)) + (prop_weight p + inner ts)) (3 * length (props_back ns ++ (d.props ++ (p ∷ []))) + inner ts) n h.2 h.1.0 h.1.1
            (omega (arith, length-one (props_back ns) d.props p)),
      );
      over = λ {cur} {ts} {st} {g} {ns} h. (let a = spare-out g (last_props ns) h.0 (3 * length (props_back ns) + inner ts) n h.2 in omega arith);
      without = omega arith;
    }

pub slice-loads : (len : Bool) (base : ℕ) (s : List Tok) → Spaced false s
    → (2 * values_in (props_back (walk_of len base s)) + length (walk_of len base s) ≤ inner s) × (3 * length (props_back (walk_of len base s)) ≤ inner s)
slice-loads len base s h = (
  keep-walk (valued base (inner s)) len none [] false [] s (omega arith),
  keep-walk (propertied base (inner s)) len none [] false [] s (false, h, omega arith),
)
