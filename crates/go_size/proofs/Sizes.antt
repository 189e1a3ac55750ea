-- The search for SZ among rows, and what it says of a root. Assumes nothing.
use Rattle.lists.proofs.Prelude.{ℕ, zero, suc, ◌+◌, ◌-◌, ◌≤◌, ◌<◌, ◌≡◌, refl, sym, ap, ◌∙◌, Bool, true, false, List, [], ◌∷◌, arith, pick, max}
use Rattle.values.specs.Read.{read_value}
use Rattle.tables.specs.Columns.{first_val_at, val_count_at}
use Rattle.tables.specs.Each.{tabulate}
use Rattle.parts.specs.Rows.{value_at, values_at}
use Rattle.parts_props.specs.Props.{rows_from, named_at, property_at, properties_at}
use Rattle.go_size.specs.Size.{size_of}
use Rattle.go_size.specs.Root.{SZ, sizes_in, root_size, size_of_values, size_by, size_in}
use Rattle.go_size.specs.Locals.{NextSize}
use Rattle.go_size.specs.declared.RootSize.TheVariants.{Absent, Wrong}

module _ (text pr vl : List ℕ) where
  -- the SZ of the rows from p up to n
  abbrev pub sizes_to : (p n : ℕ) → List (List (List ℕ))
  sizes_to p n = sizes_in (tabulate (property_at text pr vl) p (n - p))

  pub sizes-end : (p n : ℕ) → n ≤ p → sizes_to p n ≡ []
  unfolding tabulate
  sizes-end p n h = let e : n - p ≡ 0 = omega arith in rw e

  tab-next : (p n : ℕ) → p < n → tabulate (property_at text pr vl) p (n - p) ≡ property_at text pr vl p ∷ tabulate (property_at text pr vl) (p + 1) (n - (p + 1))
  unfolding tabulate
  tab-next p n h =
      let e : n - p ≡ suc (n - (p + 1)) = omega arith in
      let f : suc p ≡ p + 1 = omega arith in
      ap (tabulate (property_at text pr vl) p) e ∙ ap (λ (k : ℕ). property_at text pr vl p ∷ tabulate (property_at text pr vl) k (n - (p + 1))) f

  pub sizes-pass : (p n : ℕ) → p < n → named_at text pr SZ p ≡ false → sizes_to p n ≡ sizes_to (p + 1) n
  sizes-pass p n h e = ap sizes_in (tab-next p n h) ∙ ap (λ (t : Bool). pick t ((property_at text pr vl p).raws ∷ sizes_to (p + 1) n) (sizes_to (p + 1) n)) e

  pub sizes-here : (p n : ℕ) → p < n → named_at text pr SZ p ≡ true → sizes_to p n ≡ (property_at text pr vl p).raws ∷ sizes_to (p + 1) n
  sizes-here p n h e = ap sizes_in (tab-next p n h) ∙ ap (λ (t : Bool). pick t ((property_at text pr vl p).raws ∷ sizes_to (p + 1) n) (sizes_to (p + 1) n)) e

  module _ (first count to p : ℕ) (e : to ≡ first + rows_from pr first count) (x : NextSize text pr first to p) where
    whole : size_in (properties_at text pr vl first count) ≡ size_by (sizes_to p to)
    unfolding size_in properties_at
    whole =
        let f : rows_from pr first count ≡ to - first = omega arith in
        ap (λ (n : ℕ). size_by (sizes_in (tabulate (property_at text pr vl) first n))) f ∙ ap size_by (x.rest vl)

    pub size-absent : to ≤ p → Absent ≡ size_in (properties_at text pr vl first count)
    size-absent h = sym (whole ∙ ap size_by (sizes-end p to h))

    module _ (h : p < to) (q : ℕ) (y : NextSize text pr (p + 1) to q) where
      first_one : size_in (properties_at text pr vl first count) ≡ size_by ((property_at text pr vl p).raws ∷ sizes_to q to)
      first_one = whole ∙ ap size_by (sizes-here p to h (x.here h)) ∙ ap (λ (z : List (List (List ℕ))). size_by ((property_at text pr vl p).raws ∷ z)) (y.rest vl)

      pub size-several : q < to → Wrong ≡ size_in (properties_at text pr vl first count)
      size-several l = sym (first_one ∙ ap (λ (z : List (List (List ℕ))). size_by ((property_at text pr vl p).raws ∷ z)) (sizes-here q to l (y.here l)))

      pub size-single : to ≤ q → size_of_values (values_at text vl (first_val_at pr p) (val_count_at pr p)) ≡ size_in (properties_at text pr vl first count)
      size-single l = sym (first_one ∙ ap (λ (z : List (List (List ℕ))). size_by ((property_at text pr vl p).raws ∷ z)) (sizes-end q to l))

-- exactly one value is wanted
module _ (text vl : List ℕ) (first : ℕ) where
  pub values-wrong : (count : ℕ) → (count ≡ 1 → ⊥) → Wrong ≡ size_of_values (values_at text vl first count)
  unfolding size_of_values values_at
  values-wrong zero h = refl
  values-wrong (suc zero) h = absurd (h refl)
  values-wrong (suc (suc n)) h = refl

  pub values_one : (count : ℕ) → count ≡ 1 → root_size (size_of (read_value (value_at text vl (first + 0)))) ≡ size_of_values (values_at text vl first count)
  unfolding size_of_values values_at
  values_one count h = let e : first + 0 ≡ first = omega arith in rw (h, e)

-- the search, step by step
module _ (text pr : List ℕ) (from to p : ℕ) where
  -- rows from `from` up to p have no SZ
  pub record Searched : Type 0 where
    pub start : from ≤ p
    pub rest : (vl : List ℕ) → sizes_to text pr vl from to ≡ sizes_to text pr vl p to

pub searched-first : (text pr : List ℕ) (from to : ℕ) → Searched text pr from to from
searched-first text pr from to = record { start = omega arith; rest = λ vl. refl }

module _ (text pr : List ℕ) (from to p : ℕ) (x : Searched text pr from to p) where
  pub searched-next : p < to → named_at text pr SZ p ≡ false → Searched text pr from to (p + 1)
  searched-next h e = record { start = let l = x.start in omega arith; rest = λ vl. x.rest vl ∙ sizes-pass text pr vl p to h e }

  pub searched-found : named_at text pr SZ p ≡ true → NextSize text pr from to p
  searched-found e = record { here = λ l. e; start = x.start; rest = x.rest }

  pub searched-end : to ≤ p → {r : ℕ} → r ≡ max from to → NextSize text pr from to r
  searched-end h {r} e =
      record {
        here = λ l. absurd (omega arith);
        start = omega arith;
        rest = λ vl. x.rest vl ∙ sizes-end text pr vl p to h ∙ sym (sizes-end text pr vl r to (omega arith));
      }
