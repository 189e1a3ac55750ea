-- The search for GM among rows, and what it says of a root. Assumes nothing.
use Rattle.lists.proofs.Prelude.{ℕ, zero, suc, ◌+◌, ◌-◌, ◌≤◌, ◌<◌, max, ◌≡◌, refl, sym, ap, ◌∙◌, Bool, true, false, List, [], ◌∷◌, arith, pick}
use Rattle.values.specs.Read.{read_value}
use Rattle.tables.specs.Columns.{first_val_at, val_count_at}
use Rattle.tables.specs.Each.{tabulate}
use Rattle.parts.specs.Rows.{value_at, values_at}
use Rattle.parts_props.specs.Props.{rows_from, named_at, property_at, properties_at}
use Rattle.tables.specs.declared.Reason.TheVariants.{UnexpectedProperty, InvalidGameType}
use Rattle.parser.specs.Game.{GM, game_of}
use Rattle.parser_game.specs.LocalsGame.{type_of}
use Rattle.salvage_rows.specs.LocalsGM.{gms_in, game_of_values, game_by, game_in}
use Rattle.salvage_rows.specs.Locals.{NextGM}
use Rattle.std.specs.Prelude.{Ok, Err}

module _ (text pr vl : List ℕ) where
  -- the GM of the rows from p up to n
  abbrev pub gms_to : (p n : ℕ) → List (List (List ℕ))
  gms_to p n = gms_in (tabulate (property_at text pr vl) p (n - p))

  pub gms-end : (p n : ℕ) → n ≤ p → gms_to p n ≡ []
  unfolding tabulate
  gms-end p n h = let e : n - p ≡ 0 = omega arith in rw e

  tab-next : (p n : ℕ) → p < n → tabulate (property_at text pr vl) p (n - p) ≡ property_at text pr vl p ∷ tabulate (property_at text pr vl) (p + 1) (n - (p + 1))
  unfolding tabulate
  tab-next p n h =
      let e : n - p ≡ suc (n - (p + 1)) = omega arith in
      let f : suc p ≡ p + 1 = omega arith in
      ap (tabulate (property_at text pr vl) p) e ∙ ap (λ (k : ℕ). property_at text pr vl p ∷ tabulate (property_at text pr vl) k (n - (p + 1))) f

  pub gms-pass : (p n : ℕ) → p < n → named_at text pr GM p ≡ false → gms_to p n ≡ gms_to (p + 1) n
  gms-pass p n h e = ap gms_in (tab-next p n h) ∙ ap (λ (t : Bool). pick t ((property_at text pr vl p).raws ∷ gms_to (p + 1) n) (gms_to (p + 1) n)) e

  pub gms-here : (p n : ℕ) → p < n → named_at text pr GM p ≡ true → gms_to p n ≡ (property_at text pr vl p).raws ∷ gms_to (p + 1) n
  gms-here p n h e = ap gms_in (tab-next p n h) ∙ ap (λ (t : Bool). pick t ((property_at text pr vl p).raws ∷ gms_to (p + 1) n) (gms_to (p + 1) n)) e

  module _ (first count to p : ℕ) (e : to ≡ first + rows_from pr first count) (x : NextGM text pr first to p) where
    whole : game_in (properties_at text pr vl first count) ≡ game_by (gms_to p to)
    unfolding game_in properties_at
    whole =
        let f : rows_from pr first count ≡ to - first = omega arith in
        ap (λ (n : ℕ). game_by (gms_in (tabulate (property_at text pr vl) first n))) f ∙ ap game_by (x.rest vl)

    pub game-absent : to ≤ p → Ok 0 ≡ type_of (game_in (properties_at text pr vl first count))
    game-absent h = ap type_of (sym (whole ∙ ap game_by (gms-end p to h)))

    module _ (h : p < to) (q : ℕ) (y : NextGM text pr (p + 1) to q) where
      first_one : game_in (properties_at text pr vl first count) ≡ game_by ((property_at text pr vl p).raws ∷ gms_to q to)
      first_one = whole ∙ ap game_by (gms-here p to h (x.here h)) ∙ ap (λ (z : List (List (List ℕ))). game_by ((property_at text pr vl p).raws ∷ z)) (y.rest vl)

      pub game-several : q < to → Err UnexpectedProperty ≡ type_of (game_in (properties_at text pr vl first count))
      game-several l = ap type_of (sym (first_one ∙ ap (λ (z : List (List (List ℕ))). game_by ((property_at text pr vl p).raws ∷ z)) (gms-here q to l (y.here l))))

      pub game-single : to ≤ q → game_of_values (values_at text vl (first_val_at pr p) (val_count_at pr p)) ≡ game_in (properties_at text pr vl first count)
      game-single l = sym (first_one ∙ ap (λ (z : List (List (List ℕ))). game_by ((property_at text pr vl p).raws ∷ z)) (gms-end q to l))

-- exactly one value is wanted
module _ (text vl : List ℕ) (first : ℕ) where
  pub values-wrong : (count : ℕ) → (count ≡ 1 → ⊥) → Err InvalidGameType ≡ type_of (game_of_values (values_at text vl first count))
  unfolding game_of_values values_at
  values-wrong zero h = refl
  values-wrong (suc zero) h = absurd (h refl)
  values-wrong (suc (suc n)) h = refl

  pub values_one : (count : ℕ) → count ≡ 1 → game_of (read_value (value_at text vl (first + 0))) ≡ game_of_values (values_at text vl first count)
  unfolding game_of_values values_at
  values_one count h = let e : first + 0 ≡ first = omega arith in rw (h, e)

-- the search, step by step
module _ (text pr : List ℕ) (from to p : ℕ) where
  -- rows from `from` up to p have no GM
  pub record Searched : Type 0 where
    pub start : from ≤ p
    pub rest : (vl : List ℕ) → gms_to text pr vl from to ≡ gms_to text pr vl p to

pub searched-first : (text pr : List ℕ) (from to : ℕ) → Searched text pr from to from
searched-first text pr from to = record { start = omega arith; rest = λ vl. refl }

module _ (text pr : List ℕ) (from to p : ℕ) (x : Searched text pr from to p) where
  pub searched-next : p < to → named_at text pr GM p ≡ false → Searched text pr from to (p + 1)
  searched-next h e = record { start = let l = x.start in omega arith; rest = λ vl. x.rest vl ∙ gms-pass text pr vl p to h e }

  pub searched-found : named_at text pr GM p ≡ true → NextGM text pr from to p
  searched-found e = record { here = λ l. e; start = x.start; rest = x.rest }

  pub searched-end : to ≤ p → {r : ℕ} → r ≡ max from to → NextGM text pr from to r
  searched-end h {r} e =
      record {
        here = λ l. absurd (omega arith);
        start = omega arith;
        rest = λ vl. x.rest vl ∙ gms-end text pr vl p to h ∙ sym (gms-end text pr vl r to (omega arith));
      }
