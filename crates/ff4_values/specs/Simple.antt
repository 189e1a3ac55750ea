-- Simple values of FF[4]'s properties, over read values.
use Rattle.std.specs.Prelude.{◌-◌, ◌^◌, ◌&&◌, ◌||◌, ◌∷◌}
use Rattle.lists.specs.Prelude.{ℕ, Bool, not, List, [], eqb, pick}
use Rattle.lists.specs.Same.{same}
use Rattle.values.specs.Read.{read_value}
use Rattle.values.specs.Decimal.{decimal_of}
use Rattle.values.specs.declared.decimal.Number.{Number}
use Rattle.values.specs.declared.decimal.Number.TheVariants as decimal
use Rattle.ff4_index.specs.Kinds.{kind_number, unknown, none, number, double, color, section_number, of_go}
use Rattle.ff4_index.specs.Listed.{entry_of}
use Rattle.ff4_values.specs.declared.Simple.{Simple}
use Rattle.ff4_values.specs.declared.Simple.TheVariants.{Other, Invalid, Nothing, Normal, Emphasized, Black, White, Plus, Minus}
use Rattle.go.specs.Value.{is_go}

-- None: nothing
abbrev pub none_of : List ℕ → Simple
none_of [] = Nothing
none_of (b ∷ bs) = Invalid

-- Double: `1` or `2`
abbrev pub double_of : List ℕ → Simple
double_of v = pick (same v (0x31 ∷ [])) Normal (pick (same v (0x32 ∷ [])) Emphasized Invalid)

-- Color: `B` or `W`
abbrev pub color_of : List ℕ → Simple
color_of v = pick (same v (0x42 ∷ [])) Black (pick (same v (0x57 ∷ [])) White Invalid)

-- a decimal as an answer
abbrev pub number_for : Number → Simple
number_for decimal.Bad = Invalid
number_for (decimal.Plus n) = Plus n
number_for (decimal.Minus n) = Minus n

-- Number: an optional sign and digits, within i64
abbrev pub number_of_value : List ℕ → Simple
number_of_value v = number_for (decimal_of (2 ^ 63 - 1) v)

-- the kinds that are read
abbrev pub is_simple : ℕ → Bool
is_simple k = eqb k (kind_number none) || (eqb k (kind_number number) || (eqb k (kind_number double) || eqb k (kind_number color)))

-- a read value by its kind
unfoldable pub simple_of : ℕ → List ℕ → Simple
simple_of k v =
    pick (eqb k (kind_number none)) (none_of v)
    (pick (eqb k (kind_number double)) (double_of v)
    (pick (eqb k (kind_number color)) (color_of v)
    (pick (eqb k (kind_number number)) (number_of_value v) Other)))

-- exactly one value is wanted (SCOPE 233)
abbrev pub one_simple : ℕ → List (List ℕ) → Simple
one_simple k [] = Invalid
one_simple k (v ∷ []) = simple_of k (read_value v)
one_simple k (v ∷ w ∷ vs) = Invalid

-- the raw values of a property by their kind
unfoldable pub simple_by : ℕ → List (List ℕ) → Simple
simple_by k vs = pick (is_simple k) (one_simple k vs) Other

-- the kind of a property's values; Go's own properties are unknown in another game (SCOPE 234)
unfoldable pub kind_in : (rule : ℕ) (identifier : List ℕ) → ℕ
kind_in rule s = let e = entry_of s in pick (eqb e.section (section_number of_go) && not (is_go rule)) (kind_number unknown) e.kind

-- the simple value of a property of a tree
abbrev pub simple_value : (rule : ℕ) (identifier : List ℕ) (values : List (List ℕ)) → Simple
simple_value rule s vs = simple_by (kind_in rule s) vs
