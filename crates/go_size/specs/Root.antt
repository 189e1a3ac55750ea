-- The size that the properties of a root say.
use Rattle.std.specs.Prelude.{◌∷◌, Option, Some, None}
use Rattle.lists.specs.Prelude.{ℕ, List, [], pick}
use Rattle.lists.specs.Same.{same}
use Rattle.values.specs.Read.{read_value}
use Rattle.parts_props.specs.Props.{Property}
use Rattle.go_size.specs.Size.{size_of}
use Rattle.go_size.specs.declared.RootSize.{RootSize}
use Rattle.go_size.specs.declared.RootSize.TheVariants.{Absent, Sized, Wrong}

-- the read identifier SZ
abbrev pub SZ : List ℕ
SZ = 0x53 ∷ 0x5a ∷ []

-- the raw values of each property that reads as SZ
abbrev pub sizes_in : List Property → List (List (List ℕ))
sizes_in [] = []
sizes_in (p ∷ ps) = let r = sizes_in ps in pick (same p.name SZ) (p.raws ∷ r) r

-- a valid size
abbrev pub root_size : Option (ℕ × ℕ) → RootSize
root_size None = Wrong
root_size (Some (x, y)) = Sized x y

-- exactly one value, and that valid
unfoldable pub size_of_values : List (List ℕ) → RootSize
size_of_values [] = Wrong
size_of_values (v ∷ []) = root_size (size_of (read_value v))
size_of_values (v ∷ w ∷ vs) = Wrong

-- no SZ, one, or several
abbrev pub size_by : List (List (List ℕ)) → RootSize
size_by [] = Absent
size_by (vs ∷ []) = size_of_values vs
size_by (vs ∷ ws ∷ rest) = Wrong

-- no SZ: absent; one with one valid value: its size; else wrong
unfoldable pub size_in : List Property → RootSize
size_in ps = size_by (sizes_in ps)
