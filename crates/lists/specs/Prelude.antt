-- What definitions take from the logic and its libraries, under one name.
pub use Rattle.std.specs.Prelude.{◌%◌, ◌*◌, ◌+◌, ◌-◌, ◌/◌, ◌<◌, ◌^◌, ◌≤◌, max, min, suc, zero, ℕ, Bool, ◌&&◌, ◌||◌, false, not, true, ◌↔◌, ◌⊎◌, ◌≡◌, refl, eqb, leb, ltb, drop, get_or, length, replicate, take}
pub use mathlib.Core.List.{List, Memᴰ as List-as-Memᴰ, [], ◌++◌, ◌∷◌, map, reverse}
pub use Rattle.std.proofs.lemmas.List.Edits.{sets}
pub use Rattle.std.proofs.Math.Seq.{slice}
pub use Rattle.lists.specs.Pick.{pick}
