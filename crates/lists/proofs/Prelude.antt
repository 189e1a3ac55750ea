-- What proofs take: all that definitions take, and laws of the logic and its libraries.
pub use Rattle.lists.specs.Prelude.{Bool, List, List-as-Memᴰ, [], ◌%◌, ◌&&◌, ◌*◌, ◌++◌, ◌+◌, ◌-◌, ◌/◌, ◌<◌, ◌^◌, ◌||◌, ◌↔◌, ◌∷◌, ◌≡◌, ◌≤◌, ◌⊎◌, drop, eqb, false, get_or, leb, length, ltb, map, max, min, not, pick, refl, replicate, reverse, sets, slice, suc, take, true, zero, ℕ}
pub use native.Mathlib.Nat.{add-suc, add-zero, div-add-mod', le_antisymm, le_of_suc-le-suc, le_refl, lt_of_not-le, mod-lt, mul-le-mul_right, not-suc-le-zero, pow-suc, suc-add, suc-mul, zero-add}
pub use native.Mathlib.Numerals.{add-one, add-two, sub-one}
pub use native.Mathlib.Omega.{arith}
pub use mathlib.Core.Bool.{and_assoc, and-false, and-or_distrib_left, and-or_distrib_right, and-true, false≢true, or_assoc, or_comm, or-false, or-true, true≢false}
pub use mathlib.Core.Logic.{inl, inr, ⊎_elim}
pub use mathlib.Core.Path.{◌∙◌, ap, ap₂, subst, subst⁻¹, subst₂, sym}
pub use mathlib.Core.List.Memᴰ.{head as memᴰ-head}
pub use mathlib.Core.List.Memᴰ.{tail as memᴰ-tail}
pub use mathlib.Core.List.{append_assoc, append-nil, head-eq_of_cons-eq, map-append, map-map, reverse-cons, reverse-reverse, reverse_aux, tail-eq_of_cons-eq}
pub use lib.Dec.{T}
pub use lib.ListN.{get_or-append, get_or-eq_default, drop_of_length-le, get_or-replicate, length-append, length-drop, length-map, length-replicate, length-reverse, length-reverse_aux, length-set, length-take, set, take-append-drop}
pub use lib.Seq.{drop-append-add, drop-append-le, drop_at, drop-cons, drop-drop, drop-length, drop-set-lt, ext_get_or, get_or-append-add, get_or_at, get_or-drop, get_or-set_other, get_or-set_same, get_or-take, length_paste_head, length-sets, length-slice, length-take-le, lt-length-set, paste, paste-suc, paste-zero, set_out, sets-eq, slice-cons, slice_empty, take-add, take_all, take-append-add, take-append-le, take_at, take-length, take-nil, take-suc, take-take}
pub use borrow.Author.Rules.{rules}
pub use borrow.Author.Tests.{eq-eqb, eqb-false, eqb-true, le-leb, le-ltb, leb-false, leb-true, lt-leb, lt-ltb, ltb-false, ltb-true, ne_eqb, not-false, not-true}
