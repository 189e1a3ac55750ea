-- An accepted edit by its tests: what they say, and that they give it. Assumes nothing.
use Rattle.lists.proofs.Prelude.{ℕ, Bool, true, false, ◌≡◌, refl, List}
use Rattle.lists.proofs.Tests.{never}
use Rattle.text_utf8.specs.Text.{Ink, Utf, whole, part, bad}
use Rattle.tables.specs.Rows.{Tables}
use Rattle.edit_answer.specs.Edit.{gives}
use Rattle.edit_answer.specs.Locals.{outcome}

-- what an accepted edit says
pub record Gave (b g : Bool) (w : Utf) (d l m : Bool) (U u : List ℕ) (S T : Tables) : Type 0 where
  pub below : b ≡ true
  pub free : g ≡ false
  pub ink : Ink
  pub valid : w ≡ whole ink
  pub shut : d ≡ true
  pub short : l ≡ false
  pub text : U ≡ u
  pub rows : S ≡ T

pub gave : (b g : Bool) (w : Utf) (d l m : Bool) (U u : List ℕ) (S T : Tables) → outcome b g w d l m U S ≡ gives u T → Gave b g w d l m U u S T
gave false g w d l m U u S T e = never cc
gave true true w d l m U u S T e = never cc
gave true false (part i s n r y) d l m U u S T e = never cc
gave true false (bad p) d l m U u S T e = never cc
gave true false (whole i) false l m U u S T e = never cc
gave true false (whole i) true true m U u S T e = never cc
gave true false (whole i) true false true U u S T e = never cc
gave true false (whole i) true false false U u S T e =
    record { below = refl; free = refl; ink = i; valid = refl; shut = refl; short = refl; text = cc; rows = cc }

pub accepts : {b g : Bool} {w : Utf} {d l m : Bool} {U u : List ℕ} {S T : Tables} (i : Ink)
    → b ≡ true → g ≡ false → w ≡ whole i → d ≡ true → l ≡ false → m ≡ false → U ≡ u → S ≡ T → outcome b g w d l m U S ≡ gives u T
accepts i eb eg ew ed el em eu es = rw (eb, eg, ew, ed, el, em, eu, es)
