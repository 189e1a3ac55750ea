-- What is found of a text before its rows are counted. Nothing public is stated by these.
use Rattle.std.specs.Prelude.{◌≡◌, Option, Some, None, Ok}
use Rattle.lists.specs.Prelude.{ℕ, Bool, List}
use Rattle.text_utf8.specs.Trim.{trimmed}
use Rattle.why.specs.Why.{text_blame, trim_loose, explained}
use Rattle.why.specs.declared.Sought.{Sought}
use Rattle.why.specs.declared.Sought.TheVariants.{Simple, Sound, Wrong}
use Rattle.tables.specs.Refusals.{refusal}
use Rattle.why_blame.specs.declared.Fact.{Fact}
use Rattle.tables.specs.declared.Refusal.{Refusal}

-- by what is to blame; q: the place of the first token in no slice
abbrev pub sought_by : Option (Refusal Fact) → (q : ℕ) → Sought
sought_by None q = Sound q
sought_by (Some e) q = Wrong e.reason e.place

-- by the census first, in a text of n bytes
abbrev pub sought_in : Option (ℕ × ℕ × ℕ × ℕ) → (n : ℕ) → Sought → Sought
sought_in (Some (t, d, p, v)) n x = Simple (record { trees = t; nodes = d; properties = p; values = v }) n
sought_in None n x = x

-- of a text
abbrev pub SoughtIs : Bool → List ℕ → Sought → Type 0
SoughtIs len t (Simple c q) = explained len t ≡ Ok (c, q)
SoughtIs len t (Sound q) = (text_blame len t ≡ None) × (trim_loose len t (trimmed t) ≡ q)
SoughtIs len t (Wrong f p) = text_blame len t ≡ Some (refusal f p)
