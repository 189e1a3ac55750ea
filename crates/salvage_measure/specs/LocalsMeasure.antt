-- The result measured slice by slice, in the code's own terms. Nothing public is stated by these.
use Rattle.std.specs.Prelude.{◌+◌, ◌-◌, ◌*◌, ◌≤◌, ◌<◌, ◌≡◌}
use Rattle.lists.specs.Prelude.{ℕ, max, true, List, [], length}
use Rattle.lists.specs.All.{All}
use Rattle.text_utf8.specs.Text.{Utf, whole, part, bad}
use Rattle.lexer.specs.Token.{Lexed, lex_at}
use Rattle.parser.specs.Split.{Slices, no, slices, split_by_gametree}
use Rattle.parser.specs.Read.{tokenize}
use Rattle.parser.specs.LocalsSlice.{first_slices, Shallow}
use Rattle.salvage_form.specs.Measured.{length_limit}
use Rattle.salvage_list.specs.Listed.{slices_changes}
use Rattle.salvage_list.specs.LocalsFound.{SlicesFound}
use Rattle.salvage_list.specs.LocalsWalk.{ListReady, SlicesListed}
use Rattle.salvage_size.specs.LocalsSlices.{slices_length, slices_depth}
use Rattle.salvage_measure.specs.Measure.{WeighedIs}
use Rattle.salvage_measure.specs.declared.Measured.{Measured}
use Rattle.salvage_measure.specs.declared.Weighed.{Weighed}

-- so many bytes, and so deep
abbrev pub measured : (bytes depth : ℕ) → Measured
measured b d = record { bytes = b; depth = d }

-- nothing
abbrev pub unmeasured : Measured
unmeasured = measured 0 0

-- of slices
abbrev pub slices_measure : Slices → Measured
slices_measure (no r) = unmeasured
slices_measure (slices ss) = measured (slices_length 0 ss) (slices_depth 0 ss)

-- of tokens: the slices measured, and the list
abbrev pub TokensWeighed : Lexed → Weighed → Type 0
TokensWeighed l r = WeighedIs (slices_measure (split_by_gametree true l.toks)) (slices_changes (split_by_gametree true l.toks) l) r

-- the slices that are told stand from this place to the end
abbrev pub SlicesToldFrom : (u : List ℕ) (from : ℕ) → Weighed → Type 0
SlicesToldFrom u from r = 0 < r.slices → (r.first ≡ from) × (r.last ≡ length u) × ListReady u from r.slices

-- the slices that are told are those of the text
abbrev pub SlicesTold : List ℕ → Weighed → Type 0
SlicesTold t r = 0 < r.slices → SlicesFound t r.first r.last r.slices

-- of a text
abbrev pub utf_measure : Utf → List ℕ → Measured
utf_measure (whole k) t = slices_measure (split_by_gametree true (tokenize k t).toks)
utf_measure (part k s n r c) t = unmeasured
utf_measure (bad p) t = unmeasured

-- k slices are measured, the next starts at `at`; its nodes are numbered from base on
pub record SlicesMeasured (u : List ℕ) (from count at base bytes depth k : ℕ) : Type 0 where
  pub ready : ListReady u from count
  pub inside : at ≤ length u
  pub below : k ≤ count
  pub nodes : base ≤ at + k
  pub shallow : All (Shallow 0) (first_slices (count - k) (lex_at u at).toks)
  pub long : slices_length 0 (first_slices count (lex_at u from).toks) ≡ bytes + slices_length base (first_slices (count - k) (lex_at u at).toks)
  pub deep : slices_depth 0 (first_slices count (lex_at u from).toks) ≡ max depth (slices_depth base (first_slices (count - k) (lex_at u at).toks))
  pub bound : bytes ≤ (length_limit + 3) * at + 3 * k

-- k slices are counted for the list, in which so many entries have no room; p: the number of the next property
pub record SlicesCounted (u : List ℕ) (from count at base listed k : ℕ) : Type 0 where
  pub p : ℕ
  pub are : SlicesListed u from count at base p listed k [] []
