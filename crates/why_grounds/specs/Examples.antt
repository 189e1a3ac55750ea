-- Short texts and what their explanations are: one table, one statement.
use Rattle.std.specs.Prelude.{◌≡◌, ◌∷◌, ◌++◌, Result, Ok, Err}
use Rattle.lists.specs.Prelude.{ℕ, Bool, List, [], map}
use Rattle.tables.specs.Numbers.{none}
use Rattle.parser.specs.Examples.{bytes, strict, lenient}
use Rattle.why_blame.specs.declared.Fact.{Fact}
use Rattle.why_blame.specs.declared.Fact.TheVariants.{BadSequence, NoBracket, Foreign, NotClosed, EndBeyond, StaysOpen, NoNode, NoEnd, EmptyList, SecondGm, Stray, GmValues, GmNumber}
use Rattle.why.specs.Why.{explained}
use Rattle.tables.specs.declared.Counts.{Counts}
use Rattle.tables.specs.declared.Refusal.{Refusal}

-- what is told of a text: the fact and its place; or the place where reading ended
pub data Telling : Type 0 where
  by : Fact → (place : ℕ) → Telling
  ends : (place : ℕ) → Telling

-- of an explanation
abbrev pub telling_of : Result (Counts × ℕ) (Refusal Fact) → Telling
telling_of (Ok (c, q)) = ends q
telling_of (Err e) = by e.reason e.place

-- a text, how it is read, and what is told
pub record Asked : Type 0 where
  pub text : List ℕ
  pub how : Bool
  pub told : Telling

-- a row
abbrev pub asked_of : List ℕ → Bool → Telling → Asked
asked_of t h w = record { text = t; how = h; told = w }

-- an ideographic space, three bytes
abbrev pub wide_space : List ℕ
wide_space = 0xe3 ∷ 0x80 ∷ 0x80 ∷ []

-- the table (SCOPE 262)
abbrev pub told_texts : List Asked
told_texts =
    asked_of (bytes "(a[])") strict (by Stray 1)
    ∷ asked_of (bytes "(;B" ++ wide_space) strict (by (NoBracket 3) 2)
    ∷ asked_of (bytes "(;B" ++ (wide_space ++ bytes "x")) strict (by (Foreign 3) 2)
    ∷ asked_of (bytes "(;A[x][y") strict (by (NotClosed 8) 2)
    ∷ asked_of (bytes ";(;") strict (by (StaysOpen 1) 0)
    ∷ asked_of (bytes "(;)(((;)") strict (by (StaysOpen 2) 3)
    ∷ asked_of (bytes "()") strict (by (NoNode 0) 0)
    ∷ asked_of (bytes "(;)()") strict (by (NoNode 1) 3)
    ∷ asked_of (bytes "((;))") strict (by (EmptyList none) 1)
    ∷ asked_of (bytes "(;((;)))") strict (by (EmptyList 0) 3)
    ∷ asked_of (bytes "(;)(;((;)))") strict (by (EmptyList 1) 6)
    ∷ asked_of (bytes "(;GM[1]GM[x])") strict (by (SecondGm 0) 7)
    ∷ asked_of (bytes "(;GM[1][2])") strict (by (GmValues 2) 2)
    ∷ asked_of (bytes "(;GM[x])") strict (by GmNumber 2)
    ∷ asked_of (bytes "((GM[x]))") strict (by GmNumber 2)
    ∷ asked_of [] strict (by NoEnd 0)
    ∷ asked_of (bytes " ;") strict (by NoEnd 0)
    ∷ asked_of (bytes "(;))") strict (by EndBeyond 3)
    ∷ asked_of (bytes "(" ++ (0xff ∷ [])) strict (by BadSequence 1)
    ∷ asked_of (bytes "(;AbC[])") strict (ends 8)
    ∷ asked_of (bytes " (;) ") strict (ends 5)
    ∷ asked_of (bytes "(;);") strict (ends 3)
    ∷ asked_of [] lenient (ends 0)
    ∷ asked_of (bytes ";") lenient (ends 0)
    ∷ asked_of (bytes "(;);)") lenient (ends 3)
    ∷ asked_of (bytes "(;)x") lenient (ends 3)
    ∷ asked_of (bytes "(;B[") lenient (ends 2)
    ∷ []

-- each text is told as the table says
abbrev pub AsTold : List Asked → Type 0
AsTold rs = map (λ (r : Asked). telling_of (explained r.how r.text)) rs ≡ map (λ (r : Asked). r.told) rs
