-- Nothing that stands earlier in the scope's order applies: what a fact needs of the text before it can be to blame.
use Rattle.std.specs.Prelude.{◌≤◌, ◌≡◌}
use Rattle.lists.specs.Prelude.{ℕ, List, length}
use Rattle.tables.specs.Numbers.{text_limit}
use Rattle.parser.specs.Balance.{starts, ends, Covered, Balanced}
use Rattle.reader_exactly.specs.When.{Valid, tokens_of, Lexes, Splits}
use Rattle.why_blame.specs.declared.Fact.{Fact}
use Rattle.why_blame.specs.declared.Fact.TheVariants.{Length, BadSequence, NoBracket, Foreign, NotClosed, EndBeyond, StaysOpen, NoNode, NoEnd, TooDeep, EmptyList, SecondGm, Stray, GmValues, GmNumber}

-- of a strict reading; that the slices before are trees and the game type is taken, `FactSays` says itself (SCOPE 261)
abbrev pub Clear : List ℕ → Fact → Type 0
Clear t (Length n) = Unit {0}
Clear t BadSequence = length t ≤ text_limit
Clear t (NoBracket e) = Valid t
Clear t (Foreign e) = Valid t
Clear t (NotClosed e) = Valid t
Clear t EndBeyond = Lexes t
Clear t (StaysOpen d) = Lexes t × Covered 0 (tokens_of t).toks
Clear t (NoNode n) = Splits t
Clear t NoEnd = Lexes t × Covered 0 (tokens_of t).toks × (starts (tokens_of t).toks ≡ ends (tokens_of t).toks)
Clear t TooDeep = Lexes t × Balanced (tokens_of t).toks
Clear t (EmptyList q) = Splits t
Clear t (SecondGm n) = Splits t
Clear t Stray = Splits t
Clear t (GmValues k) = Splits t
Clear t GmNumber = Splits t

-- of a lenient one: 1, 2, 9, and no other fact (SCOPE 261)
abbrev pub LenientClear : List ℕ → Fact → Type 0
LenientClear t (Length n) = Unit {0}
LenientClear t BadSequence = length t ≤ text_limit
LenientClear t (NoBracket e) = ⊥
LenientClear t (Foreign e) = ⊥
LenientClear t (NotClosed e) = ⊥
LenientClear t EndBeyond = ⊥
LenientClear t (StaysOpen d) = ⊥
LenientClear t (NoNode n) = ⊥
LenientClear t NoEnd = ⊥
LenientClear t TooDeep = Valid t
LenientClear t (EmptyList q) = ⊥
LenientClear t (SecondGm n) = ⊥
LenientClear t Stray = ⊥
LenientClear t (GmValues k) = ⊥
LenientClear t GmNumber = ⊥

-- where a fact stands in the scope's order: 1; 2; 3 to 5; 6; 7 of splitting; 8; 9; the trees, of which the first that is refused counts
abbrev pub stage_of : Fact → ℕ
stage_of (Length n) = 0
stage_of BadSequence = 1
stage_of (NoBracket e) = 2
stage_of (Foreign e) = 2
stage_of (NotClosed e) = 2
stage_of EndBeyond = 3
stage_of (StaysOpen d) = 4
stage_of NoEnd = 5
stage_of TooDeep = 6
stage_of (NoNode n) = 7
stage_of (EmptyList q) = 7
stage_of (SecondGm n) = 7
stage_of Stray = 7
stage_of (GmValues k) = 7
stage_of GmNumber = 7
