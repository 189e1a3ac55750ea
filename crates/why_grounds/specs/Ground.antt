-- The scope's condition behind a fact, without `explained`: what refuses the text holds, and nothing earlier in the scope's order does.
use Rattle.std.specs.Prelude.{◌≤◌, ◌<◌, ◌⊎◌}
use Rattle.lists.specs.Prelude.{ℕ, List, length}
use Rattle.text_chars.specs.Table.{BadFrom}
use Rattle.lexer.specs.declared.Fault.TheVariants.{MissingPropertyIdentifier, UnexpectedEndOfPropertyIdentifier, UnexpectedEndOfPropertyValue}
use Rattle.tables.specs.Numbers.{text_limit}
use Rattle.parser.specs.Balance.{Balanced}
use Rattle.reader_exactly.specs.Slicing.{Any, slices_from, Uncovered, Deep}
use Rattle.reader_exactly.specs.When.{Valid, tokens_of, FailsAt, Lexes, Unclosed, Bare, Splits, First, StartsEmpty, Unexpected, WrongGame, Nodeless}
use Rattle.why_blame.specs.declared.Fact.{Fact}
use Rattle.why_blame.specs.declared.Fact.TheVariants.{Length, BadSequence, NoBracket, Foreign, NotClosed, EndBeyond, StaysOpen, NoNode, NoEnd, TooDeep, EmptyList, SecondGm, Stray, GmValues, GmNumber}

-- 7: trees stay open; or none does, and the first slice that is refused has no node
abbrev pub Unended : List ℕ → Type 0
Unended t = (Lexes t × Unclosed (tokens_of t).toks) ⊎ (Splits t × First Nodeless (slices_from 0 (tokens_of t).toks))

-- 11: the first slice that is refused has two GM or a stray property
abbrev pub Misplaced : List ℕ → Type 0
Misplaced t = Splits t × First Unexpected (slices_from 0 (tokens_of t).toks)

-- 12: the first slice that is refused has one GM, whose values are not one number
abbrev pub Mistyped : List ℕ → Type 0
Mistyped t = Splits t × First (λ _ s. WrongGame s) (slices_from 0 (tokens_of t).toks)

-- of a strict reading (SCOPE 261)
abbrev pub Ground : List ℕ → Fact → Type 0
Ground t (Length n) = text_limit < length t
Ground t BadSequence = (length t ≤ text_limit) × ((p : ℕ) × BadFrom t p)
Ground t (NoBracket e) = Valid t × ((p : ℕ) × FailsAt t MissingPropertyIdentifier p)
Ground t (Foreign e) = Valid t × ((p : ℕ) × FailsAt t UnexpectedEndOfPropertyIdentifier p)
Ground t (NotClosed e) = Valid t × ((p : ℕ) × FailsAt t UnexpectedEndOfPropertyValue p)
Ground t EndBeyond = Lexes t × Uncovered 0 (tokens_of t).toks
Ground t (StaysOpen d) = Unended t
Ground t (NoNode n) = Unended t
Ground t NoEnd = Lexes t × Bare (tokens_of t).toks
Ground t TooDeep = Lexes t × Balanced (tokens_of t).toks × Any (Deep 0) (slices_from 0 (tokens_of t).toks)
Ground t (EmptyList p) = Splits t × First StartsEmpty (slices_from 0 (tokens_of t).toks)
Ground t (SecondGm n) = Misplaced t
Ground t Stray = Misplaced t
Ground t (GmValues n) = Mistyped t
Ground t GmNumber = Mistyped t

-- of a lenient one: 1, 2, 9 and no other
abbrev pub LenientGround : List ℕ → Fact → Type 0
LenientGround t (Length n) = text_limit < length t
LenientGround t BadSequence = (length t ≤ text_limit) × ((p : ℕ) × BadFrom t p)
LenientGround t (NoBracket e) = ⊥
LenientGround t (Foreign e) = ⊥
LenientGround t (NotClosed e) = ⊥
LenientGround t EndBeyond = ⊥
LenientGround t (StaysOpen d) = ⊥
LenientGround t (NoNode n) = ⊥
LenientGround t NoEnd = ⊥
LenientGround t TooDeep = Valid t × Any (Deep 0) (slices_from 0 (tokens_of t).toks)
LenientGround t (EmptyList p) = ⊥
LenientGround t (SecondGm n) = ⊥
LenientGround t Stray = ⊥
LenientGround t (GmValues n) = ⊥
LenientGround t GmNumber = ⊥
