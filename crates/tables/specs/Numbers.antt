-- The limits, "none", and the numbers given back.
use Rattle.lists.specs.Prelude.{ℕ}
use Rattle.lexer.specs.declared.Fault.{Fault}
use Rattle.lexer.specs.declared.Fault.TheVariants.{MissingPropertyIdentifier as no-identifier, UnexpectedEndOfPropertyIdentifier as foreign, UnexpectedEndOfPropertyValue as unclosed}
use Rattle.tables.specs.declared.Reason.{Reason}
use Rattle.tables.specs.declared.Reason.TheVariants.{TextTooLong, NotUtf8, MissingPropertyIdentifier, UnexpectedEndOfPropertyIdentifier, UnexpectedEndOfPropertyValue, UnexpectedGameTreeEnd, UnexpectedEndOfData, NoGameTrees, TooDeep, UnexpectedGameTreeStart, UnexpectedProperty, InvalidGameType, NoRoom, EmptyIdentifier, NoSuchNumber, GameTypeFixed, NotClosed, NotFitting}

-- the longest text (SCOPE 5, 28, 120)
abbrev pub text_limit : ℕ
text_limit = 1048576

-- the greatest number of open trees (SCOPE 29)
abbrev pub depth_limit : ℕ
depth_limit = 1024

-- "none" in a row (SCOPE 14)
abbrev pub none : ℕ
none = 4294967295

-- the number of a refusal; 0 is acceptance, and 13 is given no more (SCOPE 30, 31, 44, 160)
abbrev pub number_of : Reason → ℕ
number_of TextTooLong = 1
number_of NotUtf8 = 2
number_of MissingPropertyIdentifier = 3
number_of UnexpectedEndOfPropertyIdentifier = 4
number_of UnexpectedEndOfPropertyValue = 5
number_of UnexpectedGameTreeEnd = 6
number_of UnexpectedEndOfData = 7
number_of NoGameTrees = 8
number_of TooDeep = 9
number_of UnexpectedGameTreeStart = 10
number_of UnexpectedProperty = 11
number_of InvalidGameType = 12
number_of NoRoom = 14
number_of EmptyIdentifier = 15
number_of NoSuchNumber = 16
number_of GameTypeFixed = 17
number_of NotClosed = 18
number_of NotFitting = 19

-- a token's fault as a reason
abbrev pub reason_of : Fault → Reason
reason_of no-identifier = MissingPropertyIdentifier
reason_of foreign = UnexpectedEndOfPropertyIdentifier
reason_of unclosed = UnexpectedEndOfPropertyValue
