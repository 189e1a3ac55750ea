-- The number of a fact: fact and number cannot disagree.
use Rattle.tables.specs.declared.Reason.{Reason}
use Rattle.tables.specs.declared.Reason.TheVariants.{TextTooLong, NotUtf8, MissingPropertyIdentifier, UnexpectedEndOfPropertyIdentifier, UnexpectedEndOfPropertyValue, UnexpectedGameTreeEnd, UnexpectedEndOfData, NoGameTrees, TooDeep as too_deep, UnexpectedGameTreeStart, UnexpectedProperty, InvalidGameType}
use Rattle.why_blame.specs.declared.Fact.{Fact}
use Rattle.why_blame.specs.declared.Fact.TheVariants.{Length, BadSequence, NoBracket, Foreign, NotClosed, EndBeyond, StaysOpen, NoNode, NoEnd, TooDeep, EmptyList, SecondGm, Stray, GmValues, GmNumber}

-- why a reading is refused, by the fact (SCOPE 261)
abbrev pub fact_reason : Fact → Reason
fact_reason (Length n) = TextTooLong
fact_reason BadSequence = NotUtf8
fact_reason (NoBracket e) = MissingPropertyIdentifier
fact_reason (Foreign e) = UnexpectedEndOfPropertyIdentifier
fact_reason (NotClosed e) = UnexpectedEndOfPropertyValue
fact_reason EndBeyond = UnexpectedGameTreeEnd
fact_reason (StaysOpen d) = UnexpectedEndOfData
fact_reason (NoNode n) = UnexpectedEndOfData
fact_reason NoEnd = NoGameTrees
fact_reason TooDeep = too_deep
fact_reason (EmptyList p) = UnexpectedGameTreeStart
fact_reason (SecondGm n) = UnexpectedProperty
fact_reason Stray = UnexpectedProperty
fact_reason (GmValues n) = InvalidGameType
fact_reason GmNumber = InvalidGameType
