-- An explanation shown as numbers, as the C header says it.
use Rattle.lists.specs.Prelude.{ℕ}
use Rattle.tables.specs.Numbers.{number_of}
use Rattle.why_blame.specs.Numbered.{fact_reason}
use Rattle.why_blame.specs.declared.Fact.{Fact}
use Rattle.why_blame.specs.declared.Fact.TheVariants.{Length, BadSequence, NoBracket, Foreign, NotClosed, EndBeyond, StaysOpen, NoNode, NoEnd, TooDeep, EmptyList, SecondGm, Stray, GmValues, GmNumber}
use Rattle.c_why.specs.declared.Shown.{Shown}
use Rattle.c_why.specs.declared.SgfWhy.{SgfWhy}
use Rattle.std.specs.Prelude.{Result, Ok, Err}
use Rattle.tables.specs.declared.Counts.{Counts}
use Rattle.tables.specs.declared.Refusal.{Refusal}

-- the fact's own number, from 1 on in the order of the refusals' numbers, and the number in it, else 0 (SCOPE 271)
abbrev pub shown_as : (number fact detail : ℕ) → Shown
shown_as n f d = record { number = n; fact = f; detail = d }

-- a fact
abbrev pub shown_fact : Fact → Shown
shown_fact (Length n) = shown_as (number_of (fact_reason (Length n))) 1 n
shown_fact BadSequence = shown_as (number_of (fact_reason BadSequence)) 2 0
shown_fact (NoBracket e) = shown_as (number_of (fact_reason (NoBracket e))) 3 e
shown_fact (Foreign e) = shown_as (number_of (fact_reason (Foreign e))) 4 e
shown_fact (NotClosed e) = shown_as (number_of (fact_reason (NotClosed e))) 5 e
shown_fact EndBeyond = shown_as (number_of (fact_reason EndBeyond)) 6 0
shown_fact (StaysOpen d) = shown_as (number_of (fact_reason (StaysOpen d))) 7 d
shown_fact (NoNode n) = shown_as (number_of (fact_reason (NoNode n))) 8 n
shown_fact NoEnd = shown_as (number_of (fact_reason NoEnd)) 9 0
shown_fact TooDeep = shown_as (number_of (fact_reason TooDeep)) 10 0
shown_fact (EmptyList p) = shown_as (number_of (fact_reason (EmptyList p))) 11 p
shown_fact (SecondGm n) = shown_as (number_of (fact_reason (SecondGm n))) 12 n
shown_fact Stray = shown_as (number_of (fact_reason Stray)) 13 0
shown_fact (GmValues n) = shown_as (number_of (fact_reason (GmValues n))) 14 n
shown_fact GmNumber = shown_as (number_of (fact_reason GmNumber)) 15 0

-- accepted: the place of the first token in no slice and the counts; refused: the fact's numbers, its place, and no counts
abbrev pub why_in_c : Result (Counts × ℕ) (Refusal Fact) → SgfWhy
why_in_c (Ok (c, q)) = record { number = 0; fact = 0; place = q; detail = 0; counts = c }
why_in_c (Err e) =
    let s = shown_fact e.reason in
    record { number = s.number; fact = s.fact; place = e.place; detail = s.detail; counts = record { trees = 0; nodes = 0; properties = 0; values = 0 } }
