-- What is read of a text before any tree is: which slices, or that it is refused.
use Rattle.lists.specs.Prelude.{ℕ, Bool, List, ltb, length, take, pick}
use Rattle.text_utf8.specs.Trim.{trimmed}
use Rattle.text_utf8.specs.declared.Trimmed.{Trimmed}
use Rattle.text_utf8.specs.declared.Trimmed.TheVariants.{NotUtf8, Blank, Kept}
use Rattle.lexer.specs.Token.{lex_at}
use Rattle.tables.specs.Numbers.{text_limit}
use Rattle.tables.specs.declared.Reason.TheVariants.{TextTooLong, NotUtf8 as not_utf8}
use Rattle.parser.specs.LocalsSurvey.{survey_of}
use Rattle.parser.specs.declared.Survey.{Survey}
use Rattle.parser.specs.declared.Survey.TheVariants.{Refused as refused_by, Slices as found, Empty}
use Rattle.std.specs.Prelude.{Result, Ok, Err}
use Rattle.tables.specs.Refusals.{refusal}
use Rattle.tables.specs.declared.Reason.{Reason}
use Rattle.tables.specs.declared.Refusal.{Refusal}

-- the slices that the first pass found from a place to an end; where there is none, the one of the empty text
abbrev pub plan_found : (from last : ℕ) → Survey → Result (ℕ × ℕ × ℕ) (Refusal Reason)
plan_found from last (refused_by r p) = Err (refusal r p)
plan_found from last (found n) = Ok (from, last, n)
plan_found from last Empty = Ok (0, 0, 1)

-- the slices of the tokens of u from a place on, strict or lenient
abbrev pub plan_tokens : Bool → (u : List ℕ) (from : ℕ) → Result (ℕ × ℕ × ℕ) (Refusal Reason)
plan_tokens len u from = plan_found from (length u) (survey_of len (lex_at u from))

-- the slices of what trimming keeps
abbrev pub plan_kept : Bool → (t : List ℕ) → Trimmed → Result (ℕ × ℕ × ℕ) (Refusal Reason)
plan_kept len t (NotUtf8 p) = Err (refusal not_utf8 p)
plan_kept len t Blank = plan_tokens len (take 0 t) 0
plan_kept len t (Kept f l) = plan_tokens len (take l t) f

-- the slices of a text: the limit, UTF-8, trimming, the tokens
abbrev pub plan_text : Bool → (t : List ℕ) → Result (ℕ × ℕ × ℕ) (Refusal Reason)
plan_text len t = pick (ltb text_limit (length t)) (Err (refusal TextTooLong 0)) (plan_kept len t (trimmed t))
