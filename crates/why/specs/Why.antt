-- The explanation of a reading: the first fact in the scope's order that refuses a text, and the place of the token to blame.
use Rattle.lists.specs.Prelude.{ℕ, Bool, true, false, List, [], length, take, ltb, pick}
use Rattle.text_utf8.specs.Trim.{trimmed}
use Rattle.text_utf8.specs.declared.Trimmed.{Trimmed}
use Rattle.text_utf8.specs.declared.Trimmed.TheVariants.{NotUtf8, Blank, Kept}
use Rattle.lexer.specs.Token.{Tok, End, done, broken, Lexed, lex_at}
use Rattle.tables.specs.Numbers.{text_limit}
use Rattle.parser.specs.Split.{Slices as Sliced, no, slices, split_by_gametree}
use Rattle.parser.specs.Read.{read}
use Rattle.reader.specs.Lent.{rows_counted}
use Rattle.why_blame.specs.Cuts.{fault_fact, cut_tokens}
use Rattle.why_blame.specs.declared.Fact.TheVariants.{Length, BadSequence, NoEnd}
use Rattle.why.specs.Trees.{slices_blame}
use Rattle.std.specs.Prelude.{Option, Some, None, Result, Ok, Err}
use Rattle.tables.specs.Refusals.{refusal}
use Rattle.tables.specs.declared.Counts.{Counts}
use Rattle.why_blame.specs.declared.Fact.{Fact}
use Rattle.tables.specs.declared.Reason.{Reason}
use Rattle.tables.specs.declared.Refusal.{Refusal}

-- ---- the whole, in the order of the numbers

-- the slices, or none
abbrev pub accepted_slices : Sliced → List (List Tok)
accepted_slices (no r) = []
accepted_slices (slices ss) = ss

-- lenient reading blames no tree
abbrev pub cut_blame : Bool → List Tok → Result (ℕ × ℕ) (Refusal Fact) → Option (Refusal Fact)
cut_blame len ts (Err e) = Some (refusal e.reason e.place)
cut_blame true ts (Ok (k, q)) = None
cut_blame false ts (Ok (k, q)) = slices_blame 0 0 (accepted_slices (split_by_gametree false ts))

-- tokens of u, in a text of n bytes: strict reading blames the first fault before anything else
abbrev pub tokens_blame : Bool → (n : ℕ) → List ℕ → Lexed → End → Option (Refusal Fact)
tokens_blame true n u l e = cut_blame true l.toks (cut_tokens true n l)
tokens_blame false n u l done = cut_blame false l.toks (cut_tokens false n l)
tokens_blame false n u l (broken f s) = Some (refusal (fault_fact u f s) s)

-- the tokens from f on of the text's first l bytes
abbrev pub kept_blame : Bool → List ℕ → (f l : ℕ) → Option (Refusal Fact)
kept_blame len t f l = tokens_blame len (length t) (take l t) (lex_at (take l t) f) (lex_at (take l t) f).end

-- what trimming keeps (SCOPE 262)
abbrev pub trim_blame : Bool → List ℕ → Trimmed → Option (Refusal Fact)
trim_blame len t (NotUtf8 p) = Some (refusal BadSequence p)
trim_blame len t Blank = kept_blame len t 0 0
trim_blame len t (Kept f l) = kept_blame len t f l

-- a text: nothing, or the fact and the place (SCOPE 261)
abbrev pub text_blame : Bool → List ℕ → Option (Refusal Fact)
text_blame len t = pick (ltb text_limit (length t)) (Some (refusal (Length (length t)) 0)) (trim_blame len t (trimmed t))

-- the first token in no slice
abbrev pub cut_loose : (n : ℕ) → Result (ℕ × ℕ) (Refusal Fact) → ℕ
cut_loose n (Err e) = n
cut_loose n (Ok (k, q)) = q

-- of what trimming keeps
abbrev pub trim_loose : Bool → List ℕ → Trimmed → ℕ
trim_loose len t (NotUtf8 p) = length t
trim_loose len t Blank = length t
trim_loose len t (Kept f l) = cut_loose (length t) (cut_tokens len (length t) (lex_at (take l t) f))

-- refused; that nothing is to blame does not arise, by `why_grounds`
abbrev pub refused_by : Option (Refusal Fact) → Result (Counts × ℕ) (Refusal Fact)
refused_by None = Err (refusal NoEnd 0)
refused_by (Some e) = Err (refusal e.reason e.place)

-- by the reading's answer without tables
abbrev pub explained_by : Result Counts (Refusal Reason) → Option (Refusal Fact) → (q : ℕ) → Result (Counts × ℕ) (Refusal Fact)
explained_by (Ok c) b q = Ok (c, q)
explained_by (Err e) b q = refused_by b

-- the explanation of a reading: the counts and the first token in no slice; or the fact and its place (SCOPE 261, 270)
abbrev pub explained : Bool → List ℕ → Result (Counts × ℕ) (Refusal Fact)
explained len t = explained_by (rows_counted (read len t)) (text_blame len t) (trim_loose len t (trimmed t))
