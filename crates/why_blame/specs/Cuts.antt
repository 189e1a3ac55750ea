-- Tokens and splitting, explained: the fact that refuses them, and the place of the token to blame.
use Rattle.std.specs.Prelude.{◌+◌, ◌∷◌, ◌++◌, Result, Ok, Err}
use Rattle.lists.specs.Prelude.{ℕ, zero, suc, Bool, true, false, List, [], reverse, length, drop, leb, ltb, pick}
use Rattle.lexer.specs.Token.{Tok, End, done, broken, Lexed, token_place}
use Rattle.lexer.specs.declared.Fault.{Fault}
use Rattle.lexer.specs.declared.Fault.TheVariants.{MissingPropertyIdentifier, UnexpectedEndOfPropertyIdentifier, UnexpectedEndOfPropertyValue}
use Rattle.tables.specs.Numbers.{depth_limit}
use Rattle.parser.specs.Split.{Splitting, splitting, over, wrong, splits, split}
use Rattle.why_blame.specs.Blame.{blame, split_wrong, is_deep, blame_place}
use Rattle.why_blame.specs.declared.Fact.{Fact}
use Rattle.why_blame.specs.declared.Fact.TheVariants.{NoBracket, Foreign, NotClosed, EndBeyond, StaysOpen, NoEnd, TooDeep}
use Rattle.tables.specs.Refusals.{refusal}
use Rattle.tables.specs.declared.Refusal.{Refusal}

-- ---- faults of the tokens (3 to 5)

-- of the bytes that stand from place i on: the first that is not ASCII
unfoldable pub foreign_from : ℕ → List ℕ → ℕ
foreign_from i [] = i
foreign_from i (b ∷ s) = pick (leb 0x80 b) i (foreign_from (i + 1) s)

-- the token from s in the text's front part u that trimming keeps: where its scan stops (SCOPE 263)
abbrev pub fault_fact : List ℕ → Fault → ℕ → Fact
fault_fact u MissingPropertyIdentifier s = NoBracket (length u)
fault_fact u UnexpectedEndOfPropertyIdentifier s = Foreign (foreign_from s (drop s u))
fault_fact u UnexpectedEndOfPropertyValue s = NotClosed (length u)

-- ---- splitting (6 to 9)

-- where splitting is refused
abbrev pub wrong_at : List Tok → ℕ
wrong_at ts = blame_place (blame (splits false) split_wrong (splitting 0 0 [] []) [] ts)

-- where it comes above the limit of depth
abbrev pub deep_at : Bool → List Tok → ℕ
deep_at len ts = blame_place (blame (splits len) is_deep (splitting 0 0 [] []) [] ts)

-- the tokens of all slices
abbrev pub sliced_tokens : List (List Tok) → List Tok
sliced_tokens [] = []
sliced_tokens (s ∷ ss) = s ++ sliced_tokens ss

-- the place of the first token, failing or not; none: n
abbrev pub first_place : (n : ℕ) → List Tok → End → ℕ
first_place n (t ∷ ts) e = token_place t
first_place n [] (broken f s) = s
first_place n [] done = n

-- the place of the first token, failing or not, in no slice; none: the text's length n (SCOPE 270)
abbrev pub loose : (n : ℕ) → List (List Tok) → Lexed → ℕ
loose n ss l = first_place n (drop (length (sliced_tokens ss)) l.toks) l.end

-- slices, unless a token of them is too deep (SCOPE 266)
abbrev pub cut_deep : Bool → (n : ℕ) → Lexed → (m : ℕ) → List (List Tok) → Result (ℕ × ℕ) (Refusal Fact)
cut_deep len n l m ss = pick (ltb depth_limit m) (Err (refusal TooDeep (deep_at len l.toks))) (Ok (length ss, loose n ss l))

-- without any slice strict reading finds no end
abbrev pub cut_slices : Bool → (n : ℕ) → Lexed → (m : ℕ) → List (List Tok) → Result (ℕ × ℕ) (Refusal Fact)
cut_slices true n l m [] = Ok (0, loose n [] l)
cut_slices false n l m [] = Err (refusal NoEnd 0)
cut_slices len n l m (s ∷ ss) = cut_deep len n l m (reverse (s ∷ ss))

-- after the last token, in the order of `parser/specs/Split.sliced`: the fact and its place; or how many slices, and the first token in none (SCOPE 264, 265)
abbrev pub cutting : Bool → (n : ℕ) → Lexed → Splitting → Result (ℕ × ℕ) (Refusal Fact)
cutting len n l (splitting zero m cur ss) = cut_slices len n l m ss
cutting true n l (splitting (suc d) m cur ss) = cut_deep true n l m (reverse (reverse cur ∷ ss))
cutting false n l (splitting (suc d) m cur ss) = Err (refusal (StaysOpen (suc d)) (first_place 0 (reverse cur) done))
cutting len n l (over m ss) = cut_slices len n l m ss
cutting len n l (wrong r) = Err (refusal EndBeyond (wrong_at l.toks))

-- of all tokens
abbrev pub cut_tokens : Bool → (n : ℕ) → Lexed → Result (ℕ × ℕ) (Refusal Fact)
cut_tokens len n l = cutting len n l (split len (splitting 0 0 [] []) l.toks)

-- of the tokens of u, whose end is e: strict splitting is refused by the first fault, before all else
abbrev pub tokens_cut : Bool → (n : ℕ) → List ℕ → Lexed → (e : End) → Result (ℕ × ℕ) (Refusal Fact)
tokens_cut true n u l e = cut_tokens true n l
tokens_cut false n u l done = cut_tokens false n l
tokens_cut false n u l (broken f s) = Err (refusal (fault_fact u f s) s)
