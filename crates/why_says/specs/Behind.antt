-- Where reading of an accepted text ended, in the scope's words.
use Rattle.std.specs.Prelude.{◌≡◌, ◌∷◌, ◌++◌}
use Rattle.lists.specs.Prelude.{ℕ, List, [], length}
use Rattle.lexer.specs.Token.{Tok, End, done, broken}
use Rattle.reader_exactly.specs.Slicing.{slices_from}
use Rattle.reader_exactly.specs.When.{tokens_of}
use Rattle.why_says.specs.Says.{TokenAt}

-- the tokens are those of the slices, one slice after the other, and then `rest`
abbrev pub SlicesThen : List (List Tok) → (rest ts : List Tok) → Type 0
SlicesThen [] rest ts = ts ≡ rest
SlicesThen (s ∷ ss) rest ts = (more : List Tok) × (ts ≡ s ++ more) × SlicesThen ss rest more

-- behind all slices of a text of n bytes a token stands at q; none but a failing one, and it starts at q; neither: q is n
abbrev pub RestAt : (n : ℕ) → (rest : List Tok) → End → (q : ℕ) → Type 0
RestAt n (t ∷ ts) e q = TokenAt t q
RestAt n [] (broken f s) q = q ≡ s
RestAt n [] done q = q ≡ n

-- behind the tokens of the slices: the first token stands at q, failing or not; where there is none, q is the text's length (SCOPE 270)
pub record LooseAt (t : List ℕ) (q : ℕ) : Type 0 where
  pub rest : List Tok
  pub are : SlicesThen (slices_from 0 (tokens_of t).toks) rest (tokens_of t).toks
  pub place : RestAt (length t) rest (tokens_of t).end q
