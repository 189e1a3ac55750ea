-- What the pass that splits the tokens has seen, in the code's own terms. Nothing public is stated by these.
use Rattle.std.specs.Prelude.{◌+◌, ◌≤◌, ◌≡◌, ◌∷◌, ◌++◌}
use Rattle.lists.specs.Prelude.{ℕ, Bool, true, false, List, [], reverse, length, ltb}
use Rattle.lexer.specs.Token.{Tok, end, End, done, broken, lexed, lex_at}
use Rattle.tables.specs.Numbers.{depth_limit}
use Rattle.parser.specs.Split.{Splitting, splitting, splits, split}
use Rattle.why_blame.specs.Blame.{blame, split_wrong, is_deep}
use Rattle.why_blame.specs.Cuts.{deep_at, sliced_tokens}
use Rattle.why_blame.specs.declared.split.Ending.{Ending}
use Rattle.why_blame.specs.declared.split.Ending.TheVariants.{Whole, Broken}

-- how the tokens end
abbrev pub ending_of : End → Ending
ending_of done = Whole
ending_of (broken f s) = Broken f s

-- before the first token
abbrev pub unsplit : Splitting
unsplit = splitting 0 0 [] []

-- of the tokens from `from` on those before `at` are split: depth d, greatest depth m, n slices, the last of which ends at `behind`; `deep` is where the depth came above the limit
pub record Seen (u : List ℕ) (from at d m n behind deep : ℕ) : Type 0 where
  pub cur : List Tok
  pub ss : List (List Tok)
  pub pre : List Tok
  pub count : length ss ≡ n
  pub begun : d ≤ length cur
  pub room : n + d ≤ length u
  pub bound : n + d ≤ at
  pub same : (len : Bool) → split len unsplit (lex_at u from).toks ≡ split len (splitting d m cur ss) (lex_at u at).toks
  pub ends : (lex_at u from).end ≡ (lex_at u at).end
  pub opens : lex_at u behind ≡ lexed (reverse cur) (lex_at u at)
  pub parts : (lex_at u from).toks ≡ sliced_tokens (reverse ss) ++ (lex_at u behind).toks
  pub wrongs : blame (splits false) split_wrong unsplit [] (lex_at u from).toks ≡ blame (splits false) split_wrong (splitting d m cur ss) pre (lex_at u at).toks
  pub deeps : (len : Bool) → ltb depth_limit m ≡ false
      → blame (splits len) is_deep unsplit [] (lex_at u from).toks ≡ blame (splits len) is_deep (splitting d m cur ss) pre (lex_at u at).toks
  pub deep_is : (len : Bool) → ltb depth_limit m ≡ true → deep_at len (lex_at u from).toks ≡ deep

-- where the pass stops: at an end at depth 0, or where no token is left
abbrev pub StopsBy : Bool → (u : List ℕ) (at d : ℕ) → Type 0
StopsBy true u at d = (d ≡ 0) × ((i : ℕ) × (lex_at u at ≡ lexed (end i ∷ []) (lex_at u (i + 1))))
StopsBy false u at d = (lex_at u at).toks ≡ []
