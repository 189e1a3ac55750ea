-- What the first pass over the tokens finds.
use Rattle.std.specs.Prelude.{◌+◌, ◌≤◌, ◌<◌, ◌≡◌, ◌∷◌}
use Rattle.lists.specs.Prelude.{ℕ, suc, Bool, true, false, List, [], length}
use Rattle.lists.specs.All.{All}
use Rattle.lexer.specs.Token.{Tok, end, End, done, broken, Lexed, lexed, lex_at}
use Rattle.tables.specs.Numbers.{reason_of}
use Rattle.parser.specs.Split.{splitting, split, Slices, no, slices, split_by_gametree}
use Rattle.parser.specs.declared.Survey.{Survey}
use Rattle.parser.specs.declared.Survey.TheVariants.{Refused, Slices as found, Empty}
use Rattle.parser.specs.declared.Stop.{Stop}
use Rattle.parser.specs.declared.Stop.TheVariants.{End as stop_end, Fault, Done}

-- how many slices; or the one without a token, which stands for none
abbrev pub found_as : List (List Tok) → Survey
found_as [] = found 0
found_as ([] ∷ []) = Empty
found_as ((t ∷ ts) ∷ []) = found 1
found_as (s ∷ u ∷ ss) = found (suc (suc (length ss)))

-- what splitting says
abbrev pub survey_of_slices : Slices → Survey
survey_of_slices (no r) = Refused r 0
survey_of_slices (slices ss) = found_as ss

-- strict: a fault comes first
abbrev pub survey_strict : End → Slices → Survey
survey_strict done x = survey_of_slices x
survey_strict (broken f s) x = Refused (reason_of f) s

-- strict or lenient
abbrev pub survey_of : Bool → Lexed → Survey
survey_of false l = survey_strict l.end (split_by_gametree false l.toks)
survey_of true l = survey_of_slices (split_by_gametree true l.toks)

-- ---- splitting as far as an end at depth 0

-- what is left of the tokens where splitting stops
abbrev pub left_at : List ℕ → Stop → Lexed
left_at s (stop_end i) = lexed (end i ∷ []) (lex_at s (i + 1))
left_at s (Fault f i) = record { toks = []; end = broken f i }
left_at s Done = record { toks = []; end = done }

-- an end in the text stops splitting, at depth 0 only
abbrev pub StopsAt : List ℕ → ℕ → Stop → Type 0
StopsAt s d (stop_end i) = (d ≡ 0) × (i < length s)
StopsAt s d (Fault f i) = Unit {0}
StopsAt s d Done = Unit {0}

-- from the tokens l splitting comes to the depth d and the greatest depth m with n slices, each of which has a token, and r is left; an open slice has begun
pub record SplitsTo (l r : Lexed) (d m n : ℕ) : Type 0 where
  pub cur : List Tok
  pub ss : List (List Tok)
  pub count : length ss ≡ n
  pub full : All (λ (x : List Tok). 0 < length x) ss
  pub begun : d ≤ length cur
  pub same : (len : Bool) → split len (splitting 0 0 [] []) l.toks ≡ split len (splitting d m cur ss) r.toks
  pub ends : l.end ≡ r.end

-- the same, where splitting stops; the slices, and the depth, are no more than the bytes
pub record SplitIs (s : List ℕ) (l : Lexed) (d m n : ℕ) (stop : Stop) : Type 0 where
  pub splits : SplitsTo l (left_at s stop) d m n
  pub stops : StopsAt s d stop
  pub room : n + d ≤ length s
