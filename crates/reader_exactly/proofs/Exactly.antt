-- Each number that a reading gives, exactly when: the scope's conditions stand in specs/When and specs/Slicing. Assumes nothing.
use Rattle.lists.proofs.Prelude.{ℕ, ◌≤◌, ◌<◌, ◌≡◌, sym, ap, ◌∙◌, ◌⊎◌, ⊎_elim, List, length, true, false}
use Rattle.text_chars.specs.Table.{BadFrom}
use Rattle.lexer.specs.Token.{Tok}
use Rattle.lexer.specs.declared.Fault.TheVariants.{MissingPropertyIdentifier as no-identifier, UnexpectedEndOfPropertyIdentifier as foreign, UnexpectedEndOfPropertyValue as unclosed}
use Rattle.tables.specs.Numbers.{text_limit}
use Rattle.tables.specs.declared.Reason.{Reason}
use Rattle.tables.specs.declared.Reason.TheVariants.{TextTooLong, NotUtf8, MissingPropertyIdentifier, UnexpectedEndOfPropertyIdentifier, UnexpectedEndOfPropertyValue, UnexpectedGameTreeEnd, UnexpectedEndOfData, NoGameTrees, TooDeep, UnexpectedGameTreeStart, UnexpectedProperty, InvalidGameType}
use Rattle.parser.specs.Read.{Answer, refused, read_strict, read_lenient}
use Rattle.parser.specs.Balance.{Balanced}
use Rattle.parser.proofs.Texts.{text-long}
use Rattle.reader_exactly.specs.Slicing.{Iff, Any, slices_from, Uncovered, Deep}
use Rattle.reader_exactly.specs.When.{Valid, tokens_of, FailsAt, Lexes, Unclosed, Bare, Splits, First, StartsEmpty, Unexpected, WrongGame, Nodeless}
use Rattle.reader_exactly.proofs.Cover.{uncovered-six, unclosed-seven, bare-eight}
use Rattle.reader_exactly.proofs.Growths.{starts-fails, unexpected-fails, wrong-fails, nodeless-fails}
use Rattle.reader_exactly.proofs.Stages.{bad-read, too-deep}
use Rattle.reader_exactly.proofs.Gives.{fault-read, split-read, tree-read}
use Rattle.reader_exactly.proofs.Why.{only}
use Rattle.reader_exactly.proofs.Lenient.{deep-read, only-mild}

-- the place is 0
at-0 : {a : Answer} {p : ℕ} (r : Reason) → a ≡ refused r 0 → p ≡ 0 → a ≡ refused r p
at-0 r e z = e ∙ ap (refused r) (sym z)

module _ (t : List ℕ) (p : ℕ) where
  abbrev pub toks : List Tok
  toks = (tokens_of t).toks

  -- ---- strict

  -- the text is over the limit
  pub strict-1 : Iff (read_strict t ≡ refused TextTooLong p) ((text_limit < length t) × (p ≡ 0))
  strict-1 = ((λ e. only t e), λ h. at-0 TextTooLong (text-long false t h.0) h.1)

  -- within the limit, and the first bad sequence of table 3-7 starts at p
  pub strict-2 : Iff (read_strict t ≡ refused NotUtf8 p) ((length t ≤ text_limit) × BadFrom t p)
  strict-2 = ((λ e. only t e), λ h. bad-read false t p h.0 h.1)

  -- the first failing token of what trimming keeps is a property that starts at p, whose identifier the text's end cuts off
  pub strict-3 : Iff (read_strict t ≡ refused MissingPropertyIdentifier p) (Valid t × FailsAt t no-identifier p)
  strict-3 = ((λ e. only t e), λ h. fault-read t no-identifier p h.0 h.1)

  -- the same, whose identifier meets a character that is not ASCII
  pub strict-4 : Iff (read_strict t ≡ refused UnexpectedEndOfPropertyIdentifier p) (Valid t × FailsAt t foreign p)
  strict-4 = ((λ e. only t e), λ h. fault-read t foreign p h.0 h.1)

  -- the same, one of whose values has no closing bracket
  pub strict-5 : Iff (read_strict t ≡ refused UnexpectedEndOfPropertyValue p) (Valid t × FailsAt t unclosed p)
  strict-5 = ((λ e. only t e), λ h. fault-read t unclosed p h.0 h.1)

  -- some prefix of the tokens has more ends than starts
  pub strict-6 : Iff (read_strict t ≡ refused UnexpectedGameTreeEnd p) (Lexes t × Uncovered 0 toks × (p ≡ 0))
  strict-6 = ((λ e. only t e), λ h. at-0 UnexpectedGameTreeEnd (split-read t h.0 (uncovered-six toks h.1)) h.2)

  -- no prefix has more ends than starts, but their numbers differ; or the first slice that is refused has no node
  pub strict-7 : Iff (read_strict t ≡ refused UnexpectedEndOfData p)
      (((Lexes t × Unclosed toks) ⊎ (Splits t × First Nodeless (slices_from 0 toks))) × (p ≡ 0))
  strict-7 = (
    (λ e. only t e),
    λ h. at-0 UnexpectedEndOfData
        (⊎_elim (λ x. split-read t x.0 (unclosed-seven toks x.1))
        (λ x. tree-read t Nodeless UnexpectedEndOfData (nodeless-fails) x.0 x.1) h.0) h.1,
  )

  -- neither a start nor an end
  pub strict-8 : Iff (read_strict t ≡ refused NoGameTrees p) (Lexes t × Bare toks × (p ≡ 0))
  strict-8 = ((λ e. only t e), λ h. at-0 NoGameTrees (split-read t h.0 (bare-eight toks h.1)) h.2)

  -- starts and ends match, and a token of a slice brings the depth above the limit
  pub strict-9 : Iff (read_strict t ≡ refused TooDeep p) (Lexes t × Balanced toks × Any (Deep 0) (slices_from 0 toks) × (p ≡ 0))
  strict-9 = ((λ e. only t e), λ h. at-0 TooDeep (split-read t h.0 (too-deep toks h.1 h.2)) h.3)

  -- the first slice that is refused comes to a start where the list on top of the stack is empty
  pub strict-10 : Iff (read_strict t ≡ refused UnexpectedGameTreeStart p)
      ((Splits t × First StartsEmpty (slices_from 0 toks)) × (p ≡ 0))
  strict-10 = (
    (λ e. only t e),
    λ h. at-0 UnexpectedGameTreeStart
        (tree-read t StartsEmpty UnexpectedGameTreeStart (λ b s v. starts-fails b s) h.0.0 h.0.1) h.1,
  )

  -- it has two or more GM, or a property that is not directly after a node or its properties
  pub strict-11 : Iff (read_strict t ≡ refused UnexpectedProperty p)
      ((Splits t × First Unexpected (slices_from 0 toks)) × (p ≡ 0))
  strict-11 = (
    (λ e. only t e),
    λ h. at-0 UnexpectedProperty
        (tree-read t Unexpected UnexpectedProperty (λ b s v. unexpected-fails b s) h.0.0 h.0.1) h.1,
  )

  -- it has one GM, whose values are not one number within i32
  pub strict-12 : Iff (read_strict t ≡ refused InvalidGameType p)
      ((Splits t × First (λ _ s. WrongGame s) (slices_from 0 toks)) × (p ≡ 0))
  strict-12 = (
    (λ e. only t e),
    λ h. at-0 InvalidGameType
        (tree-read t (λ _ s. WrongGame s) InvalidGameType (λ b s v. wrong-fails b s) h.0.0 h.0.1) h.1,
  )

  -- ---- lenient: these three and no other

  pub lenient-1 : Iff (read_lenient t ≡ refused TextTooLong p) ((text_limit < length t) × (p ≡ 0))
  lenient-1 = ((λ e. only-mild t e), λ h. at-0 TextTooLong (text-long true t h.0) h.1)

  pub lenient-2 : Iff (read_lenient t ≡ refused NotUtf8 p) ((length t ≤ text_limit) × BadFrom t p)
  lenient-2 = ((λ e. only-mild t e), λ h. bad-read true t p h.0 h.1)

  -- a token of a slice, of the tokens before the first fault, brings the depth above the limit
  pub lenient-9 : Iff (read_lenient t ≡ refused TooDeep p) (Valid t × Any (Deep 0) (slices_from 0 toks) × (p ≡ 0))
  lenient-9 = ((λ e. only-mild t e), λ h. at-0 TooDeep (deep-read t h.0 h.1) h.2)
