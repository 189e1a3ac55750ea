-- A strict reading: each refusal has its condition. Assumes nothing.
use Rattle.lists.proofs.Prelude.{ℕ, ◌≤◌, ◌<◌, ◌≡◌, refl, sym, subst, false, ◌⊎◌, inl, inr, List, [], length}
use Rattle.text_chars.specs.Table.{BadFrom}
use Rattle.lexer.specs.Token.{Tok, End, done, broken}
use Rattle.lexer.specs.declared.Fault.{Fault}
use Rattle.lexer.specs.declared.Fault.TheVariants.{MissingPropertyIdentifier as no-identifier, UnexpectedEndOfPropertyIdentifier as foreign, UnexpectedEndOfPropertyValue as unclosed}
use Rattle.tables.specs.Numbers.{text_limit, reason_of}
use Rattle.tables.specs.declared.Reason.{Reason}
use Rattle.tables.specs.declared.Reason.TheVariants.{TextTooLong, NotUtf8 as not_utf8, MissingPropertyIdentifier, UnexpectedEndOfPropertyIdentifier, UnexpectedEndOfPropertyValue, UnexpectedGameTreeEnd, UnexpectedEndOfData, NoGameTrees, TooDeep, UnexpectedGameTreeStart, UnexpectedProperty, InvalidGameType, NoRoom, EmptyIdentifier, NoSuchNumber, GameTypeFixed, NotClosed, NotFitting}
use Rattle.parser.specs.Split.{Slices, split_by_gametree}
use Rattle.parser.specs.Read.{Answer, refused, accepted, Trees, trees_so_far, no_trees, parse_gametrees, answer, parse_slices, parsed, lexing, read_strict}
use Rattle.parser.specs.Balance.{Balanced}
use Rattle.parser.proofs.Texts.{text-long}
use Rattle.reader_exactly.specs.Slicing.{Any, slices_from, Uncovered, Deep}
use Rattle.reader_exactly.specs.When.{Valid, tokens_of, FailsAt, Lexes, Unclosed, Bare, Splits, First, StartsEmpty, Unexpected, WrongGame, Nodeless}
use Rattle.reader_exactly.proofs.Cover.{uncovered-six, unclosed-seven, bare-eight}
use Rattle.reader_exactly.proofs.Firm.{slices-covered}
use Rattle.reader_exactly.proofs.Growths.{AllWhy, all-why}
use Rattle.reader_exactly.proofs.Stages.{valid-read, bad-read, text-cases, broken-fails, too-deep, not-deep, split-cases}

-- ---- the condition of each number

module _ (t : List ℕ) where
  abbrev pub toks : List Tok
  toks = (tokens_of t).toks

  abbrev pub Tree : (ℕ → List Tok → Type 0) → Type 0
  Tree P = Splits t × First P (slices_from 0 toks)

  abbrev pub Why : Reason → ℕ → Type 0
  Why TextTooLong p = (text_limit < length t) × (p ≡ 0)
  Why not_utf8 p = (length t ≤ text_limit) × BadFrom t p
  Why MissingPropertyIdentifier p = Valid t × FailsAt t no-identifier p
  Why UnexpectedEndOfPropertyIdentifier p = Valid t × FailsAt t foreign p
  Why UnexpectedEndOfPropertyValue p = Valid t × FailsAt t unclosed p
  Why UnexpectedGameTreeEnd p = Lexes t × Uncovered 0 toks × (p ≡ 0)
  Why UnexpectedEndOfData p = ((Lexes t × Unclosed toks) ⊎ Tree Nodeless) × (p ≡ 0)
  Why NoGameTrees p = Lexes t × Bare toks × (p ≡ 0)
  Why TooDeep p = Lexes t × Balanced toks × Any (Deep 0) (slices_from 0 toks) × (p ≡ 0)
  Why UnexpectedGameTreeStart p = Tree StartsEmpty × (p ≡ 0)
  Why UnexpectedProperty p = Tree Unexpected × (p ≡ 0)
  Why InvalidGameType p = Tree (λ _ s. WrongGame s) × (p ≡ 0)
  Why NoRoom p = ⊥
  Why EmptyIdentifier p = ⊥
  Why NoSuchNumber p = ⊥
  Why GameTypeFixed p = ⊥
  Why NotClosed p = ⊥
  Why NotFitting p = ⊥

  abbrev pub AnswerWhy : Answer → Type 0
  AnswerWhy (refused r p) = Why r p
  AnswerWhy (accepted ts) = Unit {0}

  -- the trees
  tree-why : Splits t → (x : Trees) → AllWhy (slices_from 0 toks) x → AnswerWhy (answer x)
  tree-why s (trees_so_far n ts) w = tt
  tree-why s (no_trees r) w = go r w
    where
      go : (r : Reason) → AllWhy (slices_from 0 toks) (no_trees r) → Why r 0
      go TextTooLong w = absurd w.holds
      go not_utf8 w = absurd w.holds
      go MissingPropertyIdentifier w = absurd w.holds
      go UnexpectedEndOfPropertyIdentifier w = absurd w.holds
      go UnexpectedEndOfPropertyValue w = absurd w.holds
      go UnexpectedGameTreeEnd w = absurd w.holds
      go UnexpectedEndOfData w = (inr (s, w), refl)
      go NoGameTrees w = absurd w.holds
      go TooDeep w = absurd w.holds
      go UnexpectedGameTreeStart w = ((s, w), refl)
      go UnexpectedProperty w = ((s, w), refl)
      go InvalidGameType w = ((s, w), refl)
      go NoRoom w = absurd w.holds
      go EmptyIdentifier w = absurd w.holds
      go NoSuchNumber w = absurd w.holds
      go GameTypeFixed w = absurd w.holds
      go NotClosed w = absurd w.holds
      go NotFitting w = absurd w.holds

  parsed-why : Lexes t → AnswerWhy (parsed false toks)
  parsed-why l =
      split-cases toks
      (λ u. said (uncovered-six toks u) (l, u, refl))
      (λ u. said (unclosed-seven toks u) (inl (l, u), refl))
      (λ u. said (bare-eight toks u) (l, u, refl))
      (λ b d. said (too-deep toks b d) (l, b, d, refl))
      (λ b n. said (not-deep toks b n)
      (tree-why (record { lexes = l; balanced = b; shallow = n }) (parse_gametrees false (trees_so_far 0 []) (slices_from 0 toks)) (all-why (slices_from 0 toks) (slices-covered toks))))
    where
      said : {x : Slices} → split_by_gametree false toks ≡ x → AnswerWhy (parse_slices false x) → AnswerWhy (parsed false toks)
      said {x} e h = subst (λ (z : Slices). AnswerWhy (parse_slices false z)) (sym e) h

  fault-why : Valid t → (f : Fault) (p : ℕ) → FailsAt t f p → Why (reason_of f) p
  fault-why v no-identifier p x = (v, x)
  fault-why v foreign p x = (v, x)
  fault-why v unclosed p x = (v, x)

  lexing-why : Valid t → (e : End) → (tokens_of t).end ≡ e → AnswerWhy (lexing false e toks)
  lexing-why v done q = parsed-why (record { valid = v; faultless = q })
  lexing-why v (broken f p) q = fault-why v f p (broken-fails t f p q)

  pub read-why : AnswerWhy (read_strict t)
  read-why =
      text-cases false t
      (λ h. subst AnswerWhy (sym (text-long false t h)) (h, refl))
      (λ p h b. subst AnswerWhy (sym (bad-read false t p h b)) (h, b))
      (λ v. subst AnswerWhy (sym (valid-read false t v)) (lexing-why v (tokens_of t).end refl))

  -- what a refusal says
  pub only : {r : Reason} {p : ℕ} → read_strict t ≡ refused r p → Why r p
  only e = subst AnswerWhy e read-why
