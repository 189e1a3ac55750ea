-- Each condition gives its number. Assumes nothing.
use Rattle.lists.proofs.Prelude.{ℕ, ◌≡◌, ap, ◌∙◌, false, List}
use Rattle.lexer.specs.Token.{Tok, End}
use Rattle.lexer.specs.declared.Fault.{Fault}
use Rattle.tables.specs.Numbers.{reason_of}
use Rattle.tables.specs.Record.{Tree}
use Rattle.tables.specs.declared.Reason.{Reason}
use Rattle.parser.specs.Split.{Slices, split_by_gametree}
use Rattle.parser.specs.Read.{refused, trees_so_far, no_trees, parse_gametree, answer, parse_slices, lexing, read_strict}
use Rattle.parser.specs.Balance.{Covered}
use Rattle.reader_exactly.specs.Slicing.{slices_from}
use Rattle.reader_exactly.specs.When.{Valid, tokens_of, FailsAt, Lexes, Splits, First}
use Rattle.reader_exactly.proofs.Firm.{slices-covered}
use Rattle.reader_exactly.proofs.Growths.{first-fails}
use Rattle.reader_exactly.proofs.Stages.{valid-read, fails-broken, not-deep}

module _ (t : List ℕ) where
  pub fault-read : (f : Fault) (p : ℕ) → Valid t → FailsAt t f p → read_strict t ≡ refused (reason_of f) p
  fault-read f p v x = valid-read false t v ∙ ap (λ (e : End). lexing false e (tokens_of t).toks) (fails-broken t f p x)

  pub split-read : Lexes t → {x : Slices} → split_by_gametree false (tokens_of t).toks ≡ x → read_strict t ≡ parse_slices false x
  split-read l e =
      valid-read false t l.valid
      ∙ ap (λ (z : End). lexing false z (tokens_of t).toks) l.faultless
      ∙ ap (parse_slices false) e

  pub tree-read : (P : ℕ → List Tok → Type 0) (r : Reason)
      → ((base : ℕ) (s : List Tok) → Covered 0 s → P base s → (ts : List Tree) → parse_gametree false (trees_so_far base ts) s ≡ no_trees r)
      → Splits t → First P (slices_from 0 (tokens_of t).toks) → read_strict t ≡ refused r 0
  tree-read P r f s x =
      split-read s.lexes (not-deep (tokens_of t).toks s.balanced s.shallow)
      ∙ ap answer (first-fails (slices_from 0 (tokens_of t).toks) P r f (slices-covered (tokens_of t).toks) x)
