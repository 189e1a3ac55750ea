-- Useless lenient readers, held against the contract of sgf_read_lenient on `(;;`, which strict reading refuses. Assumes nothing.
use Rattle.lists.proofs.Prelude.{ℕ, ◌<◌, [], ◌∷◌, ◌≡◌, refl, ap, ◌∙◌, arith}
use Rattle.text_chars.specs.White.{white}
use Rattle.lexer_scan.specs.Scan.{space}
use Rattle.tables.specs.declared.Counts.{Counts}
use Rattle.parser.specs.Examples.{bytes}
use Rattle.parser.specs.Read.{read_lenient}
use Rattle.reader.specs.Lent.{Lent, lent, answers}
use Rattle.c_answers.specs.Structs.{reading_in_c}
use Rattle.c_answers.specs.declared.SgfReading.{SgfReading}
use Rattle.sgf.specs.ReadInC.{ReadInC}
use Rattle.std.specs.Prelude.{Ok}

-- so many rows
abbrev pub rows : (trees nodes properties values : ℕ) → Counts
rows t n p v = record { trees = t; nodes = n; properties = p; values = v }

-- tables with room for one tree of two nodes
abbrev pub room : Lent
room = lent (0 ∷ 0 ∷ []) (0 ∷ 0 ∷ 0 ∷ 0 ∷ 0 ∷ 0 ∷ 0 ∷ 0 ∷ 0 ∷ 0 ∷ 0 ∷ 0 ∷ []) [] []

pub two-open : answers (read_lenient (bytes "(;;")) room ≡ Ok (rows 1 2 0 0)
unfolding white space
two-open = refl

module _ {i : ℕ} (after : Lent) (r : SgfReading) (x : ReadInC i (read_lenient (bytes "(;;")) room after r) where
  is : r ≡ reading_in_c i (Ok (rows 1 2 0 0))
  is = x.is ∙ ap (reading_in_c i) two-open

  -- a lenient reader that refuses what strict reading refuses
  pub refusing-lenient : 0 < r.number → ⊥
  refusing-lenient l = omega (arith, l, ap (λ (y : SgfReading). y.number) is)

  -- one that gives one empty tree for it
  pub empty-lenient : r.counts ≡ rows 1 2 0 0
  empty-lenient = ap (λ (y : SgfReading). y.counts) is
