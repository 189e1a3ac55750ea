-- Displays that compute, one table and one statement. Assumes nothing.
use Rattle.lists.proofs.Prelude.{ℕ, ◌≡◌, refl, List, [], ◌∷◌, map}
use Rattle.values.specs.Read.{read_from, read_value}
use Rattle.value_display.specs.Display.{plain, removed, escaped, item_of, format_from, pairs_spaced, one_line, display_text}
use Rattle.value_display.specs.declared.Kind.{Kind}
use Rattle.value_display.specs.declared.Kind.TheVariants.{Text, SimpleText}

record Row : Type 0 where
  kind : Kind
  raw : List ℕ
  text : List ℕ

abbrev row : Kind → List ℕ → List ℕ → Row
row k r t = record { kind = k; raw = r; text = t }

rows : List Row
rows =
    -- LF CR LF CR is three spaces, CR LF CR LF two
    row SimpleText (10 ∷ 13 ∷ 10 ∷ 13 ∷ []) (32 ∷ 32 ∷ 32 ∷ []) ∷
    row SimpleText (13 ∷ 10 ∷ 13 ∷ 10 ∷ []) (32 ∷ 32 ∷ []) ∷
    -- line breaks stay in a text, a tab becomes a space
    row Text (97 ∷ 13 ∷ 10 ∷ 9 ∷ 98 ∷ []) (97 ∷ 13 ∷ 10 ∷ 32 ∷ 98 ∷ []) ∷
    -- a value is unescaped twice: four backslashes are one, two before a line break remove it
    row Text (92 ∷ 92 ∷ 92 ∷ 92 ∷ []) (92 ∷ []) ∷
    row Text (97 ∷ 92 ∷ 92 ∷ 10 ∷ 13 ∷ 98 ∷ []) (97 ∷ 98 ∷ []) ∷
    -- a last backslash is shown
    row Text (92 ∷ 92 ∷ []) (92 ∷ []) ∷
    -- breaks that a removed break stood between make a pair
    row SimpleText (13 ∷ 92 ∷ 92 ∷ 10 ∷ 10 ∷ []) (32 ∷ []) ∷
    -- U+3000 becomes a space, and stays behind a backslash
    row Text (227 ∷ 128 ∷ 128 ∷ []) (32 ∷ []) ∷
    row Text (92 ∷ 92 ∷ 227 ∷ 128 ∷ 128 ∷ []) (227 ∷ 128 ∷ 128 ∷ []) ∷ []

examples : map (λ (r : Row). display_text r.kind (read_value r.raw)) rows ≡ map (λ (r : Row). r.text) rows
unfolding rows read_from plain removed escaped item_of format_from pairs_spaced one_line display_text
examples = refl
