-- The length of a property as it is written, by its places in a text.
use Rattle.std.specs.Prelude.{◌&&◌, ◌∷◌}
use Rattle.lists.specs.Prelude.{ℕ, List, [], map, leb, length, pick}
use Rattle.lexer.specs.Token.{Prop}
use Rattle.lexer.specs.Step.{vals_at, prop_at}
use Rattle.tables.specs.Numbers.{text_limit}
use Rattle.fit.specs.Record.{raw_of}
use Rattle.serialize.specs.Branch.{write_props}
use Rattle.serialize.specs.Form.{form_prop}

-- the raw values that stand from k on
abbrev pub raws_at : List ℕ → ℕ → List (List ℕ)
raws_at s k = map raw_of (vals_at s k)

-- the length of one property as it is written in a tree with this rule
abbrev pub length_of : (rule : ℕ) → Prop → ℕ
length_of rule p = length (write_props (form_prop rule p ∷ []))

-- no property of a text within the limit is written longer: a set has at most 2,704 points
abbrev pub length_limit : ℕ
length_limit = 3145728

-- of the property that starts at i, whose first `[` is at k; 0 where the text is too long, or has no such places
unfoldable pub property_length : (s : List ℕ) (rule i k : ℕ) → ℕ
property_length s rule i k = pick (leb (length s) text_limit && (leb k (length s) && leb i k)) (length_of rule (prop_at s i k)) 0
