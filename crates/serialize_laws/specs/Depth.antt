-- How deep the trees of a text stand in each other.
use Rattle.std.specs.Prelude.{◌-◌, ◌∷◌}
use Rattle.lists.specs.Prelude.{ℕ, suc, max, List, []}
use Rattle.text_utf8.specs.Text.{whole, blank, utfs}
use Rattle.lexer.specs.Token.{Tok, start, end, node, prop}
use Rattle.serialize_laws.specs.Back.{toks_of}

-- the greatest number of trees that are open at once, where d are open before these tokens
abbrev pub deepest_from : (d : ℕ) → List Tok → ℕ
deepest_from d [] = d
deepest_from d (start o ∷ ts) = max d (deepest_from (suc d) ts)
deepest_from d (end o ∷ ts) = max d (deepest_from (d - 1) ts)
deepest_from d (node o ∷ ts) = deepest_from d ts
deepest_from d (prop p e ∷ ts) = deepest_from d ts

-- the depth of a text (SCOPE 120)
abbrev pub depth_of : List ℕ → ℕ
depth_of t = deepest_from 0 (toks_of (utfs (whole blank) 0 t) t)
