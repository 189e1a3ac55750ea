-- Tokens with their places moved, as an edit of a value moves them.
use Rattle.std.specs.Prelude.{◌+◌, ◌-◌}
use Rattle.lists.specs.Prelude.{ℕ, List, map, leb, ltb, eqb, pick}
use Rattle.lexer.specs.Token.{Val, Prop, Tok, start, end, node, prop}

-- where a thing that starts at p starts, once the value at q..e has become n bytes long (SCOPE 129)
abbrev pub starts_at : (q e n p : ℕ) → ℕ
starts_at q e n p = pick (leb p q) p (q + n + (p - e))

-- where a thing that ends at p then ends (SCOPE 129)
abbrev pub ends_at : (q e n p : ℕ) → ℕ
ends_at q e n p = pick (ltb p e) p (q + n + (p - e))

-- the bytes of a value that starts at s: the new ones at q, else its own
abbrev pub new_raw : (q : ℕ) → List ℕ → ℕ → List ℕ → List ℕ
new_raw q new s raw = pick (eqb s q) new raw

-- f moves a start, g an end, h gives the bytes of a value that starts at a place
module _ (f g : ℕ → ℕ) (h : ℕ → List ℕ → List ℕ) where
  -- a value moved
  abbrev pub move_val : Val → Val
  move_val v = record { from = f v.from; to = g v.to; raw = h v.from v.raw }

  -- a property moved
  abbrev pub move_prop : Prop → Prop
  move_prop p = record { from = f p.from; to = g p.to; name = p.name; vals = map move_val p.vals }

  -- a token moved
  abbrev pub move_tok : Tok → Tok
  move_tok (start o) = start (f o)
  move_tok (end o) = end (f o)
  move_tok (node o) = node (f o)
  move_tok (prop p e) = prop (move_prop p) (g e)
