-- The token rules one byte a call: the machine of `lexer`, without contents.
use Rattle.std.specs.Prelude.{◌∷◌}
use Rattle.lists.specs.Prelude.{ℕ, Bool, true, false, List, [], leb, eqb, pick}
use Rattle.lexer.specs.Token.{Tok, start, end, node, prop, St, Out, step}
use Rattle.lexer.specs.Token as machine
use Rattle.lexer.specs.declared.Fault.TheVariants.{UnexpectedEndOfPropertyIdentifier}
use Rattle.blocks_step.specs.declared.Phase.{Phase}
use Rattle.blocks_step.specs.declared.Phase.TheVariants.{Between, Ident, Value, Escaped, After, Foreign}
use Rattle.blocks_step.specs.declared.Tokens.{Tokens}
use Rattle.blocks_step.specs.declared.Tokens.TheVariants.{Silent, Single, Property, Both}
use Rattle.blocks_step.specs.declared.Moved.{Moved}

-- by a pending escape
abbrev pub value_phase : ℕ → Bool → Phase
value_phase s true = Escaped s
value_phase s false = Value s

-- where the machine stands, without contents
abbrev pub phase_of : St → Phase
phase_of machine.between = Between
phase_of (machine.ident s w) = Ident s
phase_of (machine.value s i w vs esc v r) = value_phase s esc
phase_of (machine.after p) = After p.from
phase_of (machine.fault f s) = Foreign s

-- the machine that stands there, with no contents
abbrev pub machine_of : Phase → St
machine_of Between = machine.between
machine_of (Ident s) = machine.ident s []
machine_of (Value s) = machine.value s 0 [] [] false 0 []
machine_of (Escaped s) = machine.value s 0 [] [] true 0 []
machine_of (After s) = machine.after (record { from = s; to = 0; name = []; vals = [] })
machine_of (Foreign s) = machine.fault UnexpectedEndOfPropertyIdentifier s

-- the kind of a token: 1 `(`, 2 `)`, 3 `;`, 4 a property
abbrev pub token_kind : Tok → ℕ
token_kind (start o) = 1
token_kind (end o) = 2
token_kind (node o) = 3
token_kind (prop p e) = 4

-- where it starts
abbrev pub token_from : Tok → ℕ
token_from (start o) = o
token_from (end o) = o
token_from (node o) = o
token_from (prop p e) = p.from

-- one token
abbrev pub one_token : Tok → Tokens
one_token (start o) = Single 1
one_token (end o) = Single 2
one_token (node o) = Single 3
one_token (prop p e) = Property p.from

-- the tokens of one byte: at most a property and one token behind it
abbrev pub tokens_done : List Tok → Tokens
tokens_done [] = Silent
tokens_done (t ∷ []) = one_token t
tokens_done (t ∷ u ∷ ts) = Both (token_from t) (token_kind u)

-- what a byte has done
abbrev pub moved_of : Out → Moved
moved_of t = record { tokens = tokens_done t.toks; next = phase_of t.next }

-- the byte b at the place o
unfoldable pub moves : Phase → ℕ → ℕ → Moved
moves p o b = moved_of (step (machine_of p) o b)

-- the kind of a token of one byte
unfoldable pub kind_of : ℕ → ℕ
kind_of b = pick (eqb b 0x28) 1 (pick (eqb b 0x29) 2 (pick (eqb b 0x3b) 3 0))

-- a byte of an identifier that starts at s
unfoldable pub property_phase : ℕ → ℕ → Phase
property_phase s b = pick (eqb b 0x5b) (Value s) (pick (leb 0x80 b) (Foreign s) (Ident s))
