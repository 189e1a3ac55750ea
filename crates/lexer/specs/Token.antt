-- The tokens of a text: one machine, one step for each byte. Places count from the start of the untrimmed text; a token has its contents beside its places.
use Rattle.std.specs.Prelude.{◌∷◌, ◌++◌}
use Rattle.lists.specs.Prelude.{ℕ, suc, Bool, true, false, List, [], leb, eqb, length, drop}
use Rattle.lexer_scan.specs.Scan.{space}
use Rattle.lexer.specs.declared.Fault.{Fault}
use Rattle.lexer.specs.declared.Fault.TheVariants.{MissingPropertyIdentifier, UnexpectedEndOfPropertyIdentifier, UnexpectedEndOfPropertyValue}

-- a value: the place after its `[`, the place of its `]`, and the bytes between
pub record Val : Type 0 where
  pub from : ℕ
  pub to : ℕ
  pub raw : List ℕ

-- a property: where it starts, where its identifier ends, its identifier, its values
pub record Prop : Type 0 where
  pub from : ℕ
  pub to : ℕ
  pub name : List ℕ
  pub vals : List Val

-- a token; a property's span ends where the white space after it ends
pub data Tok : Type 0 where
  start : ℕ → Tok
  end : ℕ → Tok
  node : ℕ → Tok
  prop : Prop → ℕ → Tok

-- where the bytes so far leave the machine: between tokens; in the identifier of the property that starts at s; in its value that starts at v, with what came before it; after a value; or with a fault
pub data St : Type 0 where
  between : St
  ident : (s : ℕ) → List ℕ → St
  value : (s i : ℕ) → List ℕ → List Val → (esc : Bool) → (v : ℕ) → List ℕ → St
  after : Prop → St
  fault : Fault → (s : ℕ) → St

-- the tokens that a byte completes, and the state after it
pub record Out : Type 0 where
  pub toks : List Tok
  pub next : St

-- no token
abbrev pub silent : St → Out
silent s = record { toks = []; next = s }

-- a byte that starts a property: is it `[`; is it beyond ASCII
abbrev pub property_state : Bool → Bool → ℕ → List ℕ → ℕ → ℕ → St
property_state true high s w o b = value s o w [] false (suc o) []
property_state false true s w o b = fault UnexpectedEndOfPropertyIdentifier s
property_state false false s w o b = ident s (w ++ (b ∷ []))

-- a byte between tokens: is it `(`, `)`, `;`, white space (SCOPE 70)
abbrev pub begins : Bool → Bool → Bool → Bool → ℕ → ℕ → Out
begins true e n w o b = record { toks = start o ∷ []; next = between }
begins false true n w o b = record { toks = end o ∷ []; next = between }
begins false false true w o b = record { toks = node o ∷ []; next = between }
begins false false false true o b = silent between
begins false false false false o b = silent (property_state (eqb b 0x5b) (leb 0x80 b) o [] o b)

-- a byte of a value: is there a pending escape; is it `]`, a backslash
abbrev pub values : Bool → Bool → Bool → (s i : ℕ) → List ℕ → List Val → (v : ℕ) → List ℕ → ℕ → ℕ → St
values true c x s i w vs v r o b = value s i w vs false v (r ++ (b ∷ []))
values false true x s i w vs v r o b = after (record { from = s; to = i; name = w; vals = vs ++ (record { from = v; to = o; raw = r } ∷ []) })
values false false x s i w vs v r o b = value s i w vs x v (r ++ (b ∷ []))

-- a byte after a value: is it white space, is it `[` (SCOPE 76)
abbrev pub afters : Bool → Bool → Prop → Out → ℕ → Out
afters true v p t o = silent (after p)
afters false true p t o = silent (value p.from p.to p.name p.vals false (suc o) [])
afters false false p t o = record { toks = prop p o ∷ t.toks; next = t.next }

-- one byte (SCOPE 168)
abbrev pub step : St → ℕ → ℕ → Out
step between o b = begins (eqb b 0x28) (eqb b 0x29) (eqb b 0x3b) (space b) o b
step (ident s w) o b = silent (property_state (eqb b 0x5b) (leb 0x80 b) s w o b)
step (value s i w vs esc v r) o b = silent (values esc (eqb b 0x5d) (eqb b 0x5c) s i w vs v r o b)
step (after p) o b = afters (space b) (eqb b 0x5b) p (begins (eqb b 0x28) (eqb b 0x29) (eqb b 0x3b) (space b) o b) o
step (fault f s) o b = silent (fault f s)

-- the tokens that the bytes complete
abbrev pub emits : St → ℕ → List ℕ → List Tok
emits st o [] = []
emits st o (b ∷ bs) = (step st o b).toks ++ emits (step st o b).next (suc o) bs

-- the state after the bytes
abbrev pub state_after : St → ℕ → List ℕ → St
state_after st o [] = st
state_after st o (b ∷ bs) = state_after (step st o b).next (suc o) bs

-- how the tokens end: with the text, or with a fault of the token that starts at s
pub data End : Type 0 where
  done : End
  broken : Fault → (s : ℕ) → End

-- all tokens, and how they end
pub record Lexed : Type 0 where
  pub toks : List Tok
  pub end : End

-- the end of the text, at o (SCOPE 53)
abbrev pub finish : St → ℕ → Lexed
finish between o = record { toks = []; end = done }
finish (ident s w) o = record { toks = []; end = broken MissingPropertyIdentifier s }
finish (value s i w vs esc v r) o = record { toks = []; end = broken UnexpectedEndOfPropertyValue s }
finish (after p) o = record { toks = prop p o ∷ []; end = done }
finish (fault f s) o = record { toks = []; end = broken f s }

-- tokens before the others
abbrev pub lexed : List Tok → Lexed → Lexed
lexed ts l = record { toks = ts ++ l.toks; end = l.end }

-- the tokens of the bytes that stand from place f to place l (SCOPE 13)
abbrev pub lex_from : ℕ → ℕ → List ℕ → Lexed
lex_from f l bs = lexed (emits between f bs) (finish (state_after between f bs) l)

-- the place of a token
abbrev pub token_place : Tok → ℕ
token_place (start o) = o
token_place (end o) = o
token_place (node o) = o
token_place (prop p e) = p.from

-- the number of a fault
abbrev pub fault_number : Fault → ℕ
fault_number MissingPropertyIdentifier = 3
fault_number UnexpectedEndOfPropertyIdentifier = 4
fault_number UnexpectedEndOfPropertyValue = 5

-- what the machine gives from the place i of a text on, where no token is begun (SCOPE 7)
unfoldable pub lex_at : List ℕ → ℕ → Lexed
lex_at s i = lex_from i (length s) (drop i s)
