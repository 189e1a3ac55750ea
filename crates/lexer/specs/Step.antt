-- The next token of a text, by scans; and what the machine gives where it is met.
use Rattle.std.specs.Prelude.{◌+◌, ◌≡◌, ◌∷◌, Option, Some, None}
use Rattle.lists.specs.Prelude.{ℕ, zero, suc, List, [], eqb, ltb, length, get_or, slice, pick}
use Rattle.lexer.specs.declared.Fault.TheVariants.{MissingPropertyIdentifier, UnexpectedEndOfPropertyIdentifier, UnexpectedEndOfPropertyValue}
use Rattle.lexer_scan.specs.declared.Ident.{Ident}
use Rattle.lexer_scan.specs.declared.Ident.TheVariants.{Opens, Missing, Foreign}
use Rattle.lexer_scan.specs.declared.ValueStep.{ValueStep}
use Rattle.lexer_scan.specs.declared.ValueStep.TheVariants.{Value, NoMore, Unclosed}
use Rattle.lexer.specs.declared.Head.{Head}
use Rattle.lexer.specs.declared.Head.TheVariants.{Start as head_start, End as head_end, Node as head_node, Name, Refused as head_refused, Done as head_done}
use Rattle.lexer.specs.declared.Step.{Step}
use Rattle.lexer.specs.declared.Step.TheVariants.{Start, End, Node, Property, Refused, Done}
use Rattle.lexer.specs.Token.{Val, Prop, start, end, node, prop, done, broken, Lexed, lexed, lex_at}
use Rattle.lexer_scan.specs.Scan.{skip_at, ident_at, value_step_at, values_end_at}

-- a property that starts at i, by where its identifier ends (SCOPE 73)
abbrev pub on_ident : ℕ → Ident → Head
on_ident i (Opens k) = Name i k
on_ident i Missing = head_refused MissingPropertyIdentifier i
on_ident i Foreign = head_refused UnexpectedEndOfPropertyIdentifier i

-- `(`, `)`, `;` are tokens; anything else starts a property (SCOPE 70)
unfoldable pub head_from : List ℕ → ℕ → Head
head_from s i =
    pick (ltb i (length s))
    (pick (eqb (get_or s i 0) 0x28) (head_start i)
    (pick (eqb (get_or s i 0) 0x29) (head_end i)
    (pick (eqb (get_or s i 0) 0x3b) (head_node i)
    (on_ident i (ident_at s i)))))
    head_done

-- how the token from i on begins, white space skipped
unfoldable pub head_at : List ℕ → ℕ → Head
head_at s i = head_from s (skip_at s i)

-- a property from i whose first `[` is at k, by where its values end (SCOPE 74)
abbrev pub on_values : ℕ → ℕ → Option ℕ → Step
on_values i k (Some e) = Property i k e
on_values i k None = Refused UnexpectedEndOfPropertyValue i

-- a token, by how it begins
abbrev pub on_head : List ℕ → Head → Step
on_head s (head_start i) = Start i
on_head s (head_end i) = End i
on_head s (head_node i) = Node i
on_head s (Name i k) = on_values i k (values_end_at s k)
on_head s (head_refused f i) = Refused f i
on_head s head_done = Done

-- the token from i on
unfoldable pub next_at : List ℕ → ℕ → Step
next_at s i = on_head s (head_at s i)

-- where a step from the place `at` leads: behind the token, whose span ends there; a refusal and the end stay
abbrev pub behind : ℕ → Step → ℕ
behind at (Start i) = i + 1
behind at (End i) = i + 1
behind at (Node i) = i + 1
behind at (Property i k e) = e
behind at (Refused f i) = at
behind at Done = at

-- a step of a cursor at `at`: the token, and the next place
pub record SteppedIs (s : List ℕ) (at : ℕ) (token : Step) (next : ℕ) : Type 0 where
  pub token-is : token ≡ next_at s at
  pub next-is : next ≡ behind at (next_at s at)

-- ---- what the machine gives there

-- the values from the one that a step found on, by those behind it
abbrev pub vals_on : (ℕ → List Val) → List ℕ → ValueStep → List Val
vals_on g s (Value a e n) = record { from = a; to = e; raw = slice a e s } ∷ g n
vals_on g s NoMore = []
vals_on g s Unclosed = []

-- at most so many values
unfoldable pub vals_by : ℕ → List ℕ → ℕ → List Val
vals_by zero s k = []
vals_by (suc f) s k = vals_on (vals_by f s) s (value_step_at s k)

-- the values that stand from k on
unfoldable pub vals_at : List ℕ → ℕ → List Val
vals_at s k = vals_by (suc (length s)) s k

-- the property that starts at i, whose first `[` is at k
unfoldable pub prop_at : List ℕ → ℕ → ℕ → Prop
prop_at s i k = record { from = i; to = k; name = slice i k s; vals = vals_at s k }

-- what the machine gives from a place where this step is found
abbrev pub step_on : List ℕ → Step → Lexed
step_on s (Start i) = lexed (start i ∷ []) (lex_at s (i + 1))
step_on s (End i) = lexed (end i ∷ []) (lex_at s (i + 1))
step_on s (Node i) = lexed (node i ∷ []) (lex_at s (i + 1))
step_on s (Property i k e) = lexed (prop (prop_at s i k) e ∷ []) (lex_at s e)
step_on s (Refused f i) = record { toks = []; end = broken f i }
step_on s Done = record { toks = []; end = done }
