-- The census, steps of the reader: one fold over the tokens, without a stack, that counts the rows of a text in which nothing is odd.
use Rattle.std.specs.Prelude.{◌+◌, ◌-◌, ◌∷◌, Option, Some, None}
use Rattle.lists.specs.Prelude.{ℕ, zero, suc, Bool, List, [], leb, length, pick}
use Rattle.lists.specs.Same.{same}
use Rattle.lexer.specs.Token.{Val, Tok, start, end, node, prop, End, done, broken, Lexed}
use Rattle.tables.specs.Numbers.{depth_limit}
use Rattle.parser.specs.Game.{Game, is, no_game, GM, game_vals}
use Rattle.parser_census.specs.declared.Mode.{Mode}
use Rattle.parser_census.specs.declared.Mode.TheVariants.{Outside, First, Root, Typed, Node, Opened, Bare, Full, Odd}

-- behind a start: the first node must follow that of a tree; where the list is empty, a second start is odd
abbrev pub on_start : Mode → Mode
on_start Outside = First
on_start First = Odd
on_start Root = Opened
on_start Typed = Opened
on_start Node = Opened
on_start Opened = Odd
on_start Bare = Opened
on_start Full = Full
on_start Odd = Odd

-- behind an end that leaves a tree open: its list has a node, unless nothing stood between the start and the end
abbrev pub on_end : Mode → Mode
on_end Outside = Odd
on_end First = Odd
on_end Root = Full
on_end Typed = Full
on_end Node = Full
on_end Opened = Bare
on_end Bare = Full
on_end Full = Full
on_end Odd = Odd

-- behind the end of a tree
abbrev pub on_last : Mode → Mode
on_last Outside = Odd
on_last First = Odd
on_last Root = Outside
on_last Typed = Outside
on_last Node = Outside
on_last Opened = Outside
on_last Bare = Outside
on_last Full = Outside
on_last Odd = Odd

-- behind a node
abbrev pub on_node : Mode → Mode
on_node Outside = Odd
on_node First = Root
on_node Root = Node
on_node Typed = Node
on_node Node = Node
on_node Opened = Node
on_node Bare = Node
on_node Full = Node
on_node Odd = Odd

-- behind the root's game type: Go, or odd
abbrev pub on_kind : Game → Mode
on_kind (is zero) = Typed
on_kind (is (suc k)) = Odd
on_kind (no_game r) = Odd

-- behind a property, by whether its raw identifier is GM: the root has at most one
abbrev pub on_prop : Mode → Bool → List Val → Mode
on_prop Outside gm vs = Odd
on_prop First gm vs = Odd
on_prop Root gm vs = pick gm (on_kind (game_vals vs)) Root
on_prop Typed gm vs = pick gm Odd Typed
on_prop Node gm vs = Node
on_prop Opened gm vs = Odd
on_prop Bare gm vs = Odd
on_prop Full gm vs = Odd
on_prop Odd gm vs = Odd

-- behind the last token: at least one tree, and none open
abbrev pub total : Mode → (t n p v : ℕ) → Option (ℕ × ℕ × ℕ × ℕ)
total Outside zero n p v = None
total Outside (suc t) n p v = Some (suc t, n, p, v)
total First t n p v = None
total Root t n p v = None
total Typed t n p v = None
total Node t n p v = None
total Opened t n p v = None
total Bare t n p v = None
total Full t n p v = None
total Odd t n p v = None

-- the tokens end with the text
abbrev pub census_at : End → Option (ℕ × ℕ × ℕ × ℕ) → Option (ℕ × ℕ × ℕ × ℕ)
census_at done x = x
census_at (broken f s) x = None

-- d: how many trees are open; t, n, p, v: the trees, nodes, properties and values so far
abbrev pub census_on : Mode → (d t n p v : ℕ) → List Tok → End → Option (ℕ × ℕ × ℕ × ℕ)
census_on m d t n p v [] e = census_at e (total m t n p v)
census_on m d t n p v (start o ∷ ts) e = census_on (pick (leb depth_limit d) Odd (on_start m)) (d + 1) t n p v ts e
census_on m d t n p v (end o ∷ ts) e =
    pick (leb d 1) (census_on (on_last m) 0 (t + 1) n p v ts e) (census_on (on_end m) (d - 1) t n p v ts e)
census_on m d t n p v (node o ∷ ts) e = census_on (on_node m) d t (n + 1) p v ts e
census_on m d t n p v (prop q o ∷ ts) e = census_on (on_prop m (same q.name GM) q.vals) d t n (p + 1) (v + length q.vals) ts e

-- the census of the tokens
unfoldable pub census_of : Lexed → Option (ℕ × ℕ × ℕ × ℕ)
census_of l = census_on Outside 0 0 0 0 0 l.toks l.end
