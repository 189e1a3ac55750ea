-- What a fact says of a text, with its number and its place, in the scope's words: without `read` and without `explained`.
use Rattle.std.specs.Prelude.{◌+◌, ◌-◌, ◌^◌, ◌<◌, ◌≡◌, ◌⊎◌, ◌∷◌, ◌++◌}
use Rattle.lists.specs.Prelude.{ℕ, Bool, false, List, [], length, take, drop}
use Rattle.lists.specs.All.{All}
use Rattle.text_chars.specs.Table.{BadFrom}
use Rattle.values.specs.Read.{read_value}
use Rattle.values.specs.Decimal.{decimal_of}
use Rattle.lexer.specs.Token.{Val, Prop, Tok, start, end, node, prop}
use Rattle.tables.specs.Numbers.{text_limit, depth_limit, none}
use Rattle.tables.specs.Record.{Node}
use Rattle.parser.specs.Game.{is_i32}
use Rattle.parser.specs.Walk.{walk, children}
use Rattle.parser.specs.Balance.{starts, ends, Covered}
use Rattle.reader_exactly.specs.Slicing.{slices_from, Deep}
use Rattle.reader_exactly.specs.When.{tokens_of, First, games, Comes, nodes, Nodeless}
use Rattle.why_blame.specs.declared.Fact.{Fact}
use Rattle.why_blame.specs.declared.Fact.TheVariants.{Length, BadSequence, NoBracket, Foreign, NotClosed, EndBeyond, StaysOpen, NoNode, NoEnd, TooDeep, EmptyList, SecondGm, Stray, GmValues, GmNumber}
use Rattle.why_says.specs.Scans.{PropertyAt, Crossed, MeetsForeign, StaysUnclosed}

-- ---- splitting

-- a token stands at p
abbrev pub TokenAt : Tok → (p : ℕ) → Type 0
TokenAt (start o) p = p ≡ o
TokenAt (end o) p = p ≡ o
TokenAt (node o) p = p ≡ o
TokenAt (prop a e) p = p ≡ a.from

-- the first token of a slice stands at p
abbrev pub HeadAt : List Tok → (p : ℕ) → Type 0
HeadAt s p = (t : Tok) × (rest : List Tok) × (s ≡ t ∷ rest) × TokenAt t p

-- 6: an end at p, before which starts and ends are equal in number, and in no prefix of the tokens before it are there more ends (SCOPE 264)
pub record ExceedsAt (ts : List Tok) (p : ℕ) : Type 0 where
  pub before : List Tok
  pub behind : List Tok
  pub are : ts ≡ before ++ (end p ∷ behind)
  pub covered : Covered 0 before
  pub even : starts before ≡ ends before

-- 7: d more starts than ends; the slice that stays open is the last, and its first token stands at p (SCOPE 265)
pub record OpenAt (ts : List Tok) (d p : ℕ) : Type 0 where
  pub more : starts ts ≡ d + ends ts
  pub some : 0 < d
  pub shut : List (List Tok)
  pub last : List Tok
  pub are : slices_from 0 ts ≡ shut ++ (last ∷ [])
  pub head : HeadAt last p

-- 9: a start at p, before which as many trees are open as the limit allows and nowhere more; splitting comes to it, since no end is beyond the starts before it (SCOPE 266)
pub record DeepAt (ts : List Tok) (p : ℕ) : Type 0 where
  pub before : List Tok
  pub behind : List Tok
  pub are : ts ≡ before ++ (start p ∷ behind)
  pub covered : Covered 0 before
  pub full : starts before ≡ depth_limit + ends before
  pub shallow : Deep 0 before → ⊥

-- ---- slices, by the number of nodes before them

-- P holds of slice n, and the slices before it are trees
abbrev pub InSlice : (n : ℕ) → (ℕ → List Tok → Type 0) → List (List Tok) → Type 0
InSlice n P ss = (x : First P ss) × (n ≡ length x.before)

-- 7: no node, and its first token stands at p
abbrev pub NodelessAt : (p base : ℕ) → List Tok → Type 0
NodelessAt p base s = Nodeless base s × HeadAt s p

-- 10: the walk comes to a start at p, and q, on top of the stack, has no child yet (SCOPE 267)
abbrev pub EmptyListAt : (q p base : ℕ) → List Tok → Type 0
EmptyListAt q p base s =
    (front : List Tok) × (cur : ℕ) × (st : List ℕ) × (g : Bool) × (ns : List Node)
    × Comes base s front (start p) (walk cur (q ∷ st) g ns) × (children q ns ≡ false)

-- 10: and q is "none", or the number of a node before that start: of the base nodes before the slice, or of those in its front (SCOPE 267)
abbrev pub NumberedListAt : (q p base : ℕ) → List Tok → Type 0
NumberedListAt q p base s = (x : EmptyListAt q p base s) × ((q ≡ none) ⊎ (q < base + nodes x.0))

-- 11: the walk comes to a property at p that is not directly after a node or its properties (SCOPE 269)
abbrev pub StrayAt : (p base : ℕ) → List Tok → Type 0
StrayAt p base s =
    (front : List Tok) × (a : Prop) × (e cur : ℕ) × (st : List ℕ) × (ns : List Node) × Comes base s front (prop a e) (walk cur st false ns) × (p ≡ a.from)

-- 11: the second GM stands at p (SCOPE 268)
abbrev pub SecondAt : (p base : ℕ) → List Tok → Type 0
SecondAt p base s = (a b : Prop) × (more : List Prop) × (games s ≡ a ∷ b ∷ more) × (p ≡ b.from)

-- 12: the one GM stands at p and has k values, not one (SCOPE 268)
abbrev pub ValuesAt : (k p base : ℕ) → List Tok → Type 0
ValuesAt k p base s = (a : Prop) × (games s ≡ a ∷ []) × (k ≡ length a.vals) × (k ≡ 1 → ⊥) × (p ≡ a.from)

-- 12: the one GM stands at p, and its one value is no optional sign and digits within i32 (SCOPE 268)
abbrev pub NumberAt : (p base : ℕ) → List Tok → Type 0
NumberAt p base s =
    (a : Prop) × (v : Val) × (games s ≡ a ∷ []) × (a.vals ≡ v ∷ []) × (is_i32 (decimal_of (2 ^ 31 - 1) (read_value v.raw)) ≡ false) × (p ≡ a.from)

-- ---- each fact

-- the fact, with the number in it, holds of the text, and p is the place to blame (SCOPE 261, 262)
abbrev pub FactSays : List ℕ → Fact → (p : ℕ) → Type 0
FactSays t (Length n) p = (n ≡ length t) × (text_limit < n) × (p ≡ 0)
FactSays t BadSequence p = BadFrom t p
FactSays t (NoBracket e) p = (x : PropertyAt t p) × (e ≡ x.last) × All Crossed (drop p (take e t))
FactSays t (Foreign e) p = (x : PropertyAt t p) × MeetsForeign (take x.last t) p e
FactSays t (NotClosed e) p = (x : PropertyAt t p) × (e ≡ x.last) × StaysUnclosed (take e t) p
FactSays t EndBeyond p = ExceedsAt (tokens_of t).toks p
FactSays t (StaysOpen d) p = OpenAt (tokens_of t).toks d p
FactSays t (NoNode n) p = InSlice n (NodelessAt p) (slices_from 0 (tokens_of t).toks)
FactSays t NoEnd p = (ends (tokens_of t).toks ≡ 0) × (p ≡ 0)
FactSays t TooDeep p = DeepAt (tokens_of t).toks p
FactSays t (EmptyList q) p = First (EmptyListAt q p) (slices_from 0 (tokens_of t).toks)
FactSays t (SecondGm n) p = InSlice n (SecondAt p) (slices_from 0 (tokens_of t).toks)
FactSays t Stray p = First (StrayAt p) (slices_from 0 (tokens_of t).toks)
FactSays t (GmValues k) p = First (ValuesAt k p) (slices_from 0 (tokens_of t).toks)
FactSays t GmNumber p = First (NumberAt p) (slices_from 0 (tokens_of t).toks)
