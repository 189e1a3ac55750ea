-- A slice is refused exactly where a token of it, or its game type, is to blame, and by the number of the fact. Assumes nothing.
use Rattle.lists.proofs.Prelude.{ℕ, suc, ◌+◌, ◌-◌, ◌^◌, ◌≡◌, refl, subst⁻¹, Bool, true, false, List, [], ◌∷◌, ◌++◌, length, drop, pick}
use Rattle.lists.proofs.Pick.{pick-elim}
use Rattle.lists.specs.Same.{same}
use Rattle.values.specs.Read.{read_value}
use Rattle.values.specs.Decimal.{decimal_of}
use Rattle.lexer.specs.Token.{Val, Prop, Tok, start, end, node, prop}
use Rattle.tables.specs.Numbers.{none}
use Rattle.tables.specs.Record.{Node, Tree}
use Rattle.tables.specs.declared.Reason.{Reason}
use Rattle.tables.specs.declared.Reason.TheVariants.{UnexpectedGameTreeStart, UnexpectedGameTreeEnd, UnexpectedProperty, InvalidGameType}
use Rattle.parser.specs.Game.{props, props_named, GM, Game, is, no_game, is_i32, game_vals, game_props, find_gametype}
use Rattle.parser.specs.Walk.{Walk, walk, halted, stopped, walks, walked, children}
use Rattle.parser.specs.Read.{Answer, refused, accepted, Trees, trees_so_far, no_trees, tree_of_walk, tree_of_game, parse_gametrees, answer}
use Rattle.why_blame.specs.Blame.{found, blame, is_stopped}
use Rattle.why_blame.specs.Games.{values_blame, game_blame}
use Rattle.why_blame.specs.Numbered.{fact_reason}
use Rattle.why.specs.Trees.{or_blame, stop_blame, tree_blame, nodes_of, empty_blame, slices_blame}
use Rattle.std.specs.Prelude.{Option, Some, None}
use Rattle.tables.specs.Refusals.{refusal}
use Rattle.why_blame.specs.declared.Fact.{Fact}
use Rattle.tables.specs.declared.Refusal.{Refusal}

-- refused by the number of the fact, or accepted with nothing to blame
abbrev pub Agree : Answer → Option (Refusal Fact) → Type 0
Agree (refused r p) None = ⊥
Agree (refused r p) (Some e) = fact_reason e.reason ≡ r
Agree (accepted ts) None = Unit {0}
Agree (accepted ts) (Some e) = ⊥

-- ---- the game type

abbrev AgreeGame : Game → Option (Refusal Fact) → Type 0
AgreeGame (is k) None = Unit {0}
AgreeGame (is k) (Some e) = ⊥
AgreeGame (no_game r) None = ⊥
AgreeGame (no_game r) (Some e) = fact_reason e.reason ≡ r

vals-agree : (at : ℕ) (vs : List Val) → AgreeGame (game_vals vs) (values_blame at vs (game_vals vs))
vals-agree at [] = refl
vals-agree at (v ∷ []) =
    pick-elim (λ (g : Game). AgreeGame g (values_blame at (v ∷ []) g)) (is_i32 (decimal_of (2 ^ 31 - 1) (read_value v.raw)))
    {a = is (pick (same (read_value v.raw) (0x31 ∷ [])) 0 1)} {b = no_game InvalidGameType} (λ _. tt) (λ _. refl)
vals-agree at (v ∷ u ∷ vs) = refl

game-agrees : (n : ℕ) (ps : List Prop) → AgreeGame (game_props ps) (game_blame n ps)
game-agrees n [] = tt
game-agrees n (p ∷ []) = vals-agree p.from p.vals
game-agrees n (p ∷ q ∷ ps) = refl

-- ---- the walk

abbrev AgreeWalk : Walk → Option (Refusal Fact) → Type 0
AgreeWalk (walk cur st g ns) None = Unit {0}
AgreeWalk (walk cur st g ns) (Some e) = ⊥
AgreeWalk (halted ns) b = ⊥
AgreeWalk (stopped r) None = ⊥
AgreeWalk (stopped r) (Some e) = fact_reason e.reason ≡ r

-- the reason that a token stops a tree with
abbrev token_reason : Tok → Reason
token_reason (start o) = UnexpectedGameTreeStart
token_reason (end o) = UnexpectedGameTreeEnd
token_reason (node o) = UnexpectedProperty
token_reason (prop p e) = UnexpectedProperty

abbrev StepOk : Tok → Walk → Type 0
StepOk t (walk cur st g ns) = Unit {0}
StepOk t (halted ns) = ⊥
StepOk t (stopped r) = token_reason t ≡ r

step_ok : (base cur : ℕ) (st : List ℕ) (g : Bool) (ns : List Node) (t : Tok) → StepOk t (walks false base (walk cur st g ns) t)
step_ok base cur [] g ns (start o) = tt
step_ok base cur (p ∷ st) g ns (start o) = pick-elim (StepOk (start o)) (children p ns) (λ _. tt) (λ _. refl)
step_ok base cur [] g ns (end o) = refl
step_ok base cur (p ∷ st) g ns (end o) = tt
step_ok base cur st g ns (node o) = tt
step_ok base cur st false ns (prop p e) = refl
step_ok base cur st true [] (prop p e) = refl
step_ok base cur st true (n ∷ ns) (prop p e) = tt

token-agrees : (w : Walk) (pre : List Tok) (t : Tok) {r : Reason} → token_reason t ≡ r → AgreeWalk (stopped r) (stop_blame (found w pre t))
token-agrees w pre (start o) e = e
token-agrees w pre (end o) e = e
token-agrees w pre (node o) e = e
token-agrees w pre (prop p o) e = e

stopped-walk : (base : ℕ) (r : Reason) (ts : List Tok) → walked false base (stopped r) ts ≡ stopped r
stopped-walk base r [] = refl
stopped-walk base r (t ∷ ts) = stopped-walk base r ts

walk-agrees : (base cur : ℕ) (st : List ℕ) (g : Bool) (ns : List Node) (pre ts : List Tok)
    → AgreeWalk (walked false base (walk cur st g ns) ts) (stop_blame (blame (walks false base) is_stopped (walk cur st g ns) pre ts))
walk-agrees base cur st g ns pre [] = tt
walk-agrees base cur st g ns pre (t ∷ ts) = go (walks false base (walk cur st g ns) t) (step_ok base cur st g ns t) (λ c s h m. walk-agrees base c s h m (pre ++ (t ∷ [])) ts)
  where
    go : (w : Walk) → StepOk t w
        → ((c : ℕ) (s : List ℕ) (h : Bool) (m : List Node) → AgreeWalk (walked false base (walk c s h m) ts) (stop_blame (blame (walks false base) is_stopped (walk c s h m) (pre ++ (t ∷ [])) ts)))
        → AgreeWalk (walked false base w ts) (stop_blame (pick (is_stopped w) (found (walk cur st g ns) pre t) (blame (walks false base) is_stopped w (pre ++ (t ∷ [])) ts)))
    go (walk c s h m) o k = k c s h m
    go (halted m) o k = absurd o
    go (stopped r) o k =
        subst⁻¹ (λ (z : Walk). AgreeWalk z (stop_blame (found (walk cur st g ns) pre t))) (stopped-walk base r ts) (token-agrees (walk cur st g ns) pre t o)

-- ---- all slices

none-stay : (r : Reason) (us : List (List Tok)) → parse_gametrees false (no_trees r) us ≡ no_trees r
none-stay r [] = refl
none-stay r (u ∷ us) = none-stay r us

pub slices-agree : (n base : ℕ) (ts : List Tree) (us : List (List Tok)) → Agree (answer (parse_gametrees false (trees_so_far base ts) us)) (slices_blame n base us)
slices-agree n base ts [] = tt
slices-agree n base ts (s ∷ us) =
    typed (find_gametype s) (game_blame n (props_named GM (props (drop 2 s)))) (game-agrees n (props_named GM (props (drop 2 s)))) (λ b os. slices-agree (suc n) b os us)
  where
    no-tree : (r : Reason) (b : Option (Refusal Fact)) → AgreeGame (no_game r) b → (c : Option (Refusal Fact)) → Agree (answer (parse_gametrees false (no_trees r) us)) (or_blame (or_blame b c) (slices_blame (suc n) (base + length (nodes_of (walked false base (walk none [] false []) s))) us))
    no-tree r None h c = absurd h
    no-tree r (Some e) h c = subst⁻¹ (λ (z : Trees). Agree (answer z) (Some (refusal e.reason e.place))) (none-stay r us) h

    grown : (k : ℕ) (w : Walk) (b : Option (Refusal Fact)) → AgreeWalk w b → ((b : ℕ) (os : List Tree) → Agree (answer (parse_gametrees false (trees_so_far b os) us)) (slices_blame (suc n) b us))
        → Agree (answer (parse_gametrees false (tree_of_walk false base k w ts) us)) (or_blame (or_blame b (empty_blame n (length (nodes_of w)) s)) (slices_blame (suc n) (base + length (nodes_of w)) us))
    grown k (walk c st g []) None h ih = subst⁻¹ (λ (z : Trees). Agree (answer z) (empty_blame n 0 s)) (none-stay _ us) refl
    grown k (walk c st g (m ∷ ms)) None h ih = ih (base + length (m ∷ ms)) _
    grown k (walk c st g ns) (Some e) h ih = absurd h
    grown k (halted ns) b h ih = absurd h
    grown k (stopped r) None h ih = absurd h
    grown k (stopped r) (Some e) h ih = subst⁻¹ (λ (z : Trees). Agree (answer z) (Some (refusal e.reason e.place))) (none-stay r us) h

    typed : (g : Game) (b : Option (Refusal Fact)) → AgreeGame g b → ((b : ℕ) (os : List Tree) → Agree (answer (parse_gametrees false (trees_so_far b os) us)) (slices_blame (suc n) b us))
        → Agree (answer (parse_gametrees false (tree_of_game false base g s ts) us)) (or_blame (or_blame b (or_blame (tree_blame base s) (empty_blame n (length (nodes_of (walked false base (walk none [] false []) s))) s))) (slices_blame (suc n) (base + length (nodes_of (walked false base (walk none [] false []) s))) us))
    typed (is k) None h ih = grown k (walked false base (walk none [] false []) s) (tree_blame base s) (walk-agrees base none [] false [] [] s) ih
    typed (is k) (Some e) h ih = absurd h
    typed (no_game r) b h ih = no-tree r b h (or_blame (tree_blame base s) (empty_blame n (length (nodes_of (walked false base (walk none [] false []) s))) s))
