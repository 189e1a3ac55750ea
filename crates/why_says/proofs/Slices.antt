-- What is blamed of slices, in the scope's words: the game type, the tree, no node. Assumes nothing.
use Rattle.lists.proofs.Prelude.{ℕ, ◌+◌, ◌-◌, ◌^◌, ◌<◌, ◌≡◌, refl, sym, ap, ◌∙◌, subst, Bool, true, false, false≢true, List, [], ◌∷◌, ◌++◌, reverse, arith, length, pick}
use Rattle.lists.proofs.Pick.{pick-elim}
use Rattle.lists.proofs.Tests.{never}
use Rattle.lists.specs.Same.{same}
use Rattle.values.specs.Read.{read_value}
use Rattle.values.specs.Decimal.{decimal_of}
use Rattle.lexer.specs.Token.{Val, Prop, Tok, start, end, node, prop}
use Rattle.tables.specs.Numbers.{none}
use Rattle.tables.specs.Record.{Tree}
use Rattle.tables.specs.declared.Reason.{Reason}
use Rattle.tables.specs.declared.Reason.TheVariants.{UnexpectedGameTreeEnd, UnexpectedGameTreeStart, InvalidGameType}
use Rattle.parser.specs.Game.{Game, is, no_game, is_i32, game_vals, game_props, find_gametype}
use Rattle.parser.specs.Walk.{Walk, walk, halted, stopped, children, walks, walked}
use Rattle.parser.specs.Read.{trees_so_far, tree_of_walk, tree_of_game, parse_gametree}
use Rattle.parser.specs.Balance.{Covered}
use Rattle.parser.proofs.Runs.{walked-append, stopped-stays}
use Rattle.reader_exactly.specs.When.{games, Comes}
use Rattle.reader_exactly.proofs.Walking.{WalkWhy, walked-why}
use Rattle.why_blame.specs.Blame.{Blame, nowhere, found, blame, is_stopped}
use Rattle.why_blame.specs.Games.{values_blame, game_blame}
use Rattle.why_blame.specs.declared.Fact.TheVariants.{Length, BadSequence, NoBracket, Foreign, NotClosed, EndBeyond, StaysOpen, NoNode, NoEnd, TooDeep, EmptyList, SecondGm, Stray, GmValues, GmNumber}
use Rattle.why_blame.proofs.Found.{Says, blame-says, walk-folds}
use Rattle.why.specs.Trees.{or_blame, stop_blame, tree_blame, nodes_of, nodes_in, empty_blame, slice_blame}
use Rattle.why_says.specs.Says.{NodelessAt, EmptyListAt, StrayAt, SecondAt, ValuesAt, NumberAt}
use Rattle.why_says.proofs.Counts.{HasToken}
use Rattle.why_says.proofs.Cuts.{head_at}
use Rattle.std.specs.Prelude.{Option, Some, None}
use Rattle.tables.specs.Refusals.{refusal}
use Rattle.why_blame.specs.declared.Fact.{Fact}
use Rattle.tables.specs.declared.Refusal.{Refusal}

-- ---- what is said of one slice, number n, behind `base` nodes

abbrev pub FactSays : (n base : ℕ) → List Tok → Fact → ℕ → Type 0
FactSays n base s (Length k) p = ⊥
FactSays n base s BadSequence p = ⊥
FactSays n base s (NoBracket e) p = ⊥
FactSays n base s (Foreign e) p = ⊥
FactSays n base s (NotClosed e) p = ⊥
FactSays n base s EndBeyond p = ⊥
FactSays n base s (StaysOpen d) p = ⊥
FactSays n base s (NoNode k) p = (k ≡ n) × NodelessAt p base s
FactSays n base s NoEnd p = ⊥
FactSays n base s TooDeep p = ⊥
FactSays n base s (EmptyList q) p = EmptyListAt q p base s
FactSays n base s (SecondGm k) p = (k ≡ n) × SecondAt p base s
FactSays n base s Stray p = StrayAt p base s
FactSays n base s (GmValues k) p = ValuesAt k p base s
FactSays n base s GmNumber p = NumberAt p base s

abbrev pub SliceSays : (n base : ℕ) → List Tok → Option (Refusal Fact) → Type 0
SliceSays n base s None = Unit {0}
SliceSays n base s (Some e) = FactSays n base s e.reason e.place

-- where a property may follow there is a node
abbrev Ready : Walk → Type 0
Ready (walk cur st false ns) = Unit {0}
Ready (walk cur st true ns) = 0 < length ns
Ready (halted ns) = Unit {0}
Ready (stopped r) = Unit {0}

ready_on : (base : ℕ) (w : Walk) (t : Tok) → Ready w → Ready (walks false base w t)
ready_on base (walk cur [] g ns) (start o) h = tt
ready_on base (walk cur (y ∷ st) g ns) (start o) h = pick-elim Ready (children y ns) (λ _. tt) (λ _. tt)
ready_on base (walk cur [] g ns) (end o) h = tt
ready_on base (walk cur (y ∷ st) g ns) (end o) h = tt
ready_on base (walk cur st g ns) (node o) h = omega arith
ready_on base (walk cur st false ns) (prop p e) h = tt
ready_on base (walk cur st true []) (prop p e) h = tt
ready_on base (walk cur st true (n ∷ ns)) (prop p e) h = omega arith
ready_on base (halted ns) t h = tt
ready_on base (stopped r) t h = tt

ready : (base : ℕ) (w : Walk) (ts : List Tok) → Ready w → Ready (walked false base w ts)
ready base w [] h = h
ready base w (t ∷ ts) h = ready base (walks false base w t) ts (ready_on base w t h)

abbrev pub new : Walk
new = walk none [] false []

module _ (n base : ℕ) (s : List Tok) where
  -- blamed as is said; or a tree
  abbrev pub Out : List Tree → Option (Refusal Fact) → Type 0
  Out ts None = (us : List Tree) × (parse_gametree false (trees_so_far base ts) s ≡ trees_so_far (base + nodes_in base s) us)
  Out ts (Some e) = SliceSays n base s (Some (refusal e.reason e.place))

  -- ---- the game type

  vals-say : (p : Prop) → games s ≡ p ∷ [] → (vs : List Val) → p.vals ≡ vs → SliceSays n base s (values_blame p.from vs (game_vals vs))
  vals-say p e [] q = (p, e, sym (ap length q), (λ z. omega (arith, z)), refl)
  vals-say p e (v ∷ []) q = go (is_i32 (decimal_of (2 ^ 31 - 1) (read_value v.raw))) refl
    where
      go : (b : Bool) → is_i32 (decimal_of (2 ^ 31 - 1) (read_value v.raw)) ≡ b
          → SliceSays n base s (values_blame p.from (v ∷ []) (pick b (is (pick (same (read_value v.raw) (0x31 ∷ [])) 0 1)) (no_game InvalidGameType)))
      go true f = tt
      go false f = (p, v, e, q, f, refl)
  vals-say p e (v ∷ u ∷ vs) q = (p, e, sym (ap length q), (λ z. omega (arith, z)), refl)

  game-says : (ps : List Prop) → games s ≡ ps → SliceSays n base s (game_blame n ps)
  game-says [] e = tt
  game-says (p ∷ []) e = vals-say p e p.vals refl
  game-says (p ∷ q ∷ ps) e = (refl, (p, q, ps, e, refl))

  pub game-typed : (ps : List Prop) → game_blame n ps ≡ None → (k : ℕ) × (game_props ps ≡ is k)
  game-typed [] e = (0, refl)
  game-typed (p ∷ []) e = go (game_vals p.vals) refl e
    where
      go : (g : Game) → game_vals p.vals ≡ g → values_blame p.from p.vals g ≡ None → (k : ℕ) × (game_vals p.vals ≡ is k)
      go (is k) f h = (k, f)
      go (no_game r) f h = never cc
  game-typed (p ∷ q ∷ ps) e = never cc

  -- ---- the tree

  module _ (k : ℕ) (typed : find_gametype s ≡ is k) (cv : Covered 0 s) where
    abbrev W : Walk
    W = walked false base new s

    comes-to : (front : List Tok) (t : Tok) (w : Walk) (behind : List Tok) → s ≡ front ++ (t ∷ behind) → walked false base new front ≡ w → Comes base s front t w
    comes-to front t w behind e q = record { type = k; typed = typed; rest = behind; are = e; walked_to = q }

    stops : (front : List Tok) (t : Tok) (w : Walk) (behind : List Tok) → s ≡ front ++ (t ∷ behind) → walked false base new front ≡ w → (r : Reason) → walks false base w t ≡ stopped r → W ≡ stopped r
    stops front t w behind e q r h =
        ap (walked false base new) e ∙ walked-append false base new front (t ∷ behind) ∙ ap (λ (z : Walk). walked false base z (t ∷ behind)) q
        ∙ ap (λ (z : Walk). walked false base z behind) h ∙ stopped-stays false base r behind

    stop-says : (w : Walk) (front : List Tok) (t : Tok) (behind : List Tok) → s ≡ front ++ (t ∷ behind) → walked false base new front ≡ w → Ready w → is_stopped w ≡ false → is_stopped (walks false base w t) ≡ true
        → SliceSays n base s (stop_blame (found w front t))
    stop-says (walk cur [] g ns) front (start o) behind e q rd f h = absurd (false≢true h)
    stop-says (walk cur (y ∷ st) g ns) front (start o) behind e q rd f h = go (children y ns) refl h
      where
        go : (b : Bool) → children y ns ≡ b → is_stopped (pick b (walk cur (cur ∷ y ∷ st) false ns) (stopped UnexpectedGameTreeStart)) ≡ true → EmptyListAt y o base s
        go true c x = absurd (false≢true x)
        go false c x = (front, cur, st, g, ns, comes-to front (start o) (walk cur (y ∷ st) g ns) behind e q, c)
    stop-says (walk cur [] g ns) front (end o) behind e q rd f h =
        absurd (subst (WalkWhy base s k typed) (stops front (end o) (walk cur [] g ns) behind e q UnexpectedGameTreeEnd refl) (walked-why base s k typed cv))
    stop-says (walk cur (y ∷ st) g ns) front (end o) behind e q rd f h = absurd (false≢true h)
    stop-says (walk cur st g ns) front (node o) behind e q rd f h = absurd (false≢true h)
    stop-says (walk cur st false ns) front (prop p o) behind e q rd f h = (front, p, o, cur, st, ns, comes-to front (prop p o) (walk cur st false ns) behind e q, refl)
    stop-says (walk cur st true []) front (prop p o) behind e q rd f h = absurd (omega (arith, rd))
    stop-says (walk cur st true (m ∷ ns)) front (prop p o) behind e q rd f h = absurd (false≢true h)
    stop-says (halted ns) front t behind e q rd f h = absurd (false≢true (sym f))
    stop-says (stopped r) front t behind e q rd f h = absurd (false≢true (sym f))

    abbrev B : Blame Walk
    B = blame (walks false base) is_stopped new [] s

    tree-says : (b : Blame Walk) → Says (walks false base) is_stopped new s b → SliceSays n base s (stop_blame b)
    tree-says nowhere x = tt
    tree-says (found w front t) x =
        let q = sym (walk-folds false base is_stopped new front) ∙ x.state in
        stop-says w front t x.behind x.are q (subst Ready q (ready base new front tt)) x.sound x.here

    tree-ends : (b : Blame Walk) → Says (walks false base) is_stopped new s b → stop_blame b ≡ None → is_stopped W ≡ false
    tree-ends nowhere x e = ap is_stopped (sym (walk-folds false base is_stopped new s)) ∙ x
    tree-ends (found w front (start o)) x e = never cc
    tree-ends (found w front (end o)) x e = never cc
    tree-ends (found w front (node o)) x e = never cc
    tree-ends (found w front (prop p o)) x e = never cc

    -- ---- no node, or a tree

    grown : (ts : List Tree) (w : Walk) → W ≡ w → parse_gametree false (trees_so_far base ts) s ≡ tree_of_walk false base k w ts
    grown ts w e = ap (λ (g : Game). tree_of_game false base g s ts) typed ∙ ap (λ (z : Walk). tree_of_walk false base k z ts) e

    walked-out : (ts : List Tree) → HasToken s → (w : Walk) → W ≡ w → is_stopped w ≡ false → WalkWhy base s k typed w
        → Out ts (empty_blame n (length (nodes_of w)) s)
    walked-out ts so (walk c st g []) e f h =
        (refl, (record { type = k; typed = typed; cur = c; stack = st; gate = g; made = []; ends_so = e; none_in = sym h }, head_at s s so))
    walked-out ts so (walk c st g (m ∷ ms)) e f h =
        let us : List Tree = record { root = base; game = k; nodes = reverse (m ∷ ms) } ∷ ts in
        (us, grown ts (walk c st g (m ∷ ms)) e ∙ ap (λ (z : Walk). trees_so_far (base + length (nodes_of z)) us) (sym e))
    walked-out ts so (halted ns) e f h = absurd h
    walked-out ts so (stopped r) e f h = absurd (false≢true (sym f))

    tree-out : (ts : List Tree) → HasToken s → Out ts (or_blame (tree_blame base s) (empty_blame n (nodes_in base s) s))
    tree-out ts so = go (tree_blame base s) (tree-says B x) (λ e. walked-out ts so W refl (tree-ends B x e) (walked-why base s k typed cv))
      where
        x : Says (walks false base) is_stopped new s B
        x = blame-says (walks false base) is_stopped new s refl

        go : (b : Option (Refusal Fact)) → SliceSays n base s b → (b ≡ None → Out ts (empty_blame n (nodes_in base s) s))
            → Out ts (or_blame b (empty_blame n (nodes_in base s) s))
        go None h g = g refl
        go (Some e) h g = h

  pub slice_out : Covered 0 s → HasToken s → (ts : List Tree) → Out ts (slice_blame n base s)
  slice_out cv so ts = go (game_blame n (games s)) refl (game-says (games s) refl)
    where
      go : (b : Option (Refusal Fact)) → game_blame n (games s) ≡ b → SliceSays n base s b
          → Out ts (or_blame b (or_blame (tree_blame base s) (empty_blame n (nodes_in base s) s)))
      go None e h = let y = game-typed (games s) e in tree-out y.0 y.1 cv ts so
      go (Some r) e h = h
