-- Which reasons a reading can give, strict or lenient, and their places: a fact of the definition. Assumes nothing.
use Rattle.lists.proofs.Prelude.{ℕ, zero, suc, ◌-◌, ◌^◌, ◌≡◌, refl, subst, Bool, true, false, List, [], ◌∷◌, length, drop, ltb, pick}
use Rattle.lists.proofs.Pick.{pick-elim}
use Rattle.text_utf8.specs.Text.{Utf, whole, part, bad, blank, utfs}
use Rattle.values.specs.Read.{read_value}
use Rattle.values.specs.Decimal.{decimal_of}
use Rattle.lists.specs.Same.{same}
use Rattle.lexer.specs.Token.{Val, Prop, Tok, start, end, node, prop, End, done, broken}
use Rattle.lexer.specs.declared.Fault.{Fault}
use Rattle.lexer.specs.declared.Fault.TheVariants.{MissingPropertyIdentifier as no-identifier, UnexpectedEndOfPropertyIdentifier as foreign, UnexpectedEndOfPropertyValue as unclosed}
use Rattle.tables.specs.Numbers.{none, text_limit, depth_limit, reason_of}
use Rattle.tables.specs.Record.{Node, Tree}
use Rattle.tables.specs.declared.Reason.{Reason}
use Rattle.tables.specs.declared.Reason.TheVariants.{TextTooLong, NotUtf8, MissingPropertyIdentifier, UnexpectedEndOfPropertyIdentifier, UnexpectedEndOfPropertyValue, UnexpectedGameTreeEnd, UnexpectedEndOfData, NoGameTrees, TooDeep, UnexpectedGameTreeStart, UnexpectedProperty, InvalidGameType}
use Rattle.parser.specs.Split.{Splitting, splitting, over, wrong, ended, split, Slices, no, slices, filled, sliced, split_by_gametree}
use Rattle.parser.specs.Walk.{Walk, walk, halted, stopped, children, refuse, opens, closes, adds, gated, walked}
use Rattle.parser.specs.Game.{Game, is, no_game, is_i32, game_vals, game_props, find_gametype, props_named, props, GM}
use Rattle.parser.specs.Read.{Answer, refused, accepted, Trees, trees_so_far, no_trees, tree_of_nodes, tree_of_walk, tree_of_game, parse_gametrees, answer, parse_slices, parsed, lexing, tokenize, parse_utf8, read}

-- the reasons that only strict reading gives, by their numbers
pub record Strict (P : Reason → ℕ → Type 0) : Type 0 where
  pub no3 : (p : ℕ) → P MissingPropertyIdentifier p
  pub no4 : (p : ℕ) → P UnexpectedEndOfPropertyIdentifier p
  pub no5 : (p : ℕ) → P UnexpectedEndOfPropertyValue p
  pub no6 : P UnexpectedGameTreeEnd 0
  pub no7 : P UnexpectedEndOfData 0
  pub no8 : P NoGameTrees 0
  pub no10 : P UnexpectedGameTreeStart 0
  pub no11 : P UnexpectedProperty 0
  pub no12 : P InvalidGameType 0

module _ (len : Bool) (P : Reason → ℕ → Type 0) (long : P TextTooLong 0) (utf : (p : ℕ) → P NotUtf8 p) (deep : P TooDeep 0) (strict : len ≡ false → Strict P) where
  -- ---- splitting

  abbrev SplitOk : Splitting → Type 0
  SplitOk (splitting d m cur ss) = Unit {0}
  SplitOk (over m ss) = Unit {0}
  SplitOk (wrong r) = P r 0

  split-ended : (d m : ℕ) (t : Tok) (cur : List Tok) (ss : List (List Tok)) → SplitOk (ended len d m t cur ss)
  split-ended zero m t cur ss = pick-elim SplitOk len (λ _. tt) (λ e. (strict e).no6)
  split-ended (suc zero) m t cur ss = tt
  split-ended (suc (suc d)) m t cur ss = tt

  split-ok : (ts : List Tok) (s : Splitting) → SplitOk s → SplitOk (split len s ts)
  split-ok [] s h = h
  split-ok (start o ∷ ts) (splitting d m cur ss) h = split-ok ts _ tt
  split-ok (end o ∷ ts) (splitting d m cur ss) h = split-ok ts _ (split-ended d m (end o) cur ss)
  split-ok (node o ∷ ts) (splitting d m cur ss) h = split-ok ts _ tt
  split-ok (prop p e ∷ ts) (splitting d m cur ss) h = split-ok ts _ tt
  split-ok (t ∷ ts) (over m ss) h = split-ok ts (over m ss) tt
  split-ok (t ∷ ts) (wrong r) h = split-ok ts (wrong r) h

  abbrev SlicesOk : Slices → Type 0
  SlicesOk (no r) = P r 0
  SlicesOk (slices ss) = Unit {0}

  slices-filled : (l : Bool) → len ≡ l → (m : ℕ) (ss : List (List Tok)) → SlicesOk (filled l m ss)
  slices-filled true e m [] = tt
  slices-filled false e m [] = (strict e).no8
  slices-filled l e m (s ∷ ss) = pick-elim SlicesOk (ltb depth_limit m) (λ _. deep) (λ _. tt)

  slices-ok : (l : Bool) → len ≡ l → (s : Splitting) → SplitOk s → SlicesOk (sliced l s)
  slices-ok l e (splitting zero m cur ss) h = slices-filled l e m ss
  slices-ok true e (splitting (suc d) m cur ss) h = pick-elim SlicesOk (ltb depth_limit m) (λ _. deep) (λ _. tt)
  slices-ok false e (splitting (suc d) m cur ss) h = (strict e).no7
  slices-ok l e (over m ss) h = slices-filled l e m ss
  slices-ok l e (wrong r) h = h

  -- ---- the tree of a slice

  abbrev WalkOk : Walk → Type 0
  WalkOk (walk cur st g ns) = Unit {0}
  WalkOk (halted ns) = Unit {0}
  WalkOk (stopped r) = P r 0

  walk-refuse : (l : Bool) → len ≡ l → (r : Reason) → (len ≡ false → P r 0) → (ns : List Node) → WalkOk (refuse l r ns)
  walk-refuse true e r h ns = tt
  walk-refuse false e r h ns = h e

  walk-opens : (cur : ℕ) (st : List ℕ) (ns : List Node) → WalkOk (opens len cur st ns)
  walk-opens cur [] ns = tt
  walk-opens cur (p ∷ st) ns = pick-elim WalkOk (children p ns) (λ _. tt) (λ _. walk-refuse len refl UnexpectedGameTreeStart (λ e. (strict e).no10) ns)

  walk-closes : (cur : ℕ) (st : List ℕ) (ns : List Node) → WalkOk (closes len cur st ns)
  walk-closes cur [] ns = walk-refuse len refl UnexpectedGameTreeEnd (λ e. (strict e).no6) ns
  walk-closes cur (p ∷ st) ns = tt

  walk-adds : (p : Prop) (cur : ℕ) (st : List ℕ) (ns : List Node) → WalkOk (adds len p cur st ns)
  walk-adds p cur st [] = walk-refuse len refl UnexpectedProperty (λ q. (strict q).no11) []
  walk-adds p cur st (n ∷ ns) = tt

  walk-gated : (g : Bool) (p : Prop) (cur : ℕ) (st : List ℕ) (ns : List Node) → WalkOk (gated len g p cur st ns)
  walk-gated false p cur st ns = walk-refuse len refl UnexpectedProperty (λ q. (strict q).no11) ns
  walk-gated true p cur st ns = walk-adds p cur st ns

  walk-ok : (base : ℕ) (ts : List Tok) (w : Walk) → WalkOk w → WalkOk (walked len base w ts)
  walk-ok base [] w h = h
  walk-ok base (start o ∷ ts) (walk cur st g ns) h = walk-ok base ts _ (walk-opens cur st ns)
  walk-ok base (end o ∷ ts) (walk cur st g ns) h = walk-ok base ts _ (walk-closes cur st ns)
  walk-ok base (node o ∷ ts) (walk cur st g ns) h = walk-ok base ts _ tt
  walk-ok base (prop p e ∷ ts) (walk cur st g ns) h = walk-ok base ts _ (walk-gated g p cur st ns)
  walk-ok base (t ∷ ts) (halted ns) h = walk-ok base ts (halted ns) tt
  walk-ok base (t ∷ ts) (stopped r) h = walk-ok base ts (stopped r) h

  -- ---- all trees

  abbrev GrowOk : Trees → Type 0
  GrowOk (trees_so_far n ts) = Unit {0}
  GrowOk (no_trees r) = P r 0

  grow-rooted : (l : Bool) → len ≡ l → (base k : ℕ) (ns : List Node) (ts : List Tree) → GrowOk (tree_of_nodes l base k ns ts)
  grow-rooted l e base k (n ∷ ns) ts = tt
  grow-rooted true e base k [] ts = tt
  grow-rooted false e base k [] ts = (strict e).no7

  grow-grown : (l : Bool) → len ≡ l → (base k : ℕ) (w : Walk) (ts : List Tree) → WalkOk w → GrowOk (tree_of_walk l base k w ts)
  grow-grown l e base k (walk cur st g ns) ts h = grow-rooted l e base k ns ts
  grow-grown l e base k (halted ns) ts h = grow-rooted l e base k ns ts
  grow-grown l e base k (stopped r) ts h = h

  -- the reasons that a game type is refused with
  abbrev KindOk : Game → Type 0
  KindOk (is k) = Unit {0}
  KindOk (no_game r) = len ≡ false → P r 0

  game-ok : (ps : List Prop) → KindOk (game_props ps)
  game-ok [] = tt
  game-ok (p ∷ []) = vals p.vals
    where
      vals : (vs : List Val) → KindOk (game_vals vs)
      vals [] = λ e. (strict e).no12
      vals (v ∷ []) =
          pick-elim KindOk (is_i32 (decimal_of (2 ^ 31 - 1) (read_value v.raw))) {a = is (pick (same (read_value v.raw) (0x31 ∷ [])) 0 1)} {b = no_game InvalidGameType} (λ _. tt) (λ _ e. (strict e).no12)
      vals (v ∷ u ∷ vs) = λ e. (strict e).no12
  game-ok (p ∷ q ∷ ps) = λ e. (strict e).no11

  grow-kinded : (base : ℕ) (x : Game) → KindOk x → (s : List Tok) (ts : List Tree) → GrowOk (tree_of_game len base x s ts)
  grow-kinded base (is k) h s ts = grow-grown len refl base k (walked len base (walk none [] false []) s) ts (walk-ok base s (walk none [] false []) tt)
  grow-kinded base (no_game r) h s ts =
      pick-elim GrowOk len (λ e. grow-grown true e base 0 (walked len base (walk none [] false []) s) ts (walk-ok base s (walk none [] false []) tt)) h

  grow-ok : (x : Trees) (ss : List (List Tok)) → GrowOk x → GrowOk (parse_gametrees len x ss)
  grow-ok x [] h = h
  grow-ok (trees_so_far n ts) (s ∷ ss) h = grow-ok (tree_of_game len n (find_gametype s) s ts) ss (grow-kinded n (find_gametype s) (game-ok (props_named GM (props (drop 2 s)))) s ts)
  grow-ok (no_trees r) (s ∷ ss) h = grow-ok (no_trees r) ss h

  -- ---- the whole

  abbrev AnswerOk : Answer → Type 0
  AnswerOk (refused r p) = P r p
  AnswerOk (accepted ts) = Unit {0}

  answer_ok : (x : Trees) → GrowOk x → AnswerOk (answer x)
  answer_ok (trees_so_far n ts) h = tt
  answer_ok (no_trees r) h = h

  planted-ok : (s : Slices) → SlicesOk s → AnswerOk (parse_slices len s)
  planted-ok (no r) h = h
  planted-ok (slices ss) h = answer_ok (parse_gametrees len (trees_so_far 0 []) ss) (grow-ok (trees_so_far 0 []) ss tt)

  parsed-ok : (ts : List Tok) → AnswerOk (parsed len ts)
  parsed-ok ts = planted-ok (split_by_gametree len ts) (slices-ok len refl (split len (splitting 0 0 [] []) ts) (split-ok ts (splitting 0 0 [] []) tt))

  fault-ok : (f : Fault) (p : ℕ) → len ≡ false → P (reason_of f) p
  fault-ok no-identifier p e = (strict e).no3 p
  fault-ok foreign p e = (strict e).no4 p
  fault-ok unclosed p e = (strict e).no5 p

  lexing-ok : (l : Bool) → len ≡ l → (e : End) (ts : List Tok) → AnswerOk (lexing l e ts)
  lexing-ok true q e ts = subst (λ (z : Bool). AnswerOk (parsed z ts)) q (parsed-ok ts)
  lexing-ok false q done ts = subst (λ (z : Bool). AnswerOk (parsed z ts)) q (parsed-ok ts)
  lexing-ok false q (broken f s) ts = fault-ok f s q

  decoded-ok : (u : Utf) (t : List ℕ) → AnswerOk (parse_utf8 len u t)
  decoded-ok (whole k) t = lexing-ok len refl (tokenize k t).end (tokenize k t).toks
  decoded-ok (part k s n r c) t = utf s
  decoded-ok (bad p) t = utf p

  -- whatever a reading refuses with, P holds of it and of the place
  pub refused-with : (t : List ℕ) {r : Reason} {p : ℕ} → read len t ≡ refused r p → P r p
  refused-with t e = subst AnswerOk e (pick-elim AnswerOk (ltb text_limit (length t)) (λ _. long) (λ _. decoded-ok (utfs (whole blank) 0 t) t))
