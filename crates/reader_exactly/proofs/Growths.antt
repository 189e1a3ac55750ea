-- The first slice that is refused, and why. Assumes nothing.
use Rattle.lists.proofs.Prelude.{ℕ, ◌≡◌, refl, sym, ap, ◌∙◌, subst, Bool, false, ⊎_elim, List, [], ◌∷◌, ◌++◌, append_assoc, arith, length, pick}
use Rattle.lists.specs.All.{All}
use Rattle.lists.proofs.All.{all_right}
use Rattle.lexer.specs.Token.{Tok, start, prop}
use Rattle.tables.specs.Numbers.{none}
use Rattle.tables.specs.Record.{Node, Tree}
use Rattle.tables.specs.declared.Reason.{Reason}
use Rattle.tables.specs.declared.Reason.TheVariants.{UnexpectedEndOfData, UnexpectedGameTreeStart, UnexpectedProperty, InvalidGameType}
use Rattle.parser.specs.Game.{Game, is, no_game, find_gametype}
use Rattle.parser.specs.Walk.{Walk, walk, halted, stopped, walks, walked}
use Rattle.parser.specs.Read.{Trees, trees_so_far, no_trees, tree_of_nodes, tree_of_walk, tree_of_game, parse_gametree, parse_gametrees}
use Rattle.parser.proofs.Runs.{walked-append, stopped-stays, grow-append, failing-stays}
use Rattle.parser.specs.Balance.{Covered}
use Rattle.reader_exactly.specs.When.{First, Comes, StartsEmpty, Unexpected, WrongGame, Nodeless, nodes}
use Rattle.reader_exactly.proofs.Games.{Refuses, game-why, two-unkind, wrong-unkind}
use Rattle.reader_exactly.proofs.Walking.{WalkWhy, walked-why}

-- ---- one slice

module _ (base : ℕ) (s : List Tok) where
  abbrev GrowWhy : Trees → Type 0
  GrowWhy (trees_so_far n ts) = Unit {0}
  GrowWhy (no_trees r) = Refuses base s r

  abbrev way : Walk
  way = walked false base (walk none [] false []) s

  grown-why : (k : ℕ) (e : find_gametype s ≡ is k) (w : Walk) → way ≡ w → WalkWhy base s k e w → (ts : List Tree) → GrowWhy (tree_of_walk false base k w ts)
  grown-why k e (walk cur st g []) q h ts =
      record { type = k; typed = e; cur = cur; stack = st; gate = g; made = []; ends_so = q; none_in = sym h }
  grown-why k e (walk cur st g (n ∷ ns)) q h ts = tt
  grown-why k e (halted ns) q h ts = absurd h
  grown-why k e (stopped r) q h ts = h

  grows-why : Covered 0 s → (ts : List Tree) → GrowWhy (parse_gametree false (trees_so_far base ts) s)
  grows-why cv ts = go (find_gametype s) refl
    where
      go : (x : Game) → find_gametype s ≡ x → GrowWhy (tree_of_game false base x s ts)
      go (is k) e = grown-why k e way refl (walked-why base s k e cv) ts
      go (no_game r) e = game-why base s r e

  -- ---- and so it is refused

  game-fails : (r : Reason) → find_gametype s ≡ no_game r → (ts : List Tree) → parse_gametree false (trees_so_far base ts) s ≡ no_trees r
  game-fails r e ts = ap (λ (x : Game). tree_of_game false base x s ts) e

  typed-grows : (k : ℕ) → find_gametype s ≡ is k → (w : Walk) → way ≡ w → (ts : List Tree) → parse_gametree false (trees_so_far base ts) s ≡ tree_of_walk false base k w ts
  typed-grows k e w q ts = ap (λ (x : Game). tree_of_game false base x s ts) e ∙ ap (λ (z : Walk). tree_of_walk false base k z ts) q

  comes-fails : (front : List Tok) (t : Tok) (w : Walk) (r : Reason) → Comes base s front t w → walks false base w t ≡ stopped r
      → (ts : List Tree) → parse_gametree false (trees_so_far base ts) s ≡ no_trees r
  comes-fails front t w r x q ts =
      typed-grows x.type x.typed (stopped r)
      (ap (λ (z : List Tok). walked false base (walk none [] false []) z) x.are
      ∙ walked-append false base (walk none [] false []) front (t ∷ x.rest)
      ∙ ap (λ (z : Walk). walked false base z (t ∷ x.rest)) x.walked_to
      ∙ ap (λ (z : Walk). walked false base z x.rest) q
      ∙ stopped-stays false base r x.rest) ts

  pub starts-fails : StartsEmpty base s → (ts : List Tree) → parse_gametree false (trees_so_far base ts) s ≡ no_trees UnexpectedGameTreeStart
  starts-fails (front, o, cur, y, st, g, ns, x, f) ts =
      comes-fails front (start o) (walk cur (y ∷ st) g ns) UnexpectedGameTreeStart x
      (ap (λ (b : Bool). pick b (walk cur (cur ∷ y ∷ st) false ns) (stopped UnexpectedGameTreeStart)) f) ts

  pub unexpected-fails : Unexpected base s → (ts : List Tree) → parse_gametree false (trees_so_far base ts) s ≡ no_trees UnexpectedProperty
  unexpected-fails h ts =
      ⊎_elim (λ x. game-fails UnexpectedProperty (two-unkind s x) ts)
      (λ x. comes-fails x.0 (prop x.1 x.2) (walk x.3 x.4 false x.5) UnexpectedProperty x.6 refl ts) h

  pub wrong-fails : WrongGame s → (ts : List Tree) → parse_gametree false (trees_so_far base ts) s ≡ no_trees InvalidGameType
  wrong-fails h ts = game-fails InvalidGameType (wrong-unkind s h) ts

  pub nodeless-fails : Covered 0 s → Nodeless base s → (ts : List Tree) → parse_gametree false (trees_so_far base ts) s ≡ no_trees UnexpectedEndOfData
  nodeless-fails cv x ts =
      let m : length x.made ≡ nodes s = subst (WalkWhy base s x.type x.typed) x.ends_so (walked-why base s x.type x.typed cv) in
      typed-grows x.type x.typed (walk x.cur x.stack x.gate x.made) x.ends_so ts ∙ go x.made (m ∙ x.none_in)
    where
      go : (ns : List Node) → length ns ≡ 0 → tree_of_nodes false base x.type ns ts ≡ no_trees UnexpectedEndOfData
      go [] e = refl
      go (n ∷ ns) e = absurd (omega arith)

-- ---- all slices

module _ (whole : List (List Tok)) where
  abbrev pub AllWhy : Trees → Type 0
  AllWhy (trees_so_far n ts) = Unit {0}
  AllWhy (no_trees r) = First (λ base s. Refuses base s r) whole

  from-why : (ss before : List (List Tok)) → whole ≡ before ++ ss → All (Covered 0) ss → (n : ℕ) (ts : List Tree) → parse_gametrees false (trees_so_far 0 []) before ≡ trees_so_far n ts
      → AllWhy (parse_gametrees false (trees_so_far n ts) ss)
  from-why [] before e cv n ts h = tt
  from-why (s ∷ ss) before e cv n ts h =
      go (parse_gametree false (trees_so_far n ts) s) refl (grows-why n s cv.0 ts)
      (λ m us q. from-why ss (before ++ (s ∷ [])) (e ∙ sym (append_assoc before (s ∷ []) ss)) cv.1 m us
      (grow-append false (trees_so_far 0 []) before (s ∷ []) ∙ ap (λ (z : Trees). parse_gametree false z s) h ∙ q))
    where
      go : (x : Trees) → parse_gametree false (trees_so_far n ts) s ≡ x → GrowWhy n s x
          → ((m : ℕ) (us : List Tree) → parse_gametree false (trees_so_far n ts) s ≡ trees_so_far m us → AllWhy (parse_gametrees false (trees_so_far m us) ss)) → AllWhy (parse_gametrees false x ss)
      go (trees_so_far m us) q w ih = ih m us q
      go (no_trees r) q w ih =
          subst AllWhy (sym (failing-stays false r ss))
          (record { before = before; slice = s; after = ss; are = e; nodes = n; trees = ts; trees-are = h; holds = w })

  pub all-why : All (Covered 0) whole → AllWhy (parse_gametrees false (trees_so_far 0 []) whole)
  all-why cv = from-why whole [] refl cv 0 [] refl

  -- ---- and so they are refused

  pub first-fails : (P : ℕ → List Tok → Type 0) (r : Reason) → ((base : ℕ) (s : List Tok) → Covered 0 s → P base s → (ts : List Tree) → parse_gametree false (trees_so_far base ts) s ≡ no_trees r)
      → All (Covered 0) whole → First P whole → parse_gametrees false (trees_so_far 0 []) whole ≡ no_trees r
  first-fails P r f cv x =
      let a : All (Covered 0) (x.before ++ (x.slice ∷ x.after)) = subst (All (Covered 0)) x.are cv in
      let b = all_right (Covered 0) x.before (x.slice ∷ x.after) a in
      ap (parse_gametrees false (trees_so_far 0 [])) x.are
      ∙ grow-append false (trees_so_far 0 []) x.before (x.slice ∷ x.after)
      ∙ ap (λ (z : Trees). parse_gametrees false z (x.slice ∷ x.after)) x.trees-are
      ∙ ap (λ (z : Trees). parse_gametrees false z x.after) (f x.nodes x.slice b.0 x.holds x.trees)
      ∙ failing-stays false r x.after
