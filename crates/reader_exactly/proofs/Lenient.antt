-- A lenient reading refuses with 1, 2 and 9 only; with 9 exactly when a token of a slice is too deep. Assumes nothing.
use Rattle.lists.proofs.Prelude.{ℕ, zero, suc, ◌≤◌, ◌<◌, max, ◌≡◌, refl, sym, ap, ◌∙◌, subst, Bool, true, false, List, [], ◌∷◌, reverse, lt_of_not-le, length, lt-ltb, le-ltb, pick}
use native.Mathlib.Decide.{dec_le}
use Rattle.lists.proofs.Pick.{pick-elim}
use Rattle.text_chars.specs.Table.{BadFrom}
use Rattle.lexer.specs.Token.{Prop, Tok, start, end, node, prop}
use Rattle.tables.specs.Numbers.{text_limit, depth_limit, none}
use Rattle.tables.specs.Record.{Node, Tree}
use Rattle.tables.specs.declared.Reason.{Reason}
use Rattle.tables.specs.declared.Reason.TheVariants.{TextTooLong, NotUtf8, MissingPropertyIdentifier, UnexpectedEndOfPropertyIdentifier, UnexpectedEndOfPropertyValue, UnexpectedGameTreeEnd, UnexpectedEndOfData, NoGameTrees, TooDeep, UnexpectedGameTreeStart, UnexpectedProperty, InvalidGameType, NoRoom, EmptyIdentifier, NoSuchNumber, GameTypeFixed, NotClosed, NotFitting}
use Rattle.parser.specs.Split.{Splitting, splitting, over, wrong, split, Slices, no as unsplit, slices, deep, sliced, split_by_gametree}
use Rattle.parser.specs.Game.{Game, is, no_game, find_gametype}
use Rattle.parser.specs.Walk.{Walk, walk, halted, stopped, children, adds, walked}
use Rattle.parser.specs.Read.{Answer, refused, accepted, Trees, trees_so_far, no_trees, tree_of_nodes, tree_of_walk, tree_of_game, parse_gametrees, answer, parse_slices, parsed, read_lenient}
use Rattle.parser.proofs.Surveys.{over-stays}
use Rattle.parser.proofs.Cuts.{standing, deepest, Right}
use Rattle.parser.proofs.Texts.{text-long}
use Rattle.reader_exactly.specs.Slicing.{Any, slices_from, Deep}
use Rattle.reader_exactly.specs.When.{Valid, tokens_of}
use Rattle.reader_exactly.proofs.Deeper.{deep-exactly}
use Rattle.reader_exactly.proofs.Standing.{slices-are}
use Rattle.reader_exactly.proofs.Stages.{valid-read, bad-read, text-cases}

-- ---- splitting

right : (ts : List Tok) (d m : ℕ) (cur : List Tok) (ss : List (List Tok)) → Right (split true (splitting d m cur ss) ts)
right [] d m cur ss = tt
right (start o ∷ ts) d m cur ss = right ts (suc d) (max m (suc d)) (start o ∷ cur) ss
right (end o ∷ ts) zero m cur ss = subst Right (sym (over-stays true m ss ts)) tt
right (end o ∷ ts) (suc zero) m cur ss = right ts 0 m [] (reverse (end o ∷ cur) ∷ ss)
right (end o ∷ ts) (suc (suc d)) m cur ss = right ts (suc d) m (end o ∷ cur) ss
right (node o ∷ ts) d m cur ss = right ts d m (node o ∷ cur) ss
right (prop p e ∷ ts) d m cur ss = right ts d m (prop p e ∷ cur) ss

deep-sliced : (x : Splitting) → Right x → (standing x ≡ [] → ⊥) → sliced true x ≡ deep (deepest x) (reverse (standing x))
deep-sliced (splitting zero m cur []) r n = absurd (n refl)
deep-sliced (splitting zero m cur (s ∷ ss)) r n = refl
deep-sliced (splitting (suc d) m cur ss) r n = refl
deep-sliced (over m []) r n = absurd (n refl)
deep-sliced (over m (s ∷ ss)) r n = refl
deep-sliced (wrong r) h n = absurd h

shallow-deep : (m : ℕ) (ss : List (List Tok)) → m ≤ depth_limit → deep m ss ≡ slices ss
shallow-deep m ss h = ap (λ (b : Bool). pick b (unsplit TooDeep) (slices ss)) (le-ltb depth_limit m h)

shallow-sliced : (x : Splitting) → Right x → deepest x ≤ depth_limit → (ss : List (List Tok)) × (sliced true x ≡ slices ss)
shallow-sliced (splitting zero m cur []) r h = ([] ∷ [], refl)
shallow-sliced (splitting zero m cur (s ∷ ss)) r h = (reverse (s ∷ ss), shallow-deep m (reverse (s ∷ ss)) h)
shallow-sliced (splitting (suc d) m cur ss) r h = (reverse (reverse cur ∷ ss), shallow-deep m (reverse (reverse cur ∷ ss)) h)
shallow-sliced (over m []) r h = ([] ∷ [], refl)
shallow-sliced (over m (s ∷ ss)) r h = (reverse (s ∷ ss), shallow-deep m (reverse (s ∷ ss)) h)
shallow-sliced (wrong r) k h = absurd k

module _ (ts : List Tok) where
  abbrev last : Splitting
  last = split true (splitting 0 0 [] []) ts

  some : Any (Deep 0) (slices_from 0 ts) → standing last ≡ [] → ⊥
  some h e = subst (Any (Deep 0)) (sym (slices-are true ts (right ts 0 0 [] [])) ∙ ap reverse e) h

  lax-deep : Any (Deep 0) (slices_from 0 ts) → split_by_gametree true ts ≡ unsplit TooDeep
  lax-deep h =
      deep-sliced last (right ts 0 0 [] []) (some h)
      ∙ ap (λ (b : Bool). pick b (unsplit TooDeep) (slices (reverse (standing last)))) (lt-ltb depth_limit (deepest last) ((deep-exactly true ts (right ts 0 0 [] [])).1 h))

  lax-cases : {X : Type 0} → (Any (Deep 0) (slices_from 0 ts) → X) → ((ss : List (List Tok)) → split_by_gametree true ts ≡ slices ss → X) → X
  lax-cases f g =
      elim (dec_le (deepest last) depth_limit) [
        | yes l ↦ let x = shallow-sliced last (right ts 0 0 [] []) l in g x.0 x.1
        | no n ↦ f ((deep-exactly true ts (right ts 0 0 [] [])).0 (lt_of_not-le n))
      ]

-- ---- the trees

abbrev Goes : Walk → Type 0
Goes (walk cur st g ns) = Unit {0}
Goes (halted ns) = Unit {0}
Goes (stopped r) = ⊥

goes-adds : (p : Prop) (cur : ℕ) (st : List ℕ) (ns : List Node) → Goes (adds true p cur st ns)
goes-adds p cur st [] = tt
goes-adds p cur st (n ∷ ns) = tt

goes : (base : ℕ) (s : List Tok) (w : Walk) → Goes w → Goes (walked true base w s)
goes base [] w h = h
goes base (start o ∷ s) (walk cur [] g ns) h = goes base s (walk cur (cur ∷ []) false ns) tt
goes base (start o ∷ s) (walk cur (y ∷ st) g ns) h =
    goes base s (pick (children y ns) (walk cur (cur ∷ y ∷ st) false ns) (halted ns)) (pick-elim Goes (children y ns) (λ _. tt) (λ _. tt))
goes base (end o ∷ s) (walk cur [] g ns) h = goes base s (halted ns) tt
goes base (end o ∷ s) (walk cur (y ∷ st) g ns) h = goes base s (walk y st false ns) tt
goes base (node o ∷ s) (walk cur st g ns) h = goes base s _ tt
goes base (prop p e ∷ s) (walk cur st false ns) h = goes base s (halted ns) tt
goes base (prop p e ∷ s) (walk cur st true ns) h = goes base s (adds true p cur st ns) (goes-adds p cur st ns)
goes base (t ∷ s) (halted ns) h = goes base s (halted ns) tt
goes base (t ∷ s) (stopped r) h = absurd h

abbrev Grows : Trees → Type 0
Grows (trees_so_far n ts) = Unit {0}
Grows (no_trees r) = ⊥

grows-rooted : (base k : ℕ) (ns : List Node) (ts : List Tree) → Grows (tree_of_nodes true base k ns ts)
grows-rooted base k [] ts = tt
grows-rooted base k (n ∷ ns) ts = tt

grows-grown : (base k : ℕ) (w : Walk) → Goes w → (ts : List Tree) → Grows (tree_of_walk true base k w ts)
grows-grown base k (walk cur st g ns) h ts = grows-rooted base k ns ts
grows-grown base k (halted ns) h ts = grows-rooted base k ns ts
grows-grown base k (stopped r) h ts = absurd h

grows-kinded : (base : ℕ) (x : Game) (s : List Tok) (ts : List Tree) → Grows (tree_of_game true base x s ts)
grows-kinded base (is k) s ts = grows-grown base k (walked true base (walk none [] false []) s) (goes base s (walk none [] false []) tt) ts
grows-kinded base (no_game r) s ts = grows-grown base 0 (walked true base (walk none [] false []) s) (goes base s (walk none [] false []) tt) ts

grows_all : (ss : List (List Tok)) (x : Trees) → Grows x → Grows (parse_gametrees true x ss)
grows_all [] x h = h
grows_all (s ∷ ss) (trees_so_far n ts) h = grows_all ss (tree_of_game true n (find_gametype s) s ts) (grows-kinded n (find_gametype s) s ts)
grows_all (s ∷ ss) (no_trees r) h = absurd h

-- ---- the condition of each number

module _ (t : List ℕ) where
  abbrev pub Mild : Reason → ℕ → Type 0
  Mild TextTooLong p = (text_limit < length t) × (p ≡ 0)
  Mild NotUtf8 p = (length t ≤ text_limit) × BadFrom t p
  Mild MissingPropertyIdentifier p = ⊥
  Mild UnexpectedEndOfPropertyIdentifier p = ⊥
  Mild UnexpectedEndOfPropertyValue p = ⊥
  Mild UnexpectedGameTreeEnd p = ⊥
  Mild UnexpectedEndOfData p = ⊥
  Mild NoGameTrees p = ⊥
  Mild TooDeep p = Valid t × Any (Deep 0) (slices_from 0 (tokens_of t).toks) × (p ≡ 0)
  Mild UnexpectedGameTreeStart p = ⊥
  Mild UnexpectedProperty p = ⊥
  Mild InvalidGameType p = ⊥
  Mild NoRoom p = ⊥
  Mild EmptyIdentifier p = ⊥
  Mild NoSuchNumber p = ⊥
  Mild GameTypeFixed p = ⊥
  Mild NotClosed p = ⊥
  Mild NotFitting p = ⊥

  abbrev pub AnswerMild : Answer → Type 0
  AnswerMild (refused r p) = Mild r p
  AnswerMild (accepted ts) = Unit {0}

  tree-mild : (x : Trees) → Grows x → AnswerMild (answer x)
  tree-mild (trees_so_far n ts) h = tt
  tree-mild (no_trees r) h = absurd h

  pub deep-read : Valid t → Any (Deep 0) (slices_from 0 (tokens_of t).toks) → read_lenient t ≡ refused TooDeep 0
  deep-read v h = valid-read true t v ∙ ap (parse_slices true) (lax-deep (tokens_of t).toks h)

  valid-mild : Valid t → AnswerMild (parsed true (tokens_of t).toks)
  valid-mild v =
      lax-cases (tokens_of t).toks (λ h. said (lax-deep (tokens_of t).toks h) (v, h, refl))
      (λ ss e. said e (tree-mild (parse_gametrees true (trees_so_far 0 []) ss) (grows_all ss (trees_so_far 0 []) tt)))
    where
      said : {x : Slices} → split_by_gametree true (tokens_of t).toks ≡ x → AnswerMild (parse_slices true x) → AnswerMild (parsed true (tokens_of t).toks)
      said {x} e h = subst (λ (z : Slices). AnswerMild (parse_slices true z)) (sym e) h

  read-mild : AnswerMild (read_lenient t)
  read-mild =
      text-cases true t
      (λ h. subst AnswerMild (sym (text-long true t h)) (h, refl))
      (λ p h b. subst AnswerMild (sym (bad-read true t p h b)) (h, b))
      (λ v. subst AnswerMild (sym (valid-read true t v)) (valid-mild v))

  -- what a refusal says
  pub only-mild : {r : Reason} {p : ℕ} → read_lenient t ≡ refused r p → Mild r p
  only-mild e = subst AnswerMild e read-mild
