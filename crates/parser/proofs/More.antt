-- What strict reading accepts, lenient reading accepts with the same record: stage by stage the two do the same. Assumes nothing.
use Rattle.lists.proofs.Prelude.{ℕ, zero, suc, ◌≡◌, refl, sym, ap, ◌∙◌, Bool, true, false, List, [], ◌∷◌, ltb, length, pick}
use Rattle.lists.proofs.Tests.{never}
use Rattle.text_utf8.specs.Text.{Utf, whole, part, bad, blank, utfs}
use Rattle.lexer.specs.Token.{Prop, Tok, start, end, node, prop, End, done, broken}
use Rattle.tables.specs.Numbers.{none, text_limit, reason_of}
use Rattle.tables.specs.Record.{Node, Tree}
use Rattle.tables.specs.declared.Reason.{Reason}
use Rattle.tables.specs.declared.Reason.TheVariants.{TextTooLong, NotUtf8, UnexpectedGameTreeEnd, UnexpectedGameTreeStart, UnexpectedProperty}
use Rattle.parser.specs.Game.{Game, is, no_game, find_gametype}
use Rattle.parser.specs.Split.{Splitting, splitting, over, wrong, splits, split, Slices, no, slices, filled, sliced, split_by_gametree}
use Rattle.parser.specs.Walk.{Walk, walk, halted, stopped, children, opens, closes, gated, walks, walked}
use Rattle.parser.specs.Read.{refused, accepted, Trees, trees_so_far, no_trees, tree_of_nodes, tree_of_walk, tree_of_game, parse_gametrees, answer, parse_slices, parsed, lexing, tokenize, parse_utf8, read_strict, read_lenient}
use Rattle.parser.proofs.Answers.{not-both}
use Rattle.parser.proofs.Runs.{stopped-stays, failing-stays}

-- ---- splitting

wrong_stays : (r : Reason) (ts : List Tok) → split false (wrong r) ts ≡ wrong r
wrong_stays r [] = refl
wrong_stays r (t ∷ ts) = wrong_stays r ts

-- strict splitting that is not refused
abbrev Right : Splitting → Type 0
Right s = (r : Reason) → s ≡ wrong r → ⊥

same-splits : (s : Splitting) (t : Tok) → Right (splits false s t) → splits true s t ≡ splits false s t
same-splits (splitting d m cur ss) (start o) h = refl
same-splits (splitting zero m cur ss) (end o) h = absurd (h UnexpectedGameTreeEnd refl)
same-splits (splitting (suc zero) m cur ss) (end o) h = refl
same-splits (splitting (suc (suc d)) m cur ss) (end o) h = refl
same-splits (splitting d m cur ss) (node o) h = refl
same-splits (splitting d m cur ss) (prop p e) h = refl
same-splits (over m ss) t h = refl
same-splits (wrong r) t h = refl

same-split : (s : Splitting) (ts : List Tok) → Right (split false s ts) → split true s ts ≡ split false s ts
same-split s [] h = refl
same-split s (t ∷ ts) h =
    ap (λ (z : Splitting). split true z ts) (same-splits s t (λ r e. h r (ap (λ (z : Splitting). split false z ts) e ∙ wrong_stays r ts)))
    ∙ same-split (splits false s t) ts h

slices-never : {A : Type 0} {r : Reason} {ss : List (List Tok)} → no r ≡ slices ss → A
slices-never e = never cc

same-filled : (m : ℕ) (us ss : List (List Tok)) → filled false m us ≡ slices ss → filled true m us ≡ slices ss
same-filled m [] ss e = slices-never e
same-filled m (u ∷ us) ss e = e

same-sliced : (x : Splitting) (ss : List (List Tok)) → sliced false x ≡ slices ss → sliced true x ≡ slices ss
same-sliced (splitting zero m cur us) ss e = same-filled m us ss e
same-sliced (splitting (suc d) m cur us) ss e = slices-never e
same-sliced (over m us) ss e = same-filled m us ss e
same-sliced (wrong r) ss e = slices-never e

same-slices : (ts : List Tok) (ss : List (List Tok)) → split_by_gametree false ts ≡ slices ss → split_by_gametree true ts ≡ slices ss
same-slices ts ss e =
    ap (sliced true) (same-split (splitting 0 0 [] []) ts (λ r q. slices-never (sym (ap (sliced false) q) ∙ e)))
    ∙ same-sliced (split false (splitting 0 0 [] []) ts) ss e

-- ---- the tree of a slice

-- a strict walk that is not refused
abbrev Goes : Walk → Type 0
Goes w = (r : Reason) → w ≡ stopped r → ⊥

same-opens : (cur : ℕ) (st : List ℕ) (ns : List Node) → Goes (opens false cur st ns) → opens true cur st ns ≡ opens false cur st ns
same-opens cur [] ns h = refl
same-opens cur (p ∷ st) ns h = go (children p ns) h
  where
    go : (b : Bool) → Goes (pick b (walk cur (cur ∷ p ∷ st) false ns) (stopped UnexpectedGameTreeStart))
        → pick b (walk cur (cur ∷ p ∷ st) false ns) (halted ns) ≡ pick b (walk cur (cur ∷ p ∷ st) false ns) (stopped UnexpectedGameTreeStart)
    go true g = refl
    go false g = absurd (g UnexpectedGameTreeStart refl)

same-closes : (cur : ℕ) (st : List ℕ) (ns : List Node) → Goes (closes false cur st ns) → closes true cur st ns ≡ closes false cur st ns
same-closes cur [] ns h = absurd (h UnexpectedGameTreeEnd refl)
same-closes cur (p ∷ st) ns h = refl

same-gated : (g : Bool) (p : Prop) (cur : ℕ) (st : List ℕ) (ns : List Node) → Goes (gated false g p cur st ns) → gated true g p cur st ns ≡ gated false g p cur st ns
same-gated false p cur st ns h = absurd (h UnexpectedProperty refl)
same-gated true p cur st [] h = absurd (h UnexpectedProperty refl)
same-gated true p cur st (n ∷ ns) h = refl

same_walks : (base : ℕ) (w : Walk) (t : Tok) → Goes (walks false base w t) → walks true base w t ≡ walks false base w t
same_walks base (walk cur st g ns) (start o) h = same-opens cur st ns h
same_walks base (walk cur st g ns) (end o) h = same-closes cur st ns h
same_walks base (walk cur st g ns) (node o) h = refl
same_walks base (walk cur st g ns) (prop p e) h = same-gated g p cur st ns h
same_walks base (halted ns) t h = refl
same_walks base (stopped r) t h = refl

same-walk : (base : ℕ) (w : Walk) (ts : List Tok) → Goes (walked false base w ts) → walked true base w ts ≡ walked false base w ts
same-walk base w [] h = refl
same-walk base w (t ∷ ts) h =
    ap (λ (z : Walk). walked true base z ts) (same_walks base w t (λ r e. h r (ap (λ (z : Walk). walked false base z ts) e ∙ stopped-stays false base r ts)))
    ∙ same-walk base (walks false base w t) ts h

-- ---- all trees

grown-never : {A : Type 0} {r : Reason} {n : ℕ} {us : List Tree} → no_trees r ≡ trees_so_far n us → A
grown-never e = never cc

same-rooted : (base k : ℕ) (ns : List Node) (ts : List Tree) (n : ℕ) (us : List Tree) → tree_of_nodes false base k ns ts ≡ trees_so_far n us → tree_of_nodes true base k ns ts ≡ trees_so_far n us
same-rooted base k [] ts n us e = grown-never e
same-rooted base k (m ∷ ns) ts n us e = e

same-grown : (base k : ℕ) (w : Walk) (ts : List Tree) (n : ℕ) (us : List Tree) → tree_of_walk false base k w ts ≡ trees_so_far n us → tree_of_walk true base k w ts ≡ trees_so_far n us
same-grown base k (walk cur st g ns) ts n us e = same-rooted base k ns ts n us e
same-grown base k (halted ns) ts n us e = same-rooted base k ns ts n us e
same-grown base k (stopped r) ts n us e = grown-never e

same-kinded : (base : ℕ) (x : Game) (s : List Tok) (ts : List Tree) (n : ℕ) (us : List Tree) → tree_of_game false base x s ts ≡ trees_so_far n us → tree_of_game true base x s ts ≡ trees_so_far n us
same-kinded base (is k) s ts n us e =
    ap (λ (w : Walk). tree_of_walk true base k w ts)
    (same-walk base (walk none [] false []) s (λ r q. grown-never (sym (ap (λ (w : Walk). tree_of_walk false base k w ts) q) ∙ e)))
    ∙ same-grown base k (walked false base (walk none [] false []) s) ts n us e
same-kinded base (no_game r) s ts n us e = grown-never e

same-grow : (x : Trees) (ss : List (List Tok)) (n : ℕ) (us : List Tree) → parse_gametrees false x ss ≡ trees_so_far n us → parse_gametrees true x ss ≡ trees_so_far n us
same-grow x [] n us e = e
same-grow (trees_so_far base ts) (s ∷ ss) n us e = go (tree_of_game false base (find_gametype s) s ts) refl e (λ m vs h. same-grow (trees_so_far m vs) ss n us h)
  where
    go : (y : Trees) → tree_of_game false base (find_gametype s) s ts ≡ y → parse_gametrees false y ss ≡ trees_so_far n us
        → ((m : ℕ) (vs : List Tree) → parse_gametrees false (trees_so_far m vs) ss ≡ trees_so_far n us → parse_gametrees true (trees_so_far m vs) ss ≡ trees_so_far n us)
        → parse_gametrees true (tree_of_game true base (find_gametype s) s ts) ss ≡ trees_so_far n us
    go (trees_so_far m vs) q h rest = ap (λ (z : Trees). parse_gametrees true z ss) (same-kinded base (find_gametype s) s ts m vs q) ∙ rest m vs h
    go (no_trees r) q h rest = grown-never (sym (failing-stays false r ss) ∙ h)
same-grow (no_trees r) (s ∷ ss) n us e = grown-never (sym (failing-stays false r (s ∷ ss)) ∙ e)

-- ---- the whole

same-planted : (x : Slices) (ts : List Tree) → parse_slices false x ≡ accepted ts → parse_slices true x ≡ accepted ts
same-planted (no r) ts e = not-both r 0 ts e
same-planted (slices ss) ts e = go (parse_gametrees false (trees_so_far 0 []) ss) refl e
  where
    go : (y : Trees) → parse_gametrees false (trees_so_far 0 []) ss ≡ y → answer y ≡ accepted ts → answer (parse_gametrees true (trees_so_far 0 []) ss) ≡ accepted ts
    go (trees_so_far n us) q h = ap answer (same-grow (trees_so_far 0 []) ss n us q) ∙ h
    go (no_trees r) q h = not-both r 0 ts h

same-parsed : (l : List Tok) (ts : List Tree) → parsed false l ≡ accepted ts → parsed true l ≡ accepted ts
same-parsed l ts e = go (split_by_gametree false l) refl e
  where
    go : (x : Slices) → split_by_gametree false l ≡ x → parse_slices false x ≡ accepted ts → parse_slices true (split_by_gametree true l) ≡ accepted ts
    go (no r) q h = not-both r 0 ts h
    go (slices ss) q h = ap (parse_slices true) (same-slices l ss q) ∙ same-planted (slices ss) ts h

same-lexing : (e : End) (l : List Tok) (ts : List Tree) → lexing false e l ≡ accepted ts → lexing true e l ≡ accepted ts
same-lexing done l ts h = same-parsed l ts h
same-lexing (broken f s) l ts h = not-both (reason_of f) s ts h

same-decoded : (u : Utf) (t : List ℕ) (ts : List Tree) → parse_utf8 false u t ≡ accepted ts → parse_utf8 true u t ≡ accepted ts
same-decoded (whole k) t ts h = same-lexing (tokenize k t).end (tokenize k t).toks ts h
same-decoded (part k s n r c) t ts h = not-both NotUtf8 s ts h
same-decoded (bad p) t ts h = not-both NotUtf8 p ts h

-- a lenient reading never disagrees with a strict one that is accepted
pub lenient-accepts-more : (t : List ℕ) (ts : List Tree) → read_strict t ≡ accepted ts → read_lenient t ≡ accepted ts
lenient-accepts-more t ts = go (ltb text_limit (length t))
  where
    go : (b : Bool) → pick b (refused TextTooLong 0) (parse_utf8 false (utfs (whole blank) 0 t) t) ≡ accepted ts → pick b (refused TextTooLong 0) (parse_utf8 true (utfs (whole blank) 0 t) t) ≡ accepted ts
    go true h = not-both TextTooLong 0 ts h
    go false h = same-decoded (utfs (whole blank) 0 t) t ts h
