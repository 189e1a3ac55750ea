-- A text is refused exactly where something is to blame, and by the number of the fact, strict and lenient. Assumes nothing.
use Rattle.lists.proofs.Prelude.{ℕ, zero, suc, ◌≡◌, refl, subst⁻¹, Bool, true, false, List, [], ◌∷◌, reverse, length, take, ltb, ltb-true, ltb-false, pick}
use Rattle.lists.proofs.Pick.{pick-elim}
use Rattle.text_utf8.specs.Trim.{trimmed}
use Rattle.text_utf8.specs.declared.Trimmed.{Trimmed}
use Rattle.text_utf8.specs.declared.Trimmed.TheVariants.{NotUtf8, Blank, Kept}
use Rattle.text_utf8.proofs.Extent.{trim-bounds}
use Rattle.lexer.specs.Token.{Tok, start, end, node, prop, End, done, broken, Lexed, lex_at}
use Rattle.lexer.specs.declared.Fault.{Fault}
use Rattle.lexer.specs.declared.Fault.TheVariants.{MissingPropertyIdentifier, UnexpectedEndOfPropertyIdentifier, UnexpectedEndOfPropertyValue}
use Rattle.tables.specs.Numbers.{text_limit, depth_limit, none, reason_of}
use Rattle.tables.specs.Record.{Tree}
use Rattle.tables.specs.declared.Reason.TheVariants.{UnexpectedGameTreeEnd, TooDeep as too_deep}
use Rattle.parser.specs.Split.{Splitting, splitting, over, wrong, split, splits, ended, no, slices, deep, filled, sliced, split_by_gametree}
use Rattle.parser.specs.Game.{Game, is, no_game, find_gametype}
use Rattle.parser.specs.Walk.{Walk, walk, halted, stopped, walked}
use Rattle.parser.specs.Read.{Answer, Trees, trees_so_far, no_trees, tree_of_walk, tree_of_game, parse_gametrees, answer, parse_slices, parsed, lexing, read}
use Rattle.parser.proofs.Texts.{lex-prefix, text-long, on_trimmed, text-trimmed}
use Rattle.parser_tree.proofs.Bounded.{Mild, mild-walked}
use Rattle.why_blame.specs.Cuts.{fault_fact, deep_at, loose, cut_deep, cut_slices, cutting, cut_tokens}
use Rattle.why_blame.specs.Numbered.{fact_reason}
use Rattle.why_blame.specs.declared.Fact.TheVariants.{TooDeep, Length}
use Rattle.why.specs.Trees.{slices_blame}
use Rattle.why.specs.Why.{accepted_slices, cut_blame, tokens_blame, trim_blame, text_blame}
use Rattle.why.proofs.Trees.{Agree, slices-agree}
use Rattle.std.specs.Prelude.{Option, Some, None, Result, Ok, Err}
use Rattle.tables.specs.Refusals.{refusal}
use Rattle.why_blame.specs.declared.Fact.{Fact}
use Rattle.tables.specs.declared.Refusal.{Refusal}

-- ---- lenient trees are never refused

abbrev Grown : Trees → Type 0
Grown (trees_so_far n ts) = Unit {0}
Grown (no_trees r) = ⊥

grown-walk : (base k : ℕ) (w : Walk) (ts : List Tree) → Mild w → Grown (tree_of_walk true base k w ts)
grown-walk base k (walk c st g []) ts h = tt
grown-walk base k (walk c st g (n ∷ ns)) ts h = tt
grown-walk base k (halted []) ts h = tt
grown-walk base k (halted (n ∷ ns)) ts h = tt
grown-walk base k (stopped r) ts h = absurd h

grown-game : (base : ℕ) (g : Game) (s : List Tok) (ts : List Tree) → Grown (tree_of_game true base g s ts)
grown-game base (is k) s ts = grown-walk base k (walked true base (walk none [] false []) s) ts (mild-walked base s (walk none [] false []) tt)
grown-game base (no_game r) s ts = grown-walk base 0 (walked true base (walk none [] false []) s) ts (mild-walked base s (walk none [] false []) tt)

grown-all : (x : Trees) (us : List (List Tok)) → Grown x → Grown (parse_gametrees true x us)
grown-all x [] h = h
grown-all (trees_so_far n ts) (s ∷ us) h = grown-all (tree_of_game true n (find_gametype s) s ts) us (grown-game n (find_gametype s) s ts)
grown-all (no_trees r) (s ∷ us) h = absurd h

grown-agrees : (x : Trees) → Grown x → Agree (answer x) None
grown-agrees (trees_so_far n ts) h = tt
grown-agrees (no_trees r) h = absurd h

-- ---- splitting

-- by the slices that are accepted
abbrev blame_by : Bool → List (List Tok) → Result (ℕ × ℕ) (Refusal Fact) → Option (Refusal Fact)
blame_by len us (Err e) = Some (refusal e.reason e.place)
blame_by true us (Ok (k, q)) = None
blame_by false us (Ok (k, q)) = slices_blame 0 0 us

cut-strict : (ts : List Tok) (c : Result (ℕ × ℕ) (Refusal Fact)) → cut_blame false ts c ≡ blame_by false (accepted_slices (split_by_gametree false ts)) c
cut-strict ts (Err e) = refl
cut-strict ts (Ok (k, q)) = refl

cut-lenient : (ts : List Tok) (us : List (List Tok)) (c : Result (ℕ × ℕ) (Refusal Fact)) → cut_blame true ts c ≡ blame_by true us c
cut-lenient ts us (Err e) = refl
cut-lenient ts us (Ok (k, q)) = refl

deep-agrees : (len : Bool) (n : ℕ) (l : Lexed) (m : ℕ) (us : List (List Tok)) → Agree (parse_slices len (deep m us)) (blame_by len (accepted_slices (deep m us)) (cut_deep len n l m us))
deep-agrees len n l m us = go len (ltb depth_limit m)
  where
    go : (b c : Bool) → Agree (parse_slices b (pick c (no too_deep) (slices us))) (blame_by b (accepted_slices (pick c (no too_deep) (slices us))) (pick c (Err (refusal TooDeep (deep_at len l.toks))) (Ok (length us, loose n us l))))
    go b true = refl
    go true false = grown-agrees (parse_gametrees true (trees_so_far 0 []) us) (grown-all (trees_so_far 0 []) us tt)
    go false false = slices-agree 0 0 [] us

filled-agrees : (len : Bool) (n : ℕ) (l : Lexed) (m : ℕ) (ss : List (List Tok)) → Agree (parse_slices len (filled len m ss)) (blame_by len (accepted_slices (filled len m ss)) (cut_slices len n l m ss))
filled-agrees true n l m [] = tt
filled-agrees false n l m [] = refl
filled-agrees len n l m (s ∷ ss) = deep-agrees len n l m (reverse (s ∷ ss))

-- a refusal of splitting is 6
abbrev Six : Splitting → Type 0
Six (splitting d m cur ss) = Unit {0}
Six (over m ss) = Unit {0}
Six (wrong r) = UnexpectedGameTreeEnd ≡ r

split-agrees : (len : Bool) (n : ℕ) (l : Lexed) (x : Splitting) → Six x → Agree (parse_slices len (sliced len x)) (blame_by len (accepted_slices (sliced len x)) (cutting len n l x))
split-agrees len n l (splitting zero m cur ss) h = filled-agrees len n l m ss
split-agrees true n l (splitting (suc d) m cur ss) h = deep-agrees true n l m (reverse (reverse cur ∷ ss))
split-agrees false n l (splitting (suc d) m cur ss) h = refl
split-agrees len n l (over m ss) h = filled-agrees len n l m ss
split-agrees len n l (wrong r) h = h

six-ended : (len : Bool) (d m : ℕ) (t : Tok) (cur : List Tok) (ss : List (List Tok)) → Six (ended len d m t cur ss)
six-ended len zero m t cur ss = pick-elim Six len (λ _. tt) (λ _. refl)
six-ended len (suc zero) m t cur ss = tt
six-ended len (suc (suc d)) m t cur ss = tt

six-split : (len : Bool) (x : Splitting) (ts : List Tok) → Six x → Six (split len x ts)
six-split len x [] h = h
six-split len (splitting d m cur ss) (start o ∷ ts) h = six-split len (splits len (splitting d m cur ss) (start o)) ts tt
six-split len (splitting d m cur ss) (end o ∷ ts) h = six-split len (ended len d m (end o) cur ss) ts (six-ended len d m (end o) cur ss)
six-split len (splitting d m cur ss) (node o ∷ ts) h = six-split len (splits len (splitting d m cur ss) (node o)) ts tt
six-split len (splitting d m cur ss) (prop p e ∷ ts) h = six-split len (splits len (splitting d m cur ss) (prop p e)) ts tt
six-split len (over m ss) (t ∷ ts) h = six-split len (over m ss) ts tt
six-split len (wrong r) (t ∷ ts) h = six-split len (wrong r) ts h

-- ---- the tokens

fault-agrees : (u : List ℕ) (f : Fault) (s : ℕ) → fact_reason (fault_fact u f s) ≡ reason_of f
fault-agrees u MissingPropertyIdentifier s = refl
fault-agrees u UnexpectedEndOfPropertyIdentifier s = refl
fault-agrees u UnexpectedEndOfPropertyValue s = refl

module _ (n : ℕ) (u : List ℕ) (l : Lexed) where
  abbrev X : Bool → Splitting
  X len = split len (splitting 0 0 [] []) l.toks

  all-agrees : (len : Bool) → Agree (parsed len l.toks) (blame_by len (accepted_slices (split_by_gametree len l.toks)) (cut_tokens len n l))
  all-agrees len = split-agrees len n l (X len) (six-split len (splitting 0 0 [] []) l.toks tt)

  tokens-agree : (len : Bool) (e : End) → Agree (lexing len e l.toks) (tokens_blame len n u l e)
  tokens-agree true e = subst⁻¹ (Agree (parsed true l.toks)) (cut-lenient l.toks (accepted_slices (split_by_gametree true l.toks)) (cut_tokens true n l)) (all-agrees true)
  tokens-agree false done = subst⁻¹ (Agree (parsed false l.toks)) (cut-strict l.toks (cut_tokens false n l)) (all-agrees false)
  tokens-agree false (broken f s) = fault-agrees u f s

-- ---- the text

blank-agrees : (len : Bool) (t : List ℕ) → Agree (lexing len done []) (trim_blame len t Blank)
unfolding lex_at
blank-agrees len t = tokens-agree (length t) [] (lex_at [] 0) len (lex_at [] 0).end

module _ (len : Bool) (t : List ℕ) where
  trim-agrees : (x : Trimmed) → trimmed t ≡ x → Agree (on_trimmed len t x) (trim_blame len t x)
  trim-agrees (NotUtf8 p) e = refl
  trim-agrees Blank e = blank-agrees len t
  trim-agrees (Kept f l) e =
      subst⁻¹ (λ (z : Lexed). Agree (lexing len z.end z.toks) (trim_blame len t (Kept f l))) (lex-prefix t f l (trim-bounds t f l e).1)
      (tokens-agree (length t) (take l t) (lex_at (take l t) f) len (lex_at (take l t) f).end)

  -- a refused text has something to blame
  pub text-agrees : Agree (read len t) (text_blame len t)
  text-agrees = go (ltb text_limit (length t)) refl
    where
      go : (b : Bool) → ltb text_limit (length t) ≡ b → Agree (read len t) (pick b (Some (refusal (Length (length t)) 0)) (trim_blame len t (trimmed t)))
      go true e = subst⁻¹ (λ (a : Answer). Agree a (Some (refusal (Length (length t)) 0))) (text-long len t (ltb-true text_limit (length t) e)) refl
      go false e = subst⁻¹ (λ (a : Answer). Agree a (trim_blame len t (trimmed t))) (text-trimmed len t (ltb-false text_limit (length t) e)) (trim-agrees (trimmed t) refl)
