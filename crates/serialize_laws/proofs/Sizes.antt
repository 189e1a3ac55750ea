-- How many tokens, slices' tokens and nodes a text can have. Assumes nothing.
use Rattle.lists.proofs.Prelude.{◌≡◌, ℕ, zero, suc, ◌+◌, ◌≤◌, arith, Bool, true, false, List, [], ◌∷◌, reverse, reverse_aux, ltb, eqb, length, length-append, length-reverse, pick}
use Rattle.lexer.specs.Token.{Out, Prop, St, Tok, after, afters, begins, between, emits, end, state_after, fault, finish, ident, lex_from, node, prop, start, step, value}
use Rattle.lexer_scan.specs.Scan.{space}
use Rattle.parser.specs.Split.{Slices, Splitting, ended, filled, no, over, sliced, slices, split, splits, splitting, wrong}
use Rattle.parser.specs.Walk.{Walk, adds, children, closes, gated, halted, opens, stopped, walk, walked, walks}
use Rattle.tables.specs.Numbers.{depth_limit}
use Rattle.tables.specs.Record.{Node}
use Rattle.tables.specs.declared.Reason.TheVariants.{TooDeep, UnexpectedGameTreeStart}

few-begins : (c1 c2 c3 c4 : Bool) (o b : ℕ) → length (begins c1 c2 c3 c4 o b).toks ≤ 1
few-begins true c2 c3 c4 o b = omega arith
few-begins false true c3 c4 o b = omega arith
few-begins false false true c4 o b = omega arith
few-begins false false false true o b = omega arith
few-begins false false false false o b = omega arith

few-afters : (c1 c2 : Bool) (p : Prop) (t : Out) (o : ℕ) → length t.toks ≤ 1 → length (afters c1 c2 p t o).toks ≤ 2
few-afters true c2 p t o h = omega arith
few-afters false true p t o h = omega arith
few-afters false false p t o h = omega arith

few-step : (st : St) (o b : ℕ) → length (step st o b).toks ≤ 2
few-step between o b = let h = few-begins (eqb b 0x28) (eqb b 0x29) (eqb b 0x3b) (space b) o b in omega arith
few-step (ident s w) o b = omega arith
few-step (value s i w vs esc v r) o b = omega arith
few-step (after p) o b = few-afters (space b) (eqb b 0x5b) p (step between o b) o (few-begins (eqb b 0x28) (eqb b 0x29) (eqb b 0x3b) (space b) o b)
few-step (fault n s) o b = omega arith

few-emits : (st : St) (o : ℕ) (bs : List ℕ) → length (emits st o bs) ≤ length bs + length bs
few-emits st o [] = omega arith
few-emits st o (b ∷ bs) =
    omega (arith, few-step st o b, few-emits (step st o b).next (suc o) bs, length-append (step st o b).toks (emits (step st o b).next (suc o) bs))

few-finish : (st : St) (l : ℕ) → length (finish st l).toks ≤ 1
few-finish between l = omega arith
few-finish (ident s w) l = omega arith
few-finish (value s i w vs esc v r) l = omega arith
few-finish (after p) l = omega arith
few-finish (fault n s) l = omega arith

pub few-tokens : (f0 l : ℕ) (bs : List ℕ) → length (lex_from f0 l bs).toks ≤ length bs + length bs + 1
few-tokens f0 l bs =
    omega (arith, few-emits between f0 bs, few-finish (state_after between f0 bs) l, length-append (emits between f0 bs) (finish (state_after between f0 bs) l).toks)

-- ---- slices

abbrev pub total : List (List Tok) → ℕ
total [] = 0
total (s ∷ ss) = length s + total ss

total-reverse : (xs ys : List (List Tok)) → total (reverse_aux xs ys) ≡ total xs + total ys
total-reverse [] ys = omega arith
total-reverse (x ∷ xs) ys = let h = total-reverse xs (x ∷ ys) in omega arith

abbrev weight : Splitting → ℕ
weight (splitting d m cur ss) = total ss + length cur
weight (over m ss) = total ss
weight (wrong n) = 0

weight-ended : (d m : ℕ) (t : Tok) (cur : List Tok) (ss : List (List Tok)) → weight (ended false d m t cur ss) ≤ suc (total ss + length cur)
weight-ended zero m t cur ss = omega arith
weight-ended (suc zero) m t cur ss = omega (arith, length-reverse (t ∷ cur))
weight-ended (suc (suc d)) m t cur ss = omega arith

weight-splits : (s : Splitting) (t : Tok) → weight (splits false s t) ≤ suc (weight s)
weight-splits (splitting d m cur ss) (start o) = omega arith
weight-splits (splitting d m cur ss) (end o) = weight-ended d m (end o) cur ss
weight-splits (splitting d m cur ss) (node o) = omega arith
weight-splits (splitting d m cur ss) (prop p e) = omega arith
weight-splits (over m ss) t = omega arith
weight-splits (wrong n) t = omega arith

weight-split : (s : Splitting) (ts : List Tok) → weight (split false s ts) ≤ weight s + length ts
weight-split s [] = omega arith
weight-split s (t ∷ ts) = let a = weight-splits s t in let b = weight-split (splits false s t) ts in omega arith

abbrev pub Within : ℕ → Slices → Type 0
Within n (no k) = Unit {0}
Within n (slices ss) = total ss ≤ n

within-deep : (b : Bool) (n : ℕ) (ss : List (List Tok)) → total ss ≤ n → Within n (pick b (no TooDeep) (slices ss))
within-deep true n ss h = tt
within-deep false n ss h = h

within-filled : (m n : ℕ) (ss : List (List Tok)) → total ss ≤ n → Within n (filled false m ss)
within-filled m n [] h = tt
within-filled m n (s ∷ ss) h = within-deep (ltb depth_limit m) n (reverse (s ∷ ss)) (omega (arith, total-reverse (s ∷ ss) []))

within-sliced : (n : ℕ) (s : Splitting) → weight s ≤ n → Within n (sliced false s)
within-sliced n (splitting zero m cur ss) h = within-filled m n ss (omega arith)
within-sliced n (splitting (suc d) m cur ss) h = tt
within-sliced n (over m ss) h = within-filled m n ss h
within-sliced n (wrong k) h = tt

pub few-slices : (ts : List Tok) → Within (length ts) (sliced false (split false (splitting 0 0 [] []) ts))
few-slices ts = within-sliced (length ts) (split false (splitting 0 0 [] []) ts) (let h = weight-split (splitting 0 0 [] []) ts in omega arith)

-- ---- nodes

abbrev pub AtMost : ℕ → Walk → Type 0
AtMost n (walk cur st g ds) = length ds ≤ n
AtMost n (halted ns) = length ns ≤ n
AtMost n (stopped k) = Unit {0}

module _ (base : ℕ) where
  most-opens : (n cur : ℕ) (st : List ℕ) (ds : List Node) → length ds ≤ n → AtMost n (opens false cur st ds)
  most-opens n cur [] ds h = h
  most-opens n cur (p ∷ st) ds h = go (children p ds)
    where
      go : (b : Bool) → AtMost n (pick b (walk cur (cur ∷ p ∷ st) false ds) (stopped UnexpectedGameTreeStart))
      go true = h
      go false = tt

  most-closes : (n cur : ℕ) (st : List ℕ) (ds : List Node) → length ds ≤ n → AtMost n (closes false cur st ds)
  most-closes n cur [] ds h = tt
  most-closes n cur (p ∷ st) ds h = h

  most-adds : (n : ℕ) (p : Prop) (cur : ℕ) (st : List ℕ) (ds : List Node) → length ds ≤ n → AtMost n (adds false p cur st ds)
  most-adds n p cur st [] h = tt
  most-adds n p cur st (d ∷ ds) h = h

  most-gated : (n : ℕ) (g : Bool) (p : Prop) (cur : ℕ) (st : List ℕ) (ds : List Node) → length ds ≤ n → AtMost n (gated false g p cur st ds)
  most-gated n false p cur st ds h = tt
  most-gated n true p cur st ds h = most-adds n p cur st ds h

  most-walks : (n : ℕ) (w : Walk) (t : Tok) → AtMost n w → AtMost (suc n) (walks false base w t)
  most-walks n (walk cur st g ds) (start o) h = most-opens (suc n) cur st ds (omega arith)
  most-walks n (walk cur st g ds) (end o) h = most-closes (suc n) cur st ds (omega arith)
  most-walks n (walk cur st g ds) (node o) h = omega arith
  most-walks n (walk cur st g ds) (prop p e) h = most-gated (suc n) g p cur st ds (omega arith)
  most-walks n (halted ns) t h = omega arith
  most-walks n (stopped k) t h = tt

  at-most-up : (n m : ℕ) (w : Walk) → n ≤ m → AtMost n w → AtMost m w
  at-most-up n m (walk cur st g ds) l h = omega arith
  at-most-up n m (halted ns) l h = omega arith
  at-most-up n m (stopped k) l h = tt

  pub most-walked : (n : ℕ) (w : Walk) (ts : List Tok) → AtMost n w → AtMost (n + length ts) (walked false base w ts)
  most-walked n w [] h = at-most-up n (n + 0) w (omega arith) h
  most-walked n w (t ∷ ts) h =
      at-most-up (suc n + length ts) (n + suc (length ts)) (walked false base (walks false base w t) ts) (omega arith)
      (most-walked (suc n) (walks false base w t) ts (most-walks n w t h))
