-- What the scope's words say of a slice is what is blamed of it. Assumes nothing.
use Rattle.lists.proofs.Prelude.{ℕ, ◌+◌, ◌-◌, ◌^◌, ◌≡◌, refl, sym, ap, ◌∙◌, subst, Bool, true, false, false≢true, inl, inr, List, [], ◌∷◌, ◌++◌, arith, length, pick}
use Rattle.lists.proofs.Tests.{never}
use Rattle.lists.specs.Same.{same}
use Rattle.values.specs.Read.{read_value}
use Rattle.values.specs.Decimal.{decimal_of}
use Rattle.lexer.specs.Token.{Val, Prop, Tok, start, prop, done}
use Rattle.tables.specs.Record.{Node, Tree}
use Rattle.tables.specs.declared.Reason.{Reason}
use Rattle.tables.specs.declared.Reason.TheVariants.{UnexpectedEndOfData, UnexpectedGameTreeStart, UnexpectedProperty, InvalidGameType}
use Rattle.parser.specs.Game.{is, no_game, is_i32, game_vals, game_props, find_gametype}
use Rattle.parser.specs.Walk.{Walk, walk, stopped, walks, walked}
use Rattle.parser.specs.Read.{trees_so_far, no_trees, parse_gametree}
use Rattle.parser.specs.Balance.{Covered}
use Rattle.reader_exactly.specs.When.{games}
use Rattle.reader_exactly.proofs.Walking.{WalkWhy, walked-why}
use Rattle.reader_exactly.proofs.Growths.{starts-fails, unexpected-fails, wrong-fails, nodeless-fails}
use Rattle.why_blame.specs.Blame.{found, blame, is_stopped}
use Rattle.why_blame.specs.Cuts.{first_place}
use Rattle.why_blame.specs.Games.{values_blame, game_blame}
use Rattle.why_blame.specs.declared.Fact.{Fact}
use Rattle.why_blame.specs.declared.Fact.TheVariants.{Length, BadSequence, NoBracket, Foreign, NotClosed, EndBeyond, StaysOpen, NoNode, NoEnd, TooDeep, EmptyList, SecondGm, Stray, GmValues, GmNumber}
use Rattle.why_blame.proofs.Found.{walk-folds}
use Rattle.why.specs.Trees.{or_blame, stop_blame, tree_blame, nodes_of, nodes_in, empty_blame, slice_blame}
use Rattle.why_says.specs.Says.{NodelessAt, EmptyListAt, StrayAt, SecondAt, ValuesAt, NumberAt}
use Rattle.why_says.proofs.Along.{found_at, found_nowhere, on-back}
use Rattle.why_says.proofs.Counts.{HasToken}
use Rattle.why_says.proofs.CutsBack.{head-place}
use Rattle.why_says.proofs.Slices.{new, SliceSays, Out, slice_out}
use Rattle.std.specs.Prelude.{Option, Some, None}
use Rattle.tables.specs.Refusals.{refusal}
use Rattle.tables.specs.declared.Refusal.{Refusal}

abbrev valid : Val → Bool
valid v = is_i32 (decimal_of (2 ^ 31 - 1) (read_value v.raw))

module _ (n base : ℕ) (s : List Tok) where
  -- ---- the game type

  abbrev after : Option (Refusal Fact)
  after = or_blame (tree_blame base s) (empty_blame n (nodes_in base s) s)

  typed_no : (ps : List Prop) (k : ℕ) → game_props ps ≡ is k → game_blame n ps ≡ None
  typed_no [] k e = refl
  typed_no (p ∷ []) k e = ap (values_blame p.from p.vals) e
  typed_no (p ∷ q ∷ ps) k e = never cc

  pub second-blamed : {p : ℕ} → SecondAt p base s → slice_blame n base s ≡ Some (refusal (SecondGm n) p)
  second-blamed (a, b, more, e, q) = ap (λ (z : List Prop). or_blame (game_blame n z) after) e ∙ ap (λ (z : ℕ). Some (refusal (SecondGm n) z)) (sym q)

  vals-blamed : (at k : ℕ) (vs : List Val) → k ≡ length vs → (k ≡ 1 → ⊥) → values_blame at vs (game_vals vs) ≡ Some (refusal (GmValues k) at)
  vals-blamed at k [] e h = ap (λ (z : ℕ). Some (refusal (GmValues z) at)) (sym e)
  vals-blamed at k (v ∷ []) e h = absurd (h e)
  vals-blamed at k (v ∷ u ∷ vs) e h = ap (λ (z : ℕ). Some (refusal (GmValues z) at)) (sym e)

  pub values-blamed : {k p : ℕ} → ValuesAt k p base s → slice_blame n base s ≡ Some (refusal (GmValues k) p)
  values-blamed {k} (a, e, c, h, q) =
      ap (λ (z : List Prop). or_blame (game_blame n z) after) e
      ∙ ap (λ (z : Option (Refusal Fact)). or_blame z after) (vals-blamed a.from k a.vals c h) ∙ ap (λ (z : ℕ). Some (refusal (GmValues k) z)) (sym q)

  pub number-blamed : {p : ℕ} → NumberAt p base s → slice_blame n base s ≡ Some (refusal GmNumber p)
  number-blamed (a, v, e, f, h, q) =
      ap (λ (z : List Prop). or_blame (game_blame n z) after) e
      ∙ ap (λ (z : List Val). or_blame (values_blame a.from z (game_vals z)) after) f
      ∙ ap (λ (b : Bool). or_blame (values_blame a.from (v ∷ []) (pick b (is (pick (same (read_value v.raw) (0x31 ∷ [])) 0 1)) (no_game InvalidGameType))) after) h
      ∙ ap (λ (z : ℕ). Some (refusal GmNumber z)) (sym q)

  -- ---- the tree

  module _ (k : ℕ) (typed : find_gametype s ≡ is k) where
    game-no : slice_blame n base s ≡ after
    game-no = ap (λ (z : Option (Refusal Fact)). or_blame z after) (typed_no (games s) k typed)

    stop-at : (front : List Tok) (t : Tok) (behind : List Tok) (w : Walk) → s ≡ front ++ (t ∷ behind) → walked false base new front ≡ w → is_stopped w ≡ false → is_stopped (walks false base w t) ≡ true
        → tree_blame base s ≡ stop_blame (found w front t)
    stop-at front t behind w e q f h =
        let z = walk-folds false base is_stopped new front ∙ q in
        ap (λ (u : List Tok). stop_blame (blame (walks false base) is_stopped new [] u)) e
        ∙ ap stop_blame (found_at (walks false base) is_stopped (λ (x : Walk). is_stopped x ≡ false) (on-back base) (λ _ x. x) new front t behind (ap is_stopped z ∙ f)
        (ap (λ (x : Walk). is_stopped (walks false base x t)) z ∙ h))
        ∙ ap (λ (x : Walk). stop_blame (found x front t)) z

  pub empty-blamed : {q p : ℕ} → EmptyListAt q p base s → slice_blame n base s ≡ Some (refusal (EmptyList q) p)
  empty-blamed {q} {p} (front, cur, st, g, ns, x, c) =
      game-no x.type x.typed
      ∙ ap (λ (z : Option (Refusal Fact)). or_blame z (empty_blame n (nodes_in base s) s))
      (stop-at x.type x.typed front (start p) x.rest (walk cur (q ∷ st) g ns) x.are x.walked_to refl
      (ap (λ (b : Bool). is_stopped (pick b (walk cur (cur ∷ q ∷ st) false ns) (stopped UnexpectedGameTreeStart))) c))

  pub stray-blamed : {p : ℕ} → StrayAt p base s → slice_blame n base s ≡ Some (refusal Stray p)
  stray-blamed {p} (front, a, e, cur, st, ns, x, q) =
      game-no x.type x.typed
      ∙ ap (λ (z : Option (Refusal Fact)). or_blame z (empty_blame n (nodes_in base s) s))
      (stop-at x.type x.typed front (prop a e) x.rest (walk cur st false ns) x.are x.walked_to refl refl)
      ∙ ap (λ (z : ℕ). Some (refusal Stray z)) (sym q)

  pub nodeless-blamed : {p : ℕ} → Covered 0 s → NodelessAt p base s → slice_blame n base s ≡ Some (refusal (NoNode n) p)
  nodeless-blamed {p} cv (x, h) =
      game-no x.type x.typed
      ∙ ap (λ (z : Option (Refusal Fact)). or_blame z (empty_blame n (nodes_in base s) s)) no_stop
      ∙ ap (λ (w : Walk). empty_blame n (length (nodes_of w)) s) x.ends_so
      ∙ none x.made (subst (WalkWhy base s x.type x.typed) x.ends_so (walked-why base s x.type x.typed cv) ∙ x.none_in)
      ∙ ap (λ (z : ℕ). Some (refusal (NoNode n) z)) (sym (head-place s h))
    where
      no_stop : tree_blame base s ≡ None
      no_stop =
          ap stop_blame (found_nowhere (walks false base) is_stopped (λ (w : Walk). is_stopped w ≡ false) (on-back base) (λ _ h. h) new s
          (ap is_stopped (walk-folds false base is_stopped new s ∙ x.ends_so)))

      none : (ns : List Node) → length ns ≡ 0 → empty_blame n (length ns) s ≡ Some (refusal (NoNode n) (first_place 0 s done))
      none [] e = refl
      none (m ∷ ns) e = absurd (omega arith)

  -- ---- a slice that is said to be refused is, so one that is a tree is not blamed

  pub says-fails : Covered 0 s → (f : Fact) (p : ℕ) → SliceSays n base s (Some (refusal f p)) → (ts : List Tree)
      → (r : Reason) × (parse_gametree false (trees_so_far base ts) s ≡ no_trees r)
  says-fails cv (Length k) p x ts = absurd x
  says-fails cv BadSequence p x ts = absurd x
  says-fails cv (NoBracket e) p x ts = absurd x
  says-fails cv (Foreign e) p x ts = absurd x
  says-fails cv (NotClosed e) p x ts = absurd x
  says-fails cv EndBeyond p x ts = absurd x
  says-fails cv (StaysOpen d) p x ts = absurd x
  says-fails cv (NoNode k) p (e, (y, h)) ts = (UnexpectedEndOfData, nodeless-fails base s cv y ts)
  says-fails cv NoEnd p x ts = absurd x
  says-fails cv TooDeep p x ts = absurd x
  says-fails cv (EmptyList q) p (front, cur, st, g, ns, x, c) ts = (UnexpectedGameTreeStart, starts-fails base s (front, p, cur, q, st, g, ns, x, c) ts)
  says-fails cv (SecondGm k) p (w, (a, b, more, e, q)) ts = (UnexpectedProperty, unexpected-fails base s (inl (let l = ap length e in omega (arith, l))) ts)
  says-fails cv Stray p (front, a, e, cur, st, ns, x, q) ts = (UnexpectedProperty, unexpected-fails base s (inr (front, a, e, cur, st, ns, x)) ts)
  says-fails cv (GmValues k) p (a, e, c, h, q) ts = (InvalidGameType, wrong-fails base s (a, e, λ x. h (c ∙ ap length x.1)) ts)
  says-fails cv GmNumber p (a, v, e, f, h, q) ts =
      (InvalidGameType, wrong-fails base s (a, e, λ x. let z : v ∷ [] ≡ x.0 ∷ [] = sym f ∙ x.1 in let y : v ≡ x.0 = cc in false≢true (sym h ∙ ap valid y ∙ x.2)) ts)

  pub tree-unblamed : Covered 0 s → HasToken s → (ts : List Tree) (m : ℕ) (us : List Tree)
      → parse_gametree false (trees_so_far base ts) s ≡ trees_so_far m us → (slice_blame n base s ≡ None) × (m ≡ base + nodes_in base s)
  tree-unblamed cv so ts m us e = go (slice_blame n base s) refl (slice_out n base s cv so ts)
    where
      go : (b : Option (Refusal Fact)) → slice_blame n base s ≡ b → Out n base s ts b → (slice_blame n base s ≡ None) × (m ≡ base + nodes_in base s)
      go None q x = let z : trees_so_far m us ≡ trees_so_far (base + nodes_in base s) x.0 = sym e ∙ x.1 in (q, cc)
      go (Some r) q x = let y = says-fails cv r.reason r.place x ts in let z : trees_so_far m us ≡ no_trees y.0 = sym e ∙ y.1 in never cc
