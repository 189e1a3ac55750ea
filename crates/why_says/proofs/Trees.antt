-- The first slice that is blamed is said to be so in the scope's words, and the slices before it are trees. Assumes nothing.
use Rattle.lists.proofs.Prelude.{ℕ, suc, ◌+◌, ◌≡◌, refl, sym, ap, ◌∙◌, subst, subst⁻¹, false, List, [], ◌∷◌, ◌++◌, append_assoc, arith, length, length-append}
use Rattle.lists.specs.All.{All}
use Rattle.lexer.specs.Token.{Tok}
use Rattle.tables.specs.Record.{Tree}
use Rattle.parser.specs.Split.{Slices, split_by_gametree}
use Rattle.parser.specs.Read.{Trees, trees_so_far, parse_gametree, parse_gametrees}
use Rattle.parser.specs.Balance.{Covered}
use Rattle.parser.proofs.Runs.{grow-append}
use Rattle.reader_exactly.specs.Slicing.{slices_from}
use Rattle.reader_exactly.specs.When.{tokens_of, Lexes, Splits, First}
use Rattle.reader_exactly.proofs.Cover.{uncovered-six, unclosed-seven, bare-eight}
use Rattle.reader_exactly.proofs.Firm.{slices-covered}
use Rattle.reader_exactly.proofs.Stages.{too-deep, not-deep, split-cases}
use Rattle.why_blame.specs.declared.Fact.{Fact}
use Rattle.why_blame.specs.declared.Fact.TheVariants.{Length, BadSequence, NoBracket, Foreign, NotClosed, EndBeyond, StaysOpen, NoNode, NoEnd, TooDeep, EmptyList, SecondGm, Stray, GmValues, GmNumber}
use Rattle.why.specs.Trees.{or_blame, nodes_in, slice_blame, slices_blame}
use Rattle.why.specs.Why.{accepted_slices}
use Rattle.why_says.proofs.Counts.{HasToken, slices-some}
use Rattle.why_says.proofs.Held.{Held}
use Rattle.why_says.proofs.Slices.{SliceSays, Out, slice_out}
use Rattle.std.specs.Prelude.{Option, Some, None}
use Rattle.tables.specs.Refusals.{refusal}
use Rattle.tables.specs.declared.Refusal.{Refusal}

module _ (t : List ℕ) where
  abbrev all : List (List Tok)
  all = slices_from 0 (tokens_of t).toks

  module _ (sp : Splits t) where
    module _ (before : List (List Tok)) (s : List Tok) (after : List (List Tok)) (e : all ≡ before ++ (s ∷ after)) (base : ℕ) (ts : List Tree)
        (h : parse_gametrees false (trees_so_far 0 []) before ≡ trees_so_far base ts) where
      first_of : (P : ℕ → List Tok → Type 0) → P base s → First P all
      first_of P x = record { before = before; slice = s; after = after; are = e; nodes = base; trees = ts; trees-are = h; holds = x }

      says_first : (f : Fact) (p : ℕ) → SliceSays (length before) base s (Some (refusal f p)) → Held false t (Some (refusal f p))
      unfolding first_of
      says_first (Length k) p x = absurd x
      says_first BadSequence p x = absurd x
      says_first (NoBracket k) p x = absurd x
      says_first (Foreign k) p x = absurd x
      says_first (NotClosed k) p x = absurd x
      says_first EndBeyond p x = absurd x
      says_first (StaysOpen d) p x = absurd x
      says_first (NoNode k) p x = ((first_of _ x.1, x.0), sp)
      says_first NoEnd p x = absurd x
      says_first TooDeep p x = absurd x
      says_first (EmptyList q) p x = (first_of _ x, sp)
      says_first (SecondGm k) p x = ((first_of _ x.1, x.0), sp)
      says_first Stray p x = (first_of _ x, sp)
      says_first (GmValues k) p x = (first_of _ x, sp)
      says_first GmNumber p x = (first_of _ x, sp)

    slices-hold : (us before : List (List Tok)) → all ≡ before ++ us → All (Covered 0) us → All HasToken us → (base : ℕ) (ts : List Tree)
        → parse_gametrees false (trees_so_far 0 []) before ≡ trees_so_far base ts → Held false t (slices_blame (length before) base us)
    slices-hold [] before e cv so base ts h = tt
    slices-hold (s ∷ us) before e cv so base ts h =
        go (slice_blame (length before) base s) (slice_out (length before) base s cv.0 so.0 ts)
        (λ vs q. subst (λ (k : ℕ). Held false t (slices_blame k (base + nodes_in base s) us)) one_more
        (slices-hold us (before ++ (s ∷ [])) (e ∙ sym (append_assoc before (s ∷ []) us)) cv.1 so.1 (base + nodes_in base s) vs
        (grow-append false (trees_so_far 0 []) before (s ∷ []) ∙ ap (λ (z : Trees). parse_gametree false z s) h ∙ q)))
      where
        one_more : length (before ++ (s ∷ [])) ≡ suc (length before)
        one_more = let l = length-append before (s ∷ []) in omega arith

        go : (b : Option (Refusal Fact)) → Out (length before) base s ts b
            → ((vs : List Tree) → parse_gametree false (trees_so_far base ts) s ≡ trees_so_far (base + nodes_in base s) vs → Held false t (slices_blame (suc (length before)) (base + nodes_in base s) us))
            → Held false t (or_blame b (slices_blame (suc (length before)) (base + nodes_in base s) us))
        go None x ih = ih x.0 x.1
        go (Some r) x ih = says_first before s us e base ts h r.reason r.place x

  -- what strict reading blames behind splitting
  pub trees-hold : Lexes t → Held false t (slices_blame 0 0 (accepted_slices (split_by_gametree false (tokens_of t).toks)))
  trees-hold l =
      split-cases (tokens_of t).toks
      (λ u. by (uncovered-six (tokens_of t).toks u) tt)
      (λ u. by (unclosed-seven (tokens_of t).toks u) tt)
      (λ u. by (bare-eight (tokens_of t).toks u) tt)
      (λ b d. by (too-deep (tokens_of t).toks b d) tt)
      (λ b n. by (not-deep (tokens_of t).toks b n)
      (slices-hold (record { lexes = l; balanced = b; shallow = n }) all [] refl (slices-covered (tokens_of t).toks) (slices-some (tokens_of t).toks) 0 [] refl))
    where
      by : {x : Slices} → split_by_gametree false (tokens_of t).toks ≡ x → Held false t (slices_blame 0 0 (accepted_slices x)) → Held false t (slices_blame 0 0 (accepted_slices (split_by_gametree false (tokens_of t).toks)))
      by {x} e h = subst⁻¹ (λ (z : Slices). Held false t (slices_blame 0 0 (accepted_slices z))) e h
