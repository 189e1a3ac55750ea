-- The slices one after the other, until one is to blame. Assumes nothing.
use Rattle.lists.proofs.Prelude.{ℕ, zero, suc, ◌+◌, ◌-◌, ◌≤◌, ◌<◌, ◌≡◌, refl, sym, ap, ◌∙◌, subst, true, false, List, [], ◌∷◌, arith, drop}
use Rattle.lists.specs.All.{All}
use Rattle.lists.proofs.Tests.{never}
use Rattle.lexer.specs.Token.{Tok, start, end, node, prop, End, done, lex_at}
use Rattle.parser.specs.Game.{props, props_named, GM}
use Rattle.parser.specs.LocalsSlice.{slice_from, rest_from, first_slices, Shallow}
use Rattle.reader.specs.LocalsSlices.{SlicesReady}
use Rattle.why_blame.specs.Cuts.{first_place}
use Rattle.why_blame.specs.Games.{game_blame}
use Rattle.why_blame.specs.declared.Fact.{Fact}
use Rattle.why_blame.specs.declared.Fact.TheVariants.{NoNode}
use Rattle.why.specs.Trees.{or_blame, tree_blame, nodes_in, empty_blame, slice_blame, slices_blame}
use Rattle.why.specs.LocalsTrees.{slice_at, SliceReady, SoundSlice, FoundIn, Searching}
use Rattle.std.specs.Prelude.{Option, Some, None, Result, Ok, Err}
use Rattle.tables.specs.Refusals.{refusal}
use Rattle.tables.specs.declared.Refusal.{Refusal}

pub searching-first : {u : List ℕ} {from count : ℕ} → SlicesReady false u from count → Searching u from count from 0 0
searching-first {u} {from} {count} x =
    let e : count ≡ count - 0 = omega arith in
    record {
      short = x.short;
      inside = x.inside;
      nodes = omega arith;
      below = omega arith;
      shallow = subst (λ (z : ℕ). All (Shallow 0) (first_slices z (lex_at u from).toks)) e x.shallow;
      calm = x.faultless refl;
      same = ap (λ (z : ℕ). slices_blame 0 0 (first_slices z (lex_at u from).toks)) e;
    }

less : (count k : ℕ) → k < count → count - k ≡ suc (count - (k + 1))
less count k h = omega arith

place-slice : (ts : List Tok) (e : End) → e ≡ done → first_place 0 ts e ≡ first_place 0 (slice_from 0 ts) done
unfolding slice_from
place-slice [] e h = ap (first_place 0 []) h
place-slice (start o ∷ ts) e h = refl
place-slice (end o ∷ ts) e h = refl
place-slice (node o ∷ ts) e h = refl
place-slice (prop p q ∷ ts) e h = refl

module _ {u : List ℕ} {from count at base k : ℕ} (x : Searching u from count at base k) where
  pub searched-end : count ≤ k → None ≡ slices_blame 0 0 (first_slices count (lex_at u from).toks)
  unfolding first_slices
  searched-end h =
      let e : count - k ≡ 0 = omega arith in
      sym (x.same ∙ ap (λ (z : ℕ). slices_blame k base (first_slices z (lex_at u at).toks)) e)

  module _ (h : k < count) where
    next : first_slices (count - k) (lex_at u at).toks ≡ slice_at u at ∷ first_slices (count - (k + 1)) (rest_from 0 (lex_at u at).toks)
    unfolding first_slices
    next = ap (λ (z : ℕ). first_slices z (lex_at u at).toks) (less count k h)

    pub slice-ready : SliceReady u at base
    slice-ready = record { short = x.short; inside = x.inside; nodes = x.nodes; shallow = (subst (All (Shallow 0)) next x.shallow).0 }

    abbrev Rest : Option (Refusal Fact)
    Rest = slices_blame (suc k) (base + nodes_in base (slice_at u at)) (first_slices (count - (k + 1)) (rest_from 0 (lex_at u at).toks))

    whole : slices_blame 0 0 (first_slices count (lex_at u from).toks) ≡ or_blame (slice_blame k base (slice_at u at)) Rest
    whole = x.same ∙ ap (slices_blame k base) next

    module _ {r : Option (Refusal Fact)} (e : r ≡ game_blame k (props_named GM (props (drop 2 (slice_at u at))))) where
      pub searched-game : {f : Fact} {p : ℕ} → r ≡ Some (refusal f p) → Some (refusal f p) ≡ slices_blame 0 0 (first_slices count (lex_at u from).toks)
      searched-game q =
          sym (whole ∙ ap (λ (z : Option (Refusal Fact)). or_blame (or_blame z (or_blame (tree_blame base (slice_at u at)) (empty_blame k (nodes_in base (slice_at u at)) (slice_at u at)))) Rest) (sym e ∙ q))

      module _ (q : r ≡ None) where
        typed : slices_blame 0 0 (first_slices count (lex_at u from).toks) ≡ or_blame (or_blame (tree_blame base (slice_at u at)) (empty_blame k (nodes_in base (slice_at u at)) (slice_at u at))) Rest
        typed = whole ∙ ap (λ (z : Option (Refusal Fact)). or_blame (or_blame z (or_blame (tree_blame base (slice_at u at)) (empty_blame k (nodes_in base (slice_at u at)) (slice_at u at)))) Rest) (sym e ∙ q)

        module _ {w : Result (ℕ × ℕ) (Refusal Fact)} (y : FoundIn u at base w) where
          pub searched-stop : {f : Fact} {p : ℕ} → w ≡ Err (refusal f p) → Some (refusal f p) ≡ slices_blame 0 0 (first_slices count (lex_at u from).toks)
          searched-stop g =
              sym (typed ∙ ap (λ (z : Option (Refusal Fact)). or_blame (or_blame z (empty_blame k (nodes_in base (slice_at u at)) (slice_at u at))) Rest) (subst (FoundIn u at base) g y))

          module _ {b n : ℕ} (g : w ≡ Ok (b, n)) where
            grown : SoundSlice u at base b n
            grown = subst (FoundIn u at base) g y

            walked-well : slices_blame 0 0 (first_slices count (lex_at u from).toks) ≡ or_blame (empty_blame k (nodes_in base (slice_at u at)) (slice_at u at)) Rest
            walked-well = typed ∙ ap (λ (z : Option (Refusal Fact)). or_blame (or_blame z (empty_blame k (nodes_in base (slice_at u at)) (slice_at u at))) Rest) grown.none-stops

            pub searched-empty : n ≡ base → {p : ℕ} → p ≡ first_place 0 (lex_at u at).toks (lex_at u at).end → Some (refusal (NoNode k) p) ≡ slices_blame 0 0 (first_slices count (lex_at u from).toks)
            searched-empty c {p} d =
                let i = grown.count in
                let z : nodes_in base (slice_at u at) ≡ 0 = omega arith in
                ap (λ (z : ℕ). Some (refusal (NoNode k) z)) (d ∙ place-slice (lex_at u at).toks (lex_at u at).end x.calm)
                ∙ sym (walked-well ∙ ap (λ (m : ℕ). or_blame (empty_blame k m (slice_at u at)) Rest) z)

            some : (m : ℕ) → (n ≡ base → ⊥) → n ≡ base + m → or_blame (empty_blame k m (slice_at u at)) Rest ≡ Rest
            some zero c i = absurd (c (omega arith))
            some (suc m) c i = refl

            pub searching-more : (n ≡ base → ⊥) → Searching u from count b n (k + 1)
            searching-more c =
                let s = grown in
                let i = s.behind.on in
                let o = s.bound in
                let e : suc k ≡ k + 1 = omega arith in
                record {
                  short = x.short;
                  inside = s.behind.inside;
                  nodes = s.bound;
                  below = omega arith;
                  shallow = subst (λ (z : List Tok). All (Shallow 0) (first_slices (count - (k + 1)) z)) s.behind.rest (subst (All (Shallow 0)) next x.shallow).1;
                  calm = s.behind.ends (λ z. never (let w : true ≡ false = z in cc)) ∙ x.calm;
                  same =
                      walked-well ∙ some (nodes_in base (slice_at u at)) c s.count
                      ∙ ap (λ (z : List Tok). slices_blame (suc k) (base + nodes_in base (slice_at u at)) (first_slices (count - (k + 1)) z)) s.behind.rest
                      ∙ ap (λ (z : ℕ). slices_blame (suc k) z (first_slices (count - (k + 1)) (lex_at u b).toks)) (sym s.count)
                      ∙ ap (λ (z : ℕ). slices_blame z n (first_slices (count - (k + 1)) (lex_at u b).toks)) e;
                }
