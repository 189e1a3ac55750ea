-- The entries of the slices, one after the other. Assumes nothing.
use Rattle.lists.proofs.Prelude.{ℕ, zero, suc, ◌+◌, ◌-◌, ◌≤◌, ◌<◌, ◌≡◌, refl, sym, ap, ◌∙◌, subst, max, true, false, List, [], ◌∷◌, ◌++◌, append_assoc, append-nil, arith, length, length-append, drop, drop-append-add}
use Rattle.lists.specs.All.{All}
use Rattle.lists.proofs.Tests.{never}
use Rattle.lexer.specs.Token.{Tok, start, end, node, prop, End, Lexed, lex_at}
use Rattle.tables.specs.Numbers.{text_limit}
use Rattle.tables.specs.Record.{Node, all_props}
use Rattle.tables.specs.declared.Reason.{Reason}
use Rattle.parser.specs.Split.{Slices, no, slices, split_by_gametree}
use Rattle.parser.specs.LocalsSlice.{slice_from, rest_from, first_slices, Shallow}
use Rattle.parser.specs.LocalsSurvey.{survey_of_slices}
use Rattle.parser.specs.declared.Survey.{Survey}
use Rattle.parser.specs.declared.Survey.TheVariants.{Refused, Slices as counted, Empty}
use Rattle.parser.proofs.Slices.{slices-cut}
use Rattle.parser.proofs.Tokens.{tokens-few}
use Rattle.why_blame.specs.Cuts.{sliced_tokens}
use Rattle.salvage_mend.specs.Changes.{Change, empty_root, nodes_changes}
use Rattle.salvage_list.specs.Listed.{cut_of, root_of, trees_changes, tail_of, slices_changes}
use Rattle.salvage_list.specs.LocalsPuts.{entry_limit, EntriesPut}
use Rattle.salvage_list.specs.LocalsWalk.{tokens_at, nodes_from, cut_from, StandReady, TreeListed, ListReady, SlicesListed}
use Rattle.salvage_list.specs.declared.Behind.{Behind}
use Rattle.salvage_list.proofs.Puts.{puts-as, puts_none, puts-more}

-- ---- the slices

slice-both : (d : ℕ) (ts : List Tok) → slice_from d ts ++ rest_from d ts ≡ ts
unfolding slice_from rest_from
slice-both d [] = refl
slice-both d (start o ∷ ts) = ap (λ (z : List Tok). start o ∷ z) (slice-both (suc d) ts)
slice-both zero (end o ∷ ts) = refl
slice-both (suc zero) (end o ∷ ts) = refl
slice-both (suc (suc d)) (end o ∷ ts) = ap (λ (z : List Tok). end o ∷ z) (slice-both (suc d) ts)
slice-both d (node o ∷ ts) = ap (λ (z : List Tok). node o ∷ z) (slice-both d ts)
slice-both d (prop p e ∷ ts) = ap (λ (z : List Tok). prop p e ∷ z) (slice-both d ts)

slice-dropped : (ts ys : List Tok) → drop (length (slice_from 0 ts ++ ys)) ts ≡ drop (length ys) (rest_from 0 ts)
slice-dropped ts ys =
    ap (λ (k : ℕ). drop k ts) (length-append (slice_from 0 ts) ys)
    ∙ ap (λ (z : List Tok). drop (length (slice_from 0 ts) + length ys) z) (sym (slice-both 0 ts))
    ∙ drop-append-add (slice_from 0 ts) (rest_from 0 ts) (length ys)

less : (count k : ℕ) → k < count → count - k ≡ suc (count - (k + 1))
less count k h = omega arith

regroup : (a b c d e : List Change) → a ++ (b ++ (c ++ (d ++ e))) ≡ (a ++ (b ++ (c ++ d))) ++ e
regroup a b c d e =
    ap (λ (z : List Change). a ++ (b ++ z)) (sym (append_assoc c d e))
    ∙ ap (λ (z : List Change). a ++ z) (sym (append_assoc b (c ++ d) e))
    ∙ sym (append_assoc a (b ++ (c ++ d)) e)

pub listing-first : {u : List ℕ} {from count : ℕ} (t : List ℕ) → ListReady u from count → SlicesListed u from count from 0 0 0 0 t t
listing-first {u} {from} {count} t x =
    let e : count ≡ count - 0 = omega arith in
    record {
      ready = x;
      inside = x.inside;
      below = omega arith;
      nodes = omega arith;
      props = omega arith;
      entries = omega arith;
      shallow = subst (λ (z : ℕ). All (Shallow 0) (first_slices z (lex_at u from).toks)) e x.shallow;
      before = [];
      put = puts_none t 0;
      same = ap (λ (z : ℕ). trees_changes 0 0 0 (first_slices z (lex_at u from).toks)) e;
      rest = ap (λ (z : ℕ). drop (length (sliced_tokens (first_slices z (lex_at u from).toks))) (lex_at u from).toks) e;
      ends = refl;
    }

module _ {u : List ℕ} {from count at base p e k : ℕ} {t t1 : List ℕ} (x : SlicesListed u from count at base p e k t t1) where
  pub listing-few : e ≤ entry_limit
  listing-few = let a = x.entries in let b = x.below in let c = x.ready.bound in let d = x.props in let f = x.inside in let g = x.ready.short in omega arith

  module _ (h : k < count) where
    next : first_slices (count - k) (lex_at u at).toks ≡ tokens_at u at ∷ first_slices (count - (k + 1)) (rest_from 0 (lex_at u at).toks)
    unfolding first_slices
    next = ap (λ (z : ℕ). first_slices z (lex_at u at).toks) (less count k h)

    pub listing-ready : StandReady u at base p e × (k ≤ text_limit)
    listing-ready =
        let a = x.nodes in
        let b = x.ready.bound in
        let c = x.inside in
        let d = x.ready.short in
        let f = x.entries in (
          record { short = x.ready.short; inside = x.inside; nodes = omega arith; props = x.props; entries = omega arith; shallow = (subst (All (Shallow 0)) next x.shallow).0 },
          omega arith,
        )

    pub listing-more : {r : Behind} {t2 : List ℕ} → TreeListed u at k base p e t1 r t2 → SlicesListed u from count r.at r.nodes r.properties r.entries (k + 1) t t2
    listing-more {r} {t2} y =
        let N : List Node = nodes_from u at base in
        let more : List (List Tok) = first_slices (count - (k + 1)) (lex_at u r.at).toks in
        let q : first_slices (count - k) (lex_at u at).toks ≡ tokens_at u at ∷ more = next ∙ ap (λ (z : List Tok). tokens_at u at ∷ first_slices (count - (k + 1)) z) y.behind.rest in
        let s : suc k ≡ k + 1 = omega arith in
        let a = x.nodes in
        let b = y.node-bound in
        let c = x.entries in
        let d = y.entry-bound in
        record {
          ready = x.ready;
          inside = y.behind.inside;
          below = omega arith;
          nodes = omega arith;
          props = y.prop-bound;
          entries = omega arith;
          shallow = subst (λ (z : List Tok). All (Shallow 0) (first_slices (count - (k + 1)) z)) y.behind.rest (subst (All (Shallow 0)) next x.shallow).1;
          before = x.before ++ (root_of k N ++ (nodes_changes p N ++ cut_of k (cut_from u at base)));
          put = puts-more x.put y.put;
          same =
              x.same
              ∙ ap (λ (z : List (List Tok)). x.before ++ trees_changes k base p z) q
              ∙ regroup x.before (root_of k N) (nodes_changes p N) (cut_of k (cut_from u at base)) (trees_changes (suc k) (base + max 1 (length N)) (p + length (all_props N)) more)
              ∙ ap (λ (z : List Change). (x.before ++ (root_of k N ++ (nodes_changes p N ++ cut_of k (cut_from u at base)))) ++ z)
              (ap (λ (i : ℕ). trees_changes i (base + max 1 (length N)) (p + length (all_props N)) more) s
              ∙ ap (λ (i : ℕ). trees_changes (k + 1) i (p + length (all_props N)) more) (sym y.nodes)
              ∙ ap (λ (i : ℕ). trees_changes (k + 1) r.nodes i more) (sym y.props));
          rest =
              x.rest
              ∙ ap (λ (z : List (List Tok)). drop (length (sliced_tokens z)) (lex_at u at).toks) q
              ∙ slice-dropped (lex_at u at).toks (sliced_tokens more)
              ∙ ap (λ (z : List Tok). drop (length (sliced_tokens more)) z) y.behind.rest;
          ends = y.behind.ends (λ z. never (let w : true ≡ false = z in cc)) ∙ x.ends;
        }

  -- behind the last slice: the tail
  pub listing-end : count ≤ k → {r : ℕ} {t2 : List ℕ} → EntriesPut t1 e (tail_of (lex_at u at).toks (lex_at u at).end) r t2
      → EntriesPut t 0 (slices_changes (split_by_gametree true (lex_at u from).toks) (lex_at u from)) r t2
  unfolding first_slices
  listing-end h y =
      let z : count - k ≡ 0 = omega arith in
      let A : List Tok = (lex_at u at).toks in
      let T : List Tok = (lex_at u from).toks in
      let a : trees_changes 0 0 0 (first_slices count T) ≡ x.before = x.same ∙ ap (λ (i : ℕ). x.before ++ trees_changes k base p (first_slices i A)) z ∙ append-nil x.before in
      let b : drop (length (sliced_tokens (first_slices count T))) T ≡ A = x.rest ∙ ap (λ (i : ℕ). drop (length (sliced_tokens (first_slices i A))) A) z in
      puts-as (puts-more x.put y)
      (ap (λ (i : End). x.before ++ tail_of A i) x.ends
      ∙ ap (λ (i : List Tok). x.before ++ tail_of i (lex_at u from).end) (sym b)
      ∙ ap (λ (i : List Change). i ++ tail_of (drop (length (sliced_tokens (first_slices count T))) T) (lex_at u from).end) (sym a)
      ∙ sym (ap (λ (i : Slices). slices_changes i (lex_at u from)) x.ready.are))

-- ---- from the first pass over the tokens

slices-none : (x : Slices) (l : Lexed) {r : Reason} {p : ℕ} → survey_of_slices x ≡ Refused r p → slices_changes x l ≡ []
slices-none (no q) l e = refl
slices-none (slices []) l e = never (cc)
slices-none (slices ([] ∷ [])) l e = never (cc)
slices-none (slices ((t ∷ ts) ∷ [])) l e = never (cc)
slices-none (slices (s ∷ u ∷ ss)) l e = never (cc)

slices-empty : (x : Slices) (l : Lexed) → survey_of_slices x ≡ Empty → slices_changes x l ≡ (empty_root 0 ∷ []) ++ tail_of l.toks l.end
slices-empty (no q) l e = never (cc)
slices-empty (slices []) l e = never (cc)
slices-empty (slices ([] ∷ [])) l e = refl
slices-empty (slices ((t ∷ ts) ∷ [])) l e = never (cc)
slices-empty (slices (s ∷ u ∷ ss)) l e = never (cc)

module _ (u : List ℕ) (from : ℕ) {y : Survey} (e : y ≡ survey_of_slices (split_by_gametree true (lex_at u from).toks)) where
  pub tokens_none : {r : Reason} {p : ℕ} → y ≡ Refused r p → (t : List ℕ) → EntriesPut t 0 (slices_changes (split_by_gametree true (lex_at u from).toks) (lex_at u from)) 0 t
  tokens_none q t = puts-as (puts_none t 0) (sym (slices-none (split_by_gametree true (lex_at u from).toks) (lex_at u from) (sym e ∙ q)))

  pub tokens-empty : y ≡ Empty → {t t1 t2 : List ℕ} {r1 r2 : ℕ} → EntriesPut t 0 (empty_root 0 ∷ []) r1 t1 → EntriesPut t1 r1 (tail_of (lex_at u from).toks (lex_at u from).end) r2 t2
      → EntriesPut t 0 (slices_changes (split_by_gametree true (lex_at u from).toks) (lex_at u from)) r2 t2
  tokens-empty q a b = puts-as (puts-more a b) (sym (slices-empty (split_by_gametree true (lex_at u from).toks) (lex_at u from) (sym e ∙ q)))

  pub tokens-ready : {k : ℕ} → y ≡ counted k → length u ≤ text_limit → from ≤ length u → ListReady u from k
  tokens-ready {k} q h i =
      let s = slices-cut true (lex_at u from).toks k (sym e ∙ q) in
      let f = s.bound in
      record { short = h; inside = i; bound = omega (arith, tokens-few u from); shallow = s.shallow; are = s.are }
