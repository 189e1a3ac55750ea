-- Slice after slice: what holds between two walks. Assumes nothing.
use Rattle.lists.proofs.Prelude.{ℕ, suc, ◌+◌, ◌≤◌, ◌≡◌, ◌∙◌, subst, false, List, arith, length, Bool}
use Rattle.lists.specs.All.{All}
use Rattle.lexer.specs.Token.{Tok, done, lex_at}
use Rattle.tables.specs.Numbers.{text_limit}
use Rattle.parser.specs.LocalsSlice.{slice_from, rest_from, first_slices, Shallow}
use Rattle.parser_tree.specs.LocalsWalks.{Ready, TreeIs}

-- k trees are read and m are to come, from the place `at` on
pub record Between (len : Bool) (u : List ℕ) (at k n p v m : ℕ) : Type 0 where
  pub short : length u ≤ text_limit
  pub inside : at ≤ length u
  pub trees : k + m ≤ text_limit + 1
  pub nodes : n ≤ at + k
  pub props : p ≤ at
  pub vals : v ≤ at
  pub shallow : All (Shallow 0) (first_slices m (lex_at u at).toks)
  pub faultless : len ≡ false → (lex_at u at).end ≡ done

module _ {len : Bool} {u : List ℕ} {from k base p0 v0 m : ℕ} (x : Between len u from k base p0 v0 (suc m)) where
  first : Shallow 0 (slice_from 0 (lex_at u from).toks) × All (Shallow 0) (first_slices m (rest_from 0 (lex_at u from).toks))
  unfolding first_slices
  first = x.shallow

  pub between-ready : Ready len u from base p0 v0
  between-ready =
      let s = x.short in
      let i = x.inside in
      let t = x.trees in
      let n = x.nodes in
      let p = x.props in
      let v = x.vals in
      record { short = s; inside = i; nodes = omega arith; props = omega arith; vals = omega arith; shallow = first.0; faultless = x.faultless }

  pub between_next : {t₀ q₀ w₀ t q w : List ℕ} {at n p v : ℕ} → TreeIs len u from base p0 v0 t₀ q₀ w₀ t q w at n p v → Between len u at (suc k) n p v m
  between_next y =
      let a = x.trees in
      let b = x.nodes in
      let c = x.props in
      let d = x.vals in
      let o = y.on in
      let f = y.node-bound in
      let l = y.prop-bound in
      let s = y.val-bound in
      record {
        short = x.short;
        inside = y.inside;
        trees = omega arith;
        nodes = omega arith;
        props = omega arith;
        vals = omega arith;
        shallow = subst (λ (z : List Tok). All (Shallow 0) (first_slices m z)) y.rest first.1;
        faultless = λ h. y.ends ∙ x.faultless h;
      }
