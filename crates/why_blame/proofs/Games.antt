-- The properties named GM that follow the first two tokens of a slice, found one after the other. Assumes nothing.
use Rattle.lists.proofs.Prelude.{ℕ, ◌+◌, ◌≤◌, ◌<◌, ◌≡◌, refl, sym, ap, ◌∙◌, subst, Bool, true, false, List, [], ◌∷◌, ◌++◌, append_assoc, append-nil, arith, length, length-append, drop, slice, pick}
use Rattle.lists.proofs.Tests.{never}
use Rattle.lists.specs.Same.{same}
use Rattle.lexer.specs.Token.{Val, Prop, Tok, prop, lex_at}
use Rattle.lexer.specs.Step.{vals_at, prop_at}
use Rattle.lexer_scan.specs.Scan.{value_step_at}
use Rattle.lexer_scan.specs.declared.ValueStep.TheVariants.{Value}
use Rattle.lexer.proofs.Listed.{vals-more}
use Rattle.parser.specs.Game.{props, props_named, GM, Game, is, no_game, game_vals}
use Rattle.parser.specs.LocalsSlice.{slice_from}
use Rattle.parser_game.specs.LocalsGame.{type_of, behind_of}
use Rattle.parser_game.proofs.Gather.{two-less}
use Rattle.why_blame.specs.Games.{values_fact, values_blame, game_blame}
use Rattle.why_blame.specs.LocalsGames.{FoundIs}
use Rattle.why_blame.specs.declared.Fact.TheVariants.{SecondGm, GmValues, GmNumber}
use Rattle.std.specs.Prelude.{Option, Some, None, Result, Ok, Err}
use Rattle.tables.specs.Refusals.{refusal}
use Rattle.why_blame.specs.declared.Fact.{Fact}
use Rattle.tables.specs.declared.Reason.{Reason}
use Rattle.tables.specs.declared.Refusal.{Refusal}

-- ---- one property

module _ (u : List ℕ) (i k e : ℕ) (r : List Tok) {b : Bool} (eb : b ≡ same (prop_at u i k).name GM) where
  named : props_named GM (props (prop (prop_at u i k) e ∷ r)) ≡ pick b (prop_at u i k ∷ props_named GM (props r)) (props_named GM (props r))
  named = ap (λ (z : Bool). pick z (prop_at u i k ∷ props_named GM (props r)) (props_named GM (props r))) (sym eb)

  pub gm-here : b ≡ true → props_named GM (props (prop (prop_at u i k) e ∷ r)) ≡ prop_at u i k ∷ props_named GM (props r)
  gm-here f = named ∙ ap (λ (z : Bool). pick z (prop_at u i k ∷ props_named GM (props r)) (props_named GM (props r))) f

  pub gm-on : b ≡ false → props_named GM (props (prop (prop_at u i k) e ∷ r)) ≡ props_named GM (props r)
  gm-on f = named ∙ ap (λ (z : Bool). pick z (prop_at u i k ∷ props_named GM (props r)) (props_named GM (props r))) f

-- ---- the values

-- n values are counted, those from i on are to come
pub record Counted (u : List ℕ) (from i n : ℕ) : Type 0 where
  pub vs : List Val
  pub all : vals_at u from ≡ vs ++ vals_at u i
  pub count : n ≡ length vs
  pub bound : n ≤ i

pub counted-first : (u : List ℕ) (from : ℕ) → Counted u from from 0
counted-first u from = record { vs = []; all = refl; count = refl; bound = omega arith }

module _ {u : List ℕ} {from i n : ℕ} (x : Counted u from i n) where
  pub counted-more : (a e j : ℕ) → i < j → value_step_at u i ≡ Value a e j → Counted u from j (n + 1)
  counted-more a e j lt h =
      let c = x.count in
      let b = x.bound in
      let l = length-append x.vs (record { from = a; to = e; raw = slice a e u } ∷ []) in
      record {
        vs = x.vs ++ (record { from = a; to = e; raw = slice a e u } ∷ []);
        all = x.all ∙ ap (λ (z : List Val). x.vs ++ z) (vals-more u i a e j h) ∙ sym (append_assoc x.vs (record { from = a; to = e; raw = slice a e u } ∷ []) (vals_at u j));
        count = omega arith;
        bound = omega arith;
      }

  pub counted-end : vals_at u i ≡ [] → n ≡ length (vals_at u from)
  counted-end h = x.count ∙ ap length (sym (x.all ∙ ap (λ (z : List Val). x.vs ++ z) h ∙ append-nil x.vs))

-- ---- one GM

values-no : (at : ℕ) (vs : List Val) (g : Game) {t : Result ℕ Reason} {k : ℕ} → t ≡ type_of g → t ≡ Ok k → None ≡ values_blame at vs g
values-no at vs (is k) e q = refl
values-no at vs (no_game r) e q = never (let z : Err r ≡ Ok _ = sym e ∙ q in cc)

values-by : (at : ℕ) (vs : List Val) (g : Game) {t : Result ℕ Reason} {r : _} → t ≡ type_of g → t ≡ Err r → Some (refusal (values_fact vs) at) ≡ values_blame at vs g
values-by at vs (is k) e q = never (let z : Ok k ≡ Err _ = sym e ∙ q in cc)
values-by at vs (no_game r) e q = refl

fact-one : (vs : List Val) {n : ℕ} → n ≡ length vs → n ≡ 1 → GmNumber ≡ values_fact vs
fact-one [] e q = absurd (omega arith)
fact-one (v ∷ []) e q = refl
fact-one (v ∷ w ∷ vs) e q = absurd (omega arith)

fact-other : (vs : List Val) {n : ℕ} → n ≡ length vs → (n ≡ 1 → ⊥) → GmValues n ≡ values_fact vs
fact-other [] e q = ap GmValues e
fact-other (v ∷ []) e q = absurd (q e)
fact-other (v ∷ w ∷ vs) e q = ap GmValues e

module _ (u : List ℕ) (at k : ℕ) {t : Result ℕ Reason} (e : t ≡ type_of (game_vals (vals_at u k))) where
  abbrev Out : Option (Refusal Fact)
  Out = values_blame at (vals_at u k) (game_vals (vals_at u k))

  pub typed_no : {g : ℕ} → t ≡ Ok g → None ≡ Out
  typed_no q = values-no at (vals_at u k) (game_vals (vals_at u k)) e q

  pub typed-number : {r : _} {n : ℕ} → t ≡ Err r → n ≡ length (vals_at u k) → n ≡ 1 → Some (refusal GmNumber at) ≡ Out
  typed-number q c o = ap (λ (f : _). Some (refusal f at)) (fact-one (vals_at u k) c o) ∙ values-by at (vals_at u k) (game_vals (vals_at u k)) e q

  pub typed-values : {r : _} {n : ℕ} → t ≡ Err r → n ≡ length (vals_at u k) → (n ≡ 1 → ⊥) → Some (refusal (GmValues n) at) ≡ Out
  typed-values q c o = ap (λ (f : _). Some (refusal f at)) (fact-other (vals_at u k) c o) ∙ values-by at (vals_at u k) (game_vals (vals_at u k)) e q

-- ---- the slice

module _ (u : List ℕ) (from a b n : ℕ) (ea : (lex_at u a).toks ≡ behind_of (lex_at u from).toks) (eb : (lex_at u b).toks ≡ behind_of (lex_at u a).toks) (x : Option (ℕ × ℕ × ℕ)) (f : FoundIs u (lex_at u b).toks x) where
  abbrev Slice : Option (Refusal Fact)
  Slice = game_blame n (props_named GM (props (drop 2 (slice_from 0 (lex_at u from).toks))))

  slice-as : Slice ≡ game_blame n (props_named GM (props (lex_at u b).toks))
  slice-as = ap (λ (z : List Prop). game_blame n (props_named GM z)) (two-less (lex_at u from).toks ∙ ap props (sym (eb ∙ ap behind_of ea)))

  pub game-none : x ≡ None → None ≡ Slice
  game-none q = sym (slice-as ∙ ap (game_blame n) (subst (FoundIs u (lex_at u b).toks) q f))

  module _ {i k e : ℕ} (q : x ≡ Some (i, k, e)) (y : Option (ℕ × ℕ × ℕ)) (g : FoundIs u (lex_at u e).toks y) where
    first : props_named GM (props (lex_at u b).toks) ≡ prop_at u i k ∷ props_named GM (props (lex_at u e).toks)
    first = subst (FoundIs u (lex_at u b).toks) q f

    pub game-one : y ≡ None → {r : Option (Refusal Fact)} → r ≡ values_blame i (vals_at u k) (game_vals (vals_at u k)) → r ≡ Slice
    unfolding prop_at
    game-one w e = e ∙ sym (slice-as ∙ ap (game_blame n) (first ∙ ap (λ (z : List Prop). prop_at u i k ∷ z) (subst (FoundIs u (lex_at u _).toks) w g)))

    pub game-two : {j h o : ℕ} → y ≡ Some (j, h, o) → Some (refusal (SecondGm n) j) ≡ Slice
    unfolding prop_at
    game-two w = sym (slice-as ∙ ap (game_blame n) (first ∙ ap (λ (z : List Prop). prop_at u i k ∷ z) (subst (FoundIs u (lex_at u _).toks) w g)))
