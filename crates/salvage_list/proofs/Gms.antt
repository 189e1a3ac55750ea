-- The properties that read GM, one token at a time; and the root's properties, which directly follow the first node. Assumes nothing.
use Rattle.lists.proofs.Prelude.{ℕ, ◌≡◌, refl, sym, ap, ◌∙◌, Bool, true, false, false≢true, List, [], ◌∷◌, ◌++◌, append-nil, pick}
use Rattle.lists.proofs.Tests.{never}
use Rattle.lexer.specs.Token.{Prop, Tok, prop}
use Rattle.lexer.specs.Step.{vals_at, prop_at}
use Rattle.tables.specs.declared.Reason.{Reason}
use Rattle.parser.specs.Game.{Game, is, no_game, game_vals, game_props, props}
use Rattle.parser_game.specs.LocalsGame.{type_of}
use Rattle.salvage_mend.specs.Mend.{reads_gm, gms_among, gms_bad}
use Rattle.std.specs.Prelude.{Result, Ok, Err}

-- of the properties of l, those that read GM are ps and then those of r
pub record Gathered (s : List ℕ) (l r : List Tok) (found : Bool) (k : ℕ) : Type 0 where
  pub ps : List Prop
  pub all : gms_among (props l) ≡ ps ++ gms_among (props r)
  pub none : found ≡ false → ps ≡ []
  pub one : found ≡ true → (i : ℕ) × (ps ≡ prop_at s i k ∷ [])

pub gathered-first : (s : List ℕ) (l : List Tok) (k : ℕ) → Gathered s l l false k
gathered-first s l k = record { ps = []; all = refl; none = λ e. refl; one = λ e. absurd (false≢true e) }

module _ {s : List ℕ} {l r : List Tok} {found : Bool} {k : ℕ} (x : Gathered s l r found k) where
  module _ (i j e : ℕ) (r' : List Tok) (q : r ≡ prop (prop_at s i j) e ∷ r') {b : Bool} (eb : b ≡ reads_gm (prop_at s i j)) where
    picked : (c : Bool) → b ≡ c → gms_among (props l) ≡ x.ps ++ pick c (prop_at s i j ∷ gms_among (props r')) (gms_among (props r'))
    picked c f =
        x.all
        ∙ ap (λ (z : List Tok). x.ps ++ gms_among (props z)) q
        ∙ ap (λ (z : Bool). x.ps ++ pick z (prop_at s i j ∷ gms_among (props r')) (gms_among (props r'))) (sym eb ∙ f)

    pub gathered-other : b ≡ false → Gathered s l r' found k
    gathered-other f = record { ps = x.ps; all = picked false f; none = x.none; one = x.one }

    pub gathered-one : b ≡ true → found ≡ false → Gathered s l r' true j
    gathered-one f g =
        record {
          ps = prop_at s i j ∷ [];
          all = picked true f ∙ ap (λ (z : List Prop). z ++ (prop_at s i j ∷ gms_among (props r'))) (x.none g);
          none = λ z. absurd (false≢true (sym z));
          one = λ z. (i, refl);
        }

    pub gathered-two : b ≡ true → found ≡ true → true ≡ gms_bad (game_props (gms_among (props l)))
    gathered-two f g =
        let y = x.one g in
        ap (λ (z : List Prop). gms_bad (game_props z)) (sym (picked true f ∙ ap (λ (z : List Prop). z ++ (prop_at s i j ∷ gms_among (props r'))) y.1))

  module _ (e : props r ≡ []) where
    rest-none : gms_among (props l) ≡ x.ps
    rest-none = x.all ∙ ap (λ (z : List Prop). x.ps ++ gms_among z) e ∙ append-nil x.ps

    pub gathered-by : found ≡ true → {b : Bool} → b ≡ gms_bad (game_vals (vals_at s k)) → b ≡ gms_bad (game_props (gms_among (props l)))
    unfolding prop_at
    gathered-by f h = let y = x.one f in h ∙ ap (λ (z : List Prop). gms_bad (game_props z)) (sym (rest-none ∙ y.1))

    pub gathered_none : found ≡ false → false ≡ gms_bad (game_props (gms_among (props l)))
    gathered_none f = ap (λ (z : List Prop). gms_bad (game_props z)) (sym (rest-none ∙ x.none f))

-- ---- the answer of the one GM

pub game-is : (g : Game) {x : Result ℕ Reason} {k : ℕ} → x ≡ type_of g → x ≡ Ok k → false ≡ gms_bad g
game-is (is k) e q = refl
game-is (no_game r) {x} {k} e q = never (let z : Err r ≡ Ok k = sym e ∙ q in cc)

pub game-no : (g : Game) {x : Result ℕ Reason} {r : Reason} → x ≡ type_of g → x ≡ Err r → true ≡ gms_bad g
game-no (no_game r) e q = refl
game-no (is k) {x} {r} e q = never (let z : Ok k ≡ Err r = sym e ∙ q in cc)
