-- The properties named GM that follow the first two tokens of a slice, one token at a time. Assumes nothing.
use Rattle.lists.proofs.Prelude.{ℕ, zero, suc, ◌≤◌, ◌≡◌, refl, sym, ap, ◌∙◌, Bool, true, false, false≢true, List, [], ◌∷◌, ◌++◌, append-nil, arith, length, drop, drop-length, pick}
use types.Run.{OneOf}
use denote.Enum.Declared.{tag_of}
use Rattle.lists.specs.Same.{same}
use Rattle.lexer.specs.Token.{Prop, Tok, start, end, node, prop, Lexed, lex_at}
use Rattle.lexer.specs.Step.{next_at, vals_at, prop_at, step_on}
use Rattle.lexer.specs.declared.Step.{Step}
use Rattle.lexer.specs.contracts.Step as step
use Rattle.lexer_laws.proofs.Join.{lex-next}
use Rattle.tables.specs.declared.Reason.TheVariants.{UnexpectedProperty}
use Rattle.parser.specs.Game.{props, props_named, GM, game_props, find_gametype}
use Rattle.parser.specs.LocalsSlice.{slice_from}
use Rattle.parser_game.specs.LocalsGame.{type_of, behind_of, concluded}
use Rattle.parser_game.proofs.Variants.{not-property}
use Rattle.std.specs.Prelude.{Result, Err}
use Rattle.tables.specs.declared.Reason.{Reason}

pub past-toks : (s : List ℕ) → (lex_at s (length s)).toks ≡ []
unfolding lex_at
past-toks s = rw (drop-length s)

-- ---- two tokens skipped

pub props-slice : (d : ℕ) (ts : List Tok) → props (slice_from d ts) ≡ props ts
unfolding slice_from
props-slice d [] = refl
props-slice d (start o ∷ ts) = refl
props-slice zero (end o ∷ ts) = refl
props-slice (suc zero) (end o ∷ ts) = refl
props-slice (suc (suc d)) (end o ∷ ts) = refl
props-slice d (node o ∷ ts) = refl
props-slice d (prop p e ∷ ts) = ap (λ (z : List Prop). p ∷ z) (props-slice d ts)

one_less : (d : ℕ) → d ≤ 1 → (ts : List Tok) → props (drop 1 (slice_from d ts)) ≡ props (behind_of ts)
unfolding slice_from
one_less d h [] = refl
one_less d h (start o ∷ ts) = props-slice (suc d) ts
one_less zero h (end o ∷ ts) = refl
one_less (suc zero) h (end o ∷ ts) = refl
one_less (suc (suc d)) h (end o ∷ ts) = absurd (omega arith)
one_less d h (node o ∷ ts) = props-slice d ts
one_less d h (prop p e ∷ ts) = props-slice d ts

pub two-less : (ts : List Tok) → props (drop 2 (slice_from 0 ts)) ≡ props (behind_of (behind_of ts))
unfolding slice_from
two-less [] = refl
two-less (start o ∷ ts) = one_less 1 (omega arith) ts
two-less (end o ∷ ts) = refl
two-less (node o ∷ ts) = one_less 0 (omega arith) ts
two-less (prop p e ∷ ts) = one_less 0 (omega arith) ts

-- from the place behind two tokens to the slice
pub game-slice : (s : List ℕ) (from a b : ℕ) → (lex_at s a).toks ≡ behind_of (lex_at s from).toks → (lex_at s b).toks ≡ behind_of (lex_at s a).toks
    → {r : Result ℕ Reason} → r ≡ type_of (game_props (props_named GM (props (lex_at s b).toks))) → r ≡ type_of (find_gametype (slice_from 0 (lex_at s from).toks))
game-slice s from a b ea eb e =
    e ∙ ap (λ (z : List Prop). type_of (game_props (props_named GM z))) (sym (two-less (lex_at s from).toks ∙ ap props (sym (eb ∙ ap behind_of ea))))

-- ---- the properties that follow: of l, those named GM are ps and then those of r

pub record Gathering (s : List ℕ) (l r : List Tok) (found : Bool) (k : ℕ) : Type 0 where
  pub ps : List Prop
  pub all : props_named GM (props l) ≡ ps ++ props_named GM (props r)
  pub none : found ≡ false → ps ≡ []
  pub one : found ≡ true → (i : ℕ) × (ps ≡ prop_at s i k ∷ [])

pub gather-first : (s : List ℕ) (l : List Tok) (k : ℕ) → Gathering s l l false k
gather-first s l k = record { ps = []; all = refl; none = λ e. refl; one = λ e. absurd (false≢true e) }

module _ {s : List ℕ} {l r : List Tok} {found : Bool} {k : ℕ} (x : Gathering s l r found k) where
  module _ (i j e : ℕ) (r' : List Tok) (q : r ≡ prop (prop_at s i j) e ∷ r') {b : Bool} (eb : b ≡ same (prop_at s i j).name GM) where
    more : props_named GM (props l) ≡ x.ps ++ pick b (prop_at s i j ∷ props_named GM (props r')) (props_named GM (props r'))
    more =
        x.all
        ∙ ap (λ (z : List Tok). x.ps ++ props_named GM (props z)) q
        ∙ ap (λ (z : Bool). x.ps ++ pick z (prop_at s i j ∷ props_named GM (props r')) (props_named GM (props r'))) (sym eb)

    picked : (c : Bool) → b ≡ c → props_named GM (props l) ≡ x.ps ++ pick c (prop_at s i j ∷ props_named GM (props r')) (props_named GM (props r'))
    picked c f = more ∙ ap (λ (z : Bool). x.ps ++ pick z (prop_at s i j ∷ props_named GM (props r')) (props_named GM (props r'))) f

    pub gather-other : b ≡ false → Gathering s l r' found k
    gather-other f = record { ps = x.ps; all = picked false f; none = x.none; one = x.one }

    pub gather-one : b ≡ true → found ≡ false → Gathering s l r' true j
    gather-one f g =
        record {
          ps = prop_at s i j ∷ [];
          all = picked true f ∙ ap (λ (z : List Prop). z ++ (prop_at s i j ∷ props_named GM (props r'))) (x.none g);
          none = λ z. absurd (false≢true (sym z));
          one = λ z. (i, refl);
        }

    pub gather-two : b ≡ true → found ≡ true → Err UnexpectedProperty ≡ type_of (game_props (props_named GM (props l)))
    gather-two f g =
        let y = x.one g in
        ap (λ (z : List Prop). type_of (game_props z)) (sym (picked true f ∙ ap (λ (z : List Prop). z ++ (prop_at s i j ∷ props_named GM (props r'))) y.1))

  pub gather-end : props r ≡ [] → {y : Result ℕ Reason} → y ≡ type_of (concluded found (vals_at s k)) → y ≡ type_of (game_props (props_named GM (props l)))
  unfolding prop_at
  gather-end e {y} ey =
      let w : props_named GM (props l) ≡ x.ps = x.all ∙ ap (λ (z : List Prop). x.ps ++ props_named GM z) e ∙ append-nil x.ps in
      ey ∙ go found x.none x.one ∙ ap (λ (z : List Prop). type_of (game_props z)) (sym w)
    where
      go : (b : Bool) → (b ≡ false → x.ps ≡ []) → (b ≡ true → (i : ℕ) × (x.ps ≡ prop_at s i k ∷ [])) → type_of (concluded b (vals_at s k)) ≡ type_of (game_props x.ps)
      go true n o = let z = o refl in ap (λ (w : List Prop). type_of (game_props w)) (sym z.1)
      go false n o = ap (λ (w : List Prop). type_of (game_props w)) (sym (n refl))

-- the next token is no property
pub no-property : (s : List ℕ) (at : ℕ) {x : Step} → x ≡ next_at s at → OneOf (0 ∷ 1 ∷ 2 ∷ 4 ∷ 5 ∷ []) (tag_of step.the_type x) → props (lex_at s at).toks ≡ []
no-property s at {x} e z = ap (λ (l : Lexed). props l.toks) (lex-next s at ∙ ap (step_on s) (sym e)) ∙ not-property s x z
