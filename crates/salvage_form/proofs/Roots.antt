-- The properties that follow a root's token, one token at a time: those that read GM, and those that read SZ. Assumes nothing.
use Rattle.lists.proofs.Prelude.{ℕ, ◌≡◌, refl, sym, ap, ap₂, ◌∙◌, Bool, true, false, false≢true, List, [], ◌∷◌, ◌++◌, append-nil, map, slice, pick}
use types.Run.{OneOf}
use denote.Enum.Declared.{tag_of}
use Rattle.lists.specs.Same.{same}
use Rattle.values.specs.Read.{read_identifier, read_value}
use Rattle.lexer.specs.Token.{Prop, Tok, prop}
use Rattle.lexer.specs.Step.{vals_at, prop_at}
use Rattle.lexer_scan.specs.Scan.{value_step_at}
use Rattle.lexer_scan.specs.declared.ValueStep.{ValueStep}
use Rattle.lexer_scan.specs.declared.ValueStep.TheVariants.{Value}
use Rattle.lexer_scan.specs.contracts.ValueStep as value-step
use Rattle.tables.specs.declared.Reason.{Reason}
use Rattle.tables.specs.declared.Reason.TheVariants.{UnexpectedProperty}
use Rattle.tables.specs.Record.{Node, Tree}
use Rattle.parser.specs.Game.{GM, game_vals, game_props, props}
use Rattle.parser_game.specs.LocalsGame.{type_of}
use Rattle.fit.specs.Record.{raws_of}
use Rattle.go_size.specs.Size.{size_of}
use Rattle.go_size.specs.Root.{SZ, sizes_in, root_size, size_of_values, size_by, size_in}
use Rattle.go_size.specs.declared.RootSize.{RootSize}
use Rattle.go_size.specs.declared.RootSize.TheVariants.{Absent, Sized, Wrong}
use Rattle.fit_rule.specs.Rule.{property_of, rule_by, size_of_tree, rule_of}
use Rattle.salvage_mend.specs.Mend.{gms_among, kept_game, gms_bad, mend_tree}
use Rattle.salvage_rows.proofs.Again.{size-mended}
use Rattle.salvage_rows.proofs.Kept.{good-told, bad-told, type-told, none_told}
use Rattle.salvage_form.specs.Measured.{raws_at}
use Rattle.salvage_form.specs.Rooted.{root_rule}
use Rattle.salvage_form.specs.declared.root.RootRule.{RootRule}
use Rattle.salvage_form.proofs.Scanned.{raws-more, raws-shut}
use Rattle.std.specs.Prelude.{Option, Some, None, Result, Ok, Err}

-- ---- what is picked of the properties of l is xs, and then what is picked of those of r

pub record Gathered {X : Type 0} (f : List Prop → List X) (of : Prop → X) (s : List ℕ) (l r : List Tok) (found : Bool) (k : ℕ) : Type 0 where
  pub xs : List X
  pub all : f (props l) ≡ xs ++ f (props r)
  pub none : found ≡ false → xs ≡ []
  pub one : found ≡ true → (i : ℕ) × (xs ≡ of (prop_at s i k) ∷ [])

pub gathered-first : {X : Type 0} (f : List Prop → List X) (of : Prop → X) (s : List ℕ) (l : List Tok) (k : ℕ) → Gathered f of s l l false k
gathered-first f of s l k = record { xs = []; all = refl; none = λ e. refl; one = λ e. absurd (false≢true e) }

-- two or more
pub record Twice {X : Type 0} (xs : List X) : Type 0 where
  pub a : X
  pub b : X
  pub rest : List X
  pub is : xs ≡ a ∷ b ∷ rest

module _ {X : Type 0} {f : List Prop → List X} {of : Prop → X} {s : List ℕ} {l r : List Tok} {found : Bool} {k : ℕ} (x : Gathered f of s l r found k) where
  module _ (w : List ℕ) (step : (p : Prop) (ps : List Prop) → f (p ∷ ps) ≡ pick (same (read_identifier p.name) w) (of p ∷ f ps) (f ps))
      (i j e : ℕ) (r' : List Tok) (q : r ≡ prop (prop_at s i j) e ∷ r') {b : Bool} (eb : b ≡ same (read_identifier (prop_at s i j).name) w) where
    picked : (c : Bool) → b ≡ c → f (props l) ≡ x.xs ++ pick c (of (prop_at s i j) ∷ f (props r')) (f (props r'))
    picked c h =
        x.all
        ∙ ap (λ (z : List Tok). x.xs ++ f (props z)) q
        ∙ ap (λ (z : List X). x.xs ++ z) (step (prop_at s i j) (props r'))
        ∙ ap (λ (z : Bool). x.xs ++ pick z (of (prop_at s i j) ∷ f (props r')) (f (props r'))) (sym eb ∙ h)

    pub gathered-other : b ≡ false → Gathered f of s l r' found k
    gathered-other h = record { xs = x.xs; all = picked false h; none = x.none; one = x.one }

    pub gathered-one : b ≡ true → found ≡ false → Gathered f of s l r' true j
    gathered-one h g =
        record {
          xs = of (prop_at s i j) ∷ [];
          all = picked true h ∙ ap (λ (z : List X). z ++ (of (prop_at s i j) ∷ f (props r'))) (x.none g);
          none = λ z. absurd (false≢true (sym z));
          one = λ z. (i, refl);
        }

    pub gathered-two : b ≡ true → found ≡ true → Twice (f (props l))
    gathered-two h g =
        let y = x.one g in
        record {
          a = of (prop_at s y.0 k);
          b = of (prop_at s i j);
          rest = f (props r');
          is = picked true h ∙ ap (λ (z : List X). z ++ (of (prop_at s i j) ∷ f (props r'))) y.1;
        }

  module _ (nil : f [] ≡ []) (e : props r ≡ []) where
    rest-none : f (props l) ≡ x.xs
    rest-none = x.all ∙ ap (λ (z : List Prop). x.xs ++ f z) e ∙ ap (λ (z : List X). x.xs ++ z) nil ∙ append-nil x.xs

    pub gathered-by : found ≡ true → (i : ℕ) × (f (props l) ≡ of (prop_at s i k) ∷ [])
    gathered-by h = let y = x.one h in (y.0, rest-none ∙ y.1)

    pub gathered_none : found ≡ false → f (props l) ≡ []
    gathered_none h = rest-none ∙ x.none h

-- ---- GM

abbrev pub as_is : Prop → Prop
as_is p = p

pub gm-step : (p : Prop) (ps : List Prop) → gms_among (p ∷ ps) ≡ pick (same (read_identifier p.name) GM) (as_is p ∷ gms_among ps) (gms_among ps)
gm-step p ps = refl

module _ (ps : List Prop) where
  pub game-twice : Twice (gms_among ps) → Err UnexpectedProperty ≡ type_of (game_props (gms_among ps))
  game-twice t = ap (λ (z : List Prop). type_of (game_props z)) (sym t.is)

  pub game-by : (s : List ℕ) (i k : ℕ) → gms_among ps ≡ prop_at s i k ∷ [] → {x : Result ℕ Reason} → x ≡ type_of (game_vals (vals_at s k)) → x ≡ type_of (game_props (gms_among ps))
  unfolding prop_at
  game-by s i k e h = h ∙ ap (λ (z : List Prop). type_of (game_props z)) (sym e)

  pub game-absent : gms_among ps ≡ [] → Ok 0 ≡ type_of (game_props (gms_among ps))
  game-absent e = ap (λ (z : List Prop). type_of (game_props z)) (sym e)

-- ---- SZ

abbrev pub sizes_among : List Prop → List (List (List ℕ))
sizes_among ps = sizes_in (map property_of ps)

pub sz-step : (p : Prop) (ps : List Prop) → sizes_among (p ∷ ps) ≡ pick (same (read_identifier p.name) SZ) (raws_of p ∷ sizes_among ps) (sizes_among ps)
sz-step p ps = refl

module _ (ps : List Prop) where
  pub size-twice : Twice (sizes_among ps) → Wrong ≡ size_in (map property_of ps)
  unfolding size_in
  size-twice t = ap size_by (sym t.is)

  pub size-by : (s : List ℕ) (i k : ℕ) → sizes_among ps ≡ raws_of (prop_at s i k) ∷ [] → {x : RootSize} → x ≡ size_of_values (raws_at s k) → x ≡ size_in (map property_of ps)
  unfolding size_in prop_at
  size-by s i k e h = h ∙ ap size_by (sym e)

  pub size-absent : sizes_among ps ≡ [] → Absent ≡ size_in (map property_of ps)
  unfolding size_in
  size-absent e = ap size_by (sym e)

module _ (v : List ℕ) {x : Option (ℕ × ℕ)} (e : x ≡ size_of (read_value v)) where
  pub board-bad : x ≡ None → Wrong ≡ root_size (size_of (read_value v))
  board-bad h = ap root_size (sym h ∙ e)

  pub board-sized : {a b : ℕ} → x ≡ Some (a, b) → Sized a b ≡ root_size (size_of (read_value v))
  board-sized h = ap root_size (sym h ∙ e)

pub values-none : (s : List ℕ) (k : ℕ) {x : ValueStep} → x ≡ value_step_at s k → OneOf (1 ∷ 2 ∷ []) (tag_of value-step.the_type x) → Wrong ≡ size_of_values (raws_at s k)
unfolding size_of_values
values-none s k e z = ap size_of_values (sym (raws-shut s k e z))

module _ (s : List ℕ) (k a e n : ℕ) {x : ValueStep} (ex : x ≡ value_step_at s k) (ev : x ≡ Value a e n) where
  pub values-many : (b f m : ℕ) {y : ValueStep} → y ≡ value_step_at s n → y ≡ Value b f m → Wrong ≡ size_of_values (raws_at s k)
  unfolding size_of_values
  values-many b f m ey ew = ap size_of_values (sym (raws-more s k a e n ex ev ∙ ap (λ (z : List (List ℕ)). slice a e s ∷ z) (raws-more s n b f m ey ew)))

  pub values_one : {y : ValueStep} → y ≡ value_step_at s n → OneOf (1 ∷ 2 ∷ []) (tag_of value-step.the_type y) → {r : RootSize} → r ≡ root_size (size_of (read_value (slice a e s))) → r ≡ size_of_values (raws_at s k)
  unfolding size_of_values
  values_one ey z er = er ∙ ap size_of_values (sym (raws-more s k a e n ex ev ∙ ap (λ (w : List (List ℕ)). slice a e s ∷ w) (raws-shut s n ey z)))

-- ---- the rule

rule-parts : (ps : List Prop) → (root_rule ps).rule ≡ rule_by (kept_game (game_props (gms_among ps))) (size_in (map property_of ps))
unfolding root_rule rule_of size_of_tree
rule-parts ps = ap (rule_by (kept_game (game_props (gms_among ps)))) (size-mended (gms_bad (game_props (gms_among ps))) ps)

abbrev ruled : ℕ → Bool → RootRule
ruled k b = record { rule = k; bad = b }

module _ (ps : List Prop) {z : RootSize} (ez : z ≡ size_in (map property_of ps)) {x : Result ℕ Reason} (ex : x ≡ type_of (game_props (gms_among ps))) {n : ℕ} where
  pub rule-good : {k : ℕ} → x ≡ Ok k → n ≡ rule_by k z → ruled n false ≡ root_rule ps
  unfolding root_rule
  rule-good e h = ap₂ ruled (h ∙ ap₂ rule_by (type-told (game_props (gms_among ps)) ex e) ez ∙ sym (rule-parts ps)) (good-told (game_props (gms_among ps)) ex e)

  pub rule-bad : {r : Reason} → x ≡ Err r → n ≡ rule_by 0 z → ruled n true ≡ root_rule ps
  unfolding root_rule
  rule-bad e h = ap₂ ruled (h ∙ ap₂ rule_by (none_told (game_props (gms_among ps)) ex e) ez ∙ sym (rule-parts ps)) (bad-told (game_props (gms_among ps)) ex e)

-- ---- a law: of any tree, the rule of what is mended is what its root says

pub tree-rule : (t : Tree) (n : Node) (ns : List Node) → t.nodes ≡ n ∷ ns → rule_of (mend_tree t) ≡ (root_rule n.props).rule
unfolding root_rule rule_of size_of_tree
tree-rule t n ns e = ap (λ (z : List Node). rule_of (mend_tree (record { root = t.root; game = t.game; nodes = z }))) e
