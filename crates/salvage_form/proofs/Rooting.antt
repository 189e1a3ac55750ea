-- The properties that follow a root's token, walked once for GM and SZ. Assumes nothing.
use Rattle.lists.proofs.Prelude.{ℕ, ◌≡◌, refl, sym, ap, ap₂, ◌∙◌, subst, Bool, true, false, false≢true, ◌&&◌, ◌||◌, List, [], ◌∷◌, map, pick}
use Rattle.lists.specs.Same.{same}
use Rattle.values.specs.Read.{read_identifier}
use Rattle.lexer.specs.Token.{Prop, Tok, prop}
use Rattle.lexer.specs.Step.{vals_at, prop_at}
use Rattle.parser.specs.Game.{game_vals, game_props, props}
use Rattle.parser_game.specs.LocalsGame.{type_of}
use Rattle.fit.specs.Record.{raws_of}
use Rattle.go_size.specs.Root.{size_of_values, size_in}
use Rattle.go_size.specs.declared.RootSize.{RootSize}
use Rattle.go_size.specs.declared.RootSize.TheVariants.{Absent}
use Rattle.fit_rule.specs.Rule.{property_of}
use Rattle.salvage_mend.specs.Mend.{gms_among}
use Rattle.salvage_form.specs.Measured.{raws_at}
use Rattle.salvage_form.specs.Rooted.{root_rule}
use Rattle.salvage_form.specs.LocalsRooted.{ruled_by}
use Rattle.salvage_form.specs.declared.root.RootRule.{RootRule}
use Rattle.salvage_form.proofs.Roots.{Gathered, rule-good, rule-bad, gathered-other, gathered-one, gathered-by, gathered_none, as_is, game-by, game-absent, sizes_among, size-by, size-absent}
use Rattle.std.specs.Prelude.{Result, Ok, Err}
use Rattle.tables.specs.declared.Reason.{Reason}

pub neither : (a b : Bool) → (a || b) ≡ false → (a ≡ false) × (b ≡ false)
neither true b h = absurd (false≢true (sym h))
neither false b h = (refl, h)

-- one more property, where there are not two
module _ {X : Type 0} {f : List Prop → List X} {of : Prop → X} {s : List ℕ} {l r : List Tok} {found : Bool} {k : ℕ} (x : Gathered f of s l r found k)
    (w : List ℕ) (step : (p : Prop) (ps : List Prop) → f (p ∷ ps) ≡ pick (same (read_identifier p.name) w) (of p ∷ f ps) (f ps))
    (i j e : ℕ) (r' : List Tok) (q : r ≡ prop (prop_at s i j) e ∷ r') {b : Bool} (eb : b ≡ same (read_identifier (prop_at s i j).name) w) where
  pub gathered-on : (b && found) ≡ false → {m : ℕ} → m ≡ pick b j k → Gathered f of s l r' (found || b) m
  gathered-on h {m} em = by b refl found refl
    where
      by : (c : Bool) → b ≡ c → (d : Bool) → found ≡ d → Gathered f of s l r' (found || b) m
      by true hb true hd = absurd (false≢true (sym h ∙ ap₂ (λ (u v : Bool). u && v) hb hd))
      by true hb false hd =
          subst (λ (v : Bool). Gathered f of s l r' v m) (sym (ap₂ (λ (u v : Bool). u || v) hd hb))
          (subst (λ (v : ℕ). Gathered f of s l r' true v) (sym (em ∙ ap (λ (u : Bool). pick u j k) hb)) (gathered-one x w step i j e r' q eb hb hd))
      by false hb true hd =
          subst (λ (v : Bool). Gathered f of s l r' v m) (hd ∙ sym (ap₂ (λ (u v : Bool). u || v) hd hb))
          (subst (λ (v : ℕ). Gathered f of s l r' found v) (sym (em ∙ ap (λ (u : Bool). pick u j k) hb)) (gathered-other x w step i j e r' q eb hb))
      by false hb false hd =
          subst (λ (v : Bool). Gathered f of s l r' v m) (hd ∙ sym (ap₂ (λ (u v : Bool). u || v) hd hb))
          (subst (λ (v : ℕ). Gathered f of s l r' found v) (sym (em ∙ ap (λ (u : Bool). pick u j k) hb)) (gathered-other x w step i j e r' q eb hb))

module _ {s : List ℕ} {l r : List Tok} {found : Bool} {k : ℕ} (e : props r ≡ []) where
  pub game-from : Gathered gms_among as_is s l r found k → {x : Result ℕ Reason} → x ≡ pick found (type_of (game_vals (vals_at s k))) (Ok 0) → x ≡ type_of (game_props (gms_among (props l)))
  game-from y {x} h = by found refl
    where
      by : (c : Bool) → found ≡ c → x ≡ type_of (game_props (gms_among (props l)))
      by true hc = let z = gathered-by y refl e hc in game-by (props l) s z.0 k z.1 (h ∙ ap (λ (u : Bool). pick u (type_of (game_vals (vals_at s k))) (Ok 0)) hc)
      by false hc = h ∙ ap (λ (u : Bool). pick u (type_of (game_vals (vals_at s k))) (Ok 0)) hc ∙ game-absent (props l) (gathered_none y refl e hc)

  pub size-from : Gathered sizes_among raws_of s l r found k → {x : RootSize} → x ≡ pick found (size_of_values (raws_at s k)) Absent → x ≡ size_in (map property_of (props l))
  size-from y {x} h = by found refl
    where
      by : (c : Bool) → found ≡ c → x ≡ size_in (map property_of (props l))
      by true hc = let z = gathered-by y refl e hc in size-by (props l) s z.0 k z.1 (h ∙ ap (λ (u : Bool). pick u (size_of_values (raws_at s k)) Absent) hc)
      by false hc = h ∙ ap (λ (u : Bool). pick u (size_of_values (raws_at s k)) Absent) hc ∙ size-absent (props l) (gathered_none y refl e hc)

pub rule-is : (ps : List Prop) {z : RootSize} → z ≡ size_in (map property_of ps) → {x : Result ℕ Reason} → x ≡ type_of (game_props (gms_among ps)) → {r : RootRule} → r ≡ ruled_by x z → r ≡ root_rule ps
rule-is ps {z} ez {x} ex {r} h = by x refl
  where
    by : (y : Result ℕ Reason) → x ≡ y → r ≡ root_rule ps
    by (Ok k) e = h ∙ ap (λ (g : Result ℕ Reason). ruled_by g z) e ∙ rule-good ps ez ex e refl
    by (Err q) e = h ∙ ap (λ (g : Result ℕ Reason). ruled_by g z) e ∙ rule-bad ps ez ex e refl
