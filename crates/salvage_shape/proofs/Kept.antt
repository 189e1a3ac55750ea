-- Which properties stay, the length of one, and its entries. Assumes nothing.
use Rattle.lists.proofs.Prelude.{◌≡◌, refl, sym, ap, ◌∙◌, ℕ, ◌≤◌, arith, Bool, true, false, false≢true, ◌&&◌, not, List, [], ◌∷◌, length, leb, le-leb, pick}
use Rattle.lists.specs.Same.{same}
use Rattle.values.specs.Read.{read_identifier}
use Rattle.lexer.specs.Token.{Prop}
use Rattle.lexer.specs.Step.{prop_at}
use Rattle.tables.specs.Numbers.{text_limit}
use Rattle.parser.specs.Game.{GM}
use Rattle.salvage_mend.specs.Mend.{reads_gm}
use Rattle.salvage_mend.specs.Changes.{unnamed, removed_gm, spelled_anew, prop_change}
use Rattle.salvage_form.specs.Measured.{length_of, length_limit, property_length}
use Rattle.salvage_form.specs.declared.root.RootRule.{RootRule}
use Rattle.salvage_list.proofs.Puts.{none-same}
use Rattle.salvage_shape.specs.LocalsSum.{name_stays, kept_length, rule_after}
use Rattle.salvage_shape.specs.LocalsWalk.{FateIs}

-- ---- a name

module _ (bad : Bool) (w : List ℕ) {b : Bool} (e : b ≡ same (read_identifier w) []) where
  named : {c : Bool} → b ≡ c → name_stays bad w ≡ not c && not (bad && same (read_identifier w) GM)
  named h = ap (λ (z : Bool). not z && not (bad && same (read_identifier w) GM)) (none-same (read_identifier w) ∙ sym e ∙ h)

  pub stays-none : b ≡ true → false ≡ name_stays bad w
  stays-none h = sym (named h)

  pub stays-bad : b ≡ false → bad ≡ true → {g : Bool} → g ≡ same (read_identifier w) GM → not g ≡ name_stays bad w
  stays-bad h z q = ap not q ∙ ap (λ (y : Bool). not (y && same (read_identifier w) GM)) (sym z) ∙ sym (named h)

  pub stays-good : b ≡ false → bad ≡ false → true ≡ name_stays bad w
  stays-good h z = ap (λ (y : Bool). not (y && same (read_identifier w) GM)) (sym z) ∙ sym (named h)

-- ---- the entries of a property

module _ (bad : Bool) (p : Prop) {b : Bool} (e : b ≡ name_stays bad p.name) where
  listed-gone : b ≡ false → 1 ≡ length (prop_change bad 0 p)
  listed-gone h = go (leb (length (read_identifier p.name)) 0) (bad && reads_gm p) (same (read_identifier p.name) p.name) (sym e ∙ h)
    where
      go : (x y z : Bool) → not x && not y ≡ false → 1 ≡ length (pick x (unnamed 0 ∷ []) (pick y (removed_gm 0 ∷ []) (pick z [] (spelled_anew 0 ∷ []))))
      go true y z w = refl
      go false true z w = refl
      go false false z w = absurd (false≢true (sym w))

  listed-there : b ≡ true → {c d : Bool} → c ≡ same (read_identifier p.name) p.name → c ≡ d → pick d 0 1 ≡ length (prop_change bad 0 p)
  listed-there h {c} {d} q r = go (leb (length (read_identifier p.name)) 0) (bad && reads_gm p) (sym e ∙ h) ∙ ap (λ (z : Bool). length (pick (leb (length (read_identifier p.name)) 0) (unnamed 0 ∷ []) (pick (bad && reads_gm p) (removed_gm 0 ∷ []) (pick z [] (spelled_anew 0 ∷ []))))) (sym r ∙ q)
    where
      one : (v : Bool) → pick v 0 1 ≡ length (pick v [] (spelled_anew 0 ∷ []))
      one true = refl
      one false = refl

      go : (x y : Bool) → not x && not y ≡ true → pick d 0 1 ≡ length (pick x (unnamed 0 ∷ []) (pick y (removed_gm 0 ∷ []) (pick d [] (spelled_anew 0 ∷ []))))
      go true y w = absurd (false≢true w)
      go false true w = absurd (false≢true w)
      go false false w = one d

-- ---- a property

module _ (u : List ℕ) (root : RootRule) (i k : ℕ) {b : Bool} (e : b ≡ name_stays root.bad (prop_at u i k).name) where
  kept_by : {c : Bool} → b ≡ c → kept_length root (prop_at u i k) ≡ pick c (length_of root.rule (prop_at u i k)) 0
  kept_by h = ap (λ (z : Bool). pick z (length_of root.rule (prop_at u i k)) 0) (sym e ∙ h)

  kept-none : b ≡ false → 0 ≡ kept_length root (prop_at u i k)
  kept-none h = sym (kept_by h)

  kept_there : b ≡ true → length u ≤ text_limit → i ≤ k → k ≤ length u → {r : ℕ} → r ≡ property_length u root.rule i k → r ≡ kept_length root (prop_at u i k)
  unfolding property_length
  kept_there h l m n q =
      q
      ∙ ap (λ (z : Bool). pick (z && (leb k (length u) && leb i k)) (length_of root.rule (prop_at u i k)) 0) (le-leb (length u) text_limit l)
      ∙ ap (λ (z : Bool). pick (z && leb i k) (length_of root.rule (prop_at u i k)) 0) (le-leb k (length u) n)
      ∙ ap (λ (z : Bool). pick z (length_of root.rule (prop_at u i k)) 0) (le-leb i k m)
      ∙ sym (kept_by h)

  pub fate-gone : b ≡ false → FateIs root (prop_at u i k) (record { bytes = 0; listed = 1 })
  fate-gone h = record { bytes = kept-none h; bound = omega arith; listed = listed-gone root.bad (prop_at u i k) e h }

  pub fate-there : b ≡ true → length u ≤ text_limit → i ≤ k → k ≤ length u → {r : ℕ} → (r ≡ property_length u root.rule i k) × (r ≤ length_limit)
      → {c d : Bool} → c ≡ same (read_identifier (prop_at u i k).name) (prop_at u i k).name → c ≡ d → FateIs root (prop_at u i k) (record { bytes = r; listed = pick d 0 1 })
  fate-there h l m n q v w = record { bytes = kept_there h l m n q.0; bound = q.1; listed = listed-there root.bad (prop_at u i k) e h v w }

-- ---- a node

pub rule-first : {f : Bool} (x y : RootRule) → f ≡ true → {r : RootRule} → r ≡ x → r ≡ rule_after f x y
rule-first x y e q = q ∙ ap (λ (z : Bool). rule_after z x y) (sym e)

pub rule-later : {f : Bool} (x y : RootRule) → f ≡ false → record { rule = y.rule; bad = false } ≡ rule_after f x y
rule-later x y e = ap (λ (z : Bool). rule_after z x y) (sym e)
