-- A tag that is made in parts, the first bytes before the rest. Assumes nothing.
use Rattle.lists.proofs.Prelude.{ℕ, ◌+◌, ◌-◌, ◌≤◌, ◌≡◌, sym, ap, ◌∙◌, List, arith, length, take, drop, le_refl, take-add, take-length}
use Rattle.season_tag.specs.Tag.{tag_from, tag_of}
use Rattle.season_tag.proofs.Tags.{tag-append}
use Rattle.season_tally.specs.declared.Tagged.{Tagged}
use Rattle.season_tally.specs.Locals.{TagsFirst}

module _ (bytes : List ℕ) where
  pub tags-none : {h : ℕ} → h ≡ tag_of (take 0 bytes) → TagsFirst bytes (record { at = 0; tag = h })
  tags-none e = record { within = omega arith; tag = e }

  module _ {t : Tagged} (x : TagsFirst bytes t) where
    abbrev first : List ℕ
    first = take t.at bytes

    abbrev part : ℕ → List ℕ
    part to = take (to - t.at) (drop t.at bytes)

    pub tags-more : (to : ℕ) → t.at ≤ to → to ≤ length bytes → {h : ℕ} → h ≡ tag_from t.tag (part to) → TagsFirst bytes (record { at = to; tag = h })
    tags-more to l m e =
        let k : t.at + (to - t.at) ≡ to = omega arith in
        let w = sym (take-add t.at (to - t.at) bytes) ∙ ap (λ (n : ℕ). take n bytes) k in
        record { within = m; tag = e ∙ ap (λ (z : ℕ). tag_from z (part to)) x.tag ∙ sym (tag-append first (part to)) ∙ ap tag_of w }

    pub tags-all : {h : ℕ} → h ≡ tag_from t.tag (part (length bytes)) → h ≡ tag_of bytes
    tags-all e = (tags-more (length bytes) x.within (le_refl (length bytes)) e).tag ∙ ap tag_of (take-length bytes)
