-- A property that stays is asked as before: its identifier reads the same, and so does the size that a root says. Assumes nothing.
use Rattle.lists.proofs.Prelude.{◌≡◌, refl, sym, ap, ap₂, ◌∙◌, ℕ, Bool, true, false, ◌&&◌, true≢false, List, [], ◌∷◌, map, leb, pick}
use Rattle.lists.specs.Same.{same}
use Rattle.lexer.specs.Token.{Prop}
use Rattle.values.specs.Read.{read_identifier}
use Rattle.fit.specs.Record.{raws_of}
use Rattle.fit.proofs.RootRows.{same-equal}
use Rattle.go_size.specs.Root.{SZ, sizes_in, size_by, size_in}
use Rattle.fit_rule.specs.Rule.{property_of}
use Rattle.salvage_mend.specs.Mend.{prop_stays, respelled, mend_props}

pub read-own : (w : List ℕ) → read_identifier (read_identifier w) ≡ read_identifier w
unfolding read_identifier
read-own [] = refl
read-own (b ∷ bs) = go (leb 0x41 b && leb b 0x5a) refl (read-own bs)
  where
    go : (c : Bool) → leb 0x41 b && leb b 0x5a ≡ c → read_identifier (read_identifier bs) ≡ read_identifier bs
        → read_identifier (pick c (b ∷ read_identifier bs) (read_identifier bs)) ≡ pick c (b ∷ read_identifier bs) (read_identifier bs)
    go true e r = rw e (ap (λ (z : List ℕ). b ∷ z) r)
    go false e r = r

-- a property that reads SZ stays
size-stays : (bad : Bool) (p : Prop) → same (read_identifier p.name) SZ ≡ true → prop_stays bad p ≡ true
size-stays true p h = let e : read_identifier p.name ≡ SZ = same-equal (read_identifier p.name) SZ h in rw e
size-stays false p h = let e : read_identifier p.name ≡ SZ = same-equal (read_identifier p.name) SZ h in rw e

sizes-mended : (bad : Bool) (ps : List Prop) → sizes_in (map property_of (mend_props bad ps)) ≡ sizes_in (map property_of ps)
sizes-mended bad [] = refl
sizes-mended bad (p ∷ ps) = go (prop_stays bad p) (same (read_identifier p.name) SZ) refl refl (sizes-mended bad ps)
  where
    go : (a b : Bool) → prop_stays bad p ≡ a → same (read_identifier p.name) SZ ≡ b → sizes_in (map property_of (mend_props bad ps)) ≡ sizes_in (map property_of ps)
        → sizes_in (map property_of (pick a (respelled p ∷ mend_props bad ps) (mend_props bad ps))) ≡ pick b (raws_of p ∷ sizes_in (map property_of ps)) (sizes_in (map property_of ps))
    go true b ea eb r =
        ap₂ (λ (c : Bool) (z : List (List (List ℕ))). pick c (raws_of p ∷ z) z) (ap (λ (w : List ℕ). same w SZ) (read-own p.name) ∙ eb) r
    go false true ea eb r = absurd (true≢false (sym (size-stays bad p eb) ∙ ea))
    go false false ea eb r = r

pub size-mended : (bad : Bool) (ps : List Prop) → size_in (map property_of (mend_props bad ps)) ≡ size_in (map property_of ps)
unfolding size_in
size-mended bad ps = ap size_by (sizes-mended bad ps)
