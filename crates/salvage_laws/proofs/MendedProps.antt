-- The properties that stay: their names are uppercase letters, and their values are as they were. Assumes nothing.
use Rattle.lists.proofs.Prelude.{◌≡◌, refl, ℕ, Bool, true, false, ◌&&◌, not, false≢true, List, [], ◌∷◌, length, leb, pick}
use Rattle.lists.specs.All.{All}
use Rattle.lists.proofs.All.{all_map}
use Rattle.lists.proofs.Tests.{and_both}
use Rattle.lexer.specs.Token.{Prop, Val}
use Rattle.lexer_laws.proofs.Proper.{HasProper, Proper}
use Rattle.values.specs.Read.{read_identifier}
use Rattle.serialize_laws.specs.Back.{some, uppers}
use Rattle.serialize_laws.proofs.Inked.{Valid, ValidProp}
use Rattle.serialize_laws.proofs.WrittenProps.{Plain, Shut}
use Rattle.salvage_mend.specs.Mend.{reads_gm, prop_stays, respelled, mend_props}

-- ---- names

some-there : (w : List ℕ) → not (leb (length w) 0) ≡ true → some w ≡ true
some-there [] h = absurd (false≢true h)
some-there (b ∷ bs) h = refl

upper-read : (w : List ℕ) → uppers (read_identifier w) ≡ true
unfolding read_identifier
upper-read [] = refl
upper-read (b ∷ bs) = go (leb 0x41 b && leb b 0x5a) refl (upper-read bs)
  where
    go : (c : Bool) → leb 0x41 b && leb b 0x5a ≡ c → uppers (read_identifier bs) ≡ true → uppers (pick c (b ∷ read_identifier bs) (read_identifier bs)) ≡ true
    go true e r = rw (e, r)
    go false e r = r

-- ---- what stays

plain-mended : (bad : Bool) (p : Prop) → HasProper p → prop_stays bad p ≡ true → Plain (respelled p)
plain-mended bad p h e =
    record {
      named = some-there (read_identifier p.name) (and_both (not (leb (length (read_identifier p.name)) 0)) (not (bad && reads_gm p)) e).0;
      upper-case = upper-read p.name;
      valued = h.0;
      shut = all_map Proper (λ (v : Val). Shut v) (λ v x. x.0) p.vals h.1;
    }

pub plain-props : (bad : Bool) (ps : List Prop) → All HasProper ps → All Plain (mend_props bad ps)
plain-props bad [] h = tt
plain-props bad (p ∷ ps) h = go (prop_stays bad p) refl (plain-props bad ps h.1)
  where
    go : (c : Bool) → prop_stays bad p ≡ c → All Plain (mend_props bad ps) → All Plain (pick c (respelled p ∷ mend_props bad ps) (mend_props bad ps))
    go true e r = (plain-mended bad p h.0 e, r)
    go false e r = r

pub valid-props : (bad : Bool) (ps : List Prop) → All HasProper ps → All ValidProp (mend_props bad ps)
valid-props bad [] h = tt
valid-props bad (p ∷ ps) h = go (prop_stays bad p) (valid-props bad ps h.1)
  where
    go : (c : Bool) → All ValidProp (mend_props bad ps) → All ValidProp (pick c (respelled p ∷ mend_props bad ps) (mend_props bad ps))
    go true r = (all_map Proper Valid (λ v x. x.1) p.vals h.0.1, r)
    go false r = r
