-- One property in its normal form: still plain and valid, the game type as it was, places ignored, twice is once. Assumes nothing.
use Rattle.lists.proofs.Prelude.{ℕ, suc, ◌<◌, ◌≡◌, refl, sym, ap, ◌∙◌, subst, arith, Bool, true, false, List, [], ◌∷◌, map, length-map, ne_eqb, le-leb, pick}
use Rattle.fit.proofs.RootRows.{same-equal}
use Rattle.go.proofs.Keeps.{normal-all, normal-some}
use Rattle.go.proofs.ReadBack.{normal-game, normal-twice}
use Rattle.go.specs.Normal.{normal}
use Rattle.lexer.specs.Closed.{closed_from}
use Rattle.lexer.specs.Move.{move_val}
use Rattle.lexer.specs.Token.{Prop, Val}
use Rattle.lists.specs.All.{All}
use Rattle.lists.specs.Same.{same}
use Rattle.parser.specs.Game.{GM, game_props, game_vals, props_named}
use Rattle.serialize_laws.proofs.Inked.{ValidProp}
use Rattle.serialize_laws.proofs.WrittenProps.{Plain}
use Rattle.serialize_laws.specs.Back.{no_place, same_bytes, placeless_prop}
use Rattle.serialize.specs.Form.{placeless_val, form_prop}
use Rattle.fit.specs.Record.{raw_of}
use Rattle.text_chars.specs.White.{white}
use Rattle.text_utf8.specs.Text.{Ink, blank, mark, utfs, whole}
use Rattle.values.proofs.Safe.{Safe}
use Rattle.values.specs.Read.{read_identifier}

-- ---- bytes that stand for themselves are closed and valid

safe-shut : (w : List ℕ) → All Safe w → closed_from false w ≡ true
safe-shut [] h = refl
safe-shut (b ∷ bs) h = rw (ne_eqb b 0x5d h.0.no-close, ne_eqb b 0x5c h.0.no-escape) (safe-shut bs h.1)

safe-whole : (k : Ink) (o : ℕ) (w : List ℕ) → All Safe w → (i : Ink) × (utfs (whole k) o w ≡ whole i)
safe-whole k o [] h = (k, refl)
safe-whole k o (b ∷ bs) h =
    let r = safe-whole (mark (white b) k o (suc o)) (suc o) bs h.1 in
    (r.0, rw (le-leb b 0x7f (omega (arith, h.0.ascii))) r.1)

-- ---- raw values of properties, and properties of raw values

placeless-all : (P : Val → Type 0) (ws : List (List ℕ)) → All (λ w. P (placeless_val w)) ws → All P (map placeless_val ws)
placeless-all P [] h = tt
placeless-all P (w ∷ ws) h = (h.0, placeless-all P ws h.1)

pub raws-back : (ws : List (List ℕ)) → map raw_of (map placeless_val ws) ≡ ws
raws-back [] = refl
raws-back (w ∷ ws) = ap (λ (z : List (List ℕ)). w ∷ z) (raws-back ws)

pub raws-aside : (vs : List Val) → map raw_of (map (move_val no_place no_place same_bytes) vs) ≡ map raw_of vs
raws-aside [] = refl
raws-aside (v ∷ vs) = ap (λ (z : List (List ℕ)). v.raw ∷ z) (raws-aside vs)

-- a fact of the bytes alone, which holds of bytes that stand for themselves, is kept
module _ (P : List ℕ → Type 0) (safe : (w : List ℕ) → All Safe w → P w) (k : ℕ) (p : Prop) where
  raws-all : (vs : List Val) → All (λ v. P v.raw) vs → All P (map raw_of vs)
  raws-all [] h = tt
  raws-all (v ∷ vs) h = (h.0, raws-all vs h.1)

  form-all : All (λ v. P v.raw) p.vals → All (λ v. P v.raw) (form_prop k p).vals
  form-all h =
      placeless-all (λ v. P v.raw) (normal k (read_identifier p.name) (map raw_of p.vals))
      (normal-all P safe k (read_identifier p.name) (map raw_of p.vals) (raws-all p.vals h))

module _ (k : ℕ) (p : Prop) where
  abbrev normals : List (List ℕ)
  normals = normal k (read_identifier p.name) (map raw_of p.vals)

  pub form-plain : Plain p → Plain (form_prop k p)
  form-plain h =
      record {
        named = h.named;
        upper-case = h.upper-case;
        valued = subst (λ (n : ℕ). 0 < n) (sym (length-map normals placeless_val))
            (normal-some k (read_identifier p.name) (map raw_of p.vals) (subst (λ (n : ℕ). 0 < n) (sym (length-map p.vals raw_of)) h.valued));
        shut = form-all (λ w. closed_from false w ≡ true) safe-shut k p h.shut;
      }

  pub form-valid : ValidProp p → ValidProp (form_prop k p)
  form-valid h = form-all (λ w. (i : Ink) × (utfs (whole blank) 0 w ≡ whole i)) (safe-whole blank 0) k p h

  -- the form does not look at places
  pub form-places : placeless_prop (form_prop k p) ≡ placeless_prop (form_prop k (placeless_prop p))
  form-places = ap (λ (z : List (List ℕ)). record { from = 0; to = 0; name = p.name; vals = map (move_val no_place no_place same_bytes) (map placeless_val (normal k (read_identifier p.name) z)) }) (sym (raws-aside p.vals))

  -- a second time changes nothing, places aside
  pub form-twice : placeless_prop (form_prop k (form_prop k p)) ≡ placeless_prop (form_prop k p)
  form-twice =
      ap (λ (z : List (List ℕ)). record { from = 0; to = 0; name = p.name; vals = map (move_val no_place no_place same_bytes) (map placeless_val z) })
      (ap (normal k (read_identifier p.name)) (raws-back normals) ∙ normal-twice k (read_identifier p.name) (map raw_of p.vals))

-- ---- the game type

vals-placeless : (vs : List Val) → game_vals (map placeless_val (map raw_of vs)) ≡ game_vals vs
vals-placeless [] = refl
vals-placeless (v ∷ []) = refl
vals-placeless (v ∷ u ∷ vs) = refl

module _ (k : ℕ) where
  form-game : (p : Prop) → p.name ≡ GM → game_vals (form_prop k p).vals ≡ game_vals p.vals
  unfolding read_identifier
  form-game p e =
      ap (λ (w : List ℕ). game_vals (map placeless_val (normal k (read_identifier w) (map raw_of p.vals)))) e
      ∙ ap (λ (ws : List (List ℕ)). game_vals (map placeless_val ws)) (normal-game k (map raw_of p.vals))
      ∙ vals-placeless p.vals

  named-form : (w : List ℕ) (qs : List Prop) → props_named w (map (form_prop k) qs) ≡ map (form_prop k) (props_named w qs)
  named-form w [] = refl
  named-form w (q ∷ qs) = go (same q.name w) (named-form w qs)
    where
      go : (b : Bool) → props_named w (map (form_prop k) qs) ≡ map (form_prop k) (props_named w qs)
          → pick b (form_prop k q ∷ props_named w (map (form_prop k) qs)) (props_named w (map (form_prop k) qs)) ≡ map (form_prop k) (pick b (q ∷ props_named w qs) (props_named w qs))
      go true h = ap (λ (z : List Prop). form_prop k q ∷ z) h
      go false h = h

  all_named : (w : List ℕ) (qs : List Prop) → All (λ q. q.name ≡ w) (props_named w qs)
  all_named w [] = tt
  all_named w (q ∷ qs) = go (same q.name w) refl (all_named w qs)
    where
      go : (b : Bool) → same q.name w ≡ b → All (λ q. q.name ≡ w) (props_named w qs) → All (λ q. q.name ≡ w) (pick b (q ∷ props_named w qs) (props_named w qs))
      go true e h = (same-equal q.name w e, h)
      go false e h = h

  pub form-games : (qs : List Prop) → game_props (props_named GM (map (form_prop k) qs)) ≡ game_props (props_named GM qs)
  form-games qs = ap game_props (named-form GM qs) ∙ go (props_named GM qs) (all_named GM qs)
    where
      go : (ps : List Prop) → All (λ q. q.name ≡ GM) ps → game_props (map (form_prop k) ps) ≡ game_props ps
      go [] h = refl
      go (p ∷ []) h = form-game p h.0
      go (p ∷ q ∷ ps) h = refl
