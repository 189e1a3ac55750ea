-- Tokens with their places moved: the same game type, where the values of a GM property stay. Assumes nothing.
use Rattle.lists.proofs.Prelude.{◌≡◌, refl, ap, ◌∙◌, ℕ, zero, suc, Bool, true, false, List, [], ◌∷◌, map, drop, pick}
use Rattle.lexer_laws.proofs.Invariant.{OfTok}
use Rattle.lexer.specs.Move.{move_prop, move_tok, move_val}
use Rattle.lexer.specs.Token.{Prop, Tok, Val, end, node, prop, start}
use Rattle.lists.specs.All.{All}
use Rattle.lists.specs.Same.{same}
use Rattle.parser.specs.Game.{GM, find_gametype, game_of, game_props, game_vals, props_named, props}
use Rattle.values.specs.Read.{read_value}

map-drop : {A B : Type 0} (f : A → B) (n : ℕ) (xs : List A) → drop n (map f xs) ≡ map f (drop n xs)
map-drop f zero xs = refl
map-drop f (suc n) [] = refl
map-drop f (suc n) (x ∷ xs) = map-drop f n xs

module _ (f g : ℕ → ℕ) (h : ℕ → List ℕ → List ℕ) where
  abbrev F : Tok → Tok
  F = move_tok f g h

  abbrev pub Fixed : Prop → Type 0
  Fixed p = All (λ (v : Val). h v.from v.raw ≡ v.raw) p.vals

  abbrev pub GmStays : Prop → Type 0
  GmStays p = same p.name GM ≡ true → Fixed p

  move-props : (ts : List Tok) → props (map F ts) ≡ map (move_prop f g h) (props ts)
  move-props [] = refl
  move-props (start o ∷ ts) = refl
  move-props (end o ∷ ts) = refl
  move-props (node o ∷ ts) = refl
  move-props (prop p e ∷ ts) = ap (λ (z : List Prop). move_prop f g h p ∷ z) (move-props ts)

  move-pick : (b : Bool) (p : Prop) (r : List Prop) → pick b (move_prop f g h p ∷ map (move_prop f g h) r) (map (move_prop f g h) r) ≡ map (move_prop f g h) (pick b (p ∷ r) r)
  move-pick true p r = refl
  move-pick false p r = refl

  pub move-named : (w : List ℕ) (ps : List Prop) → props_named w (map (move_prop f g h) ps) ≡ map (move_prop f g h) (props_named w ps)
  move-named w [] = refl
  move-named w (p ∷ ps) = rw (move-named w ps) (move-pick (same p.name w) p (props_named w ps))

  named-fixed : (ps : List Prop) → All GmStays ps → All Fixed (props_named GM ps)
  named-fixed [] k = tt
  named-fixed (p ∷ ps) k = go (same p.name GM) refl (named-fixed ps k.1)
    where
      go : (b : Bool) → same p.name GM ≡ b → All Fixed (props_named GM ps) → All Fixed (pick b (p ∷ props_named GM ps) (props_named GM ps))
      go true e r = (k.0 e, r)
      go false e r = r

  stay-props : (ts : List Tok) → All (OfTok GmStays) ts → All GmStays (props ts)
  stay-props [] k = tt
  stay-props (start o ∷ ts) k = tt
  stay-props (end o ∷ ts) k = tt
  stay-props (node o ∷ ts) k = tt
  stay-props (prop p e ∷ ts) k = (k.0, stay-props ts k.1)

  all_drop : (R : Tok → Type 0) (n : ℕ) (ts : List Tok) → All R ts → All R (drop n ts)
  all_drop R zero ts k = k
  all_drop R (suc n) [] k = tt
  all_drop R (suc n) (t ∷ ts) k = all_drop R n ts k.1

  move-game_vals : (vs : List Val) → All (λ (v : Val). h v.from v.raw ≡ v.raw) vs → game_vals (map (move_val f g h) vs) ≡ game_vals vs
  move-game_vals [] k = refl
  move-game_vals (v ∷ []) k = ap (λ (z : List ℕ). game_of (read_value z)) k.0
  move-game_vals (v ∷ u ∷ vs) k = refl

  pub move-game_props : (ps : List Prop) → All Fixed ps → game_props (map (move_prop f g h) ps) ≡ game_props ps
  move-game_props [] k = refl
  move-game_props (p ∷ []) k = move-game_vals p.vals k.0
  move-game_props (p ∷ q ∷ ps) k = refl

  pub move-game : (ts : List Tok) → All (OfTok GmStays) ts → find_gametype (map F ts) ≡ find_gametype ts
  move-game ts k =
      ap (λ (z : List Tok). game_props (props_named GM (props z))) (map-drop F 2 ts)
      ∙ ap (λ (z : List Prop). game_props (props_named GM z)) (move-props (drop 2 ts))
      ∙ ap game_props (move-named GM (props (drop 2 ts)))
      ∙ move-game_props (props_named GM (props (drop 2 ts))) (named-fixed (props (drop 2 ts)) (stay-props (drop 2 ts) (all_drop (OfTok GmStays) 2 ts k)))
