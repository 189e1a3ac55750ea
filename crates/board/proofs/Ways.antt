-- The nodes of a way, one more or taken apart. Assumes nothing.
use Rattle.lists.proofs.Prelude.{ℕ, Bool, true, false, ◌&&◌, ◌≡◌, refl, sym, ap, ap₂, ◌∙◌, List, [], ◌∷◌, ◌++◌, append_assoc, append-nil}
use Rattle.parts_props.specs.Props.{Property}
use Rattle.board_play.specs.Steps.{Pos, Act, Steps, done, next}
use Rattle.board_node.specs.Node.{acts_of, right_node}
use Rattle.board.specs.Answer.{way_right, way_acts}

pub steps_then : {w h : ℕ} {s s' s'' : Pos} {a b : List Act} → Steps w h s a s' → Steps w h s' b s'' → Steps w h s (a ++ b) s''
steps_then done y = y
steps_then (next x xs) y = next x (steps_then xs y)

module _ (w h : ℕ) where
  pub right-append : (xs ys : List (List Property)) → way_right w h (xs ++ ys) ≡ (way_right w h xs && way_right w h ys)
  right-append [] ys = refl
  right-append (x ∷ xs) ys = go (right_node w h x) (right-append xs ys)
    where
      go : (t : Bool) → way_right w h (xs ++ ys) ≡ (way_right w h xs && way_right w h ys) → (t && way_right w h (xs ++ ys)) ≡ ((t && way_right w h xs) && way_right w h ys)
      go true e = e
      go false e = refl

  pub acts-append : (xs ys : List (List Property)) → way_acts w h (xs ++ ys) ≡ way_acts w h xs ++ way_acts w h ys
  acts-append [] ys = refl
  acts-append (x ∷ xs) ys =
      ap (λ (z : List Act). acts_of w h x ++ z) (acts-append xs ys) ∙ sym (append_assoc (acts_of w h x) (way_acts w h xs) (way_acts w h ys))

  -- one node more
  pub right-one : (xs : List (List Property)) (ps : List Property) (u v : Bool) → way_right w h xs ≡ u → right_node w h ps ≡ v → way_right w h (xs ++ (ps ∷ [])) ≡ (u && v)
  right-one xs ps u v d e = right-append xs (ps ∷ []) ∙ ap₂ (λ (x y : Bool). x && y) d (last v e)
    where
      last : (v : Bool) → right_node w h ps ≡ v → (right_node w h ps && true) ≡ v
      last true e = rw e
      last false e = rw e

  pub acts-one : (xs : List (List Property)) (ps : List Property) → way_acts w h (xs ++ (ps ∷ [])) ≡ way_acts w h xs ++ acts_of w h ps
  acts-one xs ps = acts-append xs (ps ∷ []) ∙ ap (λ (z : List Act). way_acts w h xs ++ z) (append-nil (acts_of w h ps))

  -- a way is wrong as soon as a part of it is
  pub right-front : (xs ys : List (List Property)) → way_right w h xs ≡ false → way_right w h (xs ++ ys) ≡ false
  right-front xs ys e = right-append xs ys ∙ rw e
