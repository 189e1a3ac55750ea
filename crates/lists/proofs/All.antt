-- A fact of each element of a list: of joined, mapped and reversed lists. Assumes nothing.
use Rattle.lists.proofs.Prelude.{◌≡◌, refl, sym, subst, List, [], ◌∷◌, ◌++◌, reverse, reverse_aux, List-as-Memᴰ, memᴰ-head, memᴰ-tail, map, Bool, true, ◌&&◌}
use Rattle.lists.proofs.Tests.{and_both}
use Rattle.lists.specs.All.{All}

module _ {A : Type 0} where
  pub all_append : (P : A → Type 0) (xs ys : List A) → All P xs → All P ys → All P (xs ++ ys)
  all_append P [] ys h k = k
  all_append P (x ∷ xs) ys h k = (h.0, all_append P xs ys h.1 k)

  pub all_left : (P : A → Type 0) (xs ys : List A) → All P (xs ++ ys) → All P xs
  all_left P [] ys h = tt
  all_left P (x ∷ xs) ys h = (h.0, all_left P xs ys h.1)

  pub all_right : (P : A → Type 0) (xs ys : List A) → All P (xs ++ ys) → All P ys
  all_right P [] ys h = h
  all_right P (x ∷ xs) ys h = all_right P xs ys h.1

  pub all-mem : (P : A → Type 0) {a : A} (xs : List A) → List-as-Memᴰ a xs → All P xs → P a
  all-mem P xs (memᴰ-head e) h = subst P (sym e) h.0
  all-mem P xs (memᴰ-tail {xs = ys} m) h = all-mem P ys m h.1

  pub all_map : (P Q : A → Type 0) → ((x : A) → P x → Q x) → (xs : List A) → All P xs → All Q xs
  all_map P Q f [] h = tt
  all_map P Q f (x ∷ xs) h = (f x h.0, all_map P Q f xs h.1)

  pub all-reverse_aux : (P : A → Type 0) (xs ys : List A) → All P xs → All P ys → All P (reverse_aux xs ys)
  all-reverse_aux P [] ys h k = k
  all-reverse_aux P (x ∷ xs) ys h k = all-reverse_aux P xs (x ∷ ys) h.1 (h.0, k)

  pub all-reverse : (P : A → Type 0) (xs : List A) → All P xs → All P (reverse xs)
  all-reverse P xs h = all-reverse_aux P xs [] h tt

  -- a map that changes no element of the list
  pub map_same : (f : A → A) (xs : List A) → All (λ x. f x ≡ x) xs → map f xs ≡ xs
  map_same f [] h = refl
  map_same f (x ∷ xs) h = rw (h.0, map_same f xs h.1)

  pub all-each : (P : A → Type 0) → ((x : A) → P x) → (xs : List A) → All P xs
  all-each P f [] = tt
  all-each P f (x ∷ xs) = (f x, all-each P f xs)

  -- the test holds of every element
  abbrev pub every : (A → Bool) → List A → Bool
  every f [] = true
  every f (x ∷ xs) = f x && every f xs

  pub all-every : (f : A → Bool) (P : A → Type 0) → ((x : A) → f x ≡ true → P x) → (xs : List A) → every f xs ≡ true → All P xs
  all-every f P g [] h = tt
  all-every f P g (x ∷ xs) h = let p = and_both (f x) (every f xs) h in (g x p.0, all-every f P g xs p.1)
