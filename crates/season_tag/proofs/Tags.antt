-- A tag goes on from the bytes before: in parts, and byte by byte. Assumes nothing.
use Rattle.lists.proofs.Prelude.{ℕ, ◌+◌, ◌<◌, ◌≤◌, ◌≡◌, refl, List, [], ◌∷◌, ◌++◌, length, get_or, drop, add-one, drop_of_length-le, drop-cons}
use Rattle.season_tag.specs.Tag.{tag_step, tag_from, tag_of}

from-append : (h : ℕ) (xs ys : List ℕ) → tag_from h (xs ++ ys) ≡ tag_from (tag_from h xs) ys
from-append h [] ys = refl
from-append h (x ∷ xs) ys = from-append (tag_step h x) xs ys

-- a tag can be made in parts
pub tag-append : (xs ys : List ℕ) → tag_of (xs ++ ys) ≡ tag_from (tag_of xs) ys
unfolding tag_of
tag-append xs ys = from-append 14695981039346656037 xs ys

pub tag-turn : (s : List ℕ) (i h h' x : ℕ) → i < length s → h' ≡ tag_step h (get_or s i 0) → tag_from h (drop i s) ≡ x → tag_from h' (drop (i + 1) s) ≡ x
tag-turn s i h h' x l e p = rw (e, add-one) (rw (drop-cons s i 0 l) at p)

pub tag-end : (s : List ℕ) (i h x : ℕ) → length s ≤ i → tag_from h (drop i s) ≡ x → h ≡ x
tag-end s i h x l p = rw (drop_of_length-le s l) at p
