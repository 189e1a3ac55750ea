-- A walk, and the trees of slices, over joined lists; a refusal stays. Assumes nothing.
use Rattle.lists.proofs.Prelude.{ℕ, ◌≡◌, refl, List, [], ◌∷◌, ◌++◌, Bool}
use Rattle.lexer.specs.Token.{Tok}
use Rattle.tables.specs.declared.Reason.{Reason}
use Rattle.parser.specs.Walk.{Walk, stopped, walks, walked}
use Rattle.parser.specs.Read.{Trees, no_trees, parse_gametree, parse_gametrees}

pub walked-append : (len : Bool) (base : ℕ) (w : Walk) (xs ys : List Tok) → walked len base w (xs ++ ys) ≡ walked len base (walked len base w xs) ys
walked-append len base w [] ys = refl
walked-append len base w (t ∷ xs) ys = walked-append len base (walks len base w t) xs ys

pub stopped-stays : (len : Bool) (base : ℕ) (r : Reason) (ts : List Tok) → walked len base (stopped r) ts ≡ stopped r
stopped-stays len base r [] = refl
stopped-stays len base r (t ∷ ts) = stopped-stays len base r ts

pub grow-append : (len : Bool) (x : Trees) (xs ys : List (List Tok)) → parse_gametrees len x (xs ++ ys) ≡ parse_gametrees len (parse_gametrees len x xs) ys
grow-append len x [] ys = refl
grow-append len x (s ∷ xs) ys = grow-append len (parse_gametree len x s) xs ys

pub failing-stays : (len : Bool) (r : Reason) (ss : List (List Tok)) → parse_gametrees len (no_trees r) ss ≡ no_trees r
failing-stays len r [] = refl
failing-stays len r (s ∷ ss) = failing-stays len r ss
