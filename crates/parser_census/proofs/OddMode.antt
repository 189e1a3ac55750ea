-- The odd mode, and which modes take a property. Assumes nothing.
use Rattle.lists.proofs.Prelude.{ℕ, ◌+◌, ◌-◌, ◌≡◌, refl, ap, ◌∙◌, Bool, true, false, true≢false, false≢true, List, [], ◌∷◌, length, leb, pick}
use Rattle.lexer.specs.Token.{Val, Tok, start, end, node, prop, End, done, broken}
use Rattle.tables.specs.Numbers.{depth_limit}
use Rattle.parser_census.specs.LocalsCensus.{on_prop, census_at, census_on}
use Rattle.parser_census.specs.LocalsCount.{takes, is_odd}
use Rattle.parser_census.specs.declared.Mode.{Mode}
use Rattle.parser_census.specs.declared.Mode.TheVariants.{Outside, First, Root, Typed, Node, Opened, Bare, Full, Odd}
use Rattle.std.specs.Prelude.{Option, None}

-- ---- the odd mode

pub odd_is : (m : Mode) → is_odd m ≡ true → m ≡ Odd
odd_is Outside h = absurd (false≢true h)
odd_is First h = absurd (false≢true h)
odd_is Root h = absurd (false≢true h)
odd_is Typed h = absurd (false≢true h)
odd_is Node h = absurd (false≢true h)
odd_is Opened h = absurd (false≢true h)
odd_is Bare h = absurd (false≢true h)
odd_is Full h = absurd (false≢true h)
odd_is Odd h = refl

pub pick-both : {A : Type 0} (b : Bool) (x : A) → pick b x x ≡ x
pick-both true x = refl
pick-both false x = refl

ended-odd : (e : End) → census_at e None ≡ None
ended-odd done = refl
ended-odd (broken f s) = refl

pick_odd : (b : Bool) {x y : Option (ℕ × ℕ × ℕ × ℕ)} → x ≡ None → y ≡ None → pick b x y ≡ None
pick_odd true p q = p
pick_odd false p q = q

pub odd-stays : (d t n p v : ℕ) (ts : List Tok) (e : End) → census_on Odd d t n p v ts e ≡ None
odd-stays d t n p v [] e = ended-odd e
odd-stays d t n p v (start o ∷ ts) e = ap (λ (z : Mode). census_on z (d + 1) t n p v ts e) (pick-both (leb depth_limit d) Odd) ∙ odd-stays (d + 1) t n p v ts e
odd-stays d t n p v (end o ∷ ts) e = pick_odd (leb d 1) (odd-stays 0 (t + 1) n p v ts e) (odd-stays (d - 1) t n p v ts e)
odd-stays d t n p v (node o ∷ ts) e = odd-stays d t (n + 1) p v ts e
odd-stays d t n p v (prop q o ∷ ts) e = odd-stays d t n (p + 1) (v + length q.vals) ts e

-- ---- modes that take no property, and those that do

pub not_taken : (m : Mode) → takes m ≡ false → (b : Bool) (vs : List Val) → on_prop m b vs ≡ Odd
not_taken Outside h b vs = refl
not_taken First h b vs = refl
not_taken Root h b vs = absurd (true≢false h)
not_taken Typed h b vs = absurd (true≢false h)
not_taken Node h b vs = absurd (true≢false h)
not_taken Opened h b vs = refl
not_taken Bare h b vs = refl
not_taken Full h b vs = refl
not_taken Odd h b vs = refl

pub taken-other : (m : Mode) → takes m ≡ true → (vs : List Val) → on_prop m false vs ≡ m
taken-other Outside h vs = absurd (false≢true h)
taken-other First h vs = absurd (false≢true h)
taken-other Root h vs = refl
taken-other Typed h vs = refl
taken-other Node h vs = refl
taken-other Opened h vs = absurd (false≢true h)
taken-other Bare h vs = absurd (false≢true h)
taken-other Full h vs = absurd (false≢true h)
taken-other Odd h vs = absurd (false≢true h)
