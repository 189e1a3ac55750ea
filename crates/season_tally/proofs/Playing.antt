-- What a property counts as by its row, and one more of them. Assumes nothing.
use Rattle.lists.proofs.Prelude.{ℕ, ◌+◌, ◌/◌, ◌≤◌, ◌<◌, ◌≡◌, refl, sym, ap, ap₂, ◌∙◌, subst, Bool, true, false, List, [], ◌∷◌, arith, add-one, length, get_or, ◌&&◌, eqb, leb, le-ltb, lt-ltb, pick}
use Rattle.lists.proofs.Tests.{never}
use denote.Enum.Declared.{tag_of}
use types.Run.{OneOf, miss}
use Rattle.lists.specs.Same.{same}
use Rattle.values.specs.Read.{read_identifier}
use Rattle.parts.specs.Rows.{values_at}
use Rattle.parts_props.specs.Props.{identifier_at}
use Rattle.go_points.specs.declared.Value.{Value}
use Rattle.go_points.specs.declared.Value.TheVariants.{Other}
use Rattle.go_shape.specs.Shape.{shape_of}
use Rattle.go_shape.specs.declared.Shape.TheVariants.{OneMove}
use Rattle.go.specs.Value.{is_go, value_by, go_value}
use Rattle.fit.proofs.RootRows.{same-equal}
use Rattle.tables.specs.Columns.{property_stride, root_at, first_prop_at, first_val_at, val_count_at}
use Rattle.tables.specs.Each.{sum}
use Rattle.season_tally.specs.contracts.Played as played
use Rattle.season_tally.specs.declared.Played.{Played}
use Rattle.season_tally.specs.declared.Played.TheVariants.{Black, White, Passed, Nothing}
use Rattle.season_tally.specs.declared.Moves.{Moves}
use Rattle.season_tally.specs.Tally.{moved_by, played_by, is_black, is_white, is_passed}
use Rattle.season_tally.specs.Locals.{mover_of, played_at, one_played, BelowAll, Counted, Goes, next_first}

other_none : (name : List ℕ) → Nothing ≡ played_by name Other
unfolding played_by
other_none name = go (same name (0x42 ∷ [])) (same name (0x57 ∷ []))
  where
    go : (t u : Bool) → Nothing ≡ pick t Nothing (pick u Nothing Nothing)
    go true u = refl
    go false true = refl
    go false false = refl

module _ (rule : ℕ) (text pr vl : List ℕ) (p : ℕ) where
  abbrev name : List ℕ
  name = read_identifier (identifier_at text pr p)

  abbrev values : List (List ℕ)
  values = values_at text vl (first_val_at pr p) (val_count_at pr p)

  pub played-other : is_go rule ≡ false → Nothing ≡ played_at rule text pr vl p
  unfolding played_at go_value
  played-other e = rw e (other_none name)

  pub played-missing : length pr / property_stride ≤ p → Nothing ≡ played_at rule text pr vl p
  unfolding played_at played_by identifier_at read_identifier
  played-missing h = rw (le-ltb p (length pr / property_stride) h)

  module _ (e : is_go rule ≡ true) where
    pub played-black : same name (0x42 ∷ []) ≡ true → moved_by Black (value_by rule OneMove values).value ≡ played_at rule text pr vl p
    unfolding played_at played_by go_value shape_of
    played-black h = let n : name ≡ 0x42 ∷ [] = same-equal name (0x42 ∷ []) h in rw (e, n)

    pub played-white : same name (0x57 ∷ []) ≡ true → moved_by White (value_by rule OneMove values).value ≡ played_at rule text pr vl p
    unfolding played_at played_by go_value shape_of
    played-white h = let n : name ≡ 0x57 ∷ [] = same-equal name (0x57 ∷ []) h in rw (e, n)

  pub played-neither : same name (0x42 ∷ []) ≡ false → same name (0x57 ∷ []) ≡ false → Nothing ≡ played_at rule text pr vl p
  unfolding played_at played_by
  played-neither h k = rw (h, k)

pub one_below : (m : Moves) (w : Played) (n : ℕ) → BelowAll m n → BelowAll (one_played m w) (n + 1)
one_below m Black n b = let x = b.black in let y = b.white in let z = b.passes in record { black = omega arith; white = omega arith; passes = omega arith }
one_below m White n b = let x = b.black in let y = b.white in let z = b.passes in record { black = omega arith; white = omega arith; passes = omega arith }
one_below m Passed n b = let x = b.black in let y = b.white in let z = b.passes in record { black = omega arith; white = omega arith; passes = omega arith }
one_below m Nothing n b = let x = b.black in let y = b.white in let z = b.passes in record { black = omega arith; white = omega arith; passes = omega arith }

sum_one : (f : ℕ → ℕ) (n k : ℕ) → f n ≡ k → sum f (n + 1) ≡ sum f n + k
unfolding sum
sum_one f n k e = rw (add-one, e)

pub one-counted : (f : ℕ → Played) (n : ℕ) (m : Moves) (w : Played) → f n ≡ w → Counted f n m → Counted f (n + 1) (one_played m w)
one-counted f n m w e c =
    go w (sum_one (λ p. is_black (f p)) n (is_black w) (ap is_black e)) (sum_one (λ p. is_white (f p)) n (is_white w) (ap is_white e)) (sum_one (λ p. is_passed (f p)) n (is_passed w) (ap is_passed e))
  where
    go : (w : Played) → sum (λ p. is_black (f p)) (n + 1) ≡ sum (λ p. is_black (f p)) n + is_black w → sum (λ p. is_white (f p)) (n + 1) ≡ sum (λ p. is_white (f p)) n + is_white w
        → sum (λ p. is_passed (f p)) (n + 1) ≡ sum (λ p. is_passed (f p)) n + is_passed w → Counted f (n + 1) (one_played m w)
    go Black x y z = let b = c.black in let d = c.white in let g = c.passes in record { black = omega arith; white = omega arith; passes = omega arith }
    go White x y z = let b = c.black in let d = c.white in let g = c.passes in record { black = omega arith; white = omega arith; passes = omega arith }
    go Passed x y z = let b = c.black in let d = c.white in let g = c.passes in record { black = omega arith; white = omega arith; passes = omega arith }
    go Nothing x y z = let b = c.black in let d = c.white in let g = c.passes in record { black = omega arith; white = omega arith; passes = omega arith }

-- the loop over a range
pub goes_first : (g : ℕ → Played) (from : ℕ) (m : Moves) → BelowAll m from → Goes g from m from m
goes_first g from m b = record { below = b; counted = λ f h c. c }

pub goes-next : (g : ℕ → Played) (from : ℕ) (m : Moves) (p : ℕ) (m1 : Moves) (w : Played) → from ≤ p → w ≡ g p → Goes g from m p m1 → Goes g from m (p + 1) (one_played m1 w)
goes-next g from m p m1 w l e x =
    record {
      below = one_below m1 w p x.below;
      counted = λ f h c. one-counted f p m1 w (h p l (omega arith) ∙ sym e) (x.counted f (λ q a b. h q a (omega arith)) c);
    }

-- whose move an identifier names
module _ (name : List ℕ) where
  pub mover-black : same name (0x42 ∷ []) ≡ true → Black ≡ mover_of name
  unfolding mover_of
  mover-black h = rw h

  pub mover-white : same name (0x42 ∷ []) ≡ false → same name (0x57 ∷ []) ≡ true → White ≡ mover_of name
  unfolding mover_of
  mover-white h k = rw (h, k)

  pub mover-none : same name (0x42 ∷ []) ≡ false → same name (0x57 ∷ []) ≡ false → Nothing ≡ mover_of name
  unfolding mover_of
  mover-none h k = rw (h, k)

-- and one byte
pub letter-black : (b : ℕ) → b ≡ 0x42 → Black ≡ mover_of (read_identifier (b ∷ []))
unfolding mover_of read_identifier
letter-black b e = rw e

pub letter-white : (b : ℕ) → b ≡ 0x57 → White ≡ mover_of (read_identifier (b ∷ []))
unfolding mover_of read_identifier
letter-white b e = rw e

pub letter-none : (b : ℕ) → eqb b 0x42 ≡ false → eqb b 0x57 ≡ false → Nothing ≡ mover_of (read_identifier (b ∷ []))
unfolding mover_of read_identifier
letter-none b h k = go (leb 0x41 b && leb b 0x5a)
  where
    go : (t : Bool) → Nothing ≡ mover_of (pick t (b ∷ []) [])
    go true = rw (h, k)
    go false = refl

pub one-letter : (s : List ℕ) → length s ≡ 1 → {b : ℕ} → b ≡ get_or s 0 0 → {r : Played} → r ≡ mover_of (read_identifier (b ∷ [])) → r ≡ mover_of (read_identifier s)
one-letter [] h e x = absurd (omega (arith, h))
one-letter (b ∷ []) h e x = x ∙ ap (λ (z : ℕ). mover_of (read_identifier (z ∷ []))) e
one-letter (b ∷ d ∷ s) h e x = absurd (omega (arith, h))

-- what is told to be no nothing
pub not-nothing : (w : Played) → OneOf (0 ∷ 1 ∷ 2 ∷ []) (tag_of played.the_type w) → w ≡ Nothing → ⊥
not-nothing w h e = miss (0 ∷ 1 ∷ 2 ∷ []) 3 tt (subst (λ (z : Played). OneOf (0 ∷ 1 ∷ 2 ∷ []) (tag_of played.the_type z)) e h)

-- what the code found at property p
module _ (rule : ℕ) (text pr vl : List ℕ) (p : ℕ) (e : is_go rule ≡ true) (id : List ℕ) (i : id ≡ identifier_at text pr p) (mine : Played) (o : mine ≡ mover_of (read_identifier id)) where
  mine-is : mine ≡ mover_of (name rule text pr vl p)
  mine-is = o ∙ ap (λ (z : List ℕ). mover_of (read_identifier z)) i

  pub found_none : mine ≡ Nothing → Nothing ≡ played_at rule text pr vl p
  unfolding mover_of
  found_none h = go (same nm (0x42 ∷ [])) refl (same nm (0x57 ∷ [])) refl (sym h ∙ mine-is)
    where
      nm : List ℕ
      nm = name rule text pr vl p

      go : (t : Bool) → same nm (0x42 ∷ []) ≡ t → (u : Bool) → same nm (0x57 ∷ []) ≡ u → Nothing ≡ pick t Black (pick u White Nothing) → Nothing ≡ played_at rule text pr vl p
      go true x u y z = never cc
      go false x true y z = never cc
      go false x false y z = played-neither rule text pr vl p x y

  module _ (first count : ℕ) (x : first ≡ first_val_at pr p) (y : count ≡ val_count_at pr p) (v : Value) (u : v ≡ (value_by rule OneMove (values_at text vl first count)).value) (r : Played) where
    value-is : v ≡ (value_by rule OneMove (values rule text pr vl p)).value
    value-is = u ∙ ap₂ (λ (a b : ℕ). (value_by rule OneMove (values_at text vl a b)).value) x y

    pub found_some : (mine ≡ Nothing → ⊥) → r ≡ moved_by mine v → r ≡ played_at rule text pr vl p
    unfolding mover_of
    found_some h w = go (same nm (0x42 ∷ [])) refl (same nm (0x57 ∷ [])) refl mine-is
      where
        nm : List ℕ
        nm = name rule text pr vl p

        go : (t : Bool) → same nm (0x42 ∷ []) ≡ t → (s : Bool) → same nm (0x57 ∷ []) ≡ s → mine ≡ pick t Black (pick s White Nothing) → r ≡ played_at rule text pr vl p
        go true a s b z = w ∙ ap₂ moved_by z value-is ∙ played-black rule text pr vl p e a
        go false a true b z = w ∙ ap₂ moved_by z value-is ∙ played-white rule text pr vl p e b
        go false a false b z = absurd (h z)

-- the first property of the next root
module _ (tr nd : List ℕ) (m r n : ℕ) where
  pub next_last : m ≤ r + 1 → n ≡ next_first tr nd m r n
  unfolding next_first
  next_last h = rw (le-ltb (r + 1) m h)

  pub next-root : r + 1 < m → (root f : ℕ) → root ≡ root_at tr (r + 1) → f ≡ first_prop_at nd root → f ≡ next_first tr nd m r n
  unfolding next_first
  next-root h root f x y = rw (lt-ltb (r + 1) m h) (y ∙ ap (first_prop_at nd) x)

pub goes_step : (g : ℕ → Played) (from : ℕ) (m : Moves) (p : ℕ) (m1 m2 : Moves) (w : Played) → from ≤ p → w ≡ g p → m2 ≡ one_played m1 w → Goes g from m p m1 → Goes g from m (p + 1) m2
goes_step g from m p m1 m2 w l e z x = subst (λ (y : Moves). Goes g from m (p + 1) y) (sym z) (goes-next g from m p m1 w l e x)

pub goes_end : (g : ℕ → Played) (from : ℕ) (m : Moves) (p to : ℕ) (m1 : Moves) → p ≤ to → to ≤ p → Goes g from m p m1 → Goes g from m to m1
goes_end g from m p to m1 h l x = let e : p ≡ to = omega arith in subst (λ (k : ℕ). Goes g from m k m1) e x
