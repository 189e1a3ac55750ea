-- What the tokens of a valid text are: each property has a value, and each value is closed and valid UTF-8 by itself. Assumes nothing.
use Rattle.lists.proofs.Prelude.{◌≡◌, refl, sym, ap, ◌∙◌, subst, ℕ, suc, ◌<◌, arith, Bool, true, false, List, [], ◌∷◌, ◌++◌, append_assoc, append-nil, eqb, length, take, drop, length-append, take-append-drop, take-suc, length-take-le, ne_eqb}
use Rattle.lists.specs.All.{All}
use Rattle.lists.proofs.All.{all_append}
use Rattle.lists.proofs.Places.{at_place, part-begins}
use Rattle.text_utf8.specs.Text.{Ink, blank, inked, any, from-a0, to-9f, from-90, to-8f, Utf, whole, part, bad, utf, utfs}
use Rattle.text_utf8.proofs.Steps.{place, place_is, utfs-append, utfs-bad}
use Rattle.text_utf8.proofs.Like.{Like, like-utf}
use Rattle.text_utf8.proofs.Solid.{Solid, solid-open}
use Rattle.lexer.specs.Token.{Val, Prop, between, lex_from}
use Rattle.lexer.specs.Closed.{closed_from}
use Rattle.lexer_laws.proofs.Invariant.{OfTok, EachAt, Invariant, keep-rest}

-- closed, and valid by itself
abbrev pub Proper : Val → Type 0
Proper v = (closed_from false v.raw ≡ true) × ((k : Ink) × (utfs (whole blank) 0 v.raw ≡ whole k))

-- one value at least, and all proper
abbrev pub HasProper : Prop → Type 0
HasProper p = (0 < length p.vals) × All Proper p.vals

abbrev NotBad : Utf → Type 0
NotBad (whole k) = Unit {0}
NotBad (part k s n r c) = Unit {0}
NotBad (bad p) = ⊥

-- what is closed from here on closes the value
abbrev PreShut : List ℕ → Bool → Type 0
PreShut r esc = (body : List ℕ) → closed_from esc body ≡ true → closed_from false (r ++ body) ≡ true

pre-shut-more : (r : List ℕ) (esc esc' : Bool) (b : ℕ) → ((body : List ℕ) → closed_from esc' body ≡ true → closed_from esc (b ∷ body) ≡ true) → PreShut r esc → PreShut (r ++ (b ∷ [])) esc'
pre-shut-more r esc esc' b k h body x = subst (λ (z : List ℕ). closed_from false z ≡ true) (sym (append_assoc r (b ∷ []) body)) (h (b ∷ body) (k body x))

fresh : (u : Utf) (o : ℕ) → Solid o u → NotBad u → (a : ℕ) × Like a (whole blank) u
fresh (whole blank) o s n = absurd s
fresh (whole (inked a l)) o s n = (a, refl)
fresh (part k s n r c) o x y = absurd x
fresh (bad p) o s n = absurd n

-- before a `]` the characters are whole
before-close : (X u : Utf) (o a : ℕ) → Like a X u → NotBad (utf u o 0x5d) → (k : Ink) × (X ≡ whole k)
before-close (whole k) u o a l n = (k, refl)
before-close (part k s n r c) (whole k') o a l x = absurd l
before-close (part k s n r c) (part blank s' n' r' c') o a l x = absurd l
before-close (part k s n r c) (part (inked a' l') s' n' any c') o a l x = absurd x
before-close (part k s n r c) (part (inked a' l') s' n' from-a0 c') o a l x = absurd x
before-close (part k s n r c) (part (inked a' l') s' n' to-9f c') o a l x = absurd x
before-close (part k s n r c) (part (inked a' l') s' n' from-90 c') o a l x = absurd x
before-close (part k s n r c) (part (inked a' l') s' n' to-8f c') o a l x = absurd x
before-close (part k s n r c) (bad p) o a l x = absurd l
before-close (bad p) (whole k) o a l n = absurd l
before-close (bad p) (part k s n r c) o a l x = absurd l
before-close (bad p) (bad p') o a l n = absurd n

sooner : (u : Utf) (o : ℕ) (bs : List ℕ) → NotBad (utfs u o bs) → NotBad u
sooner (whole k) o bs n = tt
sooner (part k s m r c) o bs n = tt
sooner (bad p) o bs n = subst NotBad (utfs-bad p o bs) n

-- U: the UTF-8 state before each place
module _ (U : ℕ → Utf) where
  abbrev Valid : ℕ → ℕ → Type 0
  Valid o b = (U (suc o) ≡ utf (U o) o b) × NotBad (U (suc o))

  abbrev Alike : List ℕ → ℕ → Type 0
  Alike r o = (a : ℕ) × Like a (utfs (whole blank) 0 r) (U o)

  alike-fresh : (o b : ℕ) → Valid o b → b ≡ 0x5b → Alike [] (suc o)
  alike-fresh o b v e =
      let q : U (suc o) ≡ utf (U o) o 0x5b = v.0 ∙ ap (utf (U o) o) e in
      fresh (U (suc o)) o (subst (Solid o) (sym q) (solid-open (U o) o)) v.1

  alike-more : (r : List ℕ) (o b : ℕ) → Valid o b → Alike r o → Alike (r ++ (b ∷ [])) (suc o)
  alike-more r o b v l = (
    l.0,
    subst (Like l.0 (utfs (whole blank) 0 (r ++ (b ∷ [])))) (sym v.0)
        (subst (λ (z : Utf). Like l.0 z (utf (U o) o b)) (sym (utfs-append (whole blank) 0 r (b ∷ []))) (like-utf l.0 (utfs (whole blank) 0 r) (U o) (place 0 r) o b l.1)),
  )

  alike-whole : (r : List ℕ) (o b : ℕ) → Valid o b → b ≡ 0x5d → Alike r o → (k : Ink) × (utfs (whole blank) 0 r ≡ whole k)
  alike-whole r o b v e l = before-close (utfs (whole blank) 0 r) (U o) o l.0 l.1 (subst NotBad (v.0 ∙ ap (utf (U o) o) e) v.1)

  proper : Invariant Valid (λ o s w. Unit {0}) (λ o s i w vs esc v r. All Proper vs × PreShut r esc × Alike r o) HasProper
  proper =
      record {
        starting = λ a. tt;
        naming = λ a n. tt;
        opening = λ {o} {b} a e n. (tt, (λ body h. h), alike-fresh o b a e);
        escaped = λ {o} {b} {s} {i} {v} {w} {r} a h. (h.0, pre-shut-more r true false b (λ body x. x) h.1, alike-more r o b a h.2);
        valuing = λ {o} {b} {s} {i} {v} {w} {r} a n h. (h.0, pre-shut-more r false (eqb b 0x5c) b (λ body x. rw (ne_eqb b 0x5d n) x) h.1, alike-more r o b a h.2);
        closing = λ {o} {b} {s} {i} {v} {w} {r} {vs} a e h. (
          omega (arith, length-append vs (record { from = v; to = o; raw = r } ∷ [])),
          all_append Proper vs (record { from = v; to = o; raw = r } ∷ []) h.0
              ((subst (λ (z : List ℕ). closed_from false z ≡ true) (append-nil r) (h.1 [] refl), alike-whole r o b a e h.2), tt),
        );
        reopening = λ {o} {b} a e h. (h.1, (λ body x. x), alike-fresh o b a e);
      }

-- ---- of a text

abbrev states : List ℕ → ℕ → Utf
states t o = utfs (whole blank) 0 (take o t)

module _ (t : List ℕ) (k : Ink) (h : utfs (whole blank) 0 t ≡ whole k) where
  state-fine : (o : ℕ) → NotBad (states t o)
  state-fine o =
      sooner (states t o) (place 0 (take o t)) (drop o t)
      (subst NotBad (sym (sym (utfs-append (whole blank) 0 (take o t) (drop o t)) ∙ ap (utfs (whole blank) 0) (take-append-drop o t) ∙ h)) tt)

  each-valid : (o : ℕ) (bs xs : List ℕ) → drop o t ≡ bs ++ xs → EachAt (Valid (states t)) o bs
  each-valid o [] xs d = tt
  each-valid o (b ∷ bs) xs d =
      let p = at_place o t b (bs ++ xs) d in
      let l : place 0 (take o t) ≡ o = omega (arith, place_is 0 (take o t), length-take-le o t (omega (arith, p.0))) in
      let e : states t (suc o) ≡ utf (states t o) o b =
      ap (utfs (whole blank) 0) (take-suc t o 0 p.0 ∙ ap (λ (z : ℕ). take o t ++ (z ∷ [])) p.1)
      ∙ utfs-append (whole blank) 0 (take o t) (b ∷ [])
      ∙ ap (λ (z : ℕ). utf (states t o) z b) l in
      ((e, state-fine (suc o)), each-valid (suc o) bs xs p.2)

  -- the tokens of what stands from f to l
  pub proper-tokens : (f l : ℕ) → All (OfTok HasProper) (lex_from f l (drop f (take l t))).toks
  proper-tokens f l =
      let x = part-begins f l t in
      keep-rest (proper (states t)) between f l (drop f (take l t)) (each-valid f (drop f (take l t)) x.0 x.1) tt
