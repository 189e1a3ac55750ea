-- Another closed text in the place of a value: the same tokens, with their places moved. Assumes nothing.
use Rattle.lists.proofs.Prelude.{◌≡◌, refl, sym, ap, ◌∙◌, ℕ, suc, ◌+◌, ◌≤◌, ◌<◌, ◌-◌, arith, true, false, List, [], ◌∷◌, ◌++◌, map, append_assoc, map-append, length, le-leb, lt-leb, lt-ltb, le-ltb, eq-eqb, ne_eqb}
use Rattle.text_utf8.proofs.Steps.{place, place_is}
use Rattle.lexer.specs.Token.{Val, Prop, between, value, after, emits, state_after, finish, lex_from}
use Rattle.lexer.specs.Closed.{closed_from}
use Rattle.lexer.specs.Move.{move_val, move_tok, starts_at, ends_at, new_raw}
use Rattle.lexer_laws.proofs.Machine.{emits-append, ends-append, grown, over-value}
use Rattle.lexer_laws.proofs.Moved.{move_st, Even, move-run, move_lexed, move-finish}

pub starts-low : (q e n p : ℕ) → p ≤ q → starts_at q e n p ≡ p
starts-low q e n p h = rw (le-leb p q h)

pub starts-high : (q e n p : ℕ) → q < p → starts_at q e n p ≡ q + n + (p - e)
starts-high q e n p h = rw (lt-leb p q h)

pub ends_low : (q e n p : ℕ) → p < e → ends_at q e n p ≡ p
ends_low q e n p h = rw (lt-ltb p e h)

pub ends-high : (q e n p : ℕ) → e ≤ p → ends_at q e n p ≡ q + n + (p - e)
ends-high q e n p h = rw (le-ltb p e h)

pub raw-other : (q : ℕ) (new : List ℕ) (p : ℕ) (r : List ℕ) → (p ≡ q → ⊥) → new_raw q new p r ≡ r
raw-other q new p r h = rw (ne_eqb p q h)

pub raw_same : (q : ℕ) (new : List ℕ) (r : List ℕ) → new_raw q new q r ≡ new
raw_same q new r = rw (eq-eqb q q refl)

module _ (f0 l : ℕ) (pre body new post : List ℕ) (s i : ℕ) (w : List ℕ) (vs : List Val)
    (state : state_after between f0 pre ≡ value s i w vs false (place f0 pre) [])
    (cb : closed_from false body ≡ true) (cn : closed_from false new ≡ true)
    (hl : place (place f0 pre) body ≤ l) where
  abbrev q : ℕ
  q = place f0 pre

  abbrev e : ℕ
  e = place q body

  abbrev n : ℕ
  n = length new

  abbrev f : ℕ → ℕ
  f = starts_at q e n

  abbrev g : ℕ → ℕ
  g = ends_at q e n

  abbrev h : ℕ → List ℕ → List ℕ
  h = new_raw q new

  q≤e : q ≤ e
  q≤e = omega (arith, place_is q body)

  f0≤q : f0 ≤ q
  f0≤q = omega (arith, place_is f0 pre)

  even-low : (j : ℕ) → j < q → Even f g h j
  even-low j c =
      record {
        at-end = ends_low q e n j (omega (arith, q≤e)) ∙ sym (starts-low q e n j (omega arith));
        at_next = starts-low q e n (suc j) c ∙ ap suc (sym (starts-low q e n j (omega arith)));
        stays = λ r. raw-other q new j r (λ z. omega arith);
      }

  even-high : (j : ℕ) → e < j → Even f g h j
  even-high j c =
      let fj = starts-high q e n j (omega (arith, q≤e)) in
      let fs = starts-high q e n (suc j) (omega (arith, q≤e)) in
      record {
        at-end = ends-high q e n j (omega arith) ∙ sym fj;
        at_next = omega (arith, fj, fs);
        stays = λ r. raw-other q new j r (λ z. omega (arith, q≤e));
      }

  -- what stands before the value is as it was
  front : (emits between f0 pre ≡ map (move_tok f g h) (emits between f0 pre)) × (value s i w vs false q [] ≡ move_st f g h (value s i w vs false q []))
  front =
      let k = move-run f g h between f0 pre (λ j a c. even-low j c) (λ _. tt) in
      let z : f f0 ≡ f0 = starts-low q e n f0 f0≤q in
      (rw z at k.0, sym state ∙ (rw z at k.1) ∙ ap (move_st f g h) state)

  -- the property with the new value is the old one, moved
  middle : after (grown s i w vs q (place q new) new) ≡ move_st f g h (after (grown s i w vs q e body))
  middle =
      let st : value s i w vs false q [] ≡ value (f s) (g i) w (map (move_val f g h) vs) false (f q) [] = front.1 in
      let z1 : s ≡ f s = cc in
      let z2 : i ≡ g i = cc in
      let z3 : vs ≡ map (move_val f g h) vs = cc in
      let z4 : g e ≡ place q new = omega (arith, ends-high q e n e (omega arith), place_is q new) in
      rw (map-append, ← z1, ← z2, ← z3, z4, starts-low q e n q (omega arith), raw_same q new body)

  old-run : lex_from f0 l (pre ++ (body ++ (0x5d ∷ post)))
      ≡ record {
        toks = emits between f0 pre ++ (emits (after (grown s i w vs q e body)) (suc e) post ++ (finish (state_after (after (grown s i w vs q e body)) (suc e) post) l).toks);
        end = (finish (state_after (after (grown s i w vs q e body)) (suc e) post) l).end;
      }
  old-run =
      let k = over-value s i w vs q [] body post q cb in
      rw (emits-append, ends-append, state, k.0, k.1, append_assoc)

  new-run : (l' : ℕ) → lex_from f0 l' (pre ++ (new ++ (0x5d ∷ post)))
      ≡ record {
        toks = emits between f0 pre ++ (emits (after (grown s i w vs q (place q new) new)) (suc (place q new)) post ++ (finish (state_after (after (grown s i w vs q (place q new) new)) (suc (place q new)) post) l').toks);
        end = (finish (state_after (after (grown s i w vs q (place q new) new)) (suc (place q new)) post) l').end;
      }
  new-run l' =
      let k = over-value s i w vs q [] new post q cn in
      rw (emits-append, ends-append, state, k.0, k.1, append_assoc)

  -- the tokens after an edit of the value
  pub replaced : lex_from f0 (g l) (pre ++ (new ++ (0x5d ∷ post))) ≡ move_lexed f g h (lex_from f0 l (pre ++ (body ++ (0x5d ∷ post))))
  replaced =
      let p : Prop = grown s i w vs q e body in
      let k = move-run f g h (after p) (suc e) post (λ j a c. even-high j (omega arith)) (λ _. tt) in
      let z : suc (place q new) ≡ f (suc e) = omega (arith, starts-high q e n (suc e) (omega (arith, q≤e)), place_is q new) in
      let m :
      record {
        toks = emits between f0 pre ++ (emits (after (grown s i w vs q (place q new) new)) (suc (place q new)) post ++ (finish (state_after (after (grown s i w vs q (place q new) new)) (suc (place q new)) post) (g l)).toks);
        end = (finish (state_after (after (grown s i w vs q (place q new) new)) (suc (place q new)) post) (g l)).end;
      }
      ≡ move_lexed f g h
      (record {
        toks = emits between f0 pre ++ (emits (after p) (suc e) post ++ (finish (state_after (after p) (suc e) post) l).toks);
        end = (finish (state_after (after p) (suc e) post) l).end;
      }) = rw (middle, z, k.0, k.1, move-finish f g h (state_after (after p) (suc e) post) l, map-append, map-append, ← front.0) in
      new-run (g l) ∙ m ∙ ap (move_lexed f g h) (sym old-run)
