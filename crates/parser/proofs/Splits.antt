-- Splitting, one token at a time, strict and lenient alike. Assumes nothing.
use Rattle.lists.proofs.Prelude.{ℕ, zero, suc, ◌+◌, ◌-◌, ◌≤◌, ◌<◌, max, ◌≡◌, refl, sym, ap, ◌∙◌, subst, Bool, List, [], ◌∷◌, reverse, arith, add-one, length, length-reverse}
use Rattle.lexer.specs.Token.{Prop, Tok, start, end, node, prop, Lexed, lexed}
use Rattle.parser.specs.Split.{Splitting, splitting, split, ended}
use Rattle.parser.specs.LocalsSurvey.{SplitsTo, SplitIs, StopsAt, left_at}
use Rattle.parser.specs.declared.Stop.{Stop}

-- the numbers so far are no more than the bytes
pub record Splitting-at (size : ℕ) (l r : Lexed) (at d m n : ℕ) : Type 0 where
  pub here : SplitsTo l r d m n
  pub bound : n + d ≤ at
  pub room : n + d ≤ size

pub split-first : (size : ℕ) (l : Lexed) (at : ℕ) → Splitting-at size l l at 0 0 0
split-first size l at =
    record {
      here = record { cur = []; ss = []; count = refl; full = tt; begun = omega arith; same = λ len. refl; ends = refl };
      bound = omega arith;
      room = omega arith;
    }

ended-one : (len : Bool) (d m : ℕ) (t : Tok) (cur : List Tok) (ss : List (List Tok)) → d ≡ 1 → ended len d m t cur ss ≡ splitting 0 m [] (reverse (t ∷ cur) ∷ ss)
ended-one len d m t cur ss e = ap (λ (z : ℕ). ended len z m t cur ss) e

ended-more : (len : Bool) (d m : ℕ) (t : Tok) (cur : List Tok) (ss : List (List Tok)) → (d - 1 ≡ 0 → ⊥) → ended len d m t cur ss ≡ splitting (d - 1) m (t ∷ cur) ss
ended-more len zero m t cur ss h = absurd (h (omega arith))
ended-more len (suc zero) m t cur ss h = absurd (h (omega arith))
ended-more len (suc (suc d)) m t cur ss h = let e : suc (suc d) - 1 ≡ suc d = omega arith in ap (λ (z : ℕ). splitting z m (t ∷ cur) ss) (sym e)

module _ {size : ℕ} {l r : Lexed} {at d m n : ℕ} (x : Splitting-at size l r at d m n) (r' : Lexed) where
  abbrev X : SplitsTo l r d m n
  X = x.here

  -- a token that splitting turns into another state
  on : (t : Tok) → r ≡ lexed (t ∷ []) r' → (len : Bool) → split len (splitting 0 0 [] []) l.toks ≡ split len (splitting d m X.cur X.ss) (t ∷ r'.toks)
  on t e len = X.same len ∙ ap (λ (z : Lexed). split len (splitting d m X.cur X.ss) z.toks) e

  ends_on : (t : Tok) → r ≡ lexed (t ∷ []) r' → l.end ≡ r'.end
  ends_on t e = X.ends ∙ ap (λ (z : Lexed). z.end) e

  -- a token that leaves the depth
  still : (t : Tok) (j : ℕ) → at ≤ j → r ≡ lexed (t ∷ []) r' → ((len : Bool) → split len (splitting d m X.cur X.ss) (t ∷ r'.toks) ≡ split len (splitting d m (t ∷ X.cur) X.ss) r'.toks) → Splitting-at size l r' j d m n
  still t j h e f =
      let b = X.begun in
      let a = x.bound in
      let c = x.room in
      record {
        here = record { cur = t ∷ X.cur; ss = X.ss; count = X.count; full = X.full; begun = omega arith; same = λ len. on t e len ∙ f len; ends = ends_on t e };
        bound = omega arith;
        room = omega arith;
      }

  module _ (i : ℕ) (h : at ≤ i) (hs : i < size) where
    pub split-node : r ≡ lexed (node i ∷ []) r' → Splitting-at size l r' (i + 1) d m n
    split-node e = still (node i) (i + 1) (omega arith) e (λ len. refl)

    pub split-prop : {p : Prop} {g : ℕ} → r ≡ lexed (prop p g ∷ []) r' → i ≤ g → Splitting-at size l r' g d m n
    split-prop {p} {g} e hg = still (prop p g) g (omega arith) e (λ len. refl)

    pub split-start : r ≡ lexed (start i ∷ []) r' → {k : ℕ} → k ≡ max m (d + 1) → Splitting-at size l r' (i + 1) (d + 1) k n
    split-start e {k} q =
        let b = X.begun in
        let a = x.bound in
        let c = x.room in
        record {
          here = record {
            cur = start i ∷ X.cur;
            ss = X.ss;
            count = X.count;
            full = X.full;
            begun = omega arith;
            same = λ len.
                on (start i) e len
                ∙ ap (λ (z : ℕ). split len (splitting z (max m z) (start i ∷ X.cur) X.ss) r'.toks) (sym (add-one d))
                ∙ ap (λ (z : ℕ). split len (splitting (d + 1) z (start i ∷ X.cur) X.ss) r'.toks) (sym q);
            ends = ends_on (start i) e;
          };
          bound = omega arith;
          room = omega arith;
        }

    pub split-end : r ≡ lexed (end i ∷ []) r' → (d - 1 ≡ 0 → ⊥) → Splitting-at size l r' (i + 1) (d - 1) m n
    split-end e h2 =
        let b = X.begun in
        let a = x.bound in
        let c = x.room in
        record {
          here = record {
            cur = end i ∷ X.cur;
            ss = X.ss;
            count = X.count;
            full = X.full;
            begun = omega arith;
            same = λ len. on (end i) e len ∙ ap (λ (z : Splitting). split len z r'.toks) (ended-more len d m (end i) X.cur X.ss h2);
            ends = ends_on (end i) e;
          };
          bound = omega arith;
          room = omega arith;
        }

    pub split-slice : r ≡ lexed (end i ∷ []) r' → (d ≡ 0 → ⊥) → d - 1 ≡ 0 → Splitting-at size l r' (i + 1) (d - 1) m (n + 1)
    split-slice e h1 h2 =
        let a = x.bound in
        let c = x.room in
        let o = X.count in
        let v = length-reverse (end i ∷ X.cur) in
        let d1 : d ≡ 1 = one d h1 h2 in
        record {
          here = record {
            cur = [];
            ss = reverse (end i ∷ X.cur) ∷ X.ss;
            count = omega arith;
            full = (omega arith, X.full);
            begun = omega arith;
            same = λ len.
                on (end i) e len
                ∙ ap (λ (z : Splitting). split len z r'.toks)
                (ended-one len d m (end i) X.cur X.ss d1 ∙ ap (λ (z : ℕ). splitting z m [] (reverse (end i ∷ X.cur) ∷ X.ss)) (sym h2));
            ends = ends_on (end i) e;
          };
          bound = omega arith;
          room = omega arith;
        }
      where
        one : (d : ℕ) → (d ≡ 0 → ⊥) → d - 1 ≡ 0 → d ≡ 1
        one zero k1 k2 = absurd (k1 refl)
        one (suc d) k1 k2 = omega arith

-- where it stops
pub split-stop : (s : List ℕ) {l r : Lexed} {at d m n : ℕ} → Splitting-at (length s) l r at d m n → (stop : Stop) → r ≡ left_at s stop → StopsAt s d stop → SplitIs s l d m n stop
split-stop s {l} {r} {at} {d} {m} {n} x stop e z = record { splits = subst (λ (y : Lexed). SplitsTo l y d m n) e x.here; stops = z; room = x.room }

pub stop-as : {s : List ℕ} {l : Lexed} {d m n : ℕ} {stop stop' : Stop} → SplitIs s l d m n stop → stop ≡ stop' → SplitIs s l d m n stop'
stop-as {s} {l} {d} {m} {n} x e = subst (λ (y : Stop). SplitIs s l d m n y) e x
