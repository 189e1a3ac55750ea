-- A property of a census: from here as from the start. Assumes nothing.
use Rattle.lists.proofs.Prelude.{ℕ, suc, ◌+◌, ◌≤◌, ◌<◌, ◌≡◌, refl, sym, ap, ◌∙◌, subst, Bool, true, false, List, [], ◌∷◌, arith, length, get_or, slice}
use types.Run.{OneOf, miss}
use denote.Enum.Declared.{tag_of}
use Rattle.lists.specs.Same.{same as same_name}
use Rattle.lexer_scan.specs.Scan.{space, ident_at, values_end_at}
use Rattle.lexer_scan.specs.declared.Ident.{Ident}
use Rattle.lexer_scan.specs.declared.Ident.TheVariants.{Opens, Missing, Foreign}
use Rattle.lexer_scan.specs.contracts.Ident as ident
use Rattle.lexer_scan.proofs.Bounds.{ident-bounds, opens-not-none}
use Rattle.lexer_scan.proofs.Values.{values-bounds, values-forward}
use Rattle.lexer.specs.Token.{lex_at}
use Rattle.lexer.specs.Step.{on_ident, on_values, on_head, vals_at, prop_at, step_on}
use Rattle.lexer.proofs.Listed.{vals-count}
use Rattle.parser.specs.Game.{GM}
use Rattle.parser_game.proofs.GameValues.{gm-not}
use Rattle.parser_census.specs.LocalsCensus.{on_prop, census_on, census_of}
use Rattle.parser_census.specs.LocalsCount.{takes, is_odd, ValuesCountIs, CountedIs, NameAt, ShortIs}
use Rattle.parser_census.specs.declared.Mode.{Mode}
use Rattle.parser_census.proofs.Places.{next-name}
use Rattle.parser_census.proofs.OddMode.{odd_is, odd-stays, not_taken, taken-other}
use Rattle.parser_census.proofs.Turns.{At-place, On, met}
use Rattle.std.specs.Prelude.{Option, Some, None}

module _ {s : List ℕ} {from i : ℕ} {m : Mode} {d t n p v : ℕ} (x : At-place s from i m d t n p v) (h : i < length s) where
  named : NameAt s i → {z : Ident} → ident_at s i ≡ z → On x (step_on s (on_head s (on_ident i z))) ≡ census_of (lex_at s from)
  named a {z} e = met x (next-name s i h a ∙ ap (λ (y : Ident). on_head s (on_ident i y)) e)

  pub odd-ident : NameAt s i → (r : Ident) → r ≡ ident_at s i → OneOf (1 ∷ 2 ∷ []) (tag_of ident.the_type r) → None ≡ census_of (lex_at s from)
  odd-ident a (Opens k) e o = absurd (miss (1 ∷ 2 ∷ []) 0 tt o)
  odd-ident a Missing e o = named a (sym e)
  odd-ident a Foreign e o = named a (sym e)

  module _ (a : NameAt s i) {k : ℕ} (ek : ident_at s i ≡ Opens k) where
    valued : {z : Option ℕ} → values_end_at s k ≡ z → On x (step_on s (on_values i k z)) ≡ census_of (lex_at s from)
    valued {z} e = ap (λ (y : Option ℕ). On x (step_on s (on_values i k y))) (sym e) ∙ named a ek

    pub odd-open : values_end_at s k ≡ None → None ≡ census_of (lex_at s from)
    odd-open e = valued e

    pub place_prop : {c e : ℕ} → ValuesCountIs s k c e → {m' : Mode} → m' ≡ on_prop m (same_name (slice i k s) GM) (vals_at s k) → At-place s from e m' d t n (p + 1) (v + c)
    unfolding prop_at
    place_prop {c} {e} w {m'} em =
        let b = ident-bounds s i k ek in
        let q = vals-count s (suc (length s)) k e (omega arith) w.ends in
        let g = values-forward s k e (opens-not-none s k b.2) w.ends in
        let f = w.count in
        record {
          same =
              ap (λ (z : Mode). census_on z d t n (p + 1) (v + c) (lex_at s e).toks (lex_at s e).end) em
              ∙ ap (λ (z : ℕ). census_on (on_prop m (same_name (slice i k s) GM) (vals_at s k)) d t n (p + 1) (v + z) (lex_at s e).toks (lex_at s e).end) w.count
              ∙ valued w.ends;
          still = w.still;
          depth = omega (arith, x.depth);
          trees = omega (arith, x.trees);
          nodes = omega (arith, x.nodes);
          props = omega (arith, x.props);
          vals = omega (arith, x.vals);
        }

    pub prop-within : {c e : ℕ} → ValuesCountIs s k c e → (i < e) × (e ≤ length s) × (v + c ≤ e)
    prop-within {c} {e} w =
        let b = ident-bounds s i k ek in
        let q = vals-count s (suc (length s)) k e (omega arith) w.ends in
        let g = values-forward s k e (opens-not-none s k b.2) w.ends in
        let f = w.count in
        (omega arith, (values-bounds s k e w.ends).1 (omega arith), omega (arith, x.vals))

    pub odd-prop : {c e : ℕ} → ValuesCountIs s k c e → {m' : Mode} → m' ≡ on_prop m (same_name (slice i k s) GM) (vals_at s k) → is_odd m' ≡ true → None ≡ census_of (lex_at s from)
    odd-prop {c} {e} w {m'} em o =
        sym (ap (λ (z : Mode). census_on z d t n (p + 1) (v + c) (lex_at s e).toks (lex_at s e).end) (odd_is m' o) ∙ odd-stays d t n (p + 1) (v + c) (lex_at s e).toks (lex_at s e).end)
        ∙ (place_prop w em).same

  -- where no property may follow
  pub odd-name : NameAt s i → takes m ≡ false → None ≡ census_of (lex_at s from)
  odd-name a f = go (ident_at s i) refl
    where
      closed : (k : ℕ) → ident_at s i ≡ Opens k → (z : Option ℕ) → values_end_at s k ≡ z → None ≡ census_of (lex_at s from)
      closed k ek (Some e) q =
          sym (ap (λ (y : Mode). census_on y d t n (p + 1) (v + length (prop_at s i k).vals) (lex_at s e).toks (lex_at s e).end) (not_taken m f (same_name (prop_at s i k).name GM) (prop_at s i k).vals)
          ∙ odd-stays d t n (p + 1) (v + length (prop_at s i k).vals) (lex_at s e).toks (lex_at s e).end)
          ∙ valued a ek q
      closed k ek None q = valued a ek q

      go : (z : Ident) → ident_at s i ≡ z → None ≡ census_of (lex_at s from)
      go (Opens k) e = closed k e (values_end_at s k) refl
      go Missing e = named a e
      go Foreign e = named a e

  -- a short property
  pub place_short : ShortIs s i → takes m ≡ true → At-place s from (i + 5) m d t n (p + 1) (v + 1)
  unfolding prop_at
  place_short w f =
      record {
        same =
            ap (λ (z : Mode). census_on z d t n (p + 1) (v + 1) (lex_at s (i + 5)).toks (lex_at s (i + 5)).end)
            (sym (taken-other m f (vals_at s (i + 1))) ∙ ap (λ (b : Bool). on_prop m b (vals_at s (i + 1))) (gm-not s i (i + 1) (omega arith) (omega (arith, w.inside)) (λ z. omega (arith, z))))
            ∙ ap (λ (z : ℕ). census_on (on_prop m (same_name (slice i (i + 1) s) GM) (vals_at s (i + 1))) d t n (p + 1) (v + z) (lex_at s (i + 5)).toks (lex_at s (i + 5)).end) (sym w.one)
            ∙ met x w.next;
        still = w.still;
        depth = omega (arith, x.depth);
        trees = omega (arith, x.trees);
        nodes = omega (arith, x.nodes);
        props = omega (arith, x.props);
        vals = omega (arith, x.vals);
      }

-- ---- what the count of the values gave

pub counted-all : (s : List ℕ) (k : ℕ) {r : Option (ℕ × ℕ)} → CountedIs s k r → {n e : ℕ} → r ≡ Some (n, e) → ValuesCountIs s k n e
counted-all s k x q = subst (CountedIs s k) q x

pub counted-open : (s : List ℕ) (k : ℕ) {r : Option (ℕ × ℕ)} → CountedIs s k r → r ≡ None → values_end_at s k ≡ None
counted-open s k x q = subst (CountedIs s k) q x

-- where the values begin
pub bracket-still : (s : List ℕ) (i k : ℕ) → ident_at s i ≡ Opens k → (k < length s) × (space (get_or s k 0) ≡ false)
unfolding space
bracket-still s i k e = let b = ident-bounds s i k e in (b.1, ap space b.2)
