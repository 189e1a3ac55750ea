-- A start, an end or a node of a census: from here as from the start. Assumes nothing.
use Rattle.lists.proofs.Prelude.{ℕ, ◌+◌, ◌-◌, ◌≤◌, ◌<◌, ◌≡◌, sym, ap, ◌∙◌, subst⁻¹, Bool, true, false, List, arith, length, get_or, leb, le-leb, lt-leb, pick}
use Rattle.lexer_scan.specs.Scan.{space, skip_at}
use Rattle.lexer_scan.proofs.Bounds.{skip-bounds}
use Rattle.lexer.specs.Token.{Lexed, lex_at}
use Rattle.lexer.specs.Step.{next_at, step_on}
use Rattle.lexer.specs.declared.Step.{Step}
use Rattle.lexer_laws.proofs.Join.{lex-next}
use Rattle.lexer_laws.proofs.Rest.{skip-stops}
use Rattle.tables.specs.Numbers.{depth_limit}
use Rattle.parser_census.specs.LocalsCensus.{on_start, on_end, on_last, on_node, total, census_on, census_of}
use Rattle.parser_census.specs.LocalsCount.{is_odd, NameAt}
use Rattle.parser_census.specs.declared.Mode.{Mode}
use Rattle.parser_census.specs.declared.Mode.TheVariants.{Outside, Odd}
use Rattle.parser_census.proofs.Places.{next-done, next_start, next-end, next-node, lex-still}
use Rattle.parser_census.proofs.OddMode.{odd_is, pick-both, odd-stays}
use Rattle.std.specs.Prelude.{Option, None}

-- ---- at a place i that is no white space; no count is above it

pub record At-place (s : List ℕ) (from i : ℕ) (m : Mode) (d t n p v : ℕ) : Type 0 where
  pub same : census_on m d t n p v (lex_at s i).toks (lex_at s i).end ≡ census_of (lex_at s from)
  pub still : space (get_or s i 0) ≡ false
  pub depth : d ≤ i
  pub trees : t ≤ i
  pub nodes : n ≤ i
  pub props : p ≤ i
  pub vals : v ≤ i

pub place-first : (s : List ℕ) (from : ℕ) {i : ℕ} → i ≡ skip_at s from → At-place s from i Outside 0 0 0 0 0
unfolding census_of
place-first s from {i} e =
    record {
      same = ap (λ (l : Lexed). census_on Outside 0 0 0 0 0 l.toks l.end) (ap (lex_at s) e ∙ sym (lex-still s from));
      still = subst⁻¹ (λ (z : ℕ). space (get_or s z 0) ≡ false) e (skip-stops s from);
      depth = omega arith;
      trees = omega arith;
      nodes = omega arith;
      props = omega arith;
      vals = omega arith;
    }

module _ {s : List ℕ} {from i : ℕ} {m : Mode} {d t n p v : ℕ} (x : At-place s from i m d t n p v) where
  -- the tokens from here on
  abbrev pub On : Lexed → Option (ℕ × ℕ × ℕ × ℕ)
  On l = census_on m d t n p v l.toks l.end

  -- by the next token
  pub met : {y : Step} → next_at s i ≡ y → On (step_on s y) ≡ census_of (lex_at s from)
  met {y} e = ap On (sym (lex-next s i ∙ ap (step_on s) e)) ∙ x.same

  pub place-name : (get_or s i 0 ≡ 0x3b → ⊥) → (get_or s i 0 ≡ 0x28 → ⊥) → (get_or s i 0 ≡ 0x29 → ⊥) → NameAt s i
  place-name a b c = record { start = b; end = c; node = a; still = x.still }

  pub place-done : length s ≤ i → {r : Option (ℕ × ℕ × ℕ × ℕ)} → r ≡ total m t n p v → r ≡ census_of (lex_at s from)
  place-done h e = e ∙ met (next-done s i h)

  -- behind a token of one byte
  behind : (f : Lexed → Option (ℕ × ℕ × ℕ × ℕ)) {j : ℕ} → j ≡ skip_at s (i + 1) → f (lex_at s (i + 1)) ≡ f (lex_at s j)
  behind f e = ap f (lex-still s (i + 1) ∙ ap (lex_at s) (sym e))

  module _ (h : i < length s) {j : ℕ} (ej : j ≡ skip_at s (i + 1)) where
    later : i + 1 ≤ j
    later = omega (arith, skip-bounds s (i + 1))

    pub place-less : length s - j < length s - i
    place-less = let l = later in omega arith

    rests : space (get_or s j 0) ≡ false
    rests = subst⁻¹ (λ (z : ℕ). space (get_or s z 0) ≡ false) ej (skip-stops s (i + 1))

    pub place-node : get_or s i 0 ≡ 0x3b → {m' : Mode} → m' ≡ on_node m → At-place s from j m' d t (n + 1) p v
    place-node e {m'} em =
        let l = later in
        record {
          same = ap (λ (z : Mode). census_on z d t (n + 1) p v (lex_at s j).toks (lex_at s j).end) em ∙ sym (behind (λ (l : Lexed). census_on (on_node m) d t (n + 1) p v l.toks l.end) ej) ∙ met (next-node s i h e);
          still = rests;
          depth = omega (arith, x.depth);
          trees = omega (arith, x.trees);
          nodes = omega (arith, x.nodes);
          props = omega (arith, x.props);
          vals = omega (arith, x.vals);
        }

    pub place-start : get_or s i 0 ≡ 0x28 → d < depth_limit → {m' : Mode} → m' ≡ on_start m → At-place s from j m' (d + 1) t n p v
    place-start e lt {m'} em =
        let l = later in
        record {
          same =
              ap (λ (z : Mode). census_on z (d + 1) t n p v (lex_at s j).toks (lex_at s j).end) (em ∙ sym (ap (λ (b : Bool). pick b Odd (on_start m)) (lt-leb depth_limit d lt)))
              ∙ sym (behind (λ (l : Lexed). census_on (pick (leb depth_limit d) Odd (on_start m)) (d + 1) t n p v l.toks l.end) ej)
              ∙ met (next_start s i h e);
          still = rests;
          depth = omega (arith, x.depth);
          trees = omega (arith, x.trees);
          nodes = omega (arith, x.nodes);
          props = omega (arith, x.props);
          vals = omega (arith, x.vals);
        }

    pub place-last : get_or s i 0 ≡ 0x29 → d ≤ 1 → {m' : Mode} → m' ≡ on_last m → At-place s from j m' 0 (t + 1) n p v
    place-last e le {m'} em =
        let l = later in
        record {
          same =
              ap (λ (z : Mode). census_on z 0 (t + 1) n p v (lex_at s j).toks (lex_at s j).end) em
              ∙ sym (behind (λ (l : Lexed). census_on (on_last m) 0 (t + 1) n p v l.toks l.end) ej)
              ∙ sym (ap (λ (b : Bool). pick b (census_on (on_last m) 0 (t + 1) n p v (lex_at s (i + 1)).toks (lex_at s (i + 1)).end) (census_on (on_end m) (d - 1) t n p v (lex_at s (i + 1)).toks (lex_at s (i + 1)).end)) (le-leb d 1 le))
              ∙ met (next-end s i h e);
          still = rests;
          depth = omega arith;
          trees = omega (arith, x.trees);
          nodes = omega (arith, x.nodes);
          props = omega (arith, x.props);
          vals = omega (arith, x.vals);
        }

    pub place_end : get_or s i 0 ≡ 0x29 → 1 < d → {m' : Mode} → m' ≡ on_end m → At-place s from j m' (d - 1) t n p v
    place_end e gt {m'} em =
        let l = later in
        record {
          same =
              ap (λ (z : Mode). census_on z (d - 1) t n p v (lex_at s j).toks (lex_at s j).end) em
              ∙ sym (behind (λ (l : Lexed). census_on (on_end m) (d - 1) t n p v l.toks l.end) ej)
              ∙ sym (ap (λ (b : Bool). pick b (census_on (on_last m) 0 (t + 1) n p v (lex_at s (i + 1)).toks (lex_at s (i + 1)).end) (census_on (on_end m) (d - 1) t n p v (lex_at s (i + 1)).toks (lex_at s (i + 1)).end)) (lt-leb d 1 gt))
              ∙ met (next-end s i h e);
          still = rests;
          depth = omega (arith, x.depth);
          trees = omega (arith, x.trees);
          nodes = omega (arith, x.nodes);
          props = omega (arith, x.props);
          vals = omega (arith, x.vals);
        }

  -- ---- odd

  module _ (h : i < length s) where
    pub odd-node : get_or s i 0 ≡ 0x3b → {m' : Mode} → m' ≡ on_node m → is_odd m' ≡ true → None ≡ census_of (lex_at s from)
    odd-node e {m'} em o =
        sym (ap (λ (z : Mode). census_on z d t (n + 1) p v (lex_at s (i + 1)).toks (lex_at s (i + 1)).end) (sym em ∙ odd_is m' o) ∙ odd-stays d t (n + 1) p v (lex_at s (i + 1)).toks (lex_at s (i + 1)).end)
        ∙ met (next-node s i h e)

    started : Mode → Option (ℕ × ℕ × ℕ × ℕ)
    started z = census_on z (d + 1) t n p v (lex_at s (i + 1)).toks (lex_at s (i + 1)).end

    odd-start-at : get_or s i 0 ≡ 0x28 → pick (leb depth_limit d) Odd (on_start m) ≡ Odd → None ≡ census_of (lex_at s from)
    unfolding started
    odd-start-at e o = sym (ap started o ∙ odd-stays (d + 1) t n p v (lex_at s (i + 1)).toks (lex_at s (i + 1)).end) ∙ met (next_start s i h e)

    pub odd-deep : get_or s i 0 ≡ 0x28 → depth_limit ≤ d → None ≡ census_of (lex_at s from)
    odd-deep e le = odd-start-at e (ap (λ (b : Bool). pick b Odd (on_start m)) (le-leb depth_limit d le))

    pub odd-start : get_or s i 0 ≡ 0x28 → {m' : Mode} → m' ≡ on_start m → is_odd m' ≡ true → None ≡ census_of (lex_at s from)
    odd-start e {m'} em o = odd-start-at e (ap (λ (z : Mode). pick (leb depth_limit d) Odd z) (sym em ∙ odd_is m' o) ∙ pick-both (leb depth_limit d) Odd)

    pub odd-last : get_or s i 0 ≡ 0x29 → d ≤ 1 → {m' : Mode} → m' ≡ on_last m → is_odd m' ≡ true → None ≡ census_of (lex_at s from)
    odd-last e le {m'} em o =
        sym (ap (λ (b : Bool). pick b (census_on (on_last m) 0 (t + 1) n p v (lex_at s (i + 1)).toks (lex_at s (i + 1)).end) (census_on (on_end m) (d - 1) t n p v (lex_at s (i + 1)).toks (lex_at s (i + 1)).end)) (le-leb d 1 le)
        ∙ ap (λ (z : Mode). census_on z 0 (t + 1) n p v (lex_at s (i + 1)).toks (lex_at s (i + 1)).end) (sym em ∙ odd_is m' o)
        ∙ odd-stays 0 (t + 1) n p v (lex_at s (i + 1)).toks (lex_at s (i + 1)).end)
        ∙ met (next-end s i h e)

    pub odd-end : get_or s i 0 ≡ 0x29 → 1 < d → {m' : Mode} → m' ≡ on_end m → is_odd m' ≡ true → None ≡ census_of (lex_at s from)
    odd-end e gt {m'} em o =
        sym (ap (λ (b : Bool). pick b (census_on (on_last m) 0 (t + 1) n p v (lex_at s (i + 1)).toks (lex_at s (i + 1)).end) (census_on (on_end m) (d - 1) t n p v (lex_at s (i + 1)).toks (lex_at s (i + 1)).end)) (lt-leb d 1 gt)
        ∙ ap (λ (z : Mode). census_on z (d - 1) t n p v (lex_at s (i + 1)).toks (lex_at s (i + 1)).end) (sym em ∙ odd_is m' o)
        ∙ odd-stays (d - 1) t n p v (lex_at s (i + 1)).toks (lex_at s (i + 1)).end)
        ∙ met (next-end s i h e)
