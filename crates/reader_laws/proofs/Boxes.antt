-- Each value of a text's tokens stands after `[` and before `]`. Assumes nothing.
use Rattle.lists.proofs.Prelude.{◌≡◌, ap, ◌∙◌, ℕ, suc, ◌-◌, ◌<◌, arith, List, [], ◌∷◌, ◌++◌, take, drop, get_or}
use Rattle.lists.specs.All.{All}
use Rattle.lists.proofs.All.{all_append}
use Rattle.lists.proofs.Places.{at_place, part-begins}
use Rattle.lexer.specs.Token.{Val, Prop, between, lex_from}
use Rattle.lexer_laws.proofs.Invariant.{OfTok, EachAt, Invariant, keep-rest}

module _ (t : List ℕ) where
  -- v stands after `[`
  abbrev Opened : ℕ → Type 0
  Opened v = (0 < v) × (get_or t (v - 1) 0 ≡ 0x5b)

  abbrev pub Boxed : Val → Type 0
  Boxed v = Opened v.from × (get_or t v.to 0 ≡ 0x5d)

  abbrev pub AllBoxed : Prop → Type 0
  AllBoxed p = All Boxed p.vals

  abbrev Here : ℕ → ℕ → Type 0
  Here o b = get_or t o 0 ≡ b

  opened : (o b : ℕ) → Here o b → b ≡ 0x5b → Opened (suc o)
  opened o b h e = let z : suc o - 1 ≡ o = omega arith in (omega arith, ap (λ (j : ℕ). get_or t j 0) z ∙ h ∙ e)

  boxing : Invariant Here (λ o s w. Unit {0}) (λ o s i w vs esc v r. All Boxed vs × Opened v) AllBoxed
  boxing =
      record {
        starting = λ a. tt;
        naming = λ a n. tt;
        opening = λ {o} {b} a e n. (tt, opened o b a e);
        escaped = λ a h. h;
        valuing = λ a n h. h;
        closing = λ {o} {b} {s} {i} {v} {w} {r} {vs} a e h. all_append Boxed vs (record { from = v; to = o; raw = r } ∷ []) h.0 ((h.1, a ∙ e), tt);
        reopening = λ {o} {b} a e h. (h, opened o b a e);
      }

  each-here : (o : ℕ) (bs xs : List ℕ) → drop o t ≡ bs ++ xs → EachAt Here o bs
  each-here o [] xs d = tt
  each-here o (b ∷ bs) xs d = let p = at_place o t b (bs ++ xs) d in (p.1, each-here (suc o) bs xs p.2)

  pub tokens-boxed : (f l : ℕ) → All (OfTok AllBoxed) (lex_from f l (drop f (take l t))).toks
  tokens-boxed f l = let x = part-begins f l t in keep-rest boxing between f l (drop f (take l t)) (each-here f (drop f (take l t)) x.0 x.1) tt
