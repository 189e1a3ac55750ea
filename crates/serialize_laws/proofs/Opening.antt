-- A tree whose first byte is `(` begins with that token: no other token stands at such a byte. Assumes nothing.
use Rattle.lists.proofs.Prelude.{◌≡◌, refl, sym, ◌∙◌, ℕ, suc, Bool, true, false, List, [], ◌∷◌, ◌++◌, leb, eqb, get_or, take, drop, eqb-false}
use Rattle.lexer.specs.Token.{Out, Prop, St, Tok, Val, after, afters, begins, between, emits, end, state_after, fault, finish, ident, node, prop, start, property_state, step, value, values}
use Rattle.lexer_scan.specs.Scan.{space}
use Rattle.lists.proofs.Places.{at_place, part-begins}
use Rattle.lists.specs.All.{All}
use Rattle.parser.proofs.Lift.{OfSlices, of-split, of-sliced}
use Rattle.parser.specs.Read.{tokenize}
use Rattle.parser.specs.Split.{Slices, no, slices, split, splitting}
use Rattle.serialize_laws.specs.Back.{Begins, BeginsAll, Each, slices_in, toks_of}
use Rattle.text_utf8.specs.Text.{Ink, Utf, bad, blank, inked, part, utfs, whole}

-- the tokens begin with `(`
abbrev pub Leads : List Tok → Type 0
Leads [] = ⊥
Leads (start o ∷ ts) = Unit {0}
Leads (end o ∷ ts) = ⊥
Leads (node o ∷ ts) = ⊥
Leads (prop p e ∷ ts) = ⊥

module _ (t : List ℕ) where
  -- the byte at o is not `(`
  abbrev Other : ℕ → Type 0
  Other o = get_or t o 0 ≡ 0x28 → ⊥

  -- only a start stands at `(`
  abbrev Stands : Tok → Type 0
  Stands (start o) = Unit {0}
  Stands (end o) = Other o
  Stands (node o) = Other o
  Stands (prop p e) = Other p.from

  -- so of the property that a state is in
  abbrev Within : St → Type 0
  Within between = Unit {0}
  Within (ident s w) = Other s
  Within (value s i w vs esc v r) = Other s
  Within (after p) = Other p.from
  Within (fault f s) = Unit {0}

  abbrev Both : Out → Type 0
  Both x = All Stands x.toks × Within x.next

  within-starts : (c high : Bool) (s : ℕ) (w : List ℕ) (o b : ℕ) → Other s → Within (property_state c high s w o b)
  within-starts true high s w o b h = h
  within-starts false true s w o b h = tt
  within-starts false false s w o b h = h

  both-begins : (c1 c2 c3 c4 : Bool) (o b : ℕ) → get_or t o 0 ≡ b → eqb b 0x28 ≡ c1 → Both (begins c1 c2 c3 c4 o b)
  both-begins true c2 c3 c4 o b g e = ((tt, tt), tt)
  both-begins false true c3 c4 o b g e = (((λ z. eqb-false b 0x28 e (sym g ∙ z)), tt), tt)
  both-begins false false true c4 o b g e = (((λ z. eqb-false b 0x28 e (sym g ∙ z)), tt), tt)
  both-begins false false false true o b g e = (tt, tt)
  both-begins false false false false o b g e = (tt, within-starts (eqb b 0x5b) (leb 0x80 b) o [] o b (λ z. eqb-false b 0x28 e (sym g ∙ z)))

  within-values : (esc c x : Bool) (s i : ℕ) (w : List ℕ) (vs : List Val) (v : ℕ) (r : List ℕ) (o b : ℕ) → Other s → Within (values esc c x s i w vs v r o b)
  within-values true c x s i w vs v r o b h = h
  within-values false true x s i w vs v r o b h = h
  within-values false false x s i w vs v r o b h = h

  both-afters : (c1 c2 : Bool) (p : Prop) (x : Out) (o : ℕ) → Other p.from → Both x → Both (afters c1 c2 p x o)
  both-afters true c2 p x o h k = (tt, h)
  both-afters false true p x o h k = (tt, h)
  both-afters false false p x o h k = ((h, k.0), k.1)

  both-step : (st : St) (o b : ℕ) → get_or t o 0 ≡ b → Within st → Both (step st o b)
  both-step between o b g h = both-begins (eqb b 0x28) (eqb b 0x29) (eqb b 0x3b) (space b) o b g refl
  both-step (ident s w) o b g h = (tt, within-starts (eqb b 0x5b) (leb 0x80 b) s w o b h)
  both-step (value s i w vs esc v r) o b g h = (tt, within-values esc (eqb b 0x5d) (eqb b 0x5c) s i w vs v r o b h)
  both-step (after p) o b g h = both-afters (space b) (eqb b 0x5b) p (step between o b) o h (both-begins (eqb b 0x28) (eqb b 0x29) (eqb b 0x3b) (space b) o b g refl)
  both-step (fault f s) o b g h = (tt, tt)

  stand-finish : (st : St) (o : ℕ) → Within st → All Stands (finish st o).toks
  stand-finish between o h = tt
  stand-finish (ident s w) o h = tt
  stand-finish (value s i w vs esc v r) o h = tt
  stand-finish (after p) o h = (h, tt)
  stand-finish (fault f s) o h = tt

  stand-run : (st : St) (o l : ℕ) (bs xs : List ℕ) → drop o t ≡ bs ++ xs → Within st → All Stands (emits st o bs ++ (finish (state_after st o bs) l).toks)
  stand-run st o l [] xs d h = stand-finish st l h
  stand-run st o l (b ∷ bs) xs d h =
      let p = at_place o t b (bs ++ xs) d in
      let s = both-step st o b p.1 h in
      let r = stand-run (step st o b).next (suc o) l bs xs p.2 s.1 in
      all_more (step st o b).toks (emits (step st o b).next (suc o) bs) (finish (state_after (step st o b).next (suc o) bs) l).toks s.0 r
    where
      all_more : (x y z : List Tok) → All Stands x → All Stands (y ++ z) → All Stands ((x ++ y) ++ z)
      all_more [] y z h k = k
      all_more (x ∷ xs) y z h k = (h.0, all_more xs y z h.1 k)

  stand-lex : (k : Ink) → All Stands (tokenize k t).toks
  stand-lex blank = tt
  stand-lex (inked f l) = let x = part-begins f l t in stand-run between f l (drop f (take l t)) x.0 x.1 tt

  stand-toks : (u : Utf) → All Stands (toks_of u t)
  stand-toks (whole k) = stand-lex k
  stand-toks (part k s n r c) = tt
  stand-toks (bad p) = tt

  leads : (s : List Tok) → All Stands s → Begins t s → Leads s
  leads [] h b = b
  leads (start o ∷ s) h b = tt
  leads (end o ∷ s) h b = h.0 b
  leads (node o ∷ s) h b = h.0 b
  leads (prop p e ∷ s) h b = h.0 b

  leads-each : (ss : List (List Tok)) → All (All Stands) ss → All (Begins t) ss → All Leads ss
  leads-each [] h b = tt
  leads-each (s ∷ ss) h b = (leads s h.0 b.0, leads-each ss h.1 b.1)

  pub leads-all : BeginsAll t → Each Leads (slices_in t)
  leads-all = go (slices_in t) (of-sliced Stands false (split false (splitting 0 0 [] []) xs) (of-split Stands false (splitting 0 0 [] []) xs (stand-toks (utfs (whole blank) 0 t)) (tt, tt)))
    where
      xs : List Tok
      xs = toks_of (utfs (whole blank) 0 t) t

      go : (x : Slices) → OfSlices Stands x → Each (Begins t) x → Each Leads x
      go (no r) h b = tt
      go (slices ss) h b = leads-each ss h b
