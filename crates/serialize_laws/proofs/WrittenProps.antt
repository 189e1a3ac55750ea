-- Reading back, the tokens: a written property is read as it is, places aside. Assumes nothing.
use Rattle.lists.proofs.Prelude.{◌≡◌, refl, sym, ap, ap₂, ◌∙◌, subst, ℕ, suc, ◌<◌, arith, true, false, false≢true, List, [], ◌∷◌, ◌++◌, map, append_assoc, append-nil, map-append, leb, eqb, length, lt-leb, ne_eqb}
use Rattle.text_chars.proofs.Tests.{within-true}
use Rattle.lexer_laws.proofs.Machine.{emits-append, ends-append, grown, over-value}
use Rattle.lexer.specs.Closed.{closed_from}
use Rattle.lexer.specs.Move.{move_val}
use Rattle.lexer.specs.Token.{Out, Prop, St, Tok, Val, after, between, emits, state_after, fault, ident, prop, silent, property_state, step, value}
use Rattle.lexer_scan.specs.Scan.{space}
use Rattle.lists.proofs.Tests.{and_both}
use Rattle.lists.specs.All.{All}
use Rattle.serialize.specs.Branch.{vals_text}
use Rattle.text_utf8.proofs.Steps.{place}
use Rattle.text_chars.specs.White.{within}
use Rattle.values.specs.Read.{read_identifier}
use Rattle.serialize_laws.specs.Back.{some, uppers, no_place, same_bytes, placeless_prop, placeless_tok}
use Rattle.serialize_laws.proofs.Pieces.{Ready, pend, Reads}

-- an upper case letter, against the tests of the machine
record Upper (b : ℕ) : Type 0 where
  open_no : eqb b 0x28 ≡ false
  close-no : eqb b 0x29 ≡ false
  node-no : eqb b 0x3b ≡ false
  space-no : space b ≡ false
  bracket-no : eqb b 0x5b ≡ false
  ascii : leb 0x80 b ≡ false

upper : (b : ℕ) → within 0x41 0x5a b ≡ true → Upper b
unfolding space
upper b h =
    let r = within-true 0x41 0x5a b h in
    record {
      open_no = ne_eqb b 0x28 (λ e. omega (arith, r.0, r.1));
      close-no = ne_eqb b 0x29 (λ e. omega (arith, r.0, r.1));
      node-no = ne_eqb b 0x3b (λ e. omega (arith, r.0, r.1));
      space-no = rw (
        ne_eqb b 0x20 (λ e. omega (arith, r.0, r.1)),
        ne_eqb b 0x9 (λ e. omega (arith, r.0, r.1)),
        ne_eqb b 0xa (λ e. omega (arith, r.0, r.1)),
        ne_eqb b 0xb (λ e. omega (arith, r.0, r.1)),
        ne_eqb b 0xc (λ e. omega (arith, r.0, r.1)),
        ne_eqb b 0xd (λ e. omega (arith, r.0, r.1)),
      );
      bracket-no = ne_eqb b 0x5b (λ e. omega (arith, r.0, r.1));
      ascii = lt-leb 0x80 b (omega (arith, r.0, r.1));
    }

ident-run : (s : ℕ) (w : List ℕ) (o : ℕ) (bs : List ℕ) → uppers bs ≡ true → (emits (ident s w) o bs ≡ []) × (state_after (ident s w) o bs ≡ ident s (w ++ bs))
ident-run s w o [] h = (refl, ap (ident s) (sym (append-nil w)))
ident-run s w o (b ∷ bs) h =
    let k = and_both (within 0x41 0x5a b) (uppers bs) h in
    let u = upper b k.0 in
    let r = ident-run s (w ++ (b ∷ [])) (suc o) bs k.1 in
    let e : property_state (eqb b 0x5b) (leb 0x80 b) s w o b ≡ ident s (w ++ (b ∷ [])) = rw (u.bracket-no, u.ascii) in
    (ap (λ (z : St). emits z (suc o) bs) e ∙ r.0, ap (λ (z : St). state_after z (suc o) bs) e ∙ r.1 ∙ ap (ident s) (append_assoc w (b ∷ []) bs))

-- the first byte of an identifier
first : (S : St) (o b : ℕ) → Ready S → Upper b → (map placeless_tok (step S o b).toks ≡ pend S) × ((step S o b).next ≡ ident o (b ∷ []))
first between o b r u = (rw (u.open_no, u.close-no, u.node-no, u.space-no), rw (u.open_no, u.close-no, u.node-no, u.space-no, u.bracket-no, u.ascii))
first (ident s w) o b r u = absurd r
first (value s i w vs esc v x) o b r u = absurd r
first (after p) o b r u =
    (rw (u.space-no, u.bracket-no, u.open_no, u.close-no, u.node-no), rw (u.space-no, u.bracket-no, u.open_no, u.close-no, u.node-no, u.bracket-no, u.ascii))
first (fault n s) o b r u = absurd r

-- nothing comes out, and the property is read, places aside
abbrev Gives : St → ℕ → List ℕ → Prop → Type 0
Gives st o bs q = (p : Prop) × (emits st o bs ≡ []) × (state_after st o bs ≡ after p) × (placeless_prop p ≡ q)

abbrev pub Shut : Val → Type 0
Shut v = closed_from false v.raw ≡ true

abbrev more : Prop → List Val → Prop
more p vs = record { from = 0; to = 0; name = p.name; vals = map (move_val no_place no_place same_bytes) (p.vals ++ vs) }

open_next : (p : Prop) (o : ℕ) → step (after p) o 0x5b ≡ silent (value p.from p.to p.name p.vals false (suc o) [])
unfolding space
open_next p o = refl

vals-run : (p : Prop) (o : ℕ) (vs : List Val) → All Shut vs → Gives (after p) o (vals_text vs) (more p vs)
vals-run p o [] h = (p, refl, refl, rw (append-nil p.vals))
vals-run p o (v ∷ vs) h =
    let k = over-value p.from p.to p.name p.vals (suc o) [] v.raw (vals_text vs) (suc o) h.0 in
    let p2 : Prop = grown p.from p.to p.name p.vals (suc o) (place (suc o) v.raw) v.raw in
    let r = vals-run p2 (suc (place (suc o) v.raw)) vs h.1 in (
      r.0,
      ap (λ (z : Out). z.toks ++ emits z.next (suc o) (v.raw ++ (0x5d ∷ vals_text vs))) (open_next p o) ∙ k.0 ∙ r.1,
      ap (λ (z : Out). state_after z.next (suc o) (v.raw ++ (0x5d ∷ vals_text vs))) (open_next p o) ∙ k.1 ∙ r.2,
      r.3 ∙ ap (λ (z : List Val). record { from = 0; to = 0; name = p.name; vals = z })
          (ap (map (move_val no_place no_place same_bytes)) (append_assoc p.vals (_ ∷ []) vs)
          ∙ map-append (move_val no_place no_place same_bytes) p.vals (_ ∷ vs) ∙ sym (map-append (move_val no_place no_place same_bytes) p.vals (v ∷ vs))),
    )

-- a name of upper case letters, values, all closed
pub record Plain (p : Prop) : Type 0 where
  pub named : some p.name ≡ true
  pub upper-case : uppers p.name ≡ true
  pub valued : 0 < length p.vals
  pub shut : All Shut p.vals

pub letters-same : (w : List ℕ) → uppers w ≡ true → read_identifier w ≡ w
unfolding read_identifier
letters-same [] h = refl
letters-same (b ∷ bs) h = let k = and_both (within 0x41 0x5a b) (uppers bs) h in rw (k.0, letters-same bs k.1)

-- from its identifier's state, its values
named-run : (s : ℕ) (w : List ℕ) (o : ℕ) (v : Val) (vs : List Val) → All Shut (v ∷ vs)
    → Gives (ident s w) o (vals_text (v ∷ vs)) (record { from = 0; to = 0; name = w; vals = map (move_val no_place no_place same_bytes) (v ∷ vs) })
named-run s w o v vs h =
    let k = over-value s o w [] (suc o) [] v.raw (vals_text vs) (suc o) h.0 in
    let p2 : Prop = grown s o w [] (suc o) (place (suc o) v.raw) v.raw in
    let r = vals-run p2 (suc (place (suc o) v.raw)) vs h.1 in
    (r.0, k.0 ∙ r.1, k.1 ∙ r.2, r.3)

prop-run : (S : St) (o : ℕ) (b : ℕ) (bs : List ℕ) (v : Val) (vs : List Val) → Ready S → uppers (b ∷ bs) ≡ true → All Shut (v ∷ vs)
    → (p : Prop) × (map placeless_tok (emits S o ((b ∷ bs) ++ vals_text (v ∷ vs))) ≡ pend S) × (state_after S o ((b ∷ bs) ++ vals_text (v ∷ vs)) ≡ after p)
    × (placeless_prop p ≡ record { from = 0; to = 0; name = b ∷ bs; vals = map (move_val no_place no_place same_bytes) (v ∷ vs) })
prop-run S o b bs v vs r h c =
    let k = and_both (within 0x41 0x5a b) (uppers bs) h in
    let f = first S o b r (upper b k.0) in
    let i = ident-run o (b ∷ []) (suc o) bs k.1 in
    let x = named-run o (b ∷ bs) (place (suc o) bs) v vs c in
    let em : emits (step S o b).next (suc o) (bs ++ vals_text (v ∷ vs)) ≡ [] =
    ap (λ (z : St). emits z (suc o) (bs ++ vals_text (v ∷ vs))) f.1 ∙ emits-append (ident o (b ∷ [])) (suc o) bs (vals_text (v ∷ vs))
    ∙ ap₂ (λ (y z : List Tok). y ++ z) i.0 (ap (λ (z : St). emits z (place (suc o) bs) (vals_text (v ∷ vs))) i.1 ∙ x.1) in (
      x.0,
      map-append placeless_tok (step S o b).toks (emits (step S o b).next (suc o) (bs ++ vals_text (v ∷ vs)))
          ∙ ap₂ (λ (y z : List Tok). y ++ z) f.0 (ap (map placeless_tok) em) ∙ append-nil (pend S),
      ap (λ (z : St). state_after z (suc o) (bs ++ vals_text (v ∷ vs))) f.1 ∙ ends-append (ident o (b ∷ [])) (suc o) bs (vals_text (v ∷ vs))
          ∙ ap (λ (z : St). state_after z (place (suc o) bs) (vals_text (v ∷ vs))) i.1 ∙ x.2,
      x.3,
    )

ready_at : (st : St) (p : Prop) → st ≡ after p → Ready st
ready_at st p e = rw e tt

reads-parts : (w : List ℕ) (vs : List Val) → some w ≡ true → uppers w ≡ true → 0 < length vs → All Shut vs
    → Reads (w ++ vals_text vs) (prop (record { from = 0; to = 0; name = w; vals = map (move_val no_place no_place same_bytes) vs }) 0 ∷ [])
reads-parts [] vs n u l h = absurd (false≢true n)
reads-parts (b ∷ bs) [] n u l h = absurd (omega arith)
reads-parts (b ∷ bs) (v ∷ vs) n u l h = λ S o r.
    let x = prop-run S o b bs v vs r u h in (
      ready_at (state_after S o ((b ∷ bs) ++ vals_text (v ∷ vs))) x.0 x.2,
      ap₂ (λ (y z : List Tok). y ++ z) x.1 (ap pend x.2 ∙ ap (λ (z : Prop). prop z 0 ∷ []) x.3),
    )

pub reads-prop : (p : Prop) → Plain p → Reads (read_identifier p.name ++ vals_text p.vals) (prop (placeless_prop p) 0 ∷ [])
reads-prop p h =
    subst (λ (z : List ℕ). Reads (z ++ vals_text p.vals) (prop (placeless_prop p) 0 ∷ [])) (sym (letters-same p.name h.upper-case))
    (reads-parts p.name p.vals h.named h.upper-case h.valued h.shut)
