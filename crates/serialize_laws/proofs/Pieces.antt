-- Reading back, the tokens: bytes that read as tokens wherever they stand between tokens. Assumes nothing.
use Rattle.lists.proofs.Prelude.{◌≡◌, refl, sym, ap, ◌∙◌, ℕ, List, [], ◌∷◌, ◌++◌, map, append_assoc, append-nil, map-append}
use Rattle.lexer_laws.proofs.Machine.{emits-append, ends-append}
use Rattle.lexer.specs.Token.{St, Tok, after, between, emits, end, state_after, fault, ident, node, prop, start, value}
use Rattle.lexer_scan.specs.Scan.{space}
use Rattle.text_utf8.proofs.Steps.{place}
use Rattle.serialize_laws.specs.Back.{placeless_prop, placeless_tok}

-- what is pending in a state between tokens
abbrev pub Ready : St → Type 0
Ready between = Unit {0}
Ready (ident s w) = ⊥
Ready (value s i w vs esc v r) = ⊥
Ready (after p) = Unit {0}
Ready (fault n s) = ⊥

abbrev pub pend : St → List Tok
pend between = []
pend (ident s w) = []
pend (value s i w vs esc v r) = []
pend (after p) = prop (placeless_prop p) 0 ∷ []
pend (fault n s) = []

-- the bytes read as the tokens, wherever they stand between tokens
abbrev pub Reads : List ℕ → List Tok → Type 0
Reads bs ts = (S : St) (o : ℕ) → Ready S → Ready (state_after S o bs) × (map placeless_tok (emits S o bs) ++ pend (state_after S o bs) ≡ pend S ++ ts)

pub reads-nil : Reads [] []
reads-nil S o r = (r, sym (append-nil (pend S)))

pub reads-append : (xs ys : List ℕ) (ts us : List Tok) → Reads xs ts → Reads ys us → Reads (xs ++ ys) (ts ++ us)
reads-append xs ys ts us h k S o r =
    let a = h S o r in
    let b = k (state_after S o xs) (place o xs) a.0 in (
      rw (ends-append S o xs ys) b.0,
      rw (ends-append S o xs ys, emits-append S o xs ys, map-append placeless_tok (emits S o xs) (emits (state_after S o xs) (place o xs) ys), append_assoc)
          (ap (λ (z : List Tok). map placeless_tok (emits S o xs) ++ z) b.1 ∙ sym (append_assoc (map placeless_tok (emits S o xs)) (pend (state_after S o xs)) us)
          ∙ ap (λ (z : List Tok). z ++ us) a.1 ∙ append_assoc (pend S) ts us),
    )

pub reads-open : Reads (0x28 ∷ []) (start 0 ∷ [])
unfolding space
reads-open between o r = (tt, refl)
reads-open (ident s w) o r = absurd r
reads-open (value s i w vs esc v x) o r = absurd r
reads-open (after p) o r = (tt, refl)
reads-open (fault n s) o r = absurd r

pub reads-close : Reads (0x29 ∷ []) (end 0 ∷ [])
unfolding space
reads-close between o r = (tt, refl)
reads-close (ident s w) o r = absurd r
reads-close (value s i w vs esc v x) o r = absurd r
reads-close (after p) o r = (tt, refl)
reads-close (fault n s) o r = absurd r

pub reads-node : Reads (0x3b ∷ []) (node 0 ∷ [])
unfolding space
reads-node between o r = (tt, refl)
reads-node (ident s w) o r = absurd r
reads-node (value s i w vs esc v x) o r = absurd r
reads-node (after p) o r = (tt, refl)
reads-node (fault n s) o r = absurd r
