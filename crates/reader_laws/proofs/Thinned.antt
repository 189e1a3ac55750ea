-- The properties of an accepted reading are those of its tokens, in order, some left out: what holds of a list and stays when one is left out holds of them. Assumes nothing.
use Rattle.lists.proofs.Prelude.{◌≡◌, refl, sym, ap, ◌∙◌, subst, ℕ, zero, suc, ◌+◌, List, [], ◌∷◌, ◌++◌, reverse_aux, append_assoc, append-nil, length, Bool, false}
use Rattle.lexer.specs.Token.{Prop, Tok}
use Rattle.tables.specs.Numbers.{none}
use Rattle.tables.specs.Record.{Node, Tree, all_nodes, all_props}
use Rattle.parser.specs.LocalsSlice.{slice_from, rest_from}
use Rattle.parser.specs.Read.{tokenize}
use Rattle.parser_tree.proofs.Flats.{props-append as nodes-append}
use Rattle.reader_laws.proofs.Accepted.{Reading}
use Rattle.reader_laws.proofs.Climbs.{props_of, props-append}
use Rattle.reader_laws.proofs.Grown.{Grew, walk_of, in_order}
use Rattle.reader_laws.proofs.Sizes.{slice-rest, toks-have}
use Rattle.reader_laws.proofs.Walks.{Kept, keep-walk}

-- one may be left out
abbrev pub Thins : (List Prop → Type 0) → Type 0
Thins Q = (xs : List Prop) (y : Prop) (ys : List Prop) → Q (xs ++ (y ∷ ys)) → Q (xs ++ ys)

-- the properties of nodes, last node first
abbrev pub props_back : List Node → List Prop
props_back [] = []
props_back (n ∷ ns) = props_back ns ++ n.props

back-order : (ns acc : List Node) → all_props (reverse_aux ns acc) ≡ props_back ns ++ all_props acc
back-order [] acc = refl
back-order (n ∷ ns) acc = back-order ns (n ∷ acc) ∙ sym (append_assoc (props_back ns) n.props (all_props acc))

pub order-props : (ns : List Node) → all_props (in_order ns) ≡ props_back ns
order-props [] = refl
order-props (n ∷ ns) = back-order (n ∷ ns) [] ∙ append-nil (props_back (n ∷ ns))

-- all behind may be left out
thin-all : (Q : List Prop → Type 0) → Thins Q → (xs ys : List Prop) → Q (xs ++ ys) → Q xs
thin-all Q thin xs [] h = subst Q (append-nil xs) h
thin-all Q thin xs (y ∷ ys) h = thin-all Q thin xs ys (thin xs y ys h)

thinning : (base : ℕ) (Q : List Prop → Type 0) → Thins Q → Q [] → Kept base (λ ts cur st g ns. Q (props_back ns ++ props_of ts)) (λ ns. Q (props_back ns))
thinning base Q thin none_left =
    record {
      opening = λ m h. h;
      closing = λ h. h;
      joining = λ {o} {cur} {ts} {st} {g} {ns} h. rw (append-nil (props_back ns)) h;
      adding = λ {cur} {e} {p} {ts} {st} {n} {ns} h.
          let a : props_back ns ++ (n.props ++ (p ∷ [])) ≡ (props_back ns ++ n.props) ++ (p ∷ []) = sym (append_assoc (props_back ns) n.props (p ∷ [])) in
          rw (a, append_assoc (props_back ns ++ n.props) (p ∷ []) (props_of ts)) h;
      over = λ {cur} {ts} {st} {g} {ns} h. thin-all Q thin (props_back ns) (props_of ts) h;
      without = none_left;
    }

module _ (len : Bool) (Q : List Prop → Type 0) (thin : Thins Q) where
  -- between what comes before and what comes behind
  abbrev Amid : (before behind xs : List Prop) → Type 0
  Amid before behind xs = Q (before ++ (xs ++ behind))

  amid-thin : (A B : List Prop) → Thins (Amid A B)
  amid-thin A B xs y ys h =
      let a : A ++ ((xs ++ (y ∷ ys)) ++ B) ≡ (A ++ xs) ++ (y ∷ (ys ++ B)) = ap (λ (z : List Prop). A ++ z) (append_assoc xs (y ∷ ys) B) ∙ sym (append_assoc A xs (y ∷ (ys ++ B))) in
      let b : A ++ ((xs ++ ys) ++ B) ≡ (A ++ xs) ++ (ys ++ B) = ap (λ (z : List Prop). A ++ z) (append_assoc xs ys B) ∙ sym (append_assoc A xs (ys ++ B)) in
      subst Q (sym b) (thin (A ++ xs) y (ys ++ B) (subst Q a h))

  amid-none : (A B xs : List Prop) → Amid A B xs → Amid A B []
  amid-none A B xs h = thin-all (Amid A B) (amid-thin A B) [] xs h

  slice-thin : (base : ℕ) (s : List Tok) (A B : List Prop) → Amid A B (props_of s) → Amid A B (all_props (in_order (walk_of len base s)))
  slice-thin base s A B h =
      rw (order-props (walk_of len base s))
      (keep-walk (thinning base (Amid A B) (amid-thin A B) (amid-none A B (props_of s) h)) len none [] false [] s h)

  grew-thin : (base k : ℕ) (us : List Tok) (ts : List Tree) (A : List Prop) → Grew len base k us ts → Q (A ++ props_of us) → Q (A ++ all_props (all_nodes ts))
  grew-thin base zero us [] A g h = subst Q (sym (append-nil A)) (thin-all Q thin A (props_of us) h)
  grew-thin base zero us (t ∷ ts) A g h = absurd g
  grew-thin base (suc k) us [] A g h = absurd g
  grew-thin base (suc k) us (t ∷ ts) A g h =
      let rest : List Prop = props_of (rest_from 0 us) in
      let own : List Prop = all_props t.nodes in
      let e : props_of us ≡ props_of (slice_from 0 us) ++ props_of (rest_from 0 us) = ap props_of (sym (slice-rest 0 us)) ∙ props-append (slice_from 0 us) (rest_from 0 us) in
      let a : Q (A ++ (own ++ rest)) = rw g.0.nodes (slice-thin base (slice_from 0 us) A rest (subst (λ (z : List Prop). Q (A ++ z)) e h)) in
      let b = grew-thin (base + length t.nodes) k (rest_from 0 us) ts (A ++ own) g.1 (subst Q (sym (append_assoc A own rest)) a) in
      rw (nodes-append t.nodes (all_nodes ts)) (subst Q (append_assoc A own (all_props (all_nodes ts))) b)

  -- from the tokens to the record
  pub reading-thin : {t : List ℕ} {ts : List Tree} (r : Reading len t ts) → Q (props_of (tokenize r.ink t).toks) → Q (all_props (all_nodes ts))
  reading-thin {t} {ts} r h =
      let q : Q (props_of r.toks) = toks-have r (λ us. Q (props_of us)) (thin-all Q thin [] (props_of (tokenize r.ink t).toks) h) h in
      grew-thin 0 r.k r.toks ts [] r.grew q
