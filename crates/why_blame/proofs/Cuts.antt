-- Splitting, one token a turn, with the places to blame. Assumes nothing.
use Rattle.lists.proofs.Prelude.{ℕ, zero, suc, ◌+◌, ◌-◌, ◌≤◌, ◌<◌, max, ◌≡◌, refl, sym, ap, ◌∙◌, Bool, true, false, List, [], ◌∷◌, ◌++◌, append_assoc, append-nil, reverse, reverse-cons, arith, add-one, length, ltb, ltb-true, ltb-false, le-ltb, lt-ltb, pick}
use Rattle.lists.proofs.Tests.{never}
use Rattle.lexer.specs.Token.{Prop, Tok, start, end, node, prop, Lexed, lexed, lex_at, token_place}
use Rattle.tables.specs.Numbers.{depth_limit}
use Rattle.parser.specs.Split.{Splitting, splitting, splits, split}
use Rattle.parser.proofs.Cuts.{shift}
use Rattle.why_blame.specs.Blame.{blame, split_wrong, is_deep, blame_place}
use Rattle.why_blame.specs.Cuts.{deep_at, sliced_tokens}
use Rattle.why_blame.specs.LocalsCuts.{Seen}
use Rattle.why_blame.proofs.Found.{blame-on, blame-here}

-- ---- lists

pub sliced-snoc : (xs : List (List Tok)) (y : List Tok) → sliced_tokens (xs ++ (y ∷ [])) ≡ sliced_tokens xs ++ y
sliced-snoc [] y = append-nil y
sliced-snoc (x ∷ xs) y = ap (λ (z : List Tok). x ++ z) (sliced-snoc xs y) ∙ sym (append_assoc x (sliced_tokens xs) y)

lexed-shift : (t : Tok) (cur : List Tok) (l : Lexed) → lexed (reverse cur) (lexed (t ∷ []) l) ≡ lexed (reverse (t ∷ cur)) l
lexed-shift t cur l = ap (λ (z : List Tok). record { toks = z; end = l.end }) (sym (shift t cur l.toks))

-- ---- one token

pub seen_first : (u : List ℕ) (from : ℕ) → Seen u from from 0 0 0 from 0
seen_first u from =
    record {
      cur = [];
      ss = [];
      pre = [];
      count = refl;
      begun = omega arith;
      room = omega arith;
      bound = omega arith;
      same = λ len. refl;
      ends = refl;
      opens = refl;
      parts = refl;
      wrongs = refl;
      deeps = λ len h. refl;
      deep_is = λ len h. let z = ltb-true depth_limit 0 h in absurd (omega arith);
    }

module _ {u : List ℕ} {from at d m n behind deep : ℕ} (x : Seen u from at d m n behind deep) where
  abbrev here : Splitting
  here = splitting d m x.cur x.ss

  module _ (t : Tok) (at' n' behind' : ℕ) (q : lex_at u at ≡ lexed (t ∷ []) (lex_at u at')) {d' m' deep' : ℕ} {cur' : List Tok} {ss' : List (List Tok)}
      (e : (len : Bool) → splits len here t ≡ splitting d' m' cur' ss')
      (low : m ≤ m') (kept : ltb depth_limit m ≡ true → deep' ≡ deep) (new : ltb depth_limit m ≡ false → ltb depth_limit m' ≡ true → deep' ≡ token_place t) where
    abbrev then : Splitting
    then = splitting d' m' cur' ss'

    shallow : ltb depth_limit m' ≡ false → ltb depth_limit m ≡ false
    shallow h = let z = ltb-false depth_limit m' h in le-ltb depth_limit m (omega arith)

    deep-then : (len : Bool) → ltb depth_limit m' ≡ true → deep_at len (lex_at u from).toks ≡ deep'
    deep-then len h = go (ltb depth_limit m) refl
      where
        go : (b : Bool) → ltb depth_limit m ≡ b → deep_at len (lex_at u from).toks ≡ deep'
        go true r = x.deep_is len r ∙ sym (kept r)
        go false r =
            ap blame_place (x.deeps len r ∙ ap (λ (z : Lexed). blame (splits len) is_deep here x.pre z.toks) q ∙ blame-here (splits len) is_deep here then x.pre (lex_at u at').toks t (e len) h)
            ∙ sym (new r h)

    seen-on : length ss' ≡ n' → d' ≤ length cur' → n' + d' ≤ length u → n' + d' ≤ at' → lex_at u behind' ≡ lexed (reverse cur') (lex_at u at')
        → (lex_at u from).toks ≡ sliced_tokens (reverse ss') ++ (lex_at u behind').toks → Seen u from at' d' m' n' behind' deep'
    seen-on c b r o p s =
        record {
          cur = cur';
          ss = ss';
          pre = x.pre ++ (t ∷ []);
          count = c;
          begun = b;
          room = r;
          bound = o;
          same = λ len. x.same len ∙ ap (λ (z : Lexed). split len here z.toks) q ∙ ap (λ (z : Splitting). split len z (lex_at u at').toks) (e len);
          ends = x.ends ∙ ap (λ (z : Lexed). z.end) q;
          opens = p;
          parts = s;
          wrongs = x.wrongs ∙ ap (λ (z : Lexed). blame (splits false) split_wrong here x.pre z.toks) q ∙ blame-on (splits false) split_wrong here then x.pre (lex_at u at').toks t (e false) refl;
          deeps = λ len h.
              x.deeps len (shallow h) ∙ ap (λ (z : Lexed). blame (splits len) is_deep here x.pre z.toks) q ∙ blame-on (splits len) is_deep here then x.pre (lex_at u at').toks t (e len) h;
          deep_is = deep-then;
        }

  -- a token that joins the open slice
  opens-on : (t : Tok) (at' : ℕ) → lex_at u at ≡ lexed (t ∷ []) (lex_at u at') → lex_at u behind ≡ lexed (reverse (t ∷ x.cur)) (lex_at u at')
  opens-on t at' q = x.opens ∙ ap (lexed (reverse x.cur)) q ∙ lexed-shift t x.cur (lex_at u at')

  module _ (i : ℕ) (a : at ≤ i) (b : i < length u) where
    pub seen_start : lex_at u at ≡ lexed (start i ∷ []) (lex_at u (i + 1)) → {k p : ℕ} → k ≡ max m (d + 1) → p ≡ pick (ltb depth_limit m) deep (pick (ltb depth_limit (d + 1)) i deep)
        → Seen u from (i + 1) (d + 1) k n behind p
    seen_start q {k} {p} ek ep =
        let g = x.begun in
        let o = x.bound in
        let r = x.room in
        seen-on (start i) (i + 1) n behind q
        (λ len. ap (λ (z : ℕ). splitting z (max m z) (start i ∷ x.cur) x.ss) (sym (add-one d)) ∙ ap (λ (z : ℕ). splitting (d + 1) z (start i ∷ x.cur) x.ss) (sym ek))
        (omega arith)
        (λ h. ep ∙ ap (λ (z : Bool). pick z deep (pick (ltb depth_limit (d + 1)) i deep)) h)
        (λ h f. let z = ltb-false depth_limit m h in let w = ltb-true depth_limit k f in ep ∙ ap (λ (z : Bool). pick z deep (pick (ltb depth_limit (d + 1)) i deep)) h ∙ ap (λ (z : Bool). pick z i deep) (lt-ltb depth_limit (d + 1) (omega arith)))
        x.count (omega arith) (omega arith) (omega arith) (opens-on (start i) (i + 1) q) x.parts

    same-deep : {A : Type 0} → ltb depth_limit m ≡ false → ltb depth_limit m ≡ true → A
    same-deep f g = never (let z : false ≡ true = sym f ∙ g in cc)

    pub seen-node : lex_at u at ≡ lexed (node i ∷ []) (lex_at u (i + 1)) → Seen u from (i + 1) d m n behind deep
    seen-node q =
        let g = x.begun in
        let o = x.bound in
        seen-on (node i) (i + 1) n behind q (λ len. refl) (omega arith) (λ h. refl) same-deep x.count (omega arith) x.room (omega arith) (opens-on (node i) (i + 1) q) x.parts

    pub seen-prop : {P : Prop} {e : ℕ} → lex_at u at ≡ lexed (prop P e ∷ []) (lex_at u e) → i ≤ e → Seen u from e d m n behind deep
    seen-prop {P} {e} q h =
        let g = x.begun in
        let o = x.bound in
        seen-on (prop P e) e n behind q (λ len. refl) (omega arith) (λ h. refl) same-deep x.count (omega arith) x.room (omega arith) (opens-on (prop P e) e q) x.parts

    module _ (q : lex_at u at ≡ lexed (end i ∷ []) (lex_at u (i + 1))) where
      more : (k : ℕ) → d ≡ k → (k - 1 ≡ 0 → ⊥) → (len : Bool) → splits len (splitting k m x.cur x.ss) (end i) ≡ splitting (k - 1) m (end i ∷ x.cur) x.ss
      more zero e h len = absurd (h (omega arith))
      more (suc zero) e h len = absurd (h (omega arith))
      more (suc (suc k)) e h len = let z : suc (suc k) - 1 ≡ suc k = omega arith in ap (λ (w : ℕ). splitting w m (end i ∷ x.cur) x.ss) (sym z)

      pub seen_end : (d - 1 ≡ 0 → ⊥) → Seen u from (i + 1) (d - 1) m n behind deep
      seen_end h =
          let g = x.begun in
          let o = x.bound in
          let r = x.room in
          seen-on (end i) (i + 1) n behind q (more d refl h) (omega arith) (λ h. refl) same-deep x.count (omega arith) (omega arith) (omega arith) (opens-on (end i) (i + 1) q) x.parts

      last : (k : ℕ) → (k ≡ 0 → ⊥) → k - 1 ≡ 0 → (len : Bool) → splits len (splitting k m x.cur x.ss) (end i) ≡ splitting (k - 1) m [] (reverse (end i ∷ x.cur) ∷ x.ss)
      last zero h e len = absurd (h refl)
      last (suc zero) h e len = refl
      last (suc (suc k)) h e len = absurd (omega arith)

      pub seen-slice : (d ≡ 0 → ⊥) → d - 1 ≡ 0 → Seen u from (i + 1) (d - 1) m (n + 1) (i + 1) deep
      seen-slice h e =
          let o = x.bound in
          let r = x.room in
          let c = x.count in
          seen-on (end i) (i + 1) (n + 1) (i + 1) q (last d h e) (omega arith) (λ h. refl) same-deep (omega arith) (omega arith) (omega arith) (omega arith) refl
          (x.parts
          ∙ ap (λ (z : Lexed). sliced_tokens (reverse x.ss) ++ z.toks) (opens-on (end i) (i + 1) q)
          ∙ sym (append_assoc (sliced_tokens (reverse x.ss)) (reverse (end i ∷ x.cur)) (lex_at u (i + 1)).toks)
          ∙ ap (λ (z : List Tok). z ++ (lex_at u (i + 1)).toks) (sym (ap sliced_tokens (reverse-cons (reverse (end i ∷ x.cur)) x.ss) ∙ sliced-snoc (reverse x.ss) (reverse (end i ∷ x.cur)))))
