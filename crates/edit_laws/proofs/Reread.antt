-- A value of an accepted text is replaced by a closed valid text: strict reading accepts the new text, with the same trees, places moved. Assumes nothing.
use Rattle.lists.proofs.Prelude.{◌≡◌, refl, sym, ap, ap₂, ◌∙◌, subst₂, ℕ, suc, ◌+◌, ◌-◌, ◌≤◌, arith, Bool, true, false, false≢true, true≢false, List, [], ◌∷◌, ◌++◌, map, append_assoc, List-as-Memᴰ, ltb, length, take, drop, length-append, take-append-drop, le-ltb, pick}
use Rattle.edit_laws.proofs.Accepted.{Accepted, accepted-is}
use Rattle.edit_laws.proofs.Found.{Found, at_pre, bounds, ends-in, found, trimmed-parts}
use Rattle.lexer_laws.proofs.Inside.{OfVals, Only}
use Rattle.lexer_laws.proofs.Invariant.{OfTok}
use Rattle.lexer_laws.proofs.Kept.{Kept, kept}
use Rattle.lexer_laws.proofs.Moved.{move_end, move_lexed}
use Rattle.lexer_laws.proofs.Replace.{ends-high, raw-other, replaced}
use Rattle.lexer_laws.proofs.Starting.{Each, last}
use Rattle.lexer.specs.Closed.{closed, closed_from}
use Rattle.lexer.specs.Move.{ends_at, new_raw, starts_at}
use Rattle.lexer.specs.Token.{End, Lexed, Prop, Tok, Val, between, done, end, state_after, lex_from, node, prop, start, value}
use Rattle.lists.proofs.All.{all_map}
use Rattle.lists.specs.All.{All}
use Rattle.lists.specs.Same.{same}
use Rattle.parser.proofs.Moved.{move-tokens, move_answer}
use Rattle.parser.proofs.MovedKind.{GmStays}
use Rattle.parser.specs.Game.{GM}
use Rattle.parser.specs.Read.{Answer, accepted, parse_utf8, lexing, parsed, refused, read_strict}
use Rattle.parser.specs.Split.{ended}
use Rattle.tables.specs.Move.{move_tree}
use Rattle.tables.specs.Numbers.{text_limit}
use Rattle.tables.specs.Record.{Tree, all_nodes, all_props}
use Rattle.tables.specs.declared.Reason.TheVariants.{TextTooLong}
use Rattle.text_utf8.proofs.Steps.{place, place_is}
use Rattle.text_utf8.specs.Text.{Ink, Utf, blank, inked, utfs, whole}

-- ---- the new text

of_map : (Q R : Prop → Type 0) → ((p : Prop) → Q p → R p) → (t : Tok) → OfTok Q t → OfTok R t
of_map Q R f (start o) h = tt
of_map Q R f (end o) h = tt
of_map Q R f (node o) h = tt
of_map Q R f (prop p e) h = f p h

gm-stays : (q e n : ℕ) (w new : List ℕ) → same w GM ≡ false → (ts : List Tok) → All (OfVals (Only q e w)) ts
    → All (OfTok (GmStays (starts_at q e n) (ends_at q e n) (new_raw q new))) ts
gm-stays q e n w new hw ts h =
    all_map (OfVals (Only q e w)) (OfTok (GmStays (starts_at q e n) (ends_at q e n) (new_raw q new)))
    (of_map (Each (Only q e w)) (GmStays (starts_at q e n) (ends_at q e n) (new_raw q new)) stays) ts h
  where
    stays : (p : Prop) → Each (Only q e w) p → GmStays (starts_at q e n) (ends_at q e n) (new_raw q new) p
    stays p x y =
        all_map (Only q e w p.name) (λ (v : Val). new_raw q new v.from v.raw ≡ v.raw)
        (λ v z. raw-other q new v.from v.raw (λ k. false≢true (sym hw ∙ ap (λ (u : List ℕ). same u GM) (sym (z k).1) ∙ y))) p.vals x

replaced-at : (f0 l : ℕ) (pre old new post : List ℕ) (s i : ℕ) (w : List ℕ) (vs : List Val) (q e : ℕ)
    → state_after between f0 pre ≡ value s i w vs false (place f0 pre) [] → closed_from false old ≡ true → closed_from false new ≡ true → e ≤ l
    → place f0 pre ≡ q → place (place f0 pre) old ≡ e
    → lex_from f0 (ends_at q e (length new) l) (pre ++ (new ++ (0x5d ∷ post)))
    ≡ move_lexed (starts_at q e (length new)) (ends_at q e (length new)) (new_raw q new) (lex_from f0 l (pre ++ (old ++ (0x5d ∷ post))))
replaced-at f0 l pre old new post s i w vs q e st co cn hl hq he =
    subst₂ (λ (x y : ℕ). lex_from f0 (ends_at x y (length new) l) (pre ++ (new ++ (0x5d ∷ post)))
    ≡ move_lexed (starts_at x y (length new)) (ends_at x y (length new)) (new_raw x new) (lex_from f0 l (pre ++ (old ++ (0x5d ∷ post))))) hq he
    (replaced f0 l pre old new post s i w vs st co cn (omega arith))

-- UTF-8 and trimming, with the value's surroundings as the lexer gives them
new-valid : (f0 l m : ℕ) (pre old new post post2 : List ℕ) (kn : Ink) → utfs (whole blank) 0 (pre ++ (old ++ post)) ≡ whole (inked f0 l)
    → utfs (whole blank) 0 new ≡ whole kn → last 0 (drop f0 pre) ≡ 0x5b → take m post ≡ 0x5d ∷ post2
    → utfs (whole blank) 0 (pre ++ (new ++ post)) ≡ whole (inked f0 (ends_at (length pre) (length pre + length old) (length new) l))
new-valid f0 l m pre old new post post2 kn hk hn hb hp = go (ends-in (drop f0 pre) 0x5a hb)
  where
    post_is : post ≡ 0x5d ∷ (post2 ++ drop m post)
    post_is = sym (take-append-drop m post) ∙ ap (λ (z : List ℕ). z ++ drop m post) hp

    with-p : (p : List ℕ) → pre ≡ p ++ (0x5b ∷ []) → utfs (whole blank) 0 (pre ++ (new ++ post)) ≡ whole (inked f0 (ends_at (length pre) (length pre + length old) (length new) l))
    with-p p e = fin (kept p old new (post2 ++ drop m post) (inked f0 l) kn ((sym (text old)) ∙ hk) hn)
      where
        text : (mid : List ℕ) → utfs (whole blank) 0 (pre ++ (mid ++ post)) ≡ utfs (whole blank) 0 (p ++ (0x5b ∷ (mid ++ (0x5d ∷ (post2 ++ drop m post)))))
        text mid =
            ap (λ (z : List ℕ). utfs (whole blank) 0 (pre ++ (mid ++ z))) post_is
            ∙ ap (λ (z : List ℕ). utfs (whole blank) 0 (z ++ (mid ++ (0x5d ∷ (post2 ++ drop m post))))) e
            ∙ ap (utfs (whole blank) 0) (append_assoc p (0x5b ∷ []) (mid ++ (0x5d ∷ (post2 ++ drop m post))))

        len : length pre ≡ suc (length p)
        len = ap length e ∙ omega (arith, length-append p (0x5b ∷ []))

        fin : Kept p old new (post2 ++ drop m post) (inked f0 l) → utfs (whole blank) 0 (pre ++ (new ++ post)) ≡ whole (inked f0 (ends_at (length pre) (length pre + length old) (length new) l))
        fin k =
            let i : inked f0 l ≡ inked k.a k.l = k.ink in
            let fa : f0 ≡ k.a = cc in
            let ll : l ≡ k.l = cc in
            text new
            ∙ k.again
            ∙ ap₂ (λ (x y : ℕ). whole (inked x (ends_at (suc (length p)) (suc (length p) + length old) (length new) y))) (sym fa) (sym ll)
            ∙ ap (λ (x : ℕ). whole (inked f0 (ends_at x (x + length old) (length new) l))) (sym len)

    go : (p : List ℕ) × (drop f0 pre ≡ p ++ (0x5b ∷ [])) → utfs (whole blank) 0 (pre ++ (new ++ post)) ≡ whole (inked f0 (ends_at (length pre) (length pre + length old) (length new) l))
    go x = with-p (take f0 pre ++ x.0) (sym (take-append-drop f0 pre) ∙ ap (λ (z : List ℕ). take f0 pre ++ z) x.1 ∙ sym (append_assoc (take f0 pre) x.0 (0x5b ∷ [])))

-- ---- the answer

pub in-text_limit : (b : Bool) (a : Answer) → b ≡ false → pick b (refused TextTooLong 0) a ≡ a
in-text_limit true a e = absurd (true≢false e)
in-text_limit false a e = refl

reread : (f g : ℕ → ℕ) (h : ℕ → List ℕ → List ℕ) (X Y : Lexed) (ts : List Tree) → Y ≡ move_lexed f g h X → X.end ≡ done
    → parsed false X.toks ≡ accepted ts → All (OfTok (GmStays f g h)) X.toks → lexing false Y.end Y.toks ≡ accepted (map (move_tree f g h) ts)
reread f g h X Y ts e d k gm =
    ap (λ (z : Lexed). lexing false z.end z.toks) e
    ∙ ap (λ (z : End). lexing false (move_end f z) (move_lexed f g h X).toks) d
    ∙ move-tokens f g h false X.toks gm
    ∙ ap (move_answer f g h) k

module _ (pre old new post : List ℕ) (ts : List Tree) (p : Prop) (v : Val) where
  abbrev q : ℕ
  q = length pre

  abbrev e : ℕ
  e = length pre + length old

  assemble : (f0 l m : ℕ) → utfs (whole blank) 0 (pre ++ (old ++ post)) ≡ whole (inked f0 l)
      → (lex_from f0 l (drop f0 (take l (pre ++ (old ++ post))))).end ≡ done
      → parsed false (lex_from f0 l (drop f0 (take l (pre ++ (old ++ post))))).toks ≡ accepted ts
      → Found f0 l pre old post p.name (lex_from f0 l (drop f0 (take l (pre ++ (old ++ post))))).toks
      → same p.name GM ≡ false → closed new ≡ true → (kn : Ink) → utfs (whole blank) 0 new ≡ whole kn → length (pre ++ (new ++ post)) ≤ text_limit
      → read_strict (pre ++ (new ++ post)) ≡ accepted (map (move_tree (starts_at q e (length new)) (ends_at q e (length new)) (new_raw q new)) ts)
  assemble f0 l m valid ended trees F hg cn kn hn fits =
      in-text_limit (ltb text_limit (length (pre ++ (new ++ post)))) (parse_utf8 false (utfs (whole blank) 0 (pre ++ (new ++ post))) (pre ++ (new ++ post)))
      (le-ltb text_limit (length (pre ++ (new ++ post))) fits)
      ∙ ap (λ (u : Utf). parse_utf8 false u (pre ++ (new ++ post)))
      (new-valid f0 l F.m pre old new post F.post2 kn valid hn F.before F.next)
      ∙ reread (starts_at q e (length new)) (ends_at q e (length new)) (new_raw q new)
      (lex_from f0 l (drop f0 (take l (pre ++ (old ++ post)))))
      (lex_from f0 (ends_at q e (length new) l) (drop f0 (take (ends_at q e (length new) l) (pre ++ (new ++ post)))))
      ts moved ended trees
      (gm-stays q e (length new) p.name new hg (lex_from f0 l (drop f0 (take l (pre ++ (old ++ post))))).toks F.only)
    where
      el : e ≤ l
      el = omega (arith, F.long)

      gl : ends_at q e (length new) l ≡ q + (length new + F.m)
      gl = omega (arith, F.long, ends-high q e (length new) l el)

      moved : lex_from f0 (ends_at q e (length new) l) (drop f0 (take (ends_at q e (length new) l) (pre ++ (new ++ post))))
          ≡ move_lexed (starts_at q e (length new)) (ends_at q e (length new)) (new_raw q new) (lex_from f0 l (drop f0 (take l (pre ++ (old ++ post)))))
      moved =
          ap (lex_from f0 (ends_at q e (length new) l))
          (trimmed-parts f0 F.m (ends_at q e (length new) l) pre new post F.low gl ∙ ap (λ (z : List ℕ). drop f0 pre ++ (new ++ z)) F.next)
          ∙ replaced-at f0 l (drop f0 pre) old new F.post2 F.s F.i p.name F.vs q e F.state F.closed-old cn el (at_pre f0 pre F.low)
          (place_is (place f0 (drop f0 pre)) old ∙ ap (λ (z : ℕ). z + length old) (at_pre f0 pre F.low))
          ∙ ap (λ (z : List ℕ). move_lexed (starts_at q e (length new)) (ends_at q e (length new)) (new_raw q new) (lex_from f0 l z))
          (sym (trimmed-parts f0 F.m l pre old post F.low F.long ∙ ap (λ (z : List ℕ). drop f0 pre ++ (old ++ z)) F.next))

-- the value edit, read again
pub edit-reads : (pre old new post : List ℕ) (ts : List Tree) (p : Prop) (v : Val)
    → read_strict (pre ++ (old ++ post)) ≡ accepted ts
    → List-as-Memᴰ p (all_props (all_nodes ts)) → List-as-Memᴰ v p.vals → v.from ≡ length pre → v.to ≡ length pre + length old
    → same p.name GM ≡ false
    → closed new ≡ true → (kn : Ink) → utfs (whole blank) 0 new ≡ whole kn → length (pre ++ (new ++ post)) ≤ text_limit
    → read_strict (pre ++ (new ++ post))
    ≡ accepted (map (move_tree (starts_at (length pre) (length pre + length old) (length new)) (ends_at (length pre) (length pre + length old) (length new)) (new_raw (length pre) new)) ts)
edit-reads pre old new post ts p v h mp mv from to hg cn kn hn fits = go (accepted-is (pre ++ (old ++ post)) ts h)
  where
    go : Accepted (pre ++ (old ++ post)) ts → read_strict (pre ++ (new ++ post))
        ≡ accepted (map (move_tree (starts_at (length pre) (length pre + length old) (length new)) (ends_at (length pre) (length pre + length old) (length new)) (new_raw (length pre) new)) ts)
    go A =
        let b = bounds A.f0 A.l pre old post ts p v A.trees mp mv from to in
        let m : ℕ = A.l - (length pre + length old) in
        assemble pre old new post ts p v A.f0 A.l m A.valid A.ended A.trees
        (found A.f0 A.l pre old post ts p v A.trees mp mv from to m (omega (arith, b.1))) hg cn kn hn fits
