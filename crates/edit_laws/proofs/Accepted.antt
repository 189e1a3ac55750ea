-- What an acceptance says: the text is valid, the tokens end with it, and what holds of each value of the tokens holds of each value of the trees. Assumes nothing.
use Rattle.lists.proofs.Prelude.{◌≡◌, refl, subst, ℕ, ◌≤◌, ◌<◌, arith, Bool, true, false, List, List-as-Memᴰ, ltb, length, take, drop, pick}
use Rattle.lexer_laws.proofs.Inside.{OfVals}
use Rattle.lexer_laws.proofs.Invariant.{keep-rest}
use Rattle.lexer_laws.proofs.Starting.{Each, each_from, each-value}
use Rattle.lexer.specs.Token.{End, Prop, Tok, Val, between, broken, done, lex_from}
use Rattle.lists.proofs.All.{all-mem}
use Rattle.lists.specs.All.{All}
use Rattle.parser.proofs.Answers.{not-both}
use Rattle.parser.proofs.Lift.{OfAnswer, of-tokens, of-trees}
use Rattle.parser.specs.Read.{Answer, accepted, parse_utf8, lexing, parsed, refused, read_strict}
use Rattle.tables.specs.Numbers.{reason_of, text_limit}
use Rattle.tables.specs.Record.{Tree, all_nodes, all_props}
use Rattle.tables.specs.declared.Reason.TheVariants.{NoGameTrees, NotUtf8, TextTooLong}
use Rattle.text_utf8.proofs.Steps.{place}
use Rattle.text_utf8.specs.Text.{Utf, bad, blank, inked, part, utfs, whole}

-- ---- what an acceptance says

short : (b : Bool) (a : Answer) (ts : List Tree) → pick b (refused TextTooLong 0) a ≡ accepted ts → a ≡ accepted ts
short true a ts e = not-both TextTooLong 0 ts e
short false a ts e = e

pub record Accepted (t : List ℕ) (ts : List Tree) : Type 0 where
  pub f0 : ℕ
  pub l : ℕ
  pub valid : utfs (whole blank) 0 t ≡ whole (inked f0 l)
  pub ended : (lex_from f0 l (drop f0 (take l t))).end ≡ done
  pub trees : parsed false (lex_from f0 l (drop f0 (take l t))).toks ≡ accepted ts

lexing-done : (e : End) (l : List Tok) (ts : List Tree) → lexing false e l ≡ accepted ts → (e ≡ done) × (parsed false l ≡ accepted ts)
lexing-done done l ts h = (refl, h)
lexing-done (broken f s) l ts h = not-both (reason_of f) s ts h

pub accepted-is : (t : List ℕ) (ts : List Tree) → read_strict t ≡ accepted ts → Accepted t ts
accepted-is t ts h = go (utfs (whole blank) 0 t) refl (short (ltb text_limit (length t)) (parse_utf8 false (utfs (whole blank) 0 t) t) ts h)
  where
    go : (u : Utf) → utfs (whole blank) 0 t ≡ u → parse_utf8 false u t ≡ accepted ts → Accepted t ts
    go (whole blank) e k = not-both NoGameTrees 0 ts k
    go (whole (inked f0 l)) e k =
        let z = lexing-done (lex_from f0 l (drop f0 (take l t))).end (lex_from f0 l (drop f0 (take l t))).toks ts k in
        record { f0 = f0; l = l; valid = e; ended = z.0; trees = z.1 }
    go (part k' s n r x) e k = not-both NotUtf8 s ts k
    go (bad p) e k = not-both NotUtf8 p ts k

-- a fact of each value of the tokens is one of each value of the trees
pub on-trees : (P : List ℕ → Val → Type 0) (x : List Tok) (ts : List Tree) (p : Prop) (v : Val) → parsed false x ≡ accepted ts
    → All (OfVals P) x → List-as-Memᴰ p (all_props (all_nodes ts)) → List-as-Memᴰ v p.vals → P p.name v
on-trees P x ts p v e h mp mv =
    all-mem (P p.name) p.vals mv
    (all-mem (Each P) (all_props (all_nodes ts)) mp
    (of-trees (Each P) ts (subst (OfAnswer (Each P)) e (of-tokens (Each P) false x h))))

-- ---- where the value lies in the trimmed-parts text

unfoldable pub Between : ℕ → ℕ → List ℕ → Val → Type 0
Between f0 E n v = (f0 < v.from) × (v.from ≤ v.to) × (v.to < E)

pub all-between : (f0 l : ℕ) (bs : List ℕ) → All (OfVals (Between f0 (place f0 bs))) (lex_from f0 l bs).toks
unfolding Between
all-between f0 l bs =
    keep-rest (each-value (Between f0 (place f0 bs)) (place f0 bs)) between f0 l bs (each_from (Between f0 (place f0 bs)) (place f0 bs) f0 bs (omega arith) (λ w v e r a b c. (a, b, c))) tt
