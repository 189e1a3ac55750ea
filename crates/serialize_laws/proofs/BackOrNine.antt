-- A writing within the text limit is refused with 9 where it is too deep, and else read back. Assumes nothing.
use Rattle.lists.proofs.Prelude.{◌≡◌, refl, sym, ap, ◌∙◌, subst, ℕ, ◌≤◌, ◌<◌, arith, Bool, true, false, List, [], map, reverse, reverse_aux, ltb, length, length-map, length-reverse_aux, take-length, le-ltb, lt-ltb, ltb-true, pick}
use Rattle.edit_laws.proofs.Reread.{in-text_limit}
use Rattle.lexer.specs.Token.{End, Lexed, Tok, lex_from}
use Rattle.lists.proofs.Tests.{never}
use Rattle.parser.proofs.Moved.{move-tokens, move_answer}
use Rattle.parser.specs.Read.{Answer, accepted, parse_utf8, lexing, parse_slices, refused, read_strict}
use Rattle.parser.specs.Split.{Splitting, no, sliced, slices, split, splitting}
use Rattle.serialize_laws.proofs.ReadBack.{Back, Form, gm-same, read-back-again, walk-writes}
use Rattle.serialize_laws.proofs.Deep.{written-depth}
use Rattle.serialize_laws.proofs.Inked.{written-ink}
use Rattle.serialize_laws.proofs.Resplit.{deepest, filled-any, split-trees}
use Rattle.serialize_laws.proofs.Written.{lex-written, tok_tree, tok_trees}
use Rattle.serialize.specs.Branch.{trees_text}
use Rattle.serialize.specs.LocalsWrite.{write_trees}
use Rattle.tables.specs.Numbers.{depth_limit, text_limit}
use Rattle.tables.specs.Record.{Tree}
use Rattle.tables.specs.declared.Reason.TheVariants.{TooDeep}
use Rattle.text_utf8.specs.Text.{Utf, blank, utfs, whole}
use Rattle.serialize_laws.specs.Back.{no_place, same_bytes}
use Rattle.serialize_laws.specs.Depth.{depth_of}

-- the answer for a writing is the answer for its tokens, places aside
read-tokens : (ts : List Tree) → Form ts → length (write_trees ts) ≤ text_limit
    → move_answer no_place no_place same_bytes (read_strict (write_trees ts)) ≡ parse_slices false (sliced false (split false (splitting 0 0 [] []) (tok_trees ts)))
read-tokens ts f s =
    let W : List ℕ = write_trees ts in
    let n : ℕ = length W in
    let l = lex-written n ts f.plain in
    let X : Lexed = lex_from 0 n W in
    ap (move_answer no_place no_place same_bytes) (in-text_limit (ltb text_limit n) (parse_utf8 false (utfs (whole blank) 0 W) W) (le-ltb text_limit n s))
    ∙ ap (λ (u : Utf). move_answer no_place no_place same_bytes (parse_utf8 false u W)) (written-ink ts f.some f.plain f.valid)
    ∙ ap (λ (z : List ℕ). move_answer no_place no_place same_bytes (lexing false (lex_from 0 n z).end (lex_from 0 n z).toks)) (take-length W)
    ∙ ap (λ (z : End). move_answer no_place no_place same_bytes (lexing false z X.toks)) l.0
    ∙ sym (move-tokens no_place no_place same_bytes false X.toks (gm-same X.toks))
    ∙ ap (λ (z : List Tok). parse_slices false (sliced false (split false (splitting 0 0 [] []) z))) l.1

too-deep : (m : ℕ) (ss : List (List Tok)) (x : Splitting) → x ≡ splitting 0 m [] ss → depth_limit < deepest x → 0 < length ss → ltb depth_limit m ≡ true
    → parse_slices false (sliced false x) ≡ refused TooDeep 0
too-deep m ss x e d n b =
    ap (λ (z : Splitting). parse_slices false (sliced false z)) e
    ∙ ap (parse_slices false) (filled-any m ss n)
    ∙ ap (λ (q : Bool). parse_slices false (pick q (no TooDeep) (slices (reverse ss)))) b

nine : (ts : List Tree) → Form ts → length (write_trees ts) ≤ text_limit → ltb depth_limit (deepest (split false (splitting 0 0 [] []) (tok_trees ts))) ≡ true
    → read_strict (write_trees ts) ≡ refused TooDeep 0
nine ts f s b =
    let x = split-trees ts 0 [] f.few in
    let X : List (List Tok) = reverse_aux (map tok_tree ts) [] in
    let ne : 0 < length X = omega (arith, f.some, length-reverse_aux (map tok_tree ts) [], length-map ts tok_tree) in
    let dm : deepest (split false (splitting 0 0 [] []) (tok_trees ts)) ≡ x.0 = ap deepest x.1 in
    go (read_strict (write_trees ts)) refl
    (read-tokens ts f s ∙ too-deep x.0 X (split false (splitting 0 0 [] []) (tok_trees ts)) x.1 (ltb-true depth_limit (deepest (split false (splitting 0 0 [] []) (tok_trees ts))) b) ne (ap (ltb depth_limit) (sym dm) ∙ b))
  where
    go : (a : Answer) → read_strict (write_trees ts) ≡ a → move_answer no_place no_place same_bytes a ≡ refused TooDeep 0 → read_strict (write_trees ts) ≡ refused TooDeep 0
    go (refused n p) e h = e ∙ h
    go (accepted us) e h = never cc

module _ (ts : List Tree) (f : Form ts) (s : length (trees_text ts) ≤ text_limit) where
  walked : write_trees ts ≡ trees_text ts
  walked = walk-writes ts f

  short : length (write_trees ts) ≤ text_limit
  short = subst (λ (z : List ℕ). length z ≤ text_limit) (sym walked) s

  depth : depth_of (trees_text ts) ≡ deepest (split false (splitting 0 0 [] []) (tok_trees ts))
  depth = ap depth_of (sym walked) ∙ written-depth ts f

  -- 9 where the writing is too deep
  pub deep-nine : depth_limit < depth_of (trees_text ts) → read_strict (trees_text ts) ≡ refused TooDeep 0
  deep-nine d =
      let D : ℕ = deepest (split false (splitting 0 0 [] []) (tok_trees ts)) in
      ap (read_strict) (sym walked) ∙ nine ts f short (lt-ltb depth_limit D (omega (arith, d, depth)))

  -- else it is read back
  pub shallow-back : depth_of (trees_text ts) ≤ depth_limit → Back ts
  shallow-back d = read-back-again ts (record { form = f; shallow = omega (arith, d, depth); short = short })
