-- Of a text whose rows the census counts: its slices are as many as its trees. Assumes nothing.
use Rattle.lists.proofs.Prelude.{ℕ, refl, true, List, arith, take, length-take-le}
use Rattle.text_utf8.proofs.Extent.{trim-bounds}
use Rattle.lexer.specs.Token.{lex_at}
use Rattle.tables.specs.declared.Counts.{Counts}
use Rattle.parser_census.proofs.Slices.{census-found}
use Rattle.reader.proofs.Simple.{KnownIs}
use Rattle.salvage_list.specs.LocalsWalk.{ListReady}
use Rattle.salvage_list.proofs.Slices.{tokens-ready}

pub known-listed : {t : List ℕ} {f l : ℕ} {c : Counts} → KnownIs t f l c → ListReady (take l t) f c.trees
known-listed {t} {f} {l} {c} k =
    let w = trim-bounds t f l k.kept in
    let w0 = w.0 in
    let w1 = w.1 in
    let e = length-take-le l t w.1 in
    let h = k.short in
    tokens-ready (take l t) f refl (census-found (lex_at (take l t) f) c.trees c.nodes c.properties c.values k.says true) (omega (arith, w0, w1, e, h)) (omega (arith, w0, w1, e))
