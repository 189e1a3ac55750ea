-- Records with one writing have one tag; so have records that differ only in places. Assumes nothing.
use Rattle.lists.proofs.Prelude.{ℕ, List, map, ◌≡◌, sym, ap, ◌∙◌}
use Rattle.tables.specs.Record.{Tree}
use Rattle.parser.specs.Read.{Answer, accepted}
use Rattle.reader.specs.Lent.{Lent}
use Rattle.serialize.specs.Form.{writing}
use Rattle.serialize_laws.specs.Back.{placeless_tree}
use Rattle.serialize_laws.proofs.Aside.{written-alike}
use Rattle.season_tag.specs.Tag.{tag_of}
use Rattle.season_totals.specs.declared.Line.TheVariants.{Counted}
use Rattle.season_totals.specs.declared.Tally.{Tally}
use Rattle.season.specs.Season.{line_of}
use Rattle.season.proofs.Theorems.{line-counts}

tree-list : (a : Answer) (ts us : List Tree) → a ≡ accepted ts → a ≡ accepted us → ts ≡ us
tree-list a ts us e f = let g : accepted ts ≡ accepted us = sym e ∙ f in cc

module _ (a b : Answer) (before others : Lent) (room space : ℕ) (c d : Tally) (g h : ℕ) (x : Counted c g ≡ line_of a before room) (y : Counted d h ≡ line_of b others space)
    (ts us : List Tree) (e : a ≡ accepted ts) (f : b ≡ accepted us) where
  -- lines of two texts whose records are written alike have one tag, in whatever memory they were made
  pub one-writing : writing ts ≡ writing us → g ≡ h
  one-writing w =
      let p = line-counts a before room c g x in
      let q = line-counts b others space d h y in
      let u : p.0 ≡ ts = tree-list a p.0 ts p.1 e in
      let v : q.0 ≡ us = tree-list b q.0 us q.1 f in
      p.3 ∙ ap (λ (z : List Tree). tag_of (writing z)) u ∙ ap tag_of w ∙ sym (q.3 ∙ ap (λ (z : List Tree). tag_of (writing z)) v)

  -- so have records that differ in nothing but places
  pub same_tag : map placeless_tree ts ≡ map placeless_tree us → g ≡ h
  same_tag z = one-writing (written-alike ts us z)
