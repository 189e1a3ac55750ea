use Rattle.lists.proofs.Prelude.{ℕ, ap, ◌∙◌, List, arith, ◌&&◌}
use Rattle.lists.specs.Same.{same}
use Rattle.values.specs.Read.{read_identifier}
use Rattle.lexer.specs.Token.{Lexed, lex_at}
use Rattle.lexer.specs.Step.{prop_at}
use Rattle.lexer.proofs.Within.{found_within}
use Rattle.parser.specs.Game.{GM, props}
use Rattle.parser.proofs.Meets.{meets}
use Rattle.parser_game.proofs.GameValues.{part-is}
use Rattle.parser_game.proofs.Gather.{no-property}
use Rattle.fit.specs.Record.{raws_of}
use Rattle.go_size.specs.Root.{SZ}
use Rattle.salvage_mend.specs.Mend.{gms_among}
use Rattle.salvage_form.proofs.Roots.{gathered-first, as_is, gm-step, sizes_among, sz-step}
use Rattle.salvage_form.proofs.Rooting.{neither, gathered-on, game-from, size-from, rule-is}
use borrow.Enum.Refused.{opened}
use Rattle.salvage_form.proofs.root.root_rule.Goals as goal

pub loop-i-init : goal.loop-i-init
loop-i-init c = (gathered-first gms_among as_is _ _ _, gathered-first sizes_among raws_of _ _ _)

pub slice_bounds-name-count : goal.slice_bounds-name-count
slice_bounds-name-count c = let w = (found_within c.args.s.now _ _ _ c.next_token.ensures c.in-Property.is) in omega arith

pub slice_bounds-name-start : goal.slice_bounds-name-start
slice_bounds-name-start c = let w = (found_within c.args.s.now _ _ _ c.next_token.ensures c.in-Property.is) in omega arith

pub slice_bounds-name-end : goal.slice_bounds-name-end
slice_bounds-name-end c = let w = (found_within c.args.s.now _ _ _ c.next_token.ensures c.in-Property.is) in omega arith

pub loop-i-smaller : goal.loop-i-smaller
loop-i-smaller c = let w = (found_within c.args.s.now _ _ _ c.next_token.ensures c.in-Property.is) in omega arith

pub loop-i-preserved : goal.loop-i-preserved
unfolding prop_at
loop-i-preserved c = let w = (found_within c.args.s.now _ _ _ c.next_token.ensures c.in-Property.is) in let n = neither (c.reads_as-gm.result && c.loop-i.game) (c.reads_as-sz.result && c.loop-i.sized) c.if-gm-game.false in let q = ap (λ (z : Lexed). z.toks) (meets c.args.s.now c.loop-i.at c.next_token.ensures c.in-Property.is) in let p = part-is c.args.s.now c.in-Property.i c.in-Property.j w.1 (omega arith) in (gathered-on c.loop-i.invariant.0 GM gm-step _ _ _ _ q (c.reads_as-gm.ensures ∙ ap (λ (z : List ℕ). same (read_identifier z) GM) p) n.0 c.either-g.ensures, gathered-on c.loop-i.invariant.1 SZ sz-step _ _ _ _ q (c.reads_as-sz.ensures ∙ ap (λ (z : List ℕ). same (read_identifier z) SZ) p) n.1 c.either-z.ensures)

pub returns : goal.returns
returns c = let n = no-property c.args.s.now _ c.next_token.ensures (opened c.in_default.in_default-own.keys2) in rule-is (props (lex_at c.args.s.now c.args.from).toks) (size-from n c.loop-i.invariant.1 c.size_found.ensures) (game-from n c.loop-i.invariant.0 c.game_found.ensures) c.rule_by.ensures
