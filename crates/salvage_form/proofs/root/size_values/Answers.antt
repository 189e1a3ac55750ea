use Rattle.lists.proofs.Prelude.{ℕ, sym, ap, ◌∙◌, List, arith}
use Rattle.values.specs.Read.{read_value}
use Rattle.lexer_scan.proofs.Bounds.{value-is}
use Rattle.parser_game.proofs.GameValues.{part-is}
use Rattle.go_size.specs.Size.{size_of}
use Rattle.go_size.specs.Root.{root_size}
use Rattle.salvage_form.proofs.Roots.{values-none, values-many, values_one}
use borrow.Enum.Refused.{opened}
use Rattle.salvage_form.proofs.root.size_values.Goals as goal

pub returns-in_default : goal.returns-in_default
returns-in_default c = values-none c.args.s.now _ c.next_value.ensures (opened c.in_default.in_default-own.keys2)

pub slice_bounds-board_size-count : goal.slice_bounds-board_size-count
slice_bounds-board_size-count c = let w = (value-is c.args.s.now _ _ _ _ (sym c.next_value.ensures ∙ c.in-Value.is)) in let f = w.from in let g = w.forward in let i = w.inside in omega arith

pub slice_bounds-board_size-start : goal.slice_bounds-board_size-start
slice_bounds-board_size-start c = let w = (value-is c.args.s.now _ _ _ _ (sym c.next_value.ensures ∙ c.in-Value.is)) in let f = w.from in let g = w.forward in let i = w.inside in omega arith

pub slice_bounds-board_size-end : goal.slice_bounds-board_size-end
slice_bounds-board_size-end c = let w = (value-is c.args.s.now _ _ _ _ (sym c.next_value.ensures ∙ c.in-Value.is)) in let f = w.from in let g = w.forward in let i = w.inside in omega arith

pub returns-in_default-next_value : goal.returns-in_default-next_value
returns-in_default-next_value c = values_one c.args.s.now _ _ _ _ c.next_value.ensures c.in-Value.is c.next_value-2.ensures (opened c.in_default-next_value.in_default-next_value-own.keys2) (c.board_size.ensures ∙ ap (λ (z : List ℕ). root_size (size_of (read_value z))) (part-is c.args.s.now c.in-Value.a c.in-Value.e (value-is c.args.s.now _ _ _ _ (sym c.next_value.ensures ∙ c.in-Value.is)).forward (let w = (value-is c.args.s.now _ _ _ _ (sym c.next_value.ensures ∙ c.in-Value.is)) in let f = w.from in let g = w.forward in let i = w.inside in omega arith)))

pub returns : goal.returns
returns c = values-many c.args.s.now _ _ _ _ c.next_value.ensures c.in-Value.is _ _ _ c.next_value-2.ensures c.in-Value-next_value.is
