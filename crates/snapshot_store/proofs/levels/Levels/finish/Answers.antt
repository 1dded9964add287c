use Rattle.std.proofs.Common.{refl, ap, ◌∙◌, arith}
use Rattle.snapshot_store.specs.Levels.{top_listed}
use Rattle.snapshot_store.proofs.Tops.{low_list, middle_list, upper_list}
use Rattle.snapshot_store.proofs.levels.Levels.finish.Goals as goal

pub returns-then-has_one_list : goal.returns-then-has_one_list
returns-then-has_one_list c before items over =
    low_list before c.args.blocks.now items c.args.self over c.close_rest.new.above.items c.close_rest.new.blocks c.in_ok-close_rest.ensures c.named.result c.if-has_one_list.ensures.0 c.if-has_one_list.ensures.1 (c.named.ensures ∙ ap (top_listed 1) c.as_slice.ensures.value)

pub returns-then-len-le1 : goal.returns-then-len-le1
returns-then-len-le1 c before items over =
    middle_list before c.args.blocks.now items c.args.self over c.close_rest.new.above.items c.close_rest.new.blocks c.in_ok-close_rest.ensures c.if-has_one_list.ensures c.close_rest-2.new.above.items c.close_rest-2.new.blocks c.in_ok-close_rest-2.ensures c.named-then-len-le1.result (omega arith) (c.named-then-len-le1.ensures ∙ ap (top_listed 2) c.as_slice-then-len-le1.ensures.value)

pub returns : goal.returns
returns c before items over =
    upper_list before c.args.blocks.now items c.args.self over c.close_rest.new.above.items c.close_rest.new.blocks c.in_ok-close_rest.ensures c.if-has_one_list.ensures c.close_rest-2.new.above.items c.close_rest-2.new.blocks c.in_ok-close_rest-2.ensures c.in_ok-top.top c.close.new.blocks (omega arith)
    (omega arith) c.in_ok-top.ensures.closed _ refl
