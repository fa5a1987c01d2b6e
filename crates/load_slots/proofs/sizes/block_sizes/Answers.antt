use Rattle.std.proofs.Common.{◌∙◌, sym, arith}
use Rattle.load_slots.proofs.Counted.{sizes_end}
use Rattle.load_slots.proofs.sizes.block_sizes.Goals as goal

pub returns-then-are_same : goal.returns-then-are_same
returns-then-are_same c =
    let low = c.loop-test.true in
    sizes_end c.loop.counter c.args.lists.now c.as_slice.result.now c.in_ok-next.next (omega arith) (c.as_slice.ensures ∙ c.loop.invariant.1) c.in_ok-next.ensures
    (sym c.as_slice-in-loop.ensures ∙ c.are_same.ensures c.if-are_same.true ∙ c.as_slice-in-loop-2.ensures ∙ sym c.as_slice.ensures)
