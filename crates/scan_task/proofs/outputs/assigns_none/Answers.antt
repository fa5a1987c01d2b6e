use Rattle.std.proofs.Common.{◌≡◌, ◌-◌, ◌∙◌, All, pos, rules, refl, ap, subst, drop, length}
use Rattle.group_spec.specs.declared.image.Sizes.{Sizes}
use Rattle.scan_task.proofs.Outgoing.{assign_room, none_assigned}
use Rattle.scan_task.proofs.outputs.assigns_none.Goals as goal

pub overflow_sub-cells : goal.overflow_sub-cells
overflow_sub-cells c =
    assign_room c.args.verified.now.config c.task_code.ensures.runnable c.args.scan.now c.requires.scan c.cells-cells.result.now c.args.scan.now.rows c.sizes-count.result.slots (c.cells-cells.ensures ∙ (c.task_code.ensures.code c.requires.scan.0 c.requires.scan.1.program).cells) refl
    (ap (λ (z : Sizes). z.slots) c.sizes-count.ensures)

pub returns : goal.returns
returns c = λ is.
    let back : c.split_at.result.1.now ≡ drop (length c.cells-cells.result.now - c.sizes-count.result.slots) c.args.scan.now.rows.numbers = search (rules, c.split_at.ensures.back) in
    none_assigned c.args.verified.now.config c.task_code.ensures.runnable c.args.scan.now c.requires.scan c.cells-cells.result.now c.args.scan.now.rows c.sizes-count.result.slots (c.cells-cells.ensures ∙ (c.task_code.ensures.code c.requires.scan.0 c.requires.scan.1.program).cells) refl
    (ap (λ (z : Sizes). z.slots) c.sizes-count.ensures) (subst (All (λ z. z ≡ pos 0)) back (c.are_zeros.ensures is))
