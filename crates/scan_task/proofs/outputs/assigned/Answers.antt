use Rattle.std.proofs.Common.{◌<◌, ◌≤◌, ◌∙◌, [], ◌∷◌, refl, ap, length, arith}
use Rattle.std.proofs.lemmas.List.{length-append}
use Rattle.scan_loop.specs.Going.{Stored}
use Rattle.group_spec.specs.declared.image.Sizes.{Sizes}
use Rattle.scan_task.proofs.Outgoing.{assign_room, few_slots, assign_low, assign_read, assign_next, assign_all}
use Rattle.scan_task.proofs.outputs.assigned.Goals as goal

pub overflow_sub-first : goal.overflow_sub-first
overflow_sub-first c =
    assign_room c.args.verified.now.config c.task_code.ensures.runnable c.args.scan.now c.requires.scan c.cells-cells.result.now c.args.scan.now.rows c.sizes-count.result.slots (c.cells-cells.ensures ∙ (c.task_code.ensures.code c.requires.scan.0 c.requires.scan.1.program).cells) refl
    (ap (λ (z : Sizes). z.slots) c.sizes-count.ensures)

pub named_at-requires-clause-least : goal.named_at-requires-clause-least
named_at-requires-clause-least c =
    (assign_low c.args.verified.now.config c.task_code.ensures.runnable c.args.scan.now c.requires.scan c.cells-cells.result.now c.scan.inside.rows c.sizes-count.result.slots (c.cells-cells.ensures ∙ (c.task_code.ensures.code c.requires.scan.0 c.requires.scan.1.program).cells) (ap (λ (s : Stored). s.rows) c.scan.view_is)
    (ap (λ (z : Sizes). z.slots) c.sizes-count.ensures) c.slots.slot (omega arith)).0

pub named_at-requires-clause-most : goal.named_at-requires-clause-most
named_at-requires-clause-most c =
    (assign_low c.args.verified.now.config c.task_code.ensures.runnable c.args.scan.now c.requires.scan c.cells-cells.result.now c.scan.inside.rows c.sizes-count.result.slots (c.cells-cells.ensures ∙ (c.task_code.ensures.code c.requires.scan.0 c.requires.scan.1.program).cells) (ap (λ (s : Stored). s.rows) c.scan.view_is)
    (ap (λ (z : Sizes). z.slots) c.sizes-count.ensures) c.slots.slot (omega arith)).1

pub named_at-requires-clause-there : goal.named_at-requires-clause-there
named_at-requires-clause-there c =
    (assign_read c.args.verified.now.config c.task_code.ensures.runnable c.args.scan.now c.requires.scan c.cells-cells.result.now c.scan.inside.rows c.sizes-count.result.slots (c.cells-cells.ensures ∙ (c.task_code.ensures.code c.requires.scan.0 c.requires.scan.1.program).cells) (ap (λ (s : Stored). s.rows) c.scan.view_is)
    (ap (λ (z : Sizes). z.slots) c.sizes-count.ensures) c.slots.slot (omega arith)).0

pub named_at-requires-clause-number : goal.named_at-requires-clause-number
named_at-requires-clause-number c =
    (assign_read c.args.verified.now.config c.task_code.ensures.runnable c.args.scan.now c.requires.scan c.cells-cells.result.now c.scan.inside.rows c.sizes-count.result.slots (c.cells-cells.ensures ∙ (c.task_code.ensures.code c.requires.scan.0 c.requires.scan.1.program).cells) (ap (λ (s : Stored). s.rows) c.scan.view_is)
    (ap (λ (z : Sizes). z.slots) c.sizes-count.ensures) c.slots.slot (omega arith)).1

pub push-requires : goal.push-requires
push-requires c =
    let few : c.sizes-count.result.slots ≤ 64 =
    few_slots c.args.verified.now.config c.task_code.ensures.runnable c.args.scan.now c.requires.scan c.cells-cells.result.now c.scan.inside.rows c.sizes-count.result.slots (c.cells-cells.ensures ∙ (c.task_code.ensures.code c.requires.scan.0 c.requires.scan.1.program).cells) (ap (λ (s : Stored). s.rows) c.scan.view_is)
    (ap (λ (z : Sizes). z.slots) c.sizes-count.ensures) in
    let below : c.slots.slot < c.sizes-count.result.slots = omega arith in
    (omega arith, omega (arith, few, below, c.slots.invariant.count))

pub slots-preserved : goal.slots-preserved
slots-preserved c = record {
  count = let e = ap length c.push.ensures in let n = length-append c.slots.cars (c.named_at.result ∷ []) in let same = c.slots.invariant.count in omega (arith, e, n, same);
  rest = assign_next c.args.verified.now.config c.task_code.ensures.runnable c.args.scan.now c.requires.scan c.cells-cells.result.now c.scan.inside.rows c.sizes-count.result.slots (c.cells-cells.ensures ∙ (c.task_code.ensures.code c.requires.scan.0 c.requires.scan.1.program).cells) (ap (λ (s : Stored). s.rows) c.scan.view_is)
      (ap (λ (z : Sizes). z.slots) c.sizes-count.ensures) c.slots.slot (omega arith) c.slots.cars c.push.new.self c.named_at.result c.named_at.ensures c.push.ensures c.slots.invariant.rest;
}

pub returns : goal.returns
returns c =
    assign_all c.args.verified.now.config c.task_code.ensures.runnable c.args.scan.now c.requires.scan c.cells-cells.result.now c.args.scan.now.rows c.sizes-count.result.slots (c.cells-cells.ensures ∙ (c.task_code.ensures.code c.requires.scan.0 c.requires.scan.1.program).cells) refl
    (ap (λ (z : Sizes). z.slots) c.sizes-count.ensures) c.slots.slot (omega arith) (omega arith) c.slots.cars c.slots.invariant.rest
