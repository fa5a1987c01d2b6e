use Rattle.std.proofs.Common.{refl, ap, ◌∙◌, nat_abs, rules, SFits, w64}
use Rattle.std.proofs.lemmas.Int.{to_z-of_z}
use Rattle.scan_loop.specs.Going.{Stored}
use Rattle.group_spec.specs.Snapshot.{whole_of, truth_of, motor_of, wishes_of}
use Rattle.scan_task.proofs.Outgoing.{car_stands, serve_low}
use Rattle.scan_task.proofs.outputs.wishes.Goals as goal

pub overflow_sub-first : goal.overflow_sub-first
overflow_sub-first c =
    (car_stands c.args.verified.now.config c.task_code.ensures.runnable c.args.car c.args.scan.now c.requires.car c.requires.scan c.cells-cells.result.now c.args.scan.now.rows (c.cells-cells.ensures ∙ (c.task_code.ensures.code c.requires.scan.0 c.requires.scan.1.program).cells) refl).room

pub number_at-requires-clause-there : goal.number_at-requires-clause-there
number_at-requires-clause-there c =
    (car_stands c.args.verified.now.config c.task_code.ensures.runnable c.args.car c.args.scan.now c.requires.car c.requires.scan c.cells-cells.result.now c.scan.inside.rows (c.cells-cells.ensures ∙ (c.task_code.ensures.code c.requires.scan.0 c.requires.scan.1.program).cells) (ap (λ (s : Stored). s.rows) c.scan.view_is)).motor_there

pub number_at-requires-clause-number : goal.number_at-requires-clause-number
number_at-requires-clause-number c =
    (car_stands c.args.verified.now.config c.task_code.ensures.runnable c.args.car c.args.scan.now c.requires.car c.requires.scan c.cells-cells.result.now c.scan.inside.rows (c.cells-cells.ensures ∙ (c.task_code.ensures.code c.requires.scan.0 c.requires.scan.1.program).cells) (ap (λ (s : Stored). s.rows) c.scan.view_is)).motor_number

pub flag_at-requires-clause-there : goal.flag_at-requires-clause-there
flag_at-requires-clause-there c =
    (car_stands c.args.verified.now.config c.task_code.ensures.runnable c.args.car c.args.scan.now c.requires.car c.requires.scan c.cells-cells.result.now c.scan.inside.rows (c.cells-cells.ensures ∙ (c.task_code.ensures.code c.requires.scan.0 c.requires.scan.1.program).cells) (ap (λ (s : Stored). s.rows) c.scan.view_is)).opens_there

pub flag_at-requires-clause-flag : goal.flag_at-requires-clause-flag
flag_at-requires-clause-flag c =
    (car_stands c.args.verified.now.config c.task_code.ensures.runnable c.args.car c.args.scan.now c.requires.car c.requires.scan c.cells-cells.result.now c.scan.inside.rows (c.cells-cells.ensures ∙ (c.task_code.ensures.code c.requires.scan.0 c.requires.scan.1.program).cells) (ap (λ (s : Stored). s.rows) c.scan.view_is)).opens_flag

pub named_at-requires-clause-there : goal.named_at-requires-clause-there
named_at-requires-clause-there c =
    (car_stands c.args.verified.now.config c.task_code.ensures.runnable c.args.car c.args.scan.now c.requires.car c.requires.scan c.cells-cells.result.now c.scan.inside.rows (c.cells-cells.ensures ∙ (c.task_code.ensures.code c.requires.scan.0 c.requires.scan.1.program).cells) (ap (λ (s : Stored). s.rows) c.scan.view_is)).serve_there

pub named_at-requires-clause-number : goal.named_at-requires-clause-number
named_at-requires-clause-number c =
    (car_stands c.args.verified.now.config c.task_code.ensures.runnable c.args.car c.args.scan.now c.requires.car c.requires.scan c.cells-cells.result.now c.scan.inside.rows (c.cells-cells.ensures ∙ (c.task_code.ensures.code c.requires.scan.0 c.requires.scan.1.program).cells) (ap (λ (s : Stored). s.rows) c.scan.view_is)).serve_number

pub named_at-requires-clause-least : goal.named_at-requires-clause-least
named_at-requires-clause-least c =
    (serve_low c.args.verified.now.config c.task_code.ensures.runnable c.args.car c.args.scan.now c.requires.car c.requires.scan _ (car_stands c.args.verified.now.config c.task_code.ensures.runnable c.args.car c.args.scan.now c.requires.car c.requires.scan c.cells-cells.result.now c.scan.inside.rows (c.cells-cells.ensures ∙ (c.task_code.ensures.code c.requires.scan.0 c.requires.scan.1.program).cells) (ap (λ (s : Stored). s.rows) c.scan.view_is)).serve).0

pub named_at-requires-clause-most : goal.named_at-requires-clause-most
named_at-requires-clause-most c =
    (serve_low c.args.verified.now.config c.task_code.ensures.runnable c.args.car c.args.scan.now c.requires.car c.requires.scan _ (car_stands c.args.verified.now.config c.task_code.ensures.runnable c.args.car c.args.scan.now c.requires.car c.requires.scan c.cells-cells.result.now c.scan.inside.rows (c.cells-cells.ensures ∙ (c.task_code.ensures.code c.requires.scan.0 c.requires.scan.1.program).cells) (ap (λ (s : Stored). s.rows) c.scan.view_is)).serve).1

pub returns : goal.returns
unfolding wishes_of
returns c =
    let fits : SFits w64 c.number_at.result = search rules in
    let motor = c.motor_of.ensures ∙ ap motor_of (to_z-of_z w64 c.number_at.result fits ∙ c.number_at.ensures ∙ ap whole_of (car_stands c.args.verified.now.config c.task_code.ensures.runnable c.args.car c.args.scan.now c.requires.car c.requires.scan c.cells-cells.result.now c.scan.inside.rows (c.cells-cells.ensures ∙ (c.task_code.ensures.code c.requires.scan.0 c.requires.scan.1.program).cells) (ap (λ (s : Stored). s.rows) c.scan.view_is)).motor) in
    let opens = c.flag_at.ensures ∙ ap truth_of (car_stands c.args.verified.now.config c.task_code.ensures.runnable c.args.car c.args.scan.now c.requires.car c.requires.scan c.cells-cells.result.now c.scan.inside.rows (c.cells-cells.ensures ∙ (c.task_code.ensures.code c.requires.scan.0 c.requires.scan.1.program).cells) (ap (λ (s : Stored). s.rows) c.scan.view_is)).opens in
    let serve = c.named_at.ensures ∙ ap (λ o. nat_abs (whole_of o)) (car_stands c.args.verified.now.config c.task_code.ensures.runnable c.args.car c.args.scan.now c.requires.car c.requires.scan c.cells-cells.result.now c.scan.inside.rows (c.cells-cells.ensures ∙ (c.task_code.ensures.code c.requires.scan.0 c.requires.scan.1.program).cells) (ap (λ (s : Stored). s.rows) c.scan.view_is)).serve in
    rw (motor, opens, serve) refl
