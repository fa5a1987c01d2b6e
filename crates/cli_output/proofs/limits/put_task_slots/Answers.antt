use Rattle.std.proofs.Common.{◌++◌, ◌∙◌, append-nil, length, sym, ap, arith}
use Rattle.std.specs.Prelude.{string_bytes}
use Rattle.scan_task.proofs.Sizes.{few_cars}
use Rattle.group_world.proofs.Opens.{task_there}
use Rattle.cli_output.specs.Limits.{slots_row}
use Rattle.cli_output.proofs.Slots.{on_ok, slots_of, no_slots}
use Rattle.cli_output.proofs.limits.put_task_slots.Goals as goal

pub has_task-requires : goal.has_task-requires
has_task-requires c =
    let few = few_cars c.args.verified.now.config c.config-config.ensures.runnable.declared in
    omega (arith, c.requires, few)

pub opening_variables-requires : goal.opening_variables-requires
opening_variables-requires c = record { there = task_there _ _ c.requires (sym c.has_task.ensures ∙ c.if-not-has_task.false) }

pub returns-then-not-has_task : goal.returns-then-not-has_task
returns-then-not-has_task c =
    sym (append-nil (string_bytes c.args.text.now))
    ∙ ap (λ l. string_bytes c.args.text.now ++ l) (sym (no_slots c.args.form c.args.verified.now.config c.args.task (sym c.has_task.ensures ∙ c.if-not-has_task.true)))

pub returns : goal.returns
returns c =
    on_ok c.put_slots_row.result
    (λ is. is
    ∙ ap (λ l. string_bytes c.args.text.now ++ l)
    (ap (λ numbers. slots_row c.args.form c.args.task (length numbers)) c.numbers-slots.ensures ∙ sym (slots_of c.args.form c.args.verified.now.config c.args.task c.opening_variables.result.now c.opening_variables.ensures.fits)))
    c.put_slots_row.ensures
