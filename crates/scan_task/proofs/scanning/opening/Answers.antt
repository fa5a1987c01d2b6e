use Rattle.std.proofs.Common.{◌∙◌, sym, ap, subst, replicate}
use Rattle.group_spec.specs.Calls.{Calls}
use Rattle.group_spec.specs.declared.calls.Slot.TheVariants.{Free}
use Rattle.group_spec.specs.declared.image.Sizes.{Sizes}
use Rattle.group_spec.specs.Snapshot.{scan_begins}
use Rattle.scan_task.specs.Scanning.{variables_in}
use Rattle.scan_task.proofs.Opened.{opens_in_group}
use Rattle.scan_task.proofs.Sizes.{sizes_fit}
use Rattle.il_semantics.specs.Ranges.{HoldGlobals}
use Rattle.il_semantics_laws.proofs.Opening.{globals_open}
use Rattle.scan_task.specs.Sharing.{globals_in}
use Rattle.scan_task.proofs.scanning.opening.Goals as goal

pub opened-requires-clause-rows : goal.opened-requires-clause-rows
opened-requires-clause-rows c =
    let u = c.requires.there.0 in
    let is = c.requires.there.1 in
    (u, is, record { numbers = c.in_ok-rows.ensures.numbers ∙ c.slot_count-count.ensures.count u is.program; flags = c.in_ok-rows.ensures.flags ∙ c.slot_count-count.ensures.count u is.program })

pub opened-requires-clause-shared : goal.opened-requires-clause-shared
opened-requires-clause-shared c =
    let config = c.args.verified.now.config in
    let runs = c.slot_count-count.ensures.runnable in
    subst (HoldGlobals config) (sym (ap (globals_in config) c.in_ok-globals.ensures ∙ c.opening_globals.ensures.opening)) (globals_open config runs.written runs.declared)

pub returns-clause-opens : goal.returns-clause-opens
returns-clause-opens c =
    let config = c.args.verified.now.config in
    let u = c.requires.there.0 in
    let is = c.requires.there.1.program in
    c.opened.ensures.begins
    ∙ ap (scan_begins config c.args.task)
    (opens_in_group config c.args.task u is _ _ _ (ap (variables_in config c.args.task) c.in_ok-variables.ensures ∙ c.opening_variables.ensures.variables u is) (ap (globals_in config) c.in_ok-globals.ensures ∙ c.opening_globals.ensures.opening)
    (ap (λ (k : Calls). k.slots) c.new-calls.ensures ∙ ap (λ (z : Sizes). replicate z.slots Free) c.sizes.ensures))

pub new-calls-requires-clause-cars : goal.new-calls-requires-clause-cars
new-calls-requires-clause-cars c = rw c.sizes.ensures (sizes_fit c.args.verified.now.config c.slot_count-count.ensures.runnable).0

pub new-calls-requires-clause-floors : goal.new-calls-requires-clause-floors
new-calls-requires-clause-floors c = rw c.sizes.ensures (sizes_fit c.args.verified.now.config c.slot_count-count.ensures.runnable).1

pub new-calls-requires-clause-slots : goal.new-calls-requires-clause-slots
new-calls-requires-clause-slots c = rw c.sizes.ensures (sizes_fit c.args.verified.now.config c.slot_count-count.ensures.runnable).2
