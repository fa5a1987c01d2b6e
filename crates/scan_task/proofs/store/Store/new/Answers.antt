use Rattle.std.proofs.Common.{◌≡◌, ◌∙◌, rules, sym, ap, subst}
use Rattle.group_spec.specs.Snapshot.{program_of, scan_begins}
use Rattle.scan_task.specs.Scanning.{Program, IsRunnable, IsScanOf}
use Rattle.scan_task.specs.Standing.{StillHas, opening_variables_by, opening_beginning}
use Rattle.scan_task.specs.Starting.{FitsTask}
use Rattle.scan_task.specs.Ran.{stands}
use Rattle.scan_task.proofs.Keeping.{start_has}
use Rattle.scan_task.proofs.store.Store.new.Goals as goal

pub returns-clause-variables : goal.returns-clause-variables
returns-clause-variables c =
    let config = c.args.verified.now.config in
    let task = c.args.task in
    let boxed : c.in_ok-new.field-0.value ≡ c.in_ok-scan.scan = search rules in
    let opens : stands config task c.in_ok-new.field-0.value ≡ scan_begins config task (opening_beginning config task) = ap (stands config task) boxed ∙ c.in_ok-scan.ensures.opens in
    subst (λ (p : Program). StillHas (opening_variables_by config (program_of config task)) (stands p.config task c.in_ok-new.field-0.value)) (sym c.of.ensures)
    (subst (StillHas (opening_variables_by config (program_of config task))) (sym opens) (start_has config task c.requires.there.0 c.requires.there.1 (opening_beginning config task)))

pub invariant_of-result : goal.invariant_of-result
invariant_of-result c =
    let u = c.requires.there.0 in
    let is = c.requires.there.1 in
    let boxed : c.in_ok-new.field-0.value ≡ c.in_ok-scan.scan = search rules in
    let long = c.slot_count-count.ensures.count u is.program in
    subst (λ (p : Program). IsRunnable p.config × IsScanOf p.config c.args.task c.in_ok-new.field-0.value × FitsTask p.config c.args.task c.in_ok-first.first) (sym c.of.ensures)
    (c.slot_count-count.ensures.runnable, subst (IsScanOf c.args.verified.now.config c.args.task) (sym boxed) c.in_ok-scan.ensures.scan, (u, is, record { numbers = c.in_ok-first.ensures.numbers ∙ long; flags = c.in_ok-first.ensures.flags ∙ long }))
