use Rattle.std.proofs.Common.{◌∙◌, ap, sym, subst}
use Rattle.il_semantics.specs.State.{State}
use Rattle.scan_task.proofs.Standing.{scan_here, scan_back, stands_here, still_of, steps_so, goes_so}
use Rattle.scan_task.specs.Scanning.{IsScanOf}
use Rattle.scan_task.specs.Ran.{standing}
use Rattle.scan_task.proofs.store.step.Goals as goal

pub step-requires-clause-scan : goal.step-requires-clause-scan
step-requires-clause-scan c = scan_here c.store.inside.program.value.config c.store.inside.task c.deref_mut.result.now c.args.store.now (ap (standing c.store.inside.program.value.config c.store.inside.task) c.deref_mut.ensures.value ∙ c.store.view_is) c.args.verified.now.config c.args.task c.requires.of c.deref_mut.result.now (subst (IsScanOf c.store.inside.program.value.config c.store.inside.task) (sym c.deref_mut.ensures.value) c.store.invariant.1)

pub step-requires-clause-going : goal.step-requires-clause-going
step-requires-clause-going c = goes_so c.store.inside.program.value.config c.store.inside.task c.deref_mut.result.now c.args.store.now (ap (standing c.store.inside.program.value.config c.store.inside.task) c.deref_mut.ensures.value ∙ c.store.view_is) c.args.verified.now.config c.args.task c.requires.of c.requires.going

pub returns-clause-step : goal.returns-clause-step
returns-clause-step c = steps_so c.store.inside.program.value.config c.store.inside.task c.deref_mut.result.now c.args.store.now (ap (standing c.store.inside.program.value.config c.store.inside.task) c.deref_mut.ensures.value ∙ c.store.view_is) c.args.verified.now.config c.args.task c.requires.of c.step.new.scan c.step.ensures.step

pub returns-clause-end : goal.returns-clause-end
returns-clause-end c =
    let same = ap (λ (x : State). x.frames) (stands_here c.store.inside.program.value.config c.store.inside.task c.store.inside.scan.value c.args.store.now c.store.view_is c.args.verified.now.config c.args.task c.requires.of c.step.new.scan) in
    (λ over. same ∙ c.step.ensures.end.0 over, λ none. c.step.ensures.end.1 (sym same ∙ none))

pub returns-clause-of : goal.returns-clause-of
returns-clause-of c = still_of c.store.inside.program.value.config c.store.inside.task c.store.inside.scan.value c.args.store.now c.store.view_is c.args.verified.now.config c.args.task c.requires.of c.step.new.scan

pub invariant_of-store : goal.invariant_of-store
invariant_of-store c = (c.store.invariant.0, scan_back c.store.inside.program.value.config c.store.inside.task c.store.inside.scan.value c.args.store.now c.store.view_is c.args.verified.now.config c.args.task c.requires.of c.step.new.scan c.step.ensures.scan, c.store.invariant.2)
