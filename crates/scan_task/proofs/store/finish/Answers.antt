use Rattle.std.proofs.Common.{◌∙◌, ap, subst, sym}
use Rattle.il_semantics.specs.State.{State}
use Rattle.scan_task.proofs.Standing.{scan_here, scan_back, stands_here, still_of, reaches_so, goes_so}
use Rattle.scan_task.specs.Scanning.{IsScanOf}
use Rattle.scan_task.specs.Ran.{standing}
use Rattle.scan_task.proofs.store.finish.Goals as goal

pub finish-requires-clause-scan : goal.finish-requires-clause-scan
finish-requires-clause-scan c = scan_here c.store.inside.program.value.config c.store.inside.task c.deref_mut.result.now c.args.store.now (ap (standing c.store.inside.program.value.config c.store.inside.task) c.deref_mut.ensures.value ∙ c.store.view_is) c.args.verified.now.config c.args.task c.requires.of c.deref_mut.result.now (subst (IsScanOf c.store.inside.program.value.config c.store.inside.task) (sym c.deref_mut.ensures.value) c.store.invariant.1)

pub finish-requires-clause-going : goal.finish-requires-clause-going
finish-requires-clause-going c = goes_so c.store.inside.program.value.config c.store.inside.task c.deref_mut.result.now c.args.store.now (ap (standing c.store.inside.program.value.config c.store.inside.task) c.deref_mut.ensures.value ∙ c.store.view_is) c.args.verified.now.config c.args.task c.requires.of c.requires.going

pub returns-clause-steps : goal.returns-clause-steps
returns-clause-steps c = reaches_so c.store.inside.program.value.config c.store.inside.task c.deref_mut.result.now c.args.store.now (ap (standing c.store.inside.program.value.config c.store.inside.task) c.deref_mut.ensures.value ∙ c.store.view_is) c.args.verified.now.config c.args.task c.requires.of c.finish.new.scan c.finish.result c.finish.ensures.steps

pub returns-clause-ended : goal.returns-clause-ended
returns-clause-ended c = ap (λ (x : State). x.frames) (stands_here c.store.inside.program.value.config c.store.inside.task c.store.inside.scan.value c.args.store.now c.store.view_is c.args.verified.now.config c.args.task c.requires.of c.finish.new.scan) ∙ c.finish.ensures.ended

pub returns-clause-of : goal.returns-clause-of
returns-clause-of c = still_of c.store.inside.program.value.config c.store.inside.task c.store.inside.scan.value c.args.store.now c.store.view_is c.args.verified.now.config c.args.task c.requires.of c.finish.new.scan

pub invariant_of-store : goal.invariant_of-store
invariant_of-store c = (c.store.invariant.0, scan_back c.store.inside.program.value.config c.store.inside.task c.store.inside.scan.value c.args.store.now c.store.view_is c.args.verified.now.config c.args.task c.requires.of c.finish.new.scan c.finish.ensures.scan, c.store.invariant.2)
