use Rattle.scan_task.proofs.Standing.{scan_here, scan_back, stands_here, still_of}
use Rattle.std.proofs.Common.{◌∙◌, ap, subst, sym}
use Rattle.scan_task.specs.Scanning.{IsScanOf}
use Rattle.scan_task.specs.Ran.{standing}
use Rattle.scan_task.proofs.store.Store.restart.Goals as goal

pub start-requires-clause-rows : goal.start-requires-clause-rows
start-requires-clause-rows c = let scan = scan_here c.self.inside.program.value.config c.self.inside.task c.deref_mut.result.now c.args.self.now (ap (standing c.self.inside.program.value.config c.self.inside.task) c.deref_mut.ensures.value ∙ c.self.view_is) c.args.verified.now.config c.args.task c.requires.of c.deref_mut.result.now (subst (IsScanOf c.self.inside.program.value.config c.self.inside.task) (sym c.deref_mut.ensures.value) c.self.invariant.1) in (scan.0, scan.1, scan.2.framed.fits)

pub returns-clause-begins : goal.returns-clause-begins
returns-clause-begins c = stands_here c.self.inside.program.value.config c.self.inside.task c.self.inside.scan.value c.args.self.now c.self.view_is c.args.verified.now.config c.args.task c.requires.of c.start.new.scan ∙ c.start.ensures.begins

pub returns-clause-of : goal.returns-clause-of
returns-clause-of c = still_of c.self.inside.program.value.config c.self.inside.task c.self.inside.scan.value c.args.self.now c.self.view_is c.args.verified.now.config c.args.task c.requires.of c.start.new.scan

pub invariant_of-self : goal.invariant_of-self
invariant_of-self c = (c.self.invariant.0, scan_back c.self.inside.program.value.config c.self.inside.task c.self.inside.scan.value c.args.self.now c.self.view_is c.args.verified.now.config c.args.task c.requires.of c.start.new.scan c.start.ensures.scan, c.self.invariant.2)
