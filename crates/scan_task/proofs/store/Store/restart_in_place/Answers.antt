use Rattle.std.proofs.Common.{◌∙◌, ap, subst, sym}
use Rattle.scan_task.specs.Scanning.{IsScanOf, variables_in}
use Rattle.scan_task.specs.Standing.{StillHas}
use Rattle.scan_task.specs.Ran.{standing}
use Rattle.scan_task.proofs.Keeping.{still_there}
use Rattle.scan_task.proofs.Standing.{runs_here, scan_here, scan_back, stands_here, stood, still_of}
use Rattle.scan_task.proofs.store.Store.restart_in_place.Goals as goal

pub start_behind-requires-clause-rows : goal.start_behind-requires-clause-rows
start_behind-requires-clause-rows c = let scan = scan_here c.self.inside.program.value.config c.self.inside.task c.deref_mut.result.now c.args.self.now (ap (standing c.self.inside.program.value.config c.self.inside.task) c.deref_mut.ensures.value ∙ c.self.view_is) c.args.verified.now.config c.args.task c.requires.of c.deref_mut.result.now (subst (IsScanOf c.self.inside.program.value.config c.self.inside.task) (sym c.deref_mut.ensures.value) c.self.invariant.1) in (scan.0, scan.1, scan.2.framed.fits)

pub start_behind-requires-clause-own : goal.start_behind-requires-clause-own
start_behind-requires-clause-own c =
    let k = c.self.inside.program.value.config in
    let n = c.self.inside.task in
    let old = c.deref_mut.result.now in
    let here = ap (standing k n) c.deref_mut.ensures.value ∙ c.self.view_is in
    let config = c.args.verified.now.config in
    let v = c.args.begin.now.variables.now in
    still_there config (runs_here k n old c.args.self.now here config c.args.task c.requires.of c.self.invariant.0) c.args.task old
    (scan_here k n old c.args.self.now here config c.args.task c.requires.of old (subst (IsScanOf k n) (sym c.deref_mut.ensures.value) c.self.invariant.1)) v c.requires.begin.variables
    (subst (StillHas (variables_in config c.args.task v)) (stood k n old c.args.self.now here config c.args.task c.requires.of) c.requires.kept)

pub returns-clause-begins : goal.returns-clause-begins
returns-clause-begins c = stands_here c.self.inside.program.value.config c.self.inside.task c.self.inside.scan.value c.args.self.now c.self.view_is c.args.verified.now.config c.args.task c.requires.of c.start_behind.new.scan ∙ c.start_behind.ensures.begins

pub returns-clause-of : goal.returns-clause-of
returns-clause-of c = still_of c.self.inside.program.value.config c.self.inside.task c.self.inside.scan.value c.args.self.now c.self.view_is c.args.verified.now.config c.args.task c.requires.of c.start_behind.new.scan

pub invariant_of-self : goal.invariant_of-self
invariant_of-self c = (c.self.invariant.0, scan_back c.self.inside.program.value.config c.self.inside.task c.self.inside.scan.value c.args.self.now c.self.view_is c.args.verified.now.config c.args.task c.requires.of c.start_behind.new.scan c.start_behind.ensures.scan, c.self.invariant.2)
