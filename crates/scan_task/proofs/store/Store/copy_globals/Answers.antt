use Rattle.std.proofs.Common.{◌≡◌, sym, subst, ap, ◌∙◌}
use Rattle.scan_task.specs.Standing.{Standing}
use Rattle.scan_task.proofs.Standing.{now_is, own_task, scan_here}
use Rattle.group_spec.specs.Snapshot.{program_of, written_globals}
use Rattle.scan_task.specs.Sharing.{globals_in, FitsGlobals}
use Rattle.scan_task.specs.Scanning.{IsScanOf}
use Rattle.scan_task.specs.Ran.{standing}
use Rattle.scan_task.proofs.store.Store.copy_globals.Goals as goal

pub copy_globals-requires-clause-scan : goal.copy_globals-requires-clause-scan
copy_globals-requires-clause-scan c = scan_here c.self.inside.program.value.config c.self.inside.task c.deref.result.now c.args.self.now (ap (standing c.self.inside.program.value.config c.self.inside.task) c.deref.ensures ∙ c.self.view_is) c.args.verified.now.config c.self.inside.task (own_task c.self.inside.program.value.config c.self.inside.task c.deref.result.now c.args.self.now (ap (standing c.self.inside.program.value.config c.self.inside.task) c.deref.ensures ∙ c.self.view_is) c.args.verified.now.config c.requires.program) c.deref.result.now (subst (IsScanOf c.self.inside.program.value.config c.self.inside.task) (sym c.deref.ensures) c.self.invariant.1)

pub copy_globals-requires-clause-fits : goal.copy_globals-requires-clause-fits
copy_globals-requires-clause-fits c = subst (λ (s : Standing). FitsGlobals s.config c.args.globals.now) (sym (now_is c.self.inside.program.value.config c.self.inside.task c.self.inside.scan.value c.args.self.now c.self.view_is c.args.verified.now.config c.self.inside.task (own_task c.self.inside.program.value.config c.self.inside.task c.self.inside.scan.value c.args.self.now c.self.view_is c.args.verified.now.config c.requires.program))) c.requires.fits

pub returns-clause-globals : goal.returns-clause-globals
returns-clause-globals c =
    subst (λ (s : Standing). globals_in s.config c.copy_globals.new.globals ≡ written_globals (program_of s.config s.task) (globals_in s.config c.args.globals.now) s.state.values) (now_is c.self.inside.program.value.config c.self.inside.task c.deref.result.now c.args.self.now (ap (standing c.self.inside.program.value.config c.self.inside.task) c.deref.ensures ∙ c.self.view_is) c.args.verified.now.config c.self.inside.task (own_task c.self.inside.program.value.config c.self.inside.task c.deref.result.now c.args.self.now (ap (standing c.self.inside.program.value.config c.self.inside.task) c.deref.ensures ∙ c.self.view_is) c.args.verified.now.config c.requires.program)) c.copy_globals.ensures.globals

pub returns-clause-fits : goal.returns-clause-fits
returns-clause-fits c = subst (λ (s : Standing). FitsGlobals s.config c.copy_globals.new.globals) (now_is c.self.inside.program.value.config c.self.inside.task c.self.inside.scan.value c.args.self.now c.self.view_is c.args.verified.now.config c.self.inside.task (own_task c.self.inside.program.value.config c.self.inside.task c.self.inside.scan.value c.args.self.now c.self.view_is c.args.verified.now.config c.requires.program)) c.copy_globals.ensures.fits
