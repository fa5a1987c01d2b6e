use Rattle.std.proofs.Common.{refl}
use Rattle.load_slots.specs.Program.{program_code}
use Rattle.scan_task.proofs.Scans.{goes, stepped}
use Rattle.scan_task.proofs.scanning.step.Goals as goal

pub advance-requires : goal.advance-requires
advance-requires c =
    let scan = c.requires.scan in
    (program_code c.args.verified.now.config scan.0, c.running.ensures.runs scan.0 scan.1.program, scan.2.framed, goes c.args.verified.now.config c.running.ensures.runnable c.args.task scan.0 scan.1 c.args.scan.now scan.2 c.requires.going)

pub returns-clause-step : goal.returns-clause-step
returns-clause-step c =
    (stepped c.args.verified.now.config c.running.ensures.runnable c.args.task c.args.scan.now _ c.advance.new.self refl c.requires.scan c.requires.going _ c.running.ensures.runs c.advance.ensures.step c.advance.ensures.scan).step_is

pub returns-clause-scan : goal.returns-clause-scan
returns-clause-scan c =
    (stepped c.args.verified.now.config c.running.ensures.runnable c.args.task c.args.scan.now _ c.advance.new.self refl c.requires.scan c.requires.going _ c.running.ensures.runs c.advance.ensures.step c.advance.ensures.scan).scan
