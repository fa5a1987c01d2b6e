use Rattle.cli_shell.specs.declared.commands.OtherFault.{OtherFault}
use Rattle.cli_shell.specs.Runs.{IsTextTold}
use Rattle.cli_shell.proofs.AlsoTold.{also_next}
use Rattle.cli_shell.proofs.told.faults_told.Goals as goal

abbrev blank : OtherFault
blank = record { number = 0; place = record { offset = 0; line = 0 } }

pub faults-preserved : goal.faults-preserved
faults-preserved g c =
    let own = c.in_ok-put_fault.ensures in
    also_next (IsTextTold (g.C.Commands.reasons c.args.commands.now) c.args.explained c.args.request c.args.text.now) c.args.faults.now c.faults.fault-index blank c.faults.told.items own.0 c.put_fault.new.told.items c.faults-test.true own.1 own.2 c.faults.invariant
