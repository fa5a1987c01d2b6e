use Rattle.std.proofs.Common.{take}
use Rattle.cli_shell.specs.Also.{AreAlsoTold}
use Rattle.cli_shell.specs.Runs.{IsTextTold}
use Rattle.cli_shell.proofs.told.faults_told.Given as goal

-- those so far are reported
abbrev pub invariant-faults : goal.invariant-faults
invariant-faults g l = AreAlsoTold (IsTextTold (g.C.Commands.reasons l.commands) l.explained l.request l.text) (take l.fault-index l.faults) l.told.items
