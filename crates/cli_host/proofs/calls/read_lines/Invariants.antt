use Rattle.std.proofs.Common.{length}
use Rattle.std.specs.Prelude.{Some, option_map}
use Rattle.cli_host.specs.CallsFile.{pieces_left}
use Rattle.cli_host.specs.declared.calls.Cut.TheVariants.{Feed}
use Rattle.cli_host.proofs.Lines.{SaidSoFar}
use Rattle.cli_host.proofs.calls.read_lines.Given as goal

-- the lines so far, and those that are left
abbrev pub invariant-lines : goal.invariant-lines
invariant-lines l =
    SaidSoFar l.bounds.rounds l.bounds.floors l.bounds.cars (pieces_left Feed (Some l.text)) l.number (pieces_left Feed (option_map (λ left. left.now) l.rest)) l.file.presses l.file.settings

abbrev pub decreases-lines : goal.decreases-lines
decreases-lines l = length (pieces_left Feed (option_map (λ left. left.now) l.rest))
