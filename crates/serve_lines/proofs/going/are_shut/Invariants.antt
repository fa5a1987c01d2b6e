use Rattle.std.proofs.Common.{◌≡◌, drop}
use Rattle.serve_lines.specs.Going.{are_shut}
use Rattle.serve_lines.proofs.going.are_shut.Given as goal

-- no scan up to here is open
abbrev pub invariant-marks : goal.invariant-marks
invariant-marks l = are_shut l.marks ≡ are_shut (drop l.mark-index l.marks)
