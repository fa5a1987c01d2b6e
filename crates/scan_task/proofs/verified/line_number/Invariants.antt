use Rattle.std.proofs.Common.{◌≡◌, drop}
use Rattle.scan_task.specs.Listing.{program_line_of}
use Rattle.scan_task.proofs.verified.line_number.Given as goal

-- no line that was passed over names the task
abbrev pub invariant-lines : goal.invariant-lines
invariant-lines l = program_line_of (drop l.at l.lines) l.number ≡ program_line_of l.lines l.number
