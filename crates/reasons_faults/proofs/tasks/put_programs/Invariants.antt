use Rattle.std.proofs.Common.{◌≡◌, ◌++◌, flat_map, take, string_bytes}
use Rattle.reasons_faults.specs.TaskReasons.{program_lines}
use Rattle.reasons_faults.proofs.tasks.put_programs.Given as goal

abbrev pub invariant-lines : goal.invariant-lines
invariant-lines l = string_bytes l.text ≡ string_bytes l.initial.text ++ flat_map (program_lines l.names l.offset) (take l.line-index l.lines)
