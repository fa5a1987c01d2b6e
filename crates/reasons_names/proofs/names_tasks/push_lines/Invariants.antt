use Rattle.std.proofs.Common.{◌≡◌, ◌++◌, flat_map, map, take}
use Rattle.reasons_names.specs.NamesTasks.{writer_shown, writer_of}
use Rattle.reasons_names.proofs.names_tasks.push_lines.Given as goal

abbrev pub invariant-lines : goal.invariant-lines
invariant-lines l = map writer_shown l.writers.items ≡ map writer_shown l.initial.writers.items ++ flat_map (writer_of l.names l.name) (take l.line-index l.lines)
