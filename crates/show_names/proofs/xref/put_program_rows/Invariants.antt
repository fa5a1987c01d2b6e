use Rattle.std.proofs.Common.{◌≡◌, ◌++◌, flat_map, take, string_bytes}
use Rattle.show_names.specs.Xref.{program_row}
use Rattle.show_names.proofs.xref.put_program_rows.Given as goal

abbrev pub invariant-lines : goal.invariant-lines
invariant-lines l = string_bytes l.text ≡ string_bytes l.initial.text ++ flat_map (program_row l.form) (take l.line-index l.programs)
