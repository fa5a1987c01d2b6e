use Rattle.std.proofs.Common.{◌≡◌, ◌++◌, take, string_bytes}
use Rattle.il_semantics.specs.Scan.{opening_globals}
use Rattle.trace_text.specs.Text.{text_of_lines}
use Rattle.group_state.specs.Text.{global_path, variables_lines}
use Rattle.group_state.proofs.put.put_globals.Given as goal

-- the globals so far
abbrev pub invariant-globals : goal.invariant-globals
invariant-globals l =
    string_bytes l.text ≡ string_bytes l.initial.text ++ text_of_lines (variables_lines global_path (opening_globals l.world.program.config) l.world.world.group.globals (take l.at l.cells))
