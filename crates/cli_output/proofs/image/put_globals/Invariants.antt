use Rattle.std.proofs.Common.{◌≡◌, ◌++◌, take, string_bytes}
use Rattle.cli_output.specs.ImageText.{globals_text}
use Rattle.cli_output.proofs.image.put_globals.Given as goal

-- the globals so far
abbrev pub invariant-globals : goal.invariant-globals
invariant-globals l = string_bytes l.text ≡ string_bytes l.initial.text ++ globals_text l.world.world.group.globals (take l.cell-index l.cells)
