use Rattle.std.proofs.Common.{◌≡◌, ◌++◌, flat_map, string_bytes, drop}
use Rattle.cli_output.specs.Paths.{stretch_text, stretches_from}
use Rattle.cli_output.proofs.path.put_stretches.Given as goal

abbrev pub invariant-lines : goal.invariant-lines
invariant-lines l = string_bytes l.text ++ flat_map stretch_text (stretches_from l.begun (drop l.line-index l.lines)) ≡ string_bytes l.initial.text ++ flat_map stretch_text (stretches_from l.fn.first l.lines)
