use Rattle.std.proofs.Common.{◌≡◌, ◌++◌, string_bytes, take}
use Rattle.cli_output.specs.Paths.{path_text}
use Rattle.cli_output.proofs.path.put_path.Given as goal

abbrev pub invariant-lines : goal.invariant-lines
invariant-lines l = string_bytes l.text ≡ string_bytes l.initial.text ++ path_text (take l.line-index l.path)
