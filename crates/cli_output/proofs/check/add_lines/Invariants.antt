use Rattle.std.proofs.Common.{◌≡◌, ◌++◌, take}
use Rattle.cli_output.specs.Listing.{path_tokens}
use Rattle.cli_output.proofs.check.add_lines.Given as goal

-- the lines so far
abbrev pub invariant-lines : goal.invariant-lines
invariant-lines l = l.object ≡ l.initial.object ++ path_tokens (take l.line-index l.path)
